-- Laws of what specs/Steps.antt defines.
use Rattle.std.specs.Prelude.{ℕ, ◌-◌, ◌≤◌, ◌<◌, List, ℤ}
use Rattle.std.proofs.Common.{arith, sym, ◌∙◌, le-leb}
use Rattle.std.proofs.Math.Path.{◌≡◌, refl, ap, subst}
use Rattle.std.proofs.Math.Bool.{cond}
use Rattle.notation_rules.specs.Tokens.{Cause, unknown_sign, misplaced, cut_short, bracket_open, unknown_name, bound_twice, used_before, out_of_range, over_limit, wrong}
use Rattle.notation_step.specs.Stepped.{view, stepped, taking, action_at, reach_of, settled, refused}
use Rattle.notation_step.specs.declared.Stand.{Stand}
use Rattle.notation_step.specs.declared.Waiting.{Waiting}
use Rattle.notation_same.specs.Chars.{token_of, All, pick}
use Rattle.notation_grammar.specs.One.{Mode, step_of}
use Rattle.notation_grammar.specs.Shapes.{cause_of, Follows}
use Rattle.notation_grammar.specs.Steps.{tok, wrong_stops}

-- The causes by their numbers.
causes : (k value : ℕ) → All (λ j. (c : Cause) × tok j value ≡ wrong c × j - 24 ≡ cause_of c) 25 9
unfolding All token_of cause_of
causes k value = (
  (unknown_sign, refl, refl),
  (
    (misplaced, refl, refl),
    (
      (cut_short, refl, refl),
      (
        (bracket_open, refl, refl),
        (
          (unknown_name, refl, refl),
          (
            (bound_twice, refl, refl),
            ((used_before, refl, refl), ((out_of_range, refl, refl), ((over_limit, refl, refl), tt))),
          ),
        ),
      ),
    ),
  ),
)

pub from_wrong : (ws₀ : List ℤ) (n : ℕ) (x : Mode) (stack : List Waiting) (ws : List ℤ) (s : Stand) (k value : ℕ) → 25 ≤ k → k < 34 → Follows ws₀ n (step_of x (tok k value)) (stepped stack ws s k value)
unfolding stepped refused view Follows
from_wrong ws₀ n x stack ws s k value l h =
    let t = pick (λ j. (c : Cause) × tok j value ≡ wrong c × j - 24 ≡ cause_of c) 9 25 k (causes k value) l h in
    subst (λ o. Follows ws₀ n o (stepped stack ws s k value)) (sym (ap (step_of x) t.1 ∙ wrong_stops x t.0))
    (subst (λ b. (cond b (view (refused s (k - 24)) stack ws) (taking stack ws (settled stack s (reach_of s.place k)) (action_at stack (settled stack s (reach_of s.place k)) k) value)).stand.cause ≡ cause_of t.0)
    (sym (le-leb 24 k (omega arith))) t.2)
