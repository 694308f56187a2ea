-- When a match answers 0, 7 and 8, when it finds no row, and what is enough.
use Rattle.std.specs.Prelude.{ℕ, zero, suc, ◌*◌, ◌≤◌, ◌<◌, ◌≡◌, refl, ◌↔◌, ℤ}
use native.Mathlib.Omega.{arith}
use Rattle.std.proofs.Math.Nat.{le_trans, mul_assoc}
use Rattle.std.proofs.Common.{sym, ◌∙◌}
use Rattle.std.proofs.Math.Path.{ap}
use mathlib.Core.List.{List, [], ◌∷◌}
use Rattle.std.proofs.Math.ListN.{length}
use Rattle.rules.specs.Dialects.{Dialect}
use Rattle.rules.specs.Forms.{Value, size}
use Rattle.rules.specs.Origins.{Bindings}
use Rattle.rules.specs.Rows.{Form}
use Rattle.rules.specs.Search.{Run, run_in, start}
use Rattle.rules.specs.Ways.{Way, Good}
use Rattle.rules.specs.Review.{factor}
use Rattle.rules.specs.Services.{accepted, Rule, rule_in, target_of, Matched, carried_out, match_of, review}
use Rattle.forms.specs.Written.{variable_tags, largest, length_words}
use Rattle.promises.specs.Budget.{Full}
use Rattle.promises.proofs.Budget.{full_rows, answers_0, answers_7, answers_8}
use Rattle.promises.specs.Suited.{fits_suits}
use Rattle.promises.specs.Bound.{Fine, anew}
use Rattle.promises.proofs.Bound.{steps_bound}
use Rattle.promises.specs.Room.{widest}
use Rattle.promises.proofs.Room.{rows_words}
use Rattle.forms.proofs.ReadTarget.{target_read}
use Rattle.promises.specs.Reviewing.{count_of}
use Rattle.promises.proofs.Reviewing.{everybody}
use Rattle.forms.specs.Faults.{Sane}
use Rattle.forms.specs.Also.{sane_also}
use Rattle.promises.specs.Matching.{states, ways}
use Rattle.promises.proofs.Matching.{outcome, result, all_ways, no_ways, founds_ways}

module _ (dialect : Dialect) (form : Form) (ms ps ts : List ℤ) (budget : ℕ) (room : List ℤ) (r : Rule) (v : Value)
    (rule : rule_in dialect ms ps ≡ accepted r) (fitting : target_of r.matcher ts ≡ accepted v) where
  sane : Sane ms ps ts r v
  sane = sane_also dialect ms ps ts r v rule fitting

  abbrev it : Matched
  it = match_of dialect form ms ps ts budget room

  abbrev ran : Run
  ran = run_in dialect form budget (start r.matcher r.pattern v ∷ []) (length room)

  -- The answers.
  by_answer : (n : ℕ) (C : Type 0) → ran.answer ≡ n ↔ C → it.answer ≡ n ↔ C
  unfolding carried_out
  by_answer n C e = let q = ap (λ (x : Matched). x.answer) (result dialect form ms ps ts budget room r v rule fitting) in ((λ h. e.0 (sym q ∙ h)), λ c. q ∙ e.1 c)

  pub answer_0 : it.answer ≡ 0 ↔ (length (states dialect r v) ≤ budget) × (Full form budget (length room) (states dialect r v) → ⊥)
  answer_0 = by_answer 0 _ (answers_0 form budget (length room) (states dialect r v) ran (outcome dialect form ms ps ts budget room r v rule fitting))

  pub answer_7 : it.answer ≡ 7 ↔ (budget < length (states dialect r v)) × (Full form budget (length room) (states dialect r v) → ⊥)
  answer_7 = by_answer 7 _ (answers_7 form budget (length room) (states dialect r v) ran (outcome dialect form ms ps ts budget room r v rule fitting))

  pub answer_8 : it.answer ≡ 8 ↔ Full form budget (length room) (states dialect r v)
  answer_8 = by_answer 8 _ (answers_8 form budget (length room) (states dialect r v) ran (outcome dialect form ms ps ts budget room r v rule fitting))

  all : it.answer ≡ 0 → it.rows ≡ length (ways dialect r v)
  all = all_ways dialect form ms ps ts budget room r v rule fitting

  -- "No row".
  pub no_row : (it.answer ≡ 0) × (it.rows ≡ 0) ↔ (length (states dialect r v) ≤ budget) × ((w : Way) (e : Bindings) → Good dialect r.matcher r.pattern v w e → ⊥)
  no_row = (
    λ h. ((answer_0.0 h.0).0, (no_ways dialect r v).0 (sym (all h.0) ∙ h.1)),
    λ h. let z = (no_ways dialect r v).1 h.1 in
        let a = answer_0.1 (h.0, λ f. let k = (full_rows form budget (length room) (states dialect r v) f).0 in let l = founds_ways dialect r v in omega arith) in
        (a, all a ∙ z),
  )

  -- A row for everybody.
  pub some_row : (cap : ℤ) → (review ms ps cap).answer ≡ 11 → it.answer ≡ 0 → 1 ≤ it.rows
  some_row cap a d = go it.rows refl
    where
      go : (n : ℕ) → it.rows ≡ n → 1 ≤ n
      go zero q = let g = everybody dialect ms ps cap r sane.rule a v sane.target.fit in absurd ((no_ways dialect r v).0 (sym (all d) ∙ q) g.0 g.1 g.2)
      go (suc n) q = omega arith

  -- ---- What fits.

  module _ (cap : ℕ) (small : largest v ≤ cap) where
    fine : Fine cap 0 r.matcher v
    fine = anew cap r.matcher v (fits_suits r.matcher v 0 sane.target.fit) small

    pub room_enough : count_of cap r ≤ budget
        → factor cap 0 r.pattern r.matcher * variable_tags r.pattern * widest form (length ts) ≤ length room → it.answer ≡ 0
    unfolding states count_of
    room_enough b h = answer_0.1 (
      le_trans (steps_bound dialect cap r.matcher r.pattern v fine) b,
      λ f. let k = (full_rows form budget (length room) (states dialect r v) f).1 in
          let w = rows_words dialect form cap r.matcher r.pattern v fine in
          let l : length ts ≡ size v = ap length ((target_read ts v).0 sane.target.target).0 ∙ length_words v in
          let e = ap (λ n. factor cap 0 r.pattern r.matcher * variable_tags r.pattern * widest form n) l
          ∙ mul_assoc (factor cap 0 r.pattern r.matcher) (variable_tags r.pattern) (widest form (size v)) in
          omega arith,
    )
