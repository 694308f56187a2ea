-- The test of section 2's Variables finds as many variables as the pattern has variable tags, and no more than 16.
use Rattle.std.specs.Prelude.{ℕ, suc, ◌+◌, ◌≤◌, ◌≡◌, refl, Bool, true, false, ◌&&◌, T, pos}
use Rattle.std.proofs.Common.{arith, suc-ne-zero, sym, ltb→lt}
use Rattle.rules.specs.Numbers.{same}
use Rattle.rules.specs.Forms.{Pattern, wildcard, nil, variable, constant, value, cons, join, tuple, both, either, never, Patterns, no_patterns, ◌▸ᵖ◌, span}
use Rattle.rules.specs.Reading.{Verdict, ok, ◌then◌}
use Rattle.rules.specs.Variables.{demand, is_next, is_left, variables, variables_all}
use Rattle.forms.specs.Tests.{and_split}
use Rattle.forms.specs.Readers.{then_ok}
use Rattle.forms.specs.Written.{variable_tags, variable_tags_all}

pub demand_ok : {A : Type 0} (b : Bool) (at : ℕ) (a x : A) → demand b at a ≡ ok x → T b × (a ≡ x)
unfolding demand
demand_ok true at a x e = (tt, cc)
demand_ok false at a x e = let z : ◌≡◌ {A = ℕ} 0 1 = cc in absurd (suc-ne-zero 0 (sym z))

-- n variables stand to the left, t are added, and k stand to the left of what follows.
abbrev pub Found : (n t k : ℕ) → Type 0
Found n t k = (k ≡ n + t) × (n ≤ 16 → k ≤ 16)

-- One part, and then another.
found_then : (x : Verdict ℕ) (f : ℕ → Verdict ℕ) (n s t k : ℕ) → ((i : ℕ) → x ≡ ok i → Found n s i) → ((i : ℕ) → f i ≡ ok k → Found i t k)
    → (x then f) ≡ ok k → Found n (s + t) k
found_then x f n s t k h g e =
    let r = then_ok x f k e in let i = h r.0 r.1 in let j = g r.0 r.2 in (omega (arith, i.0, j.0), λ l. j.1 (i.1 l))

mutual
  unfolding variables variable_tags is_next

  pub variables_found : (p : Pattern) (may_bind : Bool) (at n k : ℕ) → variables p may_bind at n ≡ ok k → Found n (variable_tags p) k
  variables_found wildcard may_bind at n k e = let q : n ≡ k = cc in omega arith
  variables_found nil may_bind at n k e = let q : n ≡ k = cc in omega arith
  variables_found (variable v) may_bind at n k e =
      let d = demand_ok (may_bind && is_next v n) at (suc n) k e in
      let l = ltb→lt n 16 (and_split (same v (pos n)) _ (and_split may_bind (is_next v n) d.0).1).1 in
      omega arith
  variables_found (constant c) may_bind at n k e = let q : n ≡ k = cc in omega arith
  variables_found (value v c) may_bind at n k e = let q = (demand_ok (is_left v n) at n k e).1 in omega arith
  variables_found (cons p q) may_bind at n k e = found_then (variables p may_bind (at + 1) n) (λ i. variables q may_bind (at + 1 + span p) i) n (variable_tags p) (variable_tags q) k
      (λ i x. variables_found p may_bind (at + 1) n i x) (λ i x. variables_found q may_bind (at + 1 + span p) i k x) e
  variables_found (join p q) may_bind at n k e = found_then (variables p may_bind (at + 1) n) (λ i. variables q may_bind (at + 1 + span p) i) n (variable_tags p) (variable_tags q) k
      (λ i x. variables_found p may_bind (at + 1) n i x) (λ i x. variables_found q may_bind (at + 1 + span p) i k x) e
  variables_found (both p q) may_bind at n k e = found_then (variables p may_bind (at + 1) n) (λ i. variables q may_bind (at + 1 + span p) i) n (variable_tags p) (variable_tags q) k
      (λ i x. variables_found p may_bind (at + 1) n i x) (λ i x. variables_found q may_bind (at + 1 + span p) i k x) e
  variables_found (either p q) may_bind at n k e = found_then (variables p false (at + 1) n) (λ i. variables q false (at + 1 + span p) i) n (variable_tags p) (variable_tags q) k
      (λ i x. variables_found p false (at + 1) n i x) (λ i x. variables_found q false (at + 1 + span p) i k x) e
  variables_found (never p) may_bind at n k e = variables_found p false (at + 1) n k e
  variables_found (tuple ps) may_bind at n k e = variables_found_all ps may_bind (at + 2) n k e

  variables_found_all : (ps : Patterns) (may_bind : Bool) (at n k : ℕ) → variables_all ps may_bind at n ≡ ok k → Found n (variable_tags_all ps) k
  variables_found_all no_patterns may_bind at n k e = let q : n ≡ k = cc in omega arith
  variables_found_all (p ▸ᵖ ps) may_bind at n k e = found_then (variables p may_bind at n) (λ i. variables_all ps may_bind (at + span p) i) n (variable_tags p) (variable_tags_all ps) k
      (λ i x. variables_found p may_bind at n i x) (λ i x. variables_found_all ps may_bind (at + span p) i k x) e

-- ---- Inside an or or a not no variable stands.

none_then : (x : Verdict ℕ) (f : ℕ → Verdict ℕ) (s t k : ℕ) → ((i : ℕ) → x ≡ ok i → s ≡ 0) → ((i : ℕ) → f i ≡ ok k → t ≡ 0) → (x then f) ≡ ok k → s + t ≡ 0
none_then x f s t k h g e = let r = then_ok x f k e in omega (arith, h r.0 r.1, g r.0 r.2)

mutual
  unfolding variables variable_tags

  pub none_inside : (p : Pattern) (at n k : ℕ) → variables p false at n ≡ ok k → variable_tags p ≡ 0
  none_inside wildcard at n k e = refl
  none_inside nil at n k e = refl
  none_inside (variable v) at n k e = absurd (demand_ok false at (suc n) k e).0
  none_inside (constant c) at n k e = refl
  none_inside (value v c) at n k e = refl
  none_inside (cons p q) at n k e = none_then (variables p false (at + 1) n) (λ i. variables q false (at + 1 + span p) i) (variable_tags p) (variable_tags q) k
      (λ i x. none_inside p (at + 1) n i x) (λ i x. none_inside q (at + 1 + span p) i k x) e
  none_inside (join p q) at n k e = none_then (variables p false (at + 1) n) (λ i. variables q false (at + 1 + span p) i) (variable_tags p) (variable_tags q) k
      (λ i x. none_inside p (at + 1) n i x) (λ i x. none_inside q (at + 1 + span p) i k x) e
  none_inside (both p q) at n k e = none_then (variables p false (at + 1) n) (λ i. variables q false (at + 1 + span p) i) (variable_tags p) (variable_tags q) k
      (λ i x. none_inside p (at + 1) n i x) (λ i x. none_inside q (at + 1 + span p) i k x) e
  none_inside (either p q) at n k e = none_then (variables p false (at + 1) n) (λ i. variables q false (at + 1 + span p) i) (variable_tags p) (variable_tags q) k
      (λ i x. none_inside p (at + 1) n i x) (λ i x. none_inside q (at + 1 + span p) i k x) e
  none_inside (never p) at n k e = none_inside p (at + 1) n k e
  none_inside (tuple ps) at n k e = none_inside_all ps (at + 2) n k e

  none_inside_all : (ps : Patterns) (at n k : ℕ) → variables_all ps false at n ≡ ok k → variable_tags_all ps ≡ 0
  none_inside_all no_patterns at n k e = refl
  none_inside_all (p ▸ᵖ ps) at n k e = none_then (variables p false at n) (λ i. variables_all ps false (at + span p) i) (variable_tags p) (variable_tags_all ps) k
      (λ i x. none_inside p at n i x) (λ i x. none_inside_all ps (at + span p) i k x) e
