-- How many variables and rows there can be, and the answer put together, as the code asks. Assumes nothing.
use Prim.Native.Nat.{ℕ, zero, suc, ◌+◌, ◌*◌, ◌^◌, ◌≤◌, ◌<◌, min}
use native.Mathlib.Omega.{arith}
use native.Mathlib.Nat.{mul-le-mul_left, mul-le-mul_right}
use mathlib.Core.Path.{◌≡◌, refl, sym, ap, ◌∙◌}
use mathlib.Core.Bool.{Bool, true, false, cond}
use mathlib.Core.Option.{none, some}
use mathlib.Core.List.{List}
use Rattle.std.specs.Prelude.{Result}
use Rattle.std.specs.Result.{result_unwrap_or}
use borrow.Author.Rules.{rules}
use lib.Dec.{ltb, leb, ltb→lt, T}
use lib.IntN.{ℤ, pos, negsuc}
use mir.Syntax.{w64}
use mir.Val.{Fits}
use Rattle.rules.specs.Forms.{Pattern}
use Rattle.rules.specs.Reading.{Verdict, ok, fault, ◌then◌, read_pattern}
use Rattle.rules.specs.Variables.{variables}
use Rattle.rules.specs.Review.{factor, summed, formula}
use Rattle.rules.specs.Always.{always_true}
use Rattle.rules.specs.Services as paper
use Rattle.rules.specs.Services.{Judged, accepted, refused, Rule, rule_of, review}
use Rattle.rules.specs.Rows.{Form, as_words, as_origins, form_of}
use Rattle.forms.specs.Numbering.{variables_found}
use Rattle.test_variables.specs.Variables.{counted}
use Rattle.room_rules.specs.Rooms.{rows_counted, rows_capped, rows_unless_always, rows_reviewed, or_none, variables_in, width_of, Roomed, room_by, room}
use Rattle.services.specs.Picks.{form_in}
use Rattle.services.specs.Refusals.{refused_numbers}
use Rattle.services.specs.Reviews.{reviewed}
use Rattle.services.specs.declared.picks.RowForm.{RowForm}
use Rattle.services.specs.declared.refusal.Refused.{Refused}
use Rattle.services.specs.declared.refusal.Refused.TheVariants.{UnknownForm}
use Rattle.services.specs.declared.review.Reviewed.{Reviewed}
use Rattle.service_room.specs.Told.{roomed}

-- ---- Variables.

pub variables_are : (ps : List ℤ) (n : ℕ) (d : Result ℕ ℕ) → d ≡ counted (read_pattern ps then λ p. variables p true 0 0) → n ≡ result_unwrap_or d 0 → n ≡ variables_in ps
unfolding variables_in counted or_none
variables_are ps n d q h = h ∙ ap (λ x. result_unwrap_or x 0) q ∙ go (read_pattern ps then λ p. variables p true 0 0)
  where
    go : (v : Verdict ℕ) → result_unwrap_or (counted v) 0 ≡ or_none v
    go (ok n) = refl
    go (fault i) = refl

few_in : (p : Pattern) (v : Verdict ℕ) → variables p true 0 0 ≡ v → or_none v ≤ 16
unfolding or_none
few_in p (ok n) e = (variables_found p true 0 0 n e).1 (omega arith)
few_in p (fault i) e = omega arith

few_variables : (ps : List ℤ) → variables_in ps ≤ 16
unfolding variables_in ◌then◌ or_none
few_variables ps = go (read_pattern ps)
  where
    go : (v : Verdict Pattern) → or_none (v then λ p. variables p true 0 0) ≤ 16
    go (ok p) = few_in p (variables p true 0 0) refl
    go (fault i) = omega arith

-- ---- Rows: the product is no more than the count, which review bounds.

few_counted : (n f : ℕ) → f ≤ n → rows_counted n f < 2 ^ 32
unfolding rows_counted
few_counted n f h = go (ltb n (2 ^ 32)) refl
  where
    go : (b : Bool) → ltb n (2 ^ 32) ≡ b → cond b f 0 < 2 ^ 32
    go true e = let k = ltb→lt n (2 ^ 32) (rw e tt) in omega arith
    go false e = omega arith

few_capped : (cap : ℤ) (r : Rule) → rows_capped cap r < 2 ^ 32
unfolding rows_capped formula
few_capped (pos cap) r = go (leb cap 64)
  where
    go : (b : Bool) → cond b (rows_counted (formula cap r.pattern r.matcher) (factor cap 0 r.pattern r.matcher)) 0 < 2 ^ 32
    go true = few_counted (summed cap 0 r.pattern r.matcher 1 + factor cap 0 r.pattern r.matcher) (factor cap 0 r.pattern r.matcher) (omega arith)
    go false = omega arith
few_capped (negsuc n) r = omega arith

few_rows : (cap : ℤ) (j : Judged Rule) → rows_reviewed cap j < 2 ^ 32
unfolding rows_reviewed rows_unless_always
few_rows cap (refused a i) = omega arith
few_rows cap (accepted r) = go (always_true r.pattern)
  where
    go : (b : Bool) → cond b 0 (rows_capped cap r) < 2 ^ 32
    go true = omega arith
    go false = few_capped cap r

-- ---- The product has room.

module _ (rows vars words : ℕ) (h : rows < 2 ^ 32) (k : vars ≤ 16) (l : words ≤ 1024) where
  few_rows_in : rows * vars ≤ 2 ^ 36
  few_rows_in = let a : rows * vars ≤ rows * 16 = mul-le-mul_left rows k in omega arith

  pub rows_fit : Fits w64 (rows * vars)
  rows_fit = let a = few_rows_in in record { fits = omega arith }

  pub words_fit : Fits w64 (rows * vars * words)
  words_fit =
      let a = few_rows_in in
      let b : rows * vars * words ≤ rows * vars * 1024 = mul-le-mul_left (rows * vars) l in
      record { fits = omega arith }

-- ---- What the code has, and asks.

pub rows_of_review : (z : ℤ) (j : Judged Rule) (n : ℕ) → n ≡ rows_reviewed z j → n < 2 ^ 32
rows_of_review z j n e = rw e (few_rows z j)

pub variables_of_lem : (ps : List ℤ) (n w : ℕ) → n ≡ variables_in ps → w ≡ n → w ≤ 16
variables_of_lem ps n w e q = let f = few_variables ps in omega arith

pub room_told_lem : (ms ps : List ℤ) (cap z : ℤ) (w : ℕ) (r : Reviewed) (x n v : ℕ) → reviewed r ≡ review ms ps z → z ≡ cap → r.rows ≡ rows_reviewed z (rule_of ms ps)
    → v ≡ variables_in ps → n ≡ v → x ≡ r.rows * n * w
    → roomed (record { answer = r.answer; place = r.place; words = x }) ≡ room_by w ms ps cap
unfolding roomed room_by reviewed
room_told_lem ms ps cap z w r x n v a k e qv qn qx =
    ap (λ (q : paper.Reviewed). told q x) (a ∙ ap (review ms ps) k) ∙ ap (told (review ms ps cap)) words_are
  where
    told : paper.Reviewed → ℕ → Roomed
    told q y = record { answer = q.answer; place = q.place; words = y }

    words_are : x ≡ rows_reviewed cap (rule_of ms ps) * variables_in ps * w
    words_are = qx ∙ rw (e, qn, qv, k)

module _ (ms ps : List ℤ) (cap z : ℤ) (k t : ℕ) where
  -- In the form that the number picks, and where it picks none.
  pub in_form : (f : RowForm) → form_of k ≡ some (form_in f) → (w : ℕ) → w ≡ width_of (form_in f) t → (x : Roomed) → x ≡ room_by w ms ps z → z ≡ cap → x ≡ room k ms ps cap t
  unfolding room
  in_form f e w q x h y = rw (e, room) (h ∙ rw (q, y))

  pub in_no_form : (e : Refused) → (form_of k ≡ none) × (e ≡ UnknownForm) → (a p : ℕ) → a ≡ (refused_numbers e).answer → p ≡ (refused_numbers e).place
      → roomed (record { answer = a; place = p; words = 0 }) ≡ room k ms ps cap t
  unfolding room roomed refused_numbers
  in_no_form e f a p q h = let u = f.1 in rw (q, h, u, f.0, room)

pub few_words : (f : Form) (t w : ℕ) → w ≡ width_of f t → w ≤ 1024
unfolding width_of
few_words as_words t w e = omega arith
few_words as_origins t w e = omega arith

pub ruleset own_rules = (variables_are, rows_fit, words_fit, rows_of_review, variables_of_lem, few_words, room_told_lem, in_form, in_no_form, rules)
