-- The words that `room` tells suffice: with review's count as budget and that many words of room, a match on a target of at most so many words, whose
-- collections have at most `cap` elements, answers 0. In either row form, and whatever the room holds.
use Rattle.std.specs.Prelude.{ℕ, suc, ◌*◌, ◌≤◌, min, ◌≡◌, Bool, List, ltb, leb, ℤ, pos}
use native.Mathlib.Omega.{arith}
use Rattle.std.proofs.Common.{mul-le-mul_left, le_trans, sym, ◌∙◌, subst}
use Rattle.std.proofs.Math.Path.{refl, ap}
use Rattle.std.proofs.Math.Bool.{true, false, cond}
use Rattle.std.proofs.Math.Option.{Option, none, some}
use Rattle.std.proofs.Math.ListN.{length}
use Rattle.rules.specs.Forms.{Value}
use Rattle.rules.specs.Limits.{too_big}
use Rattle.rules.specs.Reading.{◌then◌}
use Rattle.rules.specs.Review.{factor, formula}
use Rattle.rules.specs.Always.{always_true}
use Rattle.rules.specs.Dialects.{every_place}
use Rattle.rules.specs.Rows.{Form, as_words, as_origins, form_of}
use Rattle.rules.specs.Services.{accepted, Rule, rule_of, target_of, Matched, turned_away, match_in, match_with, Reviewed, declined, counted, capped, unless_always_true, review_rule, review, review_of}
use Rattle.forms.specs.Written.{largest, variable_tags}
use Rattle.forms.specs.Faults.{rule_accepted, sane_exactly}
use Rattle.forms.proofs.ReadTarget.{target_read}
use Rattle.promises.specs.Room.{widest}
use Rattle.promises.proofs.Main.Bounds.{variables_counted, enough_reviewed}
use Rattle.room_rules.specs.Rooms.{rows_counted, rows_capped, rows_unless_always, rows_reviewed, or_none, variables_in, width_of, Roomed, room_by, room}

no : {A : Type 0} (n : ℕ) → suc n ≡ 0 → A
no n e = absurd (omega arith)

-- Where review answers 0, the rows are the product of the factors.
module _ (cap : ℕ) (r : Rule) where
  abbrev f : ℕ
  f = factor cap 0 r.pattern r.matcher

  when_counted : (n : ℕ) → (counted n).answer ≡ 0 → rows_counted n f ≡ f
  unfolding counted rows_counted declined
  when_counted n = go (ltb n too_big)
    where
      go : (b : Bool) → (elim b as (λ _. Reviewed) [ true ↦ record { answer = 0; place = 0; count = n } | false ↦ declined 10 0 ]).answer ≡ 0 → cond b f 0 ≡ f
      go true e = refl
      go false e = no 9 e

  when_capped : (capped (pos cap) r).answer ≡ 0 → rows_capped (pos cap) r ≡ f
  unfolding capped rows_capped declined
  when_capped = go (leb cap 64)
    where
      go : (b : Bool) → (elim b as (λ _. Reviewed) [ true ↦ counted (formula cap r.pattern r.matcher) | false ↦ declined 9 0 ]).answer ≡ 0
          → cond b (rows_counted (formula cap r.pattern r.matcher) f) 0 ≡ f
      go true e = when_counted (formula cap r.pattern r.matcher) e
      go false e = no 8 e

  when_reviewed : (review_rule (pos cap) (accepted r)).answer ≡ 0 → rows_reviewed (pos cap) (accepted r) ≡ f
  unfolding review_rule unless_always_true rows_reviewed rows_unless_always declined
  when_reviewed = go (always_true r.pattern)
    where
      go : (b : Bool) → (elim b as (λ _. Reviewed) [ true ↦ declined 11 0 | false ↦ capped (pos cap) r ]).answer ≡ 0 → cond b 0 (rows_capped (pos cap) r) ≡ f
      go true e = no 10 e
      go false e = when_capped e

module _ (ms ps ts : List ℤ) (budget : ℕ) (given : List ℤ) (r : Rule) (v : Value)
    (rule : rule_of ms ps ≡ accepted r) (target : target_of r.matcher ts ≡ accepted v)
    (cap : ℕ) (small : largest v ≤ cap) (longest : ℕ) (fits : length ts ≤ longest)
    (steps : (review ms ps (pos cap)).count ≤ budget) where
  rows_are : (review ms ps (pos cap)).answer ≡ 0 → rows_reviewed (pos cap) (rule_of ms ps) ≡ factor cap 0 r.pattern r.matcher
  unfolding review
  rows_are a = ap (rows_reviewed (pos cap)) rule ∙ when_reviewed cap r (sym (ap (λ j. (review_rule (pos cap) j).answer) rule) ∙ a)

  variables_are : variables_in ps ≡ variable_tags r.pattern
  unfolding variables_in or_none ◌then◌
  variables_are = rw (((rule_accepted ms ps r).0 rule).pattern, (variables_counted ms ps r rule).0)

  wide_enough : (form : Form) → widest form (length ts) ≤ width_of form longest
  unfolding widest width_of
  wide_enough as_words =
      let l = ((target_read ts v).0 ((sane_exactly ms ps ts r v).0 (rule, target)).target.target).1 in
      omega arith
  wide_enough as_origins = omega arith

  in_form : (form : Form) → (room_by (width_of form longest) ms ps (pos cap)).answer ≡ 0 → (room_by (width_of form longest) ms ps (pos cap)).words ≤ length given
      → (match_in form ms ps ts budget given).answer ≡ 0
  unfolding room_by review review_of
  in_form form a h =
      let rows = factor cap 0 r.pattern r.matcher * variable_tags r.pattern in
      let k : rows * width_of form longest ≤ length given = rw (rows_are a, variables_are) at h in
      enough_reviewed every_place form ms ps ts budget given r v rule target cap small a steps (le_trans (mul-le-mul_left rows (wide_enough form)) k)

module _ (ms ps ts : List ℤ) (budget : ℕ) (given : List ℤ) (r : Rule) (v : Value)
    (rule : rule_of ms ps ≡ accepted r) (target : target_of r.matcher ts ≡ accepted v)
    (cap : ℕ) (small : largest v ≤ cap) (longest : ℕ) (short : length ts ≤ longest)
    (steps : (review ms ps (pos cap)).count ≤ budget) where
  pub room_suffices : (form : ℕ) → (room form ms ps (pos cap) longest).answer ≡ 0 → (room form ms ps (pos cap) longest).words ≤ length given
      → (match_with form ms ps ts budget given).answer ≡ 0
  unfolding room match_with turned_away
  room_suffices form = go (form_of form)
    where
      go : (x : Option Form)
          → (elim x as (λ _. Roomed) [ none ↦ record { answer = 20; place = 0; words = 0 } | some f ↦ room_by (width_of f longest) ms ps (pos cap) ]).answer ≡ 0
          → (elim x as (λ _. Roomed) [ none ↦ record { answer = 20; place = 0; words = 0 } | some f ↦ room_by (width_of f longest) ms ps (pos cap) ]).words ≤ length given
          → (elim x as (λ _. Matched) [ none ↦ turned_away 20 0 0 given | some f ↦ match_in f ms ps ts budget given ]).answer ≡ 0
      go none a h = no 19 a
      go (some f) a h = in_form ms ps ts budget given r v rule target cap small longest short steps f a h
