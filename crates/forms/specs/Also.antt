-- A rule that one of the dialects accepts is accepted by dialect 1: test 4 of dialect 2 asks for more.
use Rattle.std.specs.Prelude.{ℕ, ◌+◌, ◌≡◌, refl, Bool, true, false, ◌&&◌, List, [], T, eqb, ℤ}
use Rattle.std.proofs.Common.{suc-ne-zero, sym, ap, ◌∙◌, subst}
use Rattle.rules.specs.Forms.{Matcher, Matchers, no_matchers, ◌▸ᵐ◌, countᵐ, Value}
use Rattle.rules.specs.Forms.{Pattern, wildcard, variable, constant, value, nil, cons, join, tuple, both, either, never, Patterns, no_patterns, ◌▸ᵖ◌, countᵖ, span}
use Rattle.rules.specs.Reading.{Verdict, ok, fault, ◌then◌, read_matcher, read_pattern}
use Rattle.rules.specs.Variables.{demand, variables}
use Rattle.rules.specs.Dialects.{Dialect, every_place}
use Rattle.rules.specs.Fit.{takes, told_apart, element, members, fits_in, fits_parts_in}
use Rattle.rules.specs.Services.{Judged, accepted, test, Rule, rule_in, rule_of, target_of}
use Rattle.forms.specs.Readers.{then_ok}
use Rattle.forms.specs.Tests.{and_split}
use Rattle.forms.specs.Numbering.{demand_ok}
use Rattle.forms.specs.Faults.{WellFormed, Sane, rule_accepted, target_accepted}

-- What comes after what was found.
next : {A B : Type 0} (x : Verdict A) (f : A → Verdict B) (a : A) (b : B) → x ≡ ok a → f a ≡ ok b → (x then f) ≡ ok b
unfolding ◌then◌
next x f a b e h = ap (λ z. z then f) e ∙ h

only : (c : Bool) (at : ℕ) (ms ks : List Matcher) → T c → ms ≡ ks → demand c at ms ≡ ok ks
unfolding demand
only true at ms ks t e = ap ok e
only false at ms ks t e = absurd t

asks_less : (b c : Bool) (at : ℕ) (ms ks : List Matcher) → demand (b && c) at ms ≡ ok ks → demand c at ms ≡ ok ks
asks_less b c at ms ks e = let r = demand_ok (b && c) at ms ks e in only c at ms ks (and_split b c r.0).1 r.1

mutual
  unfolding fits_in fits_parts_in told_apart

  pub fits_also : (dialect : Dialect) (p : Pattern) (m : Matcher) (at : ℕ) (ms ks : List Matcher) → fits_in dialect p m at ms ≡ ok ks → fits_in every_place p m at ms ≡ ok ks
  fits_also dialect wildcard m at ms ks e = e
  fits_also dialect (variable x) m at ms ks e = e
  fits_also dialect (constant c) m at ms ks e = e
  fits_also dialect (value x c) m at ms ks e = e
  fits_also dialect nil m at ms ks e = e
  fits_also dialect (cons p q) m at ms ks e =
      let a = then_ok (demand (told_apart dialect m && takes m 5) at ms) _ ks e in
      let b = then_ok (fits_in dialect p (element m) (at + 1) a.0) _ ks a.2 in
      next (demand (takes m 5) at ms) _ a.0 ks (asks_less (told_apart dialect m) (takes m 5) at ms a.0 a.1)
      (next (fits_in every_place p (element m) (at + 1) a.0) _ b.0 ks (fits_also dialect p (element m) (at + 1) a.0 b.0 b.1)
      (fits_also dialect q m (at + 1 + span p) b.0 ks b.2))
  fits_also dialect (join p q) m at ms ks e =
      let a = then_ok (demand (takes m 6) at ms) _ ks e in let b = then_ok (fits_in dialect p m (at + 1) a.0) _ ks a.2 in
      next (demand (takes m 6) at ms) _ a.0 ks a.1 (next (fits_in every_place p m (at + 1) a.0) _ b.0 ks
      (fits_also dialect p m (at + 1) a.0 b.0 b.1) (fits_also dialect q m (at + 1 + span p) b.0 ks b.2))
  fits_also dialect (tuple ps) m at ms ks e =
      let a = then_ok (demand (takes m 7 && eqb (countᵖ ps) (countᵐ (members m))) at ms) _ ks e in
      next (demand (takes m 7 && eqb (countᵖ ps) (countᵐ (members m))) at ms) _ a.0 ks a.1 (parts_also dialect ps (members m) (at + 2) a.0 ks a.2)
  fits_also dialect (both p q) m at ms ks e =
      let a = then_ok (demand (takes m 8) at ms) _ ks e in let b = then_ok (fits_in dialect p m (at + 1) a.0) _ ks a.2 in
      next (demand (takes m 8) at ms) _ a.0 ks a.1 (next (fits_in every_place p m (at + 1) a.0) _ b.0 ks
      (fits_also dialect p m (at + 1) a.0 b.0 b.1) (fits_also dialect q m (at + 1 + span p) b.0 ks b.2))
  fits_also dialect (either p q) m at ms ks e =
      let a = then_ok (demand (takes m 9) at ms) _ ks e in let b = then_ok (fits_in dialect p m (at + 1) a.0) _ ks a.2 in
      next (demand (takes m 9) at ms) _ a.0 ks a.1 (next (fits_in every_place p m (at + 1) a.0) _ b.0 ks
      (fits_also dialect p m (at + 1) a.0 b.0 b.1) (fits_also dialect q m (at + 1 + span p) b.0 ks b.2))
  fits_also dialect (never p) m at ms ks e =
      let a = then_ok (demand (takes m 10) at ms) _ ks e in
      next (demand (takes m 10) at ms) _ a.0 ks a.1 (fits_also dialect p m (at + 1) a.0 ks a.2)

  parts_also : (dialect : Dialect) (ps : Patterns) (ms : Matchers) (at : ℕ) (js ks : List Matcher) → fits_parts_in dialect ps ms at js ≡ ok ks
      → fits_parts_in every_place ps ms at js ≡ ok ks
  parts_also dialect no_patterns ms at js ks e = e
  parts_also dialect (p ▸ᵖ ps) no_matchers at js ks e = e
  parts_also dialect (p ▸ᵖ ps) (m ▸ᵐ ms) at js ks e =
      let a = then_ok (fits_in dialect p m at js) _ ks e in
      next (fits_in every_place p m at js) _ a.0 ks (fits_also dialect p m at js a.0 a.1) (parts_also dialect ps ms (at + span p) a.0 ks a.2)

-- ---- The tests.

passed : {A B : Type 0} (n : ℕ) (x : Verdict A) (f : A → Judged B) (r : B) → test n x f ≡ accepted r → (a : A) × (x ≡ ok a) × (f a ≡ accepted r)
unfolding test
passed n (ok a) f r e = (a, refl, e)
passed n (fault i) f r e = let z : ◌≡◌ {A = ℕ} 0 1 = cc in absurd (suc-ne-zero 0 (sym z))

-- What was read, and that it passed.
pub accepted_read : (dialect : Dialect) (ms ps : List ℤ) (r : Rule) → rule_in dialect ms ps ≡ accepted r
    → (read_matcher ms ≡ ok r.matcher) × (read_pattern ps ≡ ok r.pattern)
    × (n : ℕ) × (ks : List Matcher) × (variables r.pattern true 0 0 ≡ ok n) × (fits_in dialect r.pattern r.matcher 0 [] ≡ ok ks)
unfolding rule_in
accepted_read dialect ms ps r e =
    let a = passed 1 (read_matcher ms) _ r e in
    let b = passed 2 (read_pattern ps) _ r a.2 in
    let c = passed 3 (variables b.0 true 0 0) _ r b.2 in
    let d = passed 4 (fits_in dialect b.0 a.0 0 []) _ r c.2 in
    let z : ◌≡◌ {A = Rule} (record { matcher = a.0; pattern = b.0 }) r = cc in
    subst (λ (x : Rule). (read_matcher ms ≡ ok x.matcher) × (read_pattern ps ≡ ok x.pattern)
    × (n : ℕ) × (ks : List Matcher) × (variables x.pattern true 0 0 ≡ ok n) × (fits_in dialect x.pattern x.matcher 0 [] ≡ ok ks)) z
    (a.1, b.1, c.0, d.0, c.1, d.1)

pub well_formed_also : (dialect : Dialect) (ms ps : List ℤ) (r : Rule) → rule_in dialect ms ps ≡ accepted r → WellFormed ms ps r
well_formed_also dialect ms ps r e =
    let t = accepted_read dialect ms ps r e in
    record { matcher = t.0; pattern = t.1; numbered = (t.2, t.4); fitting = (t.3, fits_also dialect r.pattern r.matcher 0 [] t.3 t.5) }

pub rule_also : (dialect : Dialect) (ms ps : List ℤ) (r : Rule) → rule_in dialect ms ps ≡ accepted r → rule_of ms ps ≡ accepted r
rule_also dialect ms ps r e = (rule_accepted ms ps r).1 (well_formed_also dialect ms ps r e)

pub sane_also : (dialect : Dialect) (ms ps ts : List ℤ) (r : Rule) (v : Value) → rule_in dialect ms ps ≡ accepted r → target_of r.matcher ts ≡ accepted v
    → Sane ms ps ts r v
sane_also dialect ms ps ts r v e f = record { rule = well_formed_also dialect ms ps r e; target = (target_accepted r.matcher ts v).0 f }
