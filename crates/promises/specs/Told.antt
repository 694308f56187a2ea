-- What tests 3 and 4 of dialect 2 leave of a pattern: where a variable may stand, and that the elements at a cons under a multiset can be told apart.
use Rattle.std.specs.Prelude.{ℕ, ◌+◌, ◌≡◌, Bool, true, false, ◌&&◌, List, [], T, eqb, ℤ}
use Rattle.rules.specs.Forms.{Matcher, Matchers, no_matchers, ◌▸ᵐ◌, countᵐ}
use Rattle.rules.specs.Forms.{Pattern, wildcard, variable, constant, value, nil, cons, join, tuple, both, either, never, Patterns, no_patterns, ◌▸ᵖ◌, countᵖ, span}
use Rattle.rules.specs.Reading.{ok}
use Rattle.rules.specs.Variables.{demand, is_next, variables, variables_all}
use Rattle.rules.specs.Dialects.{first_places}
use Rattle.rules.specs.Fit.{takes, told_apart, element, members, fits_in, fits_parts_in}
use Rattle.rules.specs.Services.{accepted, Rule, rule_in}
use Rattle.forms.specs.Readers.{then_ok}
use Rattle.forms.specs.Tests.{and_split}
use Rattle.forms.specs.Numbering.{demand_ok}
use Rattle.forms.specs.Also.{accepted_read}

-- `may_bind`: a variable may stand here; inside an or or a not none may.
unfoldable mutual
  unfolding told_apart takes element members

  pub Told : (may_bind : Bool) → Pattern → Matcher → Type 0
  Told may_bind wildcard m = Unit {0}
  Told may_bind (variable x) m = T may_bind
  Told may_bind (constant c) m = T (takes m 2)
  Told may_bind (value x c) m = Unit {0}
  Told may_bind nil m = T (takes m 4)
  Told may_bind (cons p q) m = T (told_apart first_places m) × Told may_bind p (element m) × Told may_bind q m
  Told may_bind (join p q) m = T (takes m 6) × Told may_bind p m × Told may_bind q m
  Told may_bind (tuple ps) m = T (takes m 7) × ToldAll may_bind ps (members m)
  Told may_bind (both p q) m = Told may_bind p m × Told may_bind q m
  Told may_bind (either p q) m = Told false p m × Told false q m
  Told may_bind (never p) m = Told false p m

  pub ToldAll : (may_bind : Bool) → Patterns → Matchers → Type 0
  ToldAll may_bind no_patterns ms = Unit {0}
  ToldAll may_bind (p ▸ᵖ ps) no_matchers = Unit {0}
  ToldAll may_bind (p ▸ᵖ ps) (m ▸ᵐ ms) = Told may_bind p m × ToldAll may_bind ps ms

mutual
  unfolding Told variables variables_all fits_in fits_parts_in

  told : (b : Bool) (p : Pattern) (m : Matcher) (at n k : ℕ) (ms ks : List Matcher) → variables p b at n ≡ ok k → fits_in first_places p m at ms ≡ ok ks → Told b p m
  told b wildcard m at n k ms ks e f = tt
  told b (variable x) m at n k ms ks e f = (and_split b (is_next x n) (demand_ok (b && is_next x n) at _ k e).0).0
  told b (constant c) m at n k ms ks e f = (demand_ok (takes m 2) at ms ks f).0
  told b (value x c) m at n k ms ks e f = tt
  told b nil m at n k ms ks e f = (demand_ok (takes m 4) at ms ks f).0
  told b (cons p q) m at n k ms ks e f =
      let x = then_ok (variables p b (at + 1) n) _ k e in
      let d = then_ok (demand (told_apart first_places m && takes m 5) at ms) _ ks f in
      let y = then_ok (fits_in first_places p (element m) (at + 1) d.0) _ ks d.2 in
      let t = (demand_ok (told_apart first_places m && takes m 5) at ms d.0 d.1).0 in (
        (and_split (told_apart first_places m) (takes m 5) t).0,
        told b p (element m) (at + 1) n x.0 d.0 y.0 x.1 y.1,
        told b q m (at + 1 + span p) x.0 k y.0 ks x.2 y.2,
      )
  told b (join p q) m at n k ms ks e f =
      let x = then_ok (variables p b (at + 1) n) _ k e in
      let d = then_ok (demand (takes m 6) at ms) _ ks f in
      let y = then_ok (fits_in first_places p m (at + 1) d.0) _ ks d.2 in (
        (demand_ok (takes m 6) at ms d.0 d.1).0,
        told b p m (at + 1) n x.0 d.0 y.0 x.1 y.1,
        told b q m (at + 1 + span p) x.0 k y.0 ks x.2 y.2,
      )
  told b (tuple ps) m at n k ms ks e f =
      let d = then_ok (demand (takes m 7 && eqb (countᵖ ps) (countᵐ (members m))) at ms) _ ks f in
      let t = (demand_ok (takes m 7 && eqb (countᵖ ps) (countᵐ (members m))) at ms d.0 d.1).0 in
      ((and_split (takes m 7) _ t).0, told_all b ps (members m) (at + 2) n k d.0 ks e d.2)
  told b (both p q) m at n k ms ks e f =
      let x = then_ok (variables p b (at + 1) n) _ k e in
      let d = then_ok (demand (takes m 8) at ms) _ ks f in
      let y = then_ok (fits_in first_places p m (at + 1) d.0) _ ks d.2 in
      (told b p m (at + 1) n x.0 d.0 y.0 x.1 y.1, told b q m (at + 1 + span p) x.0 k y.0 ks x.2 y.2)
  told b (either p q) m at n k ms ks e f =
      let x = then_ok (variables p false (at + 1) n) _ k e in
      let d = then_ok (demand (takes m 9) at ms) _ ks f in
      let y = then_ok (fits_in first_places p m (at + 1) d.0) _ ks d.2 in
      (told false p m (at + 1) n x.0 d.0 y.0 x.1 y.1, told false q m (at + 1 + span p) x.0 k y.0 ks x.2 y.2)
  told b (never p) m at n k ms ks e f =
      let d = then_ok (demand (takes m 10) at ms) _ ks f in
      told false p m (at + 1) n k d.0 ks e d.2

  told_all : (b : Bool) (ps : Patterns) (ms : Matchers) (at n k : ℕ) (js ks : List Matcher) → variables_all ps b at n ≡ ok k → fits_parts_in first_places ps ms at js ≡ ok ks
      → ToldAll b ps ms
  told_all b no_patterns ms at n k js ks e f = tt
  told_all b (p ▸ᵖ ps) no_matchers at n k js ks e f = tt
  told_all b (p ▸ᵖ ps) (m ▸ᵐ ms) at n k js ks e f =
      let x = then_ok (variables p b at n) _ k e in
      let y = then_ok (fits_in first_places p m at js) _ ks f in
      (told b p m at n x.0 js y.0 x.1 y.1, told_all b ps ms (at + span p) x.0 k y.0 ks x.2 y.2)

-- Of a rule that dialect 2 accepts.
pub rule_told : (ms ps : List ℤ) (r : Rule) → rule_in first_places ms ps ≡ accepted r → Told true r.pattern r.matcher
rule_told ms ps r e =
    let t = accepted_read first_places ms ps r e in told true r.pattern r.matcher 0 0 t.2 [] t.3 t.4 t.5
