-- No variable stands inside an or or a not: what is known of the variables there is known of them before and after.
use Rattle.std.specs.Prelude.{ℕ, ◌+◌, ◌≡◌, refl, Bool, false, List, [], ◌++◌}
use Rattle.std.proofs.Common.{arith}
use Rattle.rules.specs.Forms.{Matcher, Matchers, Pattern, wildcard, nil, variable, constant, value, cons, join, tuple, both, either, never, Patterns, no_patterns, ◌▸ᵖ◌, span}
use Rattle.rules.specs.Reading.{ok}
use Rattle.rules.specs.Variables.{variables, variables_all}
use Rattle.rules.specs.Fit.{element, members}
use Rattle.forms.specs.Readers.{then_ok}
use Rattle.forms.specs.Written.{variable_tags, variable_tags_all}
use Rattle.forms.specs.Numbering.{none_inside}
use Rattle.program_rules.specs.Points.{first_of, others_of}
use Rattle.program_rules.specs.Walk.{binds_of, binds_parts}

unfoldable mutual
  unfolding variable_tags

  pub Closed : Pattern → Type 0
  Closed wildcard = Unit {0}
  Closed (variable x) = Unit {0}
  Closed nil = Unit {0}
  Closed (constant c) = Unit {0}
  Closed (value x c) = Unit {0}
  Closed (cons p q) = Closed p × Closed q
  Closed (join p q) = Closed p × Closed q
  Closed (tuple ps) = ClosedAll ps
  Closed (both p q) = Closed p × Closed q
  Closed (either p q) = (variable_tags p ≡ 0) × (variable_tags q ≡ 0)
  Closed (never p) = variable_tags p ≡ 0

  pub ClosedAll : Patterns → Type 0
  ClosedAll no_patterns = Unit {0}
  ClosedAll (p ▸ᵖ ps) = Closed p × ClosedAll ps

-- A pattern without variables is closed, and binds none.
mutual
  unfolding Closed variable_tags

  pub none_closed : (p : Pattern) → variable_tags p ≡ 0 → Closed p
  none_closed wildcard e = tt
  none_closed (variable x) e = tt
  none_closed nil e = tt
  none_closed (constant c) e = tt
  none_closed (value x c) e = tt
  none_closed (cons p q) e = (none_closed p (omega arith), none_closed q (omega arith))
  none_closed (join p q) e = (none_closed p (omega arith), none_closed q (omega arith))
  none_closed (tuple ps) e = none_closed_all ps e
  none_closed (both p q) e = (none_closed p (omega arith), none_closed q (omega arith))
  none_closed (either p q) e = (omega arith, omega arith)
  none_closed (never p) e = e

  none_closed_all : (ps : Patterns) → variable_tags_all ps ≡ 0 → ClosedAll ps
  none_closed_all no_patterns e = tt
  none_closed_all (p ▸ᵖ ps) e = (none_closed p (omega arith), none_closed_all ps (omega arith))

both_none : {A : Type 0} (xs ys : List A) → xs ≡ [] → ys ≡ [] → xs ++ ys ≡ []
both_none xs ys e g = rw (e, g)

mutual
  unfolding variable_tags binds_of

  pub none_binds : (p : Pattern) (m : Matcher) → variable_tags p ≡ 0 → binds_of p m ≡ []
  none_binds wildcard m e = refl
  none_binds (variable x) m e = absurd (omega arith)
  none_binds nil m e = refl
  none_binds (constant c) m e = refl
  none_binds (value x c) m e = refl
  none_binds (cons p q) m e = both_none _ _ (none_binds p (element m) (omega arith)) (none_binds q m (omega arith))
  none_binds (join p q) m e = both_none _ _ (none_binds p m (omega arith)) (none_binds q m (omega arith))
  none_binds (tuple ps) m e = none_binds_all ps (members m) e
  none_binds (both p q) m e = both_none _ _ (none_binds p m (omega arith)) (none_binds q m (omega arith))
  none_binds (either p q) m e = both_none _ _ (none_binds p m (omega arith)) (none_binds q m (omega arith))
  none_binds (never p) m e = none_binds p m e

  none_binds_all : (ps : Patterns) (ks : Matchers) → variable_tags_all ps ≡ 0 → binds_parts ps ks ≡ []
  none_binds_all no_patterns ks e = refl
  none_binds_all (p ▸ᵖ ps) ks e = both_none _ _ (none_binds p (first_of ks) (omega arith)) (none_binds_all ps (others_of ks) (omega arith))

-- The variables of a rule that is accepted are so.
mutual
  unfolding Closed variables

  pub closed_is : (p : Pattern) (may : Bool) (at n k : ℕ) → variables p may at n ≡ ok k → Closed p
  closed_is wildcard may at n k e = tt
  closed_is (variable x) may at n k e = tt
  closed_is nil may at n k e = tt
  closed_is (constant c) may at n k e = tt
  closed_is (value x c) may at n k e = tt
  closed_is (cons p q) may at n k e = let r = then_ok _ _ k e in (closed_is p may (at + 1) n r.0 r.1, closed_is q may (at + 1 + span p) r.0 k r.2)
  closed_is (join p q) may at n k e = let r = then_ok _ _ k e in (closed_is p may (at + 1) n r.0 r.1, closed_is q may (at + 1 + span p) r.0 k r.2)
  closed_is (tuple ps) may at n k e = closed_all ps may (at + 2) n k e
  closed_is (both p q) may at n k e = let r = then_ok _ _ k e in (closed_is p may (at + 1) n r.0 r.1, closed_is q may (at + 1 + span p) r.0 k r.2)
  closed_is (either p q) may at n k e =
      let r = then_ok _ _ k e in (none_inside p (at + 1) n r.0 r.1, none_inside q (at + 1 + span p) r.0 k r.2)
  closed_is (never p) may at n k e = none_inside p (at + 1) n k e

  closed_all : (ps : Patterns) (may : Bool) (at n k : ℕ) → variables_all ps may at n ≡ ok k → ClosedAll ps
  closed_all no_patterns may at n k e = tt
  closed_all (p ▸ᵖ ps) may at n k e = let r = then_ok _ _ k e in (closed_is p may at n r.0 r.1, closed_all ps may (at + span p) r.0 k r.2)
