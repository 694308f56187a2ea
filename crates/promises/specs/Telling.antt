-- Document 02, No. 9: "In form 2 two different ways give different rows when every multiset cons has a variable as its first part and the pattern has no join
-- and no or."
use Rattle.rules.specs.Forms.{Matcher, something, integer, list, multiset, tuple_of, Matchers, no_matchers, ◌▸ᵐ◌}
use Rattle.rules.specs.Forms.{Pattern, wildcard, nil, variable, constant, value, cons, join, tuple, both, either, never, Patterns, no_patterns, ◌▸ᵖ◌}
use Rattle.rules.specs.Fit.{element, members}

-- A variable.
unfoldable pub IsVariable : Pattern → Type 0
IsVariable wildcard = ⊥
IsVariable nil = ⊥
IsVariable (variable x) = Unit {0}
IsVariable (constant c) = ⊥
IsVariable (value x c) = ⊥
IsVariable (cons p q) = ⊥
IsVariable (join p q) = ⊥
IsVariable (tuple ps) = ⊥
IsVariable (both p q) = ⊥
IsVariable (either p q) = ⊥
IsVariable (never p) = ⊥

-- The premise, under a matcher. (What stands inside a not chooses nothing.)
unfoldable mutual
  unfolding IsVariable element members

  pub Tells : Pattern → Matcher → Type 0
  Tells wildcard m = Unit {0}
  Tells nil m = Unit {0}
  Tells (variable x) m = Unit {0}
  Tells (constant c) m = Unit {0}
  Tells (value x c) m = Unit {0}
  Tells (cons p q) something = Unit {0}
  Tells (cons p q) integer = Unit {0}
  Tells (cons p q) (list m) = Tells p m × Tells q (list m)
  Tells (cons p q) (multiset m) = IsVariable p × Tells q (multiset m)
  Tells (cons p q) (tuple_of ms) = Unit {0}
  Tells (join p q) m = ⊥
  Tells (tuple ps) m = TellsAll ps (members m)
  Tells (both p q) m = Tells p m × Tells q m
  Tells (either p q) m = ⊥
  Tells (never p) m = Unit {0}

  pub TellsAll : Patterns → Matchers → Type 0
  TellsAll no_patterns ms = Unit {0}
  TellsAll (p ▸ᵖ ps) no_matchers = Unit {0}
  TellsAll (p ▸ᵖ ps) (m ▸ᵐ ms) = Tells p m × TellsAll ps ms
