-- How long the program of a pattern is: as many instructions as places, and how many are to come from a place on.
use Rattle.std.specs.Prelude.{ℕ, zero, suc, ◌+◌, ◌-◌, ◌≤◌, ◌≡◌, refl, true, false, List, [], ◌∷◌}
use Rattle.std.proofs.Common.{arith, ◌∙◌}
use Rattle.rules.specs.Forms.{Matcher, Matchers, Pattern, wildcard, nil, variable, constant, value, cons, join, tuple, both, either, never, Patterns, no_patterns, ◌▸ᵖ◌, countᵖ}
use Rattle.rules.specs.Fit.{element, members, is_something}
use Rattle.program_rules.specs.Points.{Item, item, or_else, end_or, stop, Point, point, else_place, end_place, cutting, finish, reserve, beyond, beside, reserved, first_of, others_of, items, parted}

-- An or has two places more than its sides and itself, a not one more: `else_place` and `end_place`, `cutting`.
unfoldable mutual
  unfolding is_something element members first_of others_of countᵖ

  pub instrs : Pattern → Matcher → ℕ
  instrs wildcard m = elim (is_something m) [ true ↦ 1 | false ↦ 2 ]
  instrs (variable x) m = elim (is_something m) [ true ↦ 1 | false ↦ 2 ]
  instrs nil m = 1
  instrs (constant c) m = 1
  instrs (value x c) m = 1
  instrs (cons p q) m = 1 + (instrs p (element m) + instrs q m)
  instrs (join p q) m = 1 + (instrs p m + instrs q m)
  instrs (tuple ps) m = 1 + ((countᵖ ps - 2) + instrs_parts ps (members m))
  instrs (both p q) m = 1 + (instrs p m + instrs q m)
  instrs (either p q) m = 1 + (instrs p m + (1 + (instrs q m + 1)))
  instrs (never p) m = 1 + (instrs p m + 1)

  -- Those of a tuple's parts.
  pub instrs_parts : Patterns → Matchers → ℕ
  instrs_parts no_patterns ks = 0
  instrs_parts (p ▸ᵖ ps) ks = instrs p (first_of ks) + instrs_parts ps (others_of ks)

unfoldable pub instrs_all : List Item → ℕ
unfolding instrs
instrs_all [] = 1
instrs_all (item p m c ∷ ts) = instrs p m + instrs_all ts
instrs_all (or_else q m ∷ ts) = 1 + (instrs q m + (1 + instrs_all ts))
instrs_all (end_or ∷ ts) = 1 + instrs_all ts
instrs_all (stop j ∷ ts) = 1 + instrs_all ts

-- How many places are between the next one and the one where the next state stands: those of an or's second side after its first, and the ends of ors.
unfoldable pub skip : List Item → ℕ
unfolding instrs
skip [] = 0
skip (item p m c ∷ ts) = 0
skip (or_else q m ∷ ts) = 1 + (instrs q m + (1 + skip ts))
skip (end_or ∷ ts) = 1 + skip ts
skip (stop j ∷ ts) = 0

unfoldable pub to_come : Point → ℕ
unfolding instrs instrs_all
to_come (point ms p m k ts) = instrs p m + instrs_all ts
to_come (else_place ms q m ts) = 1 + (instrs q m + (1 + instrs_all ts))
to_come (end_place ms ts) = 1 + instrs_all ts
to_come (cutting ms j ts) = 1 + instrs_all ts
to_come (finish ms) = 1
to_come (reserve P) = 1 + to_come P
to_come beyond = 0

pub come_beside : (ms : List Matcher) (ts : List Item) → to_come (beside ms ts) ≡ instrs_all ts
unfolding to_come beside instrs_all
come_beside ms [] = refl
come_beside ms (item p m c ∷ ts) = refl
come_beside ms (or_else q m ∷ ts) = refl
come_beside ms (end_or ∷ ts) = refl
come_beside ms (stop j ∷ ts) = refl

pub come_reserved : (n : ℕ) (P : Point) → to_come (reserved n P) ≡ n + to_come P
unfolding to_come reserved
come_reserved zero P = omega arith
come_reserved (suc n) P = let h = come_reserved n P in omega arith

come_items : (ps : Patterns) (ks : Matchers) (c : ℕ) (ts : List Item) → instrs_all (items ps ks c ts) ≡ instrs_parts ps ks + instrs_all ts
unfolding instrs_all instrs_parts items
come_items no_patterns ks c ts = omega arith
come_items (p ▸ᵖ ps) ks c ts = let h = come_items ps (others_of ks) (suc c) ts in omega arith

pub come_parted : (ms : List Matcher) (ps : Patterns) (ks : Matchers) (pc : ℕ) (ts : List Item) → to_come (parted ms ps ks pc ts) ≡ instrs_parts ps ks + instrs_all ts
unfolding to_come instrs_parts parted
come_parted ms no_patterns ks pc ts = come_beside ms ts ∙ omega arith
come_parted ms (p ▸ᵖ ps) ks pc ts = let h = come_items ps (others_of ks) pc ts in omega arith

pub all_some : (ts : List Item) → 1 ≤ instrs_all ts
unfolding instrs_all
all_some [] = omega arith
all_some (item p m c ∷ ts) = let h = all_some ts in omega arith
all_some (or_else q m ∷ ts) = omega arith
all_some (end_or ∷ ts) = omega arith
all_some (stop j ∷ ts) = omega arith
