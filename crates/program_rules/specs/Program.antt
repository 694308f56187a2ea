-- The program of a pattern under a matcher, place after place.
use Rattle.std.specs.Prelude.{ℕ, zero, suc, ◌+◌, ◌-◌, true, false, List, [], ◌∷◌, ◌++◌, length, pos, negsuc}
use Rattle.rules.specs.Forms.{Matcher, something, integer, list, multiset, tuple_of}
use Rattle.rules.specs.Forms.{Pattern, wildcard, nil, variable, constant, value, cons, join, tuple, both, either, never, countᵖ}
use Rattle.rules.specs.Fit.{element, members, is_something}
use Rattle.program_rules.specs.Points.{list_cons, multiset_cons, joins, as_constant, as_value, as_nil, Instr, strip, keep, other, close, drop, bind, test, split, apart, choice, deny, cut_at, end}
use Rattle.program_rules.specs.Points.{item, or_else, end_or, stop, Point, point, else_place, end_place, cutting, finish, reserve, beyond, beside, from, reserved, parted}
use Rattle.program_rules.specs.Length.{instrs, skip}

-- The instruction at the place pc, where P is to do.
unfoldable pub instr_of : (pc : ℕ) → (P : Point) → Instr
unfolding from skip instrs is_something countᵖ
instr_of pc (finish ms) = end (length ms)
instr_of pc (reserve P) = strip
instr_of pc beyond = end 0
instr_of pc (else_place ms q m ts) = other
instr_of pc (end_place ms ts) = close
instr_of pc (cutting ms j ts) = cut_at j
instr_of pc (point ms wildcard m k ts) = elim (is_something m) [ true ↦ drop (from ts) (suc pc + skip ts) | false ↦ strip ]
instr_of pc (point ms (variable x) m k ts) = elim (is_something m) [ true ↦ bind (length ms) (from ts) (suc pc + skip ts) | false ↦ strip ]
instr_of pc (point ms nil m k ts) = test (as_nil m) (from ts) (suc pc + skip ts)
instr_of pc (point ms (constant c) m k ts) = test (as_constant c) (from ts) (suc pc + skip ts)
instr_of pc (point ms (value (pos x) c) m k ts) = test (as_value m x c) (from ts) (suc pc + skip ts)
instr_of pc (point ms (value (negsuc x) c) m k ts) = end 0
instr_of pc (point ms (cons p q) something k ts) = end 0
instr_of pc (point ms (cons p q) integer k ts) = end 0
instr_of pc (point ms (cons p q) (list m) k ts) = split (list_cons m)
instr_of pc (point ms (cons p q) (multiset m) k ts) = split (multiset_cons m)
instr_of pc (point ms (cons p q) (tuple_of ks) k ts) = end 0
instr_of pc (point ms (join p q) something k ts) = end 0
instr_of pc (point ms (join p q) integer k ts) = end 0
instr_of pc (point ms (join p q) (list m) k ts) = split (joins m)
instr_of pc (point ms (join p q) (multiset m) k ts) = end 0
instr_of pc (point ms (join p q) (tuple_of ks) k ts) = end 0
instr_of pc (point ms (tuple ps) m k ts) = apart (countᵖ ps - 2)
instr_of pc (point ms (both p q) m k ts) = keep
instr_of pc (point ms (either p q) m k ts) = choice (suc pc + (instrs p m + 1))
instr_of pc (point ms (never p) m k ts) = deny (from ts) (suc pc + (instrs p m + (1 + skip ts)))

-- What is to do at the next place.
unfoldable pub follow_of : (pc : ℕ) → (P : Point) → Point
unfolding beside is_something element members countᵖ reserved parted
follow_of pc (finish ms) = beyond
follow_of pc (reserve P) = P
follow_of pc beyond = beyond
follow_of pc (else_place ms q m ts) = point ms q m m (end_or ∷ ts)
follow_of pc (end_place ms ts) = beside ms ts
follow_of pc (cutting ms j ts) = beside ms ts
follow_of pc (point ms wildcard m k ts) = elim (is_something m) [ true ↦ beside ms ts | false ↦ point ms wildcard something k ts ]
follow_of pc (point ms (variable x) m k ts) = elim (is_something m) [ true ↦ beside (ms ++ (k ∷ [])) ts | false ↦ point ms (variable x) something k ts ]
follow_of pc (point ms nil m k ts) = beside ms ts
follow_of pc (point ms (constant c) m k ts) = beside ms ts
follow_of pc (point ms (value x c) m k ts) = beside ms ts
follow_of pc (point ms (cons p q) m k ts) = point ms p (element m) (element m) (item q m pc ∷ ts)
follow_of pc (point ms (join p q) m k ts) = point ms p m m (item q m pc ∷ ts)
follow_of pc (point ms (tuple ps) m k ts) = reserved (countᵖ ps - 2) (parted ms ps (members m) pc ts)
follow_of pc (point ms (both p q) m k ts) = point ms p m m (item q m pc ∷ ts)
follow_of pc (point ms (either p q) m k ts) = point ms p m m (or_else q m ∷ ts)
follow_of pc (point ms (never p) m k ts) = point ms p m m (stop pc ∷ ts)

unfoldable pub point_at : Matcher → Pattern → ℕ → Point
unfolding follow_of
point_at m p zero = point [] p m m []
point_at m p (suc pc) = follow_of pc (point_at m p pc)

unfoldable pub program : Matcher → Pattern → ℕ → Instr
unfolding instr_of point_at
program m p pc = instr_of pc (point_at m p pc)
