-- Names: variables are numbered from left to right, so the n-th `$` gives its name the number n, and a name is used to the right of its `$`.
use Rattle.std.specs.Prelude.{ℕ, ◌+◌, ◌%◌, Bool, true, false, ◌||◌, List, [], ◌∷◌, length, ltb, ℤ, pos, negsuc}
use Rattle.std.proofs.Math.Option.{Option, none, some}
use Rattle.rules.specs.Limits.{variables_limit}
use Rattle.notation_rules.specs.Tokens.{Cause, unknown_name, bound_twice, used_before, over_limit, Raw, Token, mark, sign, binds, uses, number, wrong}
use Rattle.notation_rules.specs.Letters.{same_word}

-- ---- Reading. The names that stand to the left, the last one first; a name's number is how many stood to its left.
unfoldable pub find : List ℕ → List (List ℕ) → Option ℕ
unfolding same_word
find w [] = none
find w (e ∷ es) = elim (same_word e w) [ true ↦ some (length es) | false ↦ find w es ]

-- Whether the name is bound further on.
unfoldable pub bound_in : List ℕ → List Raw → Bool
unfolding same_word
bound_in w [] = false
bound_in w (mark m ∷ ts) = bound_in w ts
bound_in w (sign s ∷ ts) = bound_in w ts
bound_in w (binds e ∷ ts) = same_word e w || bound_in w ts
bound_in w (uses e ∷ ts) = bound_in w ts
bound_in w (number n ∷ ts) = bound_in w ts
bound_in w (wrong c ∷ ts) = bound_in w ts

unfoldable pub missing : Bool → Cause
missing true = used_before
missing false = unknown_name

-- A name that is bound must be new, and there is room for sixteen; a name that is used must be bound.
unfoldable pub resolve : List (List ℕ) → List Raw → List Token
unfolding find bound_in missing
resolve es [] = []
resolve es (mark m ∷ ts) = mark m ∷ resolve es ts
resolve es (sign s ∷ ts) = sign s ∷ resolve es ts
resolve es (binds w ∷ ts) = elim (find w es) [
  | none ↦ elim (ltb (length es) variables_limit) [ true ↦ binds (pos (length es)) ∷ resolve (w ∷ es) ts | false ↦ wrong over_limit ∷ resolve es ts ]
  | some v ↦ wrong bound_twice ∷ resolve es ts
]
resolve es (uses w ∷ ts) = elim (find w es) [ none ↦ wrong (missing (bound_in w ts)) ∷ resolve es ts | some v ↦ uses (pos v) ∷ resolve es ts ]
resolve es (number n ∷ ts) = number n ∷ resolve es ts
resolve es (wrong c ∷ ts) = wrong c ∷ resolve es ts

-- ---- Writing: variables 0 to 15 are x, y, z, a, b, .. m. No other number is written.
unfoldable pub called : ℤ → List ℕ
called (pos v) = (97 + (v + 23) % 26) ∷ []
called (negsuc v) = []

unfoldable pub call : Token → Raw
unfolding called
call (mark m) = mark m
call (sign s) = sign s
call (binds v) = binds (called v)
call (uses v) = uses (called v)
call (number n) = number n
call (wrong c) = wrong c

unfoldable pub calls : List Token → List Raw
unfolding call
calls [] = []
calls (t ∷ ts) = call t ∷ calls ts
