-- Document 01, section 9: rows, each on its own line. Match writes rows one after the other; here they are cut apart again.
use Rattle.std.specs.Prelude.{ℕ, zero, suc, ◌+◌, cond, List, [], ◌∷◌, ◌++◌, take, drop, eqb, ℤ, pos, negsuc}
use Rattle.rules.specs.Numbers.{same}
use Rattle.text_print.specs.Decimal.{line_of}

-- How many values come in a value's own words: 0 x is an integer and has none; 1 n is a collection and 2 n a tuple of n values.
unfoldable pub nat_of : ℤ → ℕ
nat_of (pos n) = n
nat_of (negsuc n) = 0

unfoldable pub inside : (tag count : ℤ) → ℕ
unfolding nat_of same
inside t c = cond (same t (pos 0)) 0 (nat_of c)

-- How many words the next values have, in target form.
unfoldable pub extent : (values : ℕ) → List ℤ → ℕ
unfolding inside
extent values [] = 0
extent values (t ∷ []) = 0
extent zero (t ∷ c ∷ ws) = 0
extent (suc k) (t ∷ c ∷ ws) = 2 + extent (k + inside t c) ws

-- A row is so many values.
unfoldable pub cut_rows : (values rows : ℕ) → List ℤ → List (List ℤ)
unfolding extent
cut_rows values zero ws = []
cut_rows values (suc rows) ws = take (extent values ws) ws ∷ cut_rows values rows (drop (extent values ws) ws)

-- How many rows without words stand at the end: from the first on, all are such.
unfoldable pub empty_rows : (values rows : ℕ) → List ℤ → ℕ
unfolding extent
empty_rows values zero ws = 0
empty_rows values (suc rows) ws = cond (eqb (extent values ws) 0) (suc rows) (empty_rows values rows (drop (extent values ws) ws))

unfoldable pub lines : List (List ℤ) → List ℕ
unfolding line_of
lines [] = []
lines (r ∷ rs) = line_of r ++ lines rs
