-- Document 01, section 9: numbers printed as decimal text. A text is a list of bytes.
use Rattle.std.specs.Prelude.{ℕ, zero, suc, ◌+◌, ◌/◌, ◌%◌, cond, List, [], ◌∷◌, ◌++◌, ltb, ℤ, pos, negsuc}
use Rattle.text_number.specs.Decimal.{newline, space, minus}

-- The last `most` digits of n, and no zeros in front.
unfoldable pub last_digits : (most : ℕ) → ℕ → List ℕ
last_digits zero n = []
last_digits (suc most) n = cond (ltb n 10) ((48 + n) ∷ []) (last_digits most (n / 10) ++ ((48 + n % 10) ∷ []))

-- No number of 64 bits has more than twenty digits.
unfoldable pub decimal : ℕ → List ℕ
unfolding last_digits
decimal = last_digits 20

unfoldable pub numeral : ℤ → List ℕ
unfolding decimal
numeral (pos n) = decimal n
numeral (negsuc n) = minus ∷ decimal (suc n)

-- Numbers parted by single spaces, and a newline.
unfoldable pub further_of : List ℤ → List ℕ
unfolding numeral
further_of [] = newline ∷ []
further_of (z ∷ zs) = space ∷ (numeral z ++ further_of zs)

unfoldable pub line_of : List ℤ → List ℕ
unfolding numeral further_of
line_of [] = newline ∷ []
line_of (z ∷ zs) = numeral z ++ further_of zs
