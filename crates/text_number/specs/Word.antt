-- Document 01, section 9: the words and the limits that a number of the trial program's input writes.
use Rattle.std.specs.Prelude.{ℕ, List, leb, ℤ, pos, negsuc, Option, Some, None}
use Rattle.rules.specs.Numbers.{in_range}
use Rattle.text_number.specs.Decimal.{◌then◌, given, number}

-- A number from -2,147,483,648 to 2,147,483,647.
unfoldable pub word : List ℕ → Option ℤ
unfolding ◌then◌ given number in_range
word bs = number bs then λ z. given (in_range z) (Some z)

-- A number from 0 to a limit.
unfoldable pub at_most : (limit : ℕ) → ℤ → Option ℕ
unfolding given
at_most limit (pos n) = given (leb n limit) (Some n)
at_most limit (negsuc n) = None
