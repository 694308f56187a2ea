-- A word as an unsigned tag: numbers that no table has stand for a negative word and for a word that is not there. Whether the sum of tag 3 is a word.
use Rattle.std.specs.Prelude.{ℕ, Bool, false, List, get_or, ℤ, pos, negsuc}
use Rattle.std.proofs.Math.Option.{Option, none, some}
use Rattle.rules.specs.Numbers.{same}

-- A word's number; of a negative word a number that no word has.
abbrev pub tag_z : ℤ → ℕ
tag_z (pos n) = n
tag_z (negsuc n) = 2147483648

-- The tag at an index; past the end a number that no word has.
unfoldable pub tag_at : List ℤ → ℕ → ℕ
tag_at s at = tag_z (get_or s at (negsuc 0))

-- The arrays of a program and the tables of its slots have an entry for each line; 256 words make at most 641 lines.
abbrev pub entries : ℕ
entries = 650

-- Whether a sum, if there is one, is z.
unfoldable pub same_to : Option ℤ → ℤ → Bool
same_to none z = false
same_to (some y) z = same y z
