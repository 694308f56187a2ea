-- Numbers in bytes: "eight bytes each, low byte first".
use Rattle.std.specs.Prelude.{ℕ, zero, suc, ◌/◌, ◌%◌, List, [], ◌∷◌, ◌++◌, length, drop}
use Rattle.std.proofs.lemmas.List.Edits.{sets}

-- n bytes of a number, low byte first.
unfoldable pub digits : ℕ → ℕ → List ℕ
digits zero x = []
digits (suc n) x = x % 256 ∷ digits n (x / 256)

-- Eight bytes for each number.
unfoldable pub bytes_of : List ℕ → List ℕ
unfolding digits
bytes_of [] = []
bytes_of (x ∷ xs) = digits 8 x ++ bytes_of xs

-- Bytes written into a slice from an index on, the others as they were.
unfoldable pub put : List ℕ → ℕ → List ℕ → List ℕ
put l i bytes = sets l i bytes

-- Bytes over the start of a slice, its further bytes untouched.
unfoldable pub over : List ℕ → List ℕ → List ℕ
over bytes slice = bytes ++ drop (length bytes) slice
