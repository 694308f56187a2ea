-- Document 01, sections 1 and 4, and document 02, No. 2: words are signed 32-bit numbers; when two are equal, and the sum that tag 3 takes.
use Rattle.std.specs.Prelude.{ℕ, ◌^◌, ◌≡◌, Bool, true, false, ℤ, pos, negsuc, ◌+ℤ◌, eqb, ltb}
use Rattle.std.proofs.Math.Option.{Option, none, some}

-- Equality of two numbers, as a test. (`negsuc n` is -(n + 1).)
unfoldable pub same : ℤ → ℤ → Bool
same (pos a) (pos b) = eqb a b
same (pos a) (negsuc b) = false
same (negsuc a) (pos b) = false
same (negsuc a) (negsuc b) = eqb a b

-- The signed 32-bit range, -2^31 to 2^31 - 1.
unfoldable pub in_range : ℤ → Bool
in_range (pos n) = ltb n (2 ^ 31)
in_range (negsuc n) = ltb n (2 ^ 31)

-- The sum, if it is in the range: "a sum outside the signed 32-bit range equals nothing".
unfoldable pub plus : ℤ → ℤ → Option ℤ
unfolding in_range
plus x c = elim (in_range (x +ℤ c)) [ true ↦ some (x +ℤ c) | false ↦ none ]

-- The two laws of the sum.
pub plus_inside : (x c : ℤ) → in_range (x +ℤ c) ≡ true → plus x c ≡ some (x +ℤ c)
unfolding plus
plus_inside x c h = rw (h, plus)

pub plus_outside : (x c : ℤ) → in_range (x +ℤ c) ≡ false → plus x c ≡ none
unfolding plus
plus_outside x c h = rw (h, plus)
