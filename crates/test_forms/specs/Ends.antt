-- Where a form ends or the place of its first word at fault, forms one after the other, and numbers in a range.
use Rattle.std.specs.Prelude.{ℕ, zero, suc, Bool, false, cond, List, length, ltb, leb, ℤ, Result, Ok, Err}
use Rattle.rules.specs.Reading.{Verdict, ok, fault, Got}

-- Where what was read ends.
unfoldable pub end_of : {A : Type 0} → Verdict (Got A) → Result ℕ ℕ
end_of (ok g) = Ok g.next
end_of (fault i) = Err i

-- A fault ends the work, else it goes on where the form ends.
unfoldable pub onward : Result ℕ ℕ → (ℕ → Result ℕ ℕ) → Result ℕ ℕ
onward (Ok e) k = k e
onward (Err i) k = Err i

-- n forms, one after the other.
unfoldable pub in_row : (ℕ → Result ℕ ℕ) → (n at : ℕ) → Result ℕ ℕ
unfolding onward
in_row f zero at = Ok at
in_row f (suc n) at = onward (f at) (in_row f n)

-- The end of a form that is to be the whole slice: nothing is left over, or the first word that is.
unfoldable pub whole_at : List ℤ → Result ℕ ℕ → Result (Unit {0}) ℕ
whole_at s (Ok e) = cond (ltb e (length s)) (Err e) (Ok tt)
whole_at s (Err i) = Err i

unfoldable pub within : ℕ → ℕ → ℕ → Bool
within low n high = cond (ltb n low) false (leb n high)
