-- Where a tag that a word can have stands. Assumes nothing.
use mathlib.Core.Path.{◌≡◌, refl}
use Prim.Native.Nat.{ℕ, zero, suc, ◌<◌}
use mathlib.Core.List.{List, [], ◌∷◌}
use lib.ListN.{length, get_or}
use native.Mathlib.Omega.{arith}
use lib.IntN.{ℤ}
use Rattle.words.specs.Words.{tag_at}

-- Within the list the default does not matter
pub get_d_any : {A : Type 0} (l : List A) (i : ℕ) (d e : A) → i < length l → get_or l i d ≡ get_or l i e
get_d_any [] i d e h = absurd (omega arith)
get_d_any (a ∷ l) zero d e h = refl
get_d_any (a ∷ l) (suc i) d e h = get_d_any l i d e (omega arith)

-- A tag that a word can have stands within the list
pub inside : (s : List ℤ) (at : ℕ) → tag_at s at < 2147483648 → at < length s
unfolding tag_at
inside [] at h = absurd (omega arith)
inside (w ∷ ws) zero h = omega arith
inside (w ∷ ws) (suc i) h = let r = inside ws i h in omega arith

pub within : (s : List ℤ) (at t : ℕ) → t ≡ tag_at s at → t < 2147483648 → at < length s
within s at t e h = inside s at (rw (← e) h)
