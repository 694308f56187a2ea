-- Marks as two words' bits, an index as a word, and three words written. Assumes nothing.
use mathlib.Core.Path.{◌≡◌}
use mathlib.Core.List.{List, [], ◌∷◌}
use Prim.Native.Nat.{ℕ, ◌+◌, ◌<◌, ◌≤◌}
use native.Mathlib.Numerals.{add-one, add-two}
use native.Mathlib.Omega.{arith}
use borrow.Author.Rules.{rules}
use lib.ListN.{length, set, length-set}
use lib.IntN.{ℤ, pos}
use mir.Syntax.{w32}
use mir.Val.{SFits, to_z, of_z}
use mir.Facts.{to_z-of_z}
use Rattle.value_places.specs.Held.{put}

pub index_fits : (at : ℕ) → at < 1024 → SFits w32 (pos at)
index_fits at h = record { sfits = omega arith }

pub index_is : (at : ℕ) → at < 1024 → to_z w32 at ≡ pos at
index_is at h = to_z-of_z (index_fits at h)

pub ruleset index_rules = (index_fits, index_is, rules)

pub three_out : (room : List ℤ) (from : ℕ) (a b c : ℤ) → SFits w32 a → SFits w32 b → SFits w32 c
    → set (set (set room from (to_z w32 (of_z w32 a))) (from + 1) (to_z w32 (of_z w32 b))) (from + 2) (to_z w32 (of_z w32 c)) ≡ put room from (a ∷ b ∷ c ∷ [])
unfolding put
three_out room from a b c f g h = rw (to_z-of_z f, to_z-of_z g, to_z-of_z h, add-one from, add-two from)

pub three_in : (room : List ℤ) (from : ℕ) (x : ℤ) → from + 3 ≤ length room → from + 1 < length (set room from x)
three_in room from x h = rw (length-set room from x) (omega arith)

pub three_last : (room : List ℤ) (from : ℕ) (x y : ℤ) → from + 3 ≤ length room → from + 2 < length (set (set room from x) (from + 1) y)
three_last room from x y h = rw (length-set (set room from x) (from + 1) y, length-set room from x) (omega arith)

pub three_first : (room : List ℤ) (from : ℕ) → from + 3 ≤ length room → from < length room
three_first room from h = omega arith

-- ---- The origin of a held value.
