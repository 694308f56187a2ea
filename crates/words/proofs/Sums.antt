-- The sum of tag 3 through 64 bits: the test is that of the sum in the signed range. Assumes nothing.
use mathlib.Core.Path.{◌≡◌, refl, ◌∙◌}
use mathlib.Core.Bool.{Bool, true, false, cond}
use Prim.Native.Nat.{ℕ, suc, ◌+◌, ◌-◌, ◌^◌, ◌<◌}
use native.Mathlib.Omega.{arith}
use borrow.Author.Rules.{rules}
use borrow.Author.Tests.{ltb-false, ne_eqb}
use lib.Dec.{eqb, ltb}
use lib.IntN.{ℤ, pos, negsuc, ◌+ℤ◌, sub_ℕ}
use lib.Signed.{mag}
use mir.Syntax.{w32, w64}
use mir.Val.{SFits, to_z, of_z}
use mir.Facts.{to_z-of_z, sfits_widen}
use Rattle.rules.specs.Numbers.{same, in_range, plus, plus_inside, plus_outside}
use Rattle.words.specs.Words.{same_to}
use Rattle.words.proofs.Same.{same_64}

sfits_64 : {z : ℤ} → SFits w32 z → SFits w64 z
sfits_64 f = sfits_widen tt f

mag_sub : (a b k : ℕ) → a < k → b < k → mag (sub_ℕ a b) < k
mag_sub a b k h l = go (ltb a b) refl
  where
    go : (t : Bool) → ltb a b ≡ t → mag (cond t (negsuc (b - suc a)) (pos (a - b))) < k
    go true e = omega arith
    go false e = omega arith

mag_add : (a b : ℤ) (k : ℕ) → mag a < k → mag b < k → mag (a +ℤ b) < k + k
mag_add (pos a) (pos b) k h l = omega arith
mag_add (pos a) (negsuc b) k h l = let r = mag_sub a (suc b) (suc k) (omega arith) (omega arith) in omega arith
mag_add (negsuc a) (pos b) k h l = let r = mag_sub b (suc a) (suc k) (omega arith) (omega arith) in omega arith
mag_add (negsuc a) (negsuc b) k h l = omega arith

-- ---- The test of the code.

-- No number outside the range is a word.
outside : (y z : ℤ) → in_range y ≡ false → mag z < 2 ^ 31 → same y z ≡ false
unfolding in_range same
outside (pos a) (pos b) e h = let l = ltb-false a (2 ^ 31) e in ne_eqb a b (λ q. omega arith)
outside (pos a) (negsuc b) e h = refl
outside (negsuc a) (pos b) e h = refl
outside (negsuc a) (negsuc b) e h = let l = ltb-false a (2 ^ 31) e in ne_eqb a b (λ q. omega arith)

by_range : (x c z : ℤ) → mag z < 2 ^ 31 → same (x +ℤ c) z ≡ same_to (plus x c) z
unfolding same_to
by_range x c z h = go (in_range (x +ℤ c)) refl
  where
    go : (b : Bool) → in_range (x +ℤ c) ≡ b → same (x +ℤ c) z ≡ same_to (plus x c) z
    go true e = rw (plus_inside x c e)
    go false e = rw (plus_outside x c e) (outside (x +ℤ c) z e h)

-- ---- The law as the code asks it: the machine reads each number back from its bits.

module _ (x c z r₁ r₂ r₃ : ℤ) (f : SFits w32 x) (g : SFits w32 c) (h : SFits w32 z) (p : r₁ ≡ to_z w32 (of_z w32 x)) (q : r₂ ≡ to_z w32 (of_z w32 c))
    (u : r₃ ≡ to_z w32 (of_z w32 z)) where
  one : to_z w64 (of_z w64 r₁) ≡ x
  one = rw (p, to_z-of_z f) (to_z-of_z (sfits_64 f))

  two : to_z w64 (of_z w64 r₂) ≡ c
  two = rw (q, to_z-of_z g) (to_z-of_z (sfits_64 g))

  pub ret_total : (r : ℤ) → r ≡ to_z w64 (of_z w64 r₁) +ℤ to_z w64 (of_z w64 r₂) → eqb (of_z w64 r) (of_z w64 r₃) ≡ same_to (plus x c) z
  ret_total r i =
      let m = mag_add x c (2 ^ 31) f.sfits g.sfits in
      let n = h.sfits in
      rw (i, one, two, u, to_z-of_z h) (same_64 (x +ℤ c) z (omega arith) (omega arith) ∙ by_range x c z n)

pub ruleset total_rules = (ret_total, rules)
