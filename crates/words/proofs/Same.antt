-- Two signed numbers of one width are the same where their bits are. Assumes nothing.
use mathlib.Core.Path.{◌≡◌, refl, sym}
use mathlib.Core.Bool.{Bool, true, false}
use Prim.Native.Nat.{ℕ, suc, ◌+◌, ◌-◌, ◌^◌, ◌<◌}
use native.Mathlib.Omega.{arith}
use borrow.Author.Tests.{eq-eqb, ne_eqb, eqb-true, eqb-false}
use lib.Dec.{eqb}
use lib.IntN.{ℤ, pos, negsuc}
use lib.Signed.{mag}
use mir.Syntax.{Width, w32, w64}
use mir.Val.{of_z, bits, hbits}
use Rattle.rules.specs.Numbers.{same}

eqb_alike : (x y a b : ℕ) → (x ≡ y → a ≡ b) → (a ≡ b → x ≡ y) → eqb x y ≡ eqb a b
eqb_alike x y a b f g = go (eqb x y) refl
  where
    go : (t : Bool) → eqb x y ≡ t → t ≡ eqb a b
    go true e = sym (eq-eqb a b (f (eqb-true x y e)))
    go false e = sym (ne_eqb a b (λ z. eqb-false x y e (g z)))

module _ (w : Width) (k : ℕ) (e : 2 ^ bits w ≡ k + k) where
  same_width : (x y : ℤ) → mag x < k → mag y < k → eqb (of_z w x) (of_z w y) ≡ same x y
  unfolding same
  same_width (pos a) (pos b) f g = refl
  same_width (pos a) (negsuc b) f g = ne_eqb a (2 ^ bits w - suc b) (λ z. omega arith)
  same_width (negsuc a) (pos b) f g = ne_eqb (2 ^ bits w - suc a) b (λ z. omega arith)
  same_width (negsuc a) (negsuc b) f g = eqb_alike (2 ^ bits w - suc a) (2 ^ bits w - suc b) a b (λ z. omega arith) (λ z. omega arith)

pub same_bits : (x y : ℤ) → mag x < 2 ^ hbits w32 → mag y < 2 ^ hbits w32 → eqb (of_z w32 x) (of_z w32 y) ≡ same x y
same_bits = same_width w32 (2 ^ 31) refl

pub same_64 : (x y : ℤ) → mag x < 2 ^ hbits w64 → mag y < 2 ^ hbits w64 → eqb (of_z w64 x) (of_z w64 y) ≡ same x y
same_64 = same_width w64 (2 ^ 63) refl
