-- What the code of marks asks, each in the words of the place where it is asked. Assumes nothing.
use mathlib.Core.Path.{◌≡◌, ◌∙◌}
use Prim.Native.Nat.{ℕ, ◌+◌, ◌-◌, ◌*◌, ◌%◌, ◌^◌, ◌<◌, ◌≤◌}
use native.Mathlib.Nat.{one-mul}
use native.Mathlib.Omega.{arith}
use lib.Pow.{pow_pos, shl_exact}
use lib.Dec.{lit<}
use lib.Bits.{bit_and}
use lib.Count.{count_trailing_zeros}
use borrow.Author.Rules.{rules}
use mir.Syntax.{w64}
use mir.Val.{Fits}
use Rattle.words.specs.Marks.{clear, Longer}
use Rattle.words.proofs.marks.Places.{low_digit, clear_add, mask_clear, mask_low}

pub shl_one : (k : ℕ) → k < 64 → (1 * 2 ^ k) % 2 ^ 64 ≡ 2 ^ k
shl_one k h = shl_exact {a = 1} 1 k 64 (lit< tt) (omega arith) ∙ one-mul (2 ^ k)

pub shl_pos : (k : ℕ) → k < 64 → 1 ≤ (1 * 2 ^ k) % 2 ^ 64
shl_pos k h = rw (shl_one k h) (pow_pos k)

pub full_shl : (k : ℕ) → k < 64 → (1 * 2 ^ k) % 2 ^ 64 - 1 ≡ 2 ^ k - 1
full_shl k h = rw (shl_one k h)

pub full_64 : (n : ℕ) → n ≤ 64 → 64 ≤ n → 18446744073709551615 ≡ 2 ^ n - 1
full_64 n h l = let z : n ≡ 64 = omega arith in rw z

pub without_is : (k m a : ℕ) → k < 64 → m < 2 ^ 64 → a ≡ 2 ^ k → bit_and m ((2 ^ 64 - 1) - a) ≡ clear k m
without_is k m a h l e = rw e (mask_clear 64 k m h l)

pub mask_is : (m : ℕ) → 0 < m → m < 2 ^ 64 → bit_and m (m - 1) ≡ clear (count_trailing_zeros 64 m) m
mask_is m h l = mask_low 64 m h l

module _ (f b r : ℕ) (h : 0 < b) (l : b < 2 ^ 64) (e : r ≡ clear (count_trailing_zeros 64 b) b) where
  pub longer_le : r ≤ b
  longer_le = omega (arith, e, clear_add (count_trailing_zeros 64 b) b (low_digit 64 b h l))

  pub longer_fits : f + b < 2 ^ 64 → Fits w64 (f + (b - r))
  longer_fits z = record { fits = omega arith }

  pub longer_is : Longer f b (f + (b - r)) r
  longer_is =
      let c = clear_add (count_trailing_zeros 64 b) b (low_digit 64 b h l) in
      record { front = omega (arith, e); back = e; sum = omega (arith, longer_le) }

pub ruleset longer_rules = (longer_le, longer_fits, longer_is, rules)

pub ruleset own_rules = (shl_one, shl_pos, full_shl, full_64, without_is, mask_is, rules)
