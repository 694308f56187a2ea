-- The laws of marks over plain numbers: a place cleared, the lowest place, the places in order, how many. Assumes nothing.
use mathlib.Core.Path.{◌≡◌, refl, ◌∙◌}
use mathlib.Core.List.{[], ◌∷◌}
use Prim.Native.Nat.{ℕ, zero, suc, ◌+◌, ◌-◌, ◌*◌, ◌/◌, ◌%◌, ◌^◌, ◌<◌, ◌≤◌}
use native.Mathlib.Nat.{pow-suc}
use native.Mathlib.Omega.{arith}
use native.Mathlib.Decide.{dec_le}
use lib.ListN.{length, length-map}
use lib.Pow.{pow_pos, pow_mono, pow-lt}
use lib.Bits.{bit_and, and_step, and_self, and_mask}
use native.Mathlib.Nat.{mod-eq_of_lt}
use lib.Count.{ones, ones_step, count_trailing_zeros}
use Rattle.words.specs.Marks.{digit, clear, positions, Among}

-- A number by its lowest digit.
pub by_digit_lem : (P : Type 0) (m : ℕ) → (m % 2 ≡ 0 → P) → (m % 2 ≡ 1 → P) → P
by_digit_lem P m f g = go (m % 2) refl
  where
    go : (d : ℕ) → m % 2 ≡ d → P
    go zero e = f e
    go (suc zero) e = g e
    go (suc (suc d)) e = absurd (omega arith)

pub half_lt : (k m : ℕ) → m < 2 ^ suc k → m / 2 < 2 ^ k
half_lt k m h = let p = pow-suc 2 k in omega arith

pub half_pos : (m : ℕ) → 0 < m → m % 2 ≡ 0 → 0 < m / 2
half_pos m h e = omega arith

pub double_half : (x d : ℕ) → d < 2 → (x * 2 + d) / 2 ≡ x
double_half x d h = omega arith

pub double_digit : (x d : ℕ) → d < 2 → (x * 2 + d) % 2 ≡ d
double_digit x d h = omega arith

pub digit_2 : (m : ℕ) → m % 2 < 2
digit_2 m = omega arith

-- A number cleared at its lowest place, digit by digit.
pub even_half : (m : ℕ) → m / 2 * 2 / 2 ≡ m / 2
even_half m = omega arith

pub even_digit : (m : ℕ) → m / 2 * 2 % 2 ≡ 0
even_digit m = omega arith

-- ---- A place cleared.

-- A place that is marked can be taken off by a subtraction, and that clears it.
pub digit_le : (k m : ℕ) → digit k m ≡ 1 → 2 ^ k ≤ m
unfolding digit
digit_le zero m e = omega arith
digit_le (suc k) m e = let r = digit_le k (m / 2) e in let p = pow-suc 2 k in omega arith

pub clear_is : (k m : ℕ) → digit k m ≡ 1 → m - 2 ^ k ≡ clear k m
unfolding digit clear
clear_is zero m e = omega arith
clear_is (suc k) m e =
    let r = clear_is k (m / 2) e in let p = pow-suc 2 k in let l = digit_le k (m / 2) e in omega arith

pub clear_add : (k m : ℕ) → digit k m ≡ 1 → clear k m + 2 ^ k ≡ m
clear_add k m e = omega (arith, clear_is k m e, digit_le k m e)

pub clear_le : (k m : ℕ) → clear k m ≤ m
unfolding clear
clear_le zero m = omega arith
clear_le (suc k) m = let r = clear_le k (m / 2) in omega arith

-- The marks of a collection stay marks of it.
pub clear_lt : (n k m : ℕ) → m < 2 ^ n → clear k m < 2 ^ n
clear_lt n k m h = omega (arith, clear_le k m)

pow_below : (k n : ℕ) → 2 ^ k < 2 ^ n → k < n
pow_below k n h = go (dec_le n k)
  where
    go : Dec (n ≤ k) → k < n
    go (yes y) = let p = pow_mono y in absurd (omega arith)
    go (no y) = omega arith

-- A place that is marked is one of the elements that there are.
pub digit_below : (k n m : ℕ) → digit k m ≡ 1 → m < 2 ^ n → k < n
digit_below k n m e h = pow_below k n (let p = digit_le k m e in omega arith)

-- Cleared by a mask: all ones of w digits but the one at k.
pub mask_clear : (w k m : ℕ) → k < w → m < 2 ^ w → bit_and m ((2 ^ w - 1) - 2 ^ k) ≡ clear k m
unfolding clear
mask_clear zero k m h l = absurd (omega arith)
mask_clear (suc w) zero m h l =
    let p : ((2 ^ suc w - 1) - 1) / 2 ≡ 2 ^ w - 1 = omega (arith, pow-suc 2 w, pow_pos w) in
    let q : ((2 ^ suc w - 1) - 1) % 2 ≡ 0 = omega (arith, pow-suc 2 w, pow_pos w) in
    rw (and_step m ((2 ^ suc w - 1) - 1), p, q, and_mask (m / 2) w, mod-eq_of_lt (half_lt w m l)) (omega arith)
mask_clear (suc w) (suc k) m h l =
    let b : 2 ^ k ≤ 2 ^ w - 1 = omega (arith, pow_mono {i = suc k} {j = w} (omega arith), pow-suc 2 k, pow_pos k) in
    let p : ((2 ^ suc w - 1) - 2 ^ suc k) / 2 ≡ (2 ^ w - 1) - 2 ^ k = omega (arith, pow-suc 2 w, pow-suc 2 k, pow_pos w) in
    let q : ((2 ^ suc w - 1) - 2 ^ suc k) % 2 ≡ 1 = omega (arith, pow-suc 2 w, pow-suc 2 k, pow_pos w) in
    rw (and_step m ((2 ^ suc w - 1) - 2 ^ suc k), p, q, mask_clear w k (m / 2) (omega arith) (half_lt w m l)) (omega arith)

-- ---- The lowest place: the trailing zeros.

pub low_even : (k m : ℕ) → m % 2 ≡ 0 → count_trailing_zeros (suc k) m ≡ suc (count_trailing_zeros k (m / 2))
unfolding count_trailing_zeros
low_even k m e = rw e

pub low_odd : (k m : ℕ) → m % 2 ≡ 1 → count_trailing_zeros (suc k) m ≡ 0
unfolding count_trailing_zeros
low_odd k m e = rw e

pub low_lt : (k m : ℕ) → 0 < m → m < 2 ^ k → count_trailing_zeros k m < k
low_lt zero m h l = absurd (omega arith)
low_lt (suc k) m h l = by_digit_lem _ m
    (λ e. rw (low_even k m e) (let r = low_lt k (m / 2) (half_pos m h e) (half_lt k m l) in omega arith))
    (λ e. rw (low_odd k m e) (omega arith))

pub low_digit : (k m : ℕ) → 0 < m → m < 2 ^ k → digit (count_trailing_zeros k m) m ≡ 1
unfolding digit
low_digit zero m h l = absurd (omega arith)
low_digit (suc k) m h l = by_digit_lem _ m
    (λ e. rw (low_even k m e) (low_digit k (m / 2) (half_pos m h e) (half_lt k m l)))
    (λ e. rw (low_odd k m e) e)

-- Cleared by the mask of the number before.
pub mask_low : (k m : ℕ) → 0 < m → m < 2 ^ k → bit_and m (m - 1) ≡ clear (count_trailing_zeros k m) m
unfolding clear
mask_low zero m h l = absurd (omega arith)
mask_low (suc k) m h l = by_digit_lem _ m
    (λ e.
    let p : (m - 1) / 2 ≡ m / 2 - 1 = omega arith in
    let q : (m - 1) % 2 ≡ 1 = omega arith in
    let x : 0 < m / 2 = half_pos m h e in
    rw (low_even k m e, and_step m (m - 1), p, q, e, mask_low k (m / 2) x (half_lt k m l)))
    (λ e.
    let p : (m - 1) / 2 ≡ m / 2 = omega arith in
    let q : (m - 1) % 2 ≡ 0 = omega arith in
    rw (low_odd k m e, and_step m (m - 1), p, q, e, and_self (m / 2)) (omega arith))

-- ---- The places in order.

pub positions_none : (k : ℕ) → positions k 0 ≡ []
unfolding positions
positions_none zero = refl
positions_none (suc k) = rw (positions_none k)

pub positions_low : (k m : ℕ) → 0 < m → m < 2 ^ k → positions k m ≡ count_trailing_zeros k m ∷ positions k (clear (count_trailing_zeros k m) m)
unfolding positions clear
positions_low zero m h l = absurd (omega arith)
positions_low (suc k) m h l = by_digit_lem _ m
    (λ e.
    let t = count_trailing_zeros k (m / 2) in
    rw (low_even k m e, double_digit (clear t (m / 2)) (m % 2) (digit_2 m), double_half (clear t (m / 2)) (m % 2) (digit_2 m), e, positions_low k (m / 2) (half_pos m h e) (half_lt k m l)))
    (λ e. rw (low_odd k m e, e, even_digit m, even_half m))

-- One mark alone.
low_one : (w k : ℕ) → k < w → count_trailing_zeros w (2 ^ k) ≡ k
low_one zero k h = absurd (omega arith)
low_one (suc w) zero h = low_odd w 1 refl
low_one (suc w) (suc k) h =
    let p : 2 ^ suc k % 2 ≡ 0 = omega (arith, pow-suc 2 k) in
    let q : 2 ^ suc k / 2 ≡ 2 ^ k = omega (arith, pow-suc 2 k) in
    low_even w (2 ^ suc k) p ∙ rw (q, low_one w k (omega arith))

pub positions_one : (w k : ℕ) → k < w → positions w (2 ^ k) ≡ k ∷ []
positions_one w k h =
    let l : 2 ^ k < 2 ^ w = pow-lt h in
    let d : digit k (2 ^ k) ≡ 1 = rw (low_one w k h) at (low_digit w (2 ^ k) (pow_pos k) l) in
    let c : clear k (2 ^ k) ≡ 0 = omega (arith, clear_is k (2 ^ k) d) in
    positions_low w (2 ^ k) (pow_pos k) l ∙ rw (low_one w k h, c, positions_none w)

pub count_positions : (k m : ℕ) → m < 2 ^ k → length (positions k m) ≡ ones m
unfolding positions ones
count_positions zero m h = let z : m ≡ 0 = omega arith in rw z
count_positions (suc k) m h = by_digit_lem _ m
    (λ e. rw (ones_step m, e, length-map (positions k (m / 2)) suc, count_positions k (m / 2) (half_lt k m h)) (omega arith))
    (λ e. rw (ones_step m, e, length-map (positions k (m / 2)) suc, count_positions k (m / 2) (half_lt k m h)) (omega arith))

pub ones_low : (k m : ℕ) → 0 < m → m < 2 ^ k → ones (clear (count_trailing_zeros k m) m) < ones m
ones_low k m h l =
    let t = count_trailing_zeros k m in
    let e = rw (positions_low k m h l) at (count_positions k m l) in
    omega (arith, e, count_positions k (clear t m) (clear_lt k t m l))

-- ---- All of n.

pub full_odd : (n : ℕ) → (2 ^ suc n - 1) % 2 ≡ 1
full_odd n = let p = pow-suc 2 n in let q = pow_pos n in omega arith

pub full_half : (n : ℕ) → (2 ^ suc n - 1) / 2 ≡ 2 ^ n - 1
full_half n = let p = pow-suc 2 n in let q = pow_pos n in omega arith

-- ---- Choices that are left are among the marks.

pub digit_clear : (k j m : ℕ) → digit k (clear j m) ≡ 1 → digit k m ≡ 1
unfolding digit clear
digit_clear zero zero m e = absurd (omega arith)
digit_clear zero (suc j) m e = omega arith
digit_clear (suc k) zero m e = rw even_half at e
digit_clear (suc k) (suc j) m e = digit_clear k j (m / 2) (rw (double_half (clear j (m / 2)) (m % 2) (digit_2 m)) at e)

pub among_refl : (m : ℕ) → Among m m
among_refl m k e = e

pub among_clear : (c m j : ℕ) → Among c m → Among (clear j c) m
among_clear c m j h k e = h k (digit_clear k j c e)
