-- What marks hold of a collection: how many elements, and the first of them. Assumes nothing.
use mathlib.Core.Path.{◌≡◌, refl, ap}
use mathlib.Core.Bool.{false}
use Prim.Native.Nat.{ℕ, zero, suc, ◌-◌, ◌/◌, ◌%◌, ◌^◌, ◌<◌}
use native.Mathlib.Omega.{arith}
use lib.Dec.{eqb, eqb-suc-zero}
use lib.Count.{ones, ones_step, count_trailing_zeros}
use Rattle.rules.specs.Forms.{collection, Values, empty, ◌▸◌, count}
use Rattle.rules.specs.Equality.{is_empty}
use Rattle.words.specs.Marks.{clear}
use Rattle.words.specs.Marked.{nth, marked, held}
use Rattle.words.proofs.marks.Places.{by_digit_lem, half_lt, half_pos, double_half, double_digit, digit_2, even_half, even_digit, low_even, low_odd, full_odd, full_half}

pub marked_none : (vs : Values) → marked vs 0 ≡ empty
unfolding marked
marked_none empty = refl
marked_none (v ▸ vs) = marked_none vs

pub marked_all : (vs : Values) → marked vs (2 ^ count vs - 1) ≡ vs
unfolding marked count
marked_all empty = refl
marked_all (v ▸ vs) = rw (full_odd (count vs), full_half (count vs), marked_all vs)

pub held_all : (vs : Values) → held (collection vs) (2 ^ count vs - 1) ≡ collection vs
unfolding held
held_all vs = ap collection (marked_all vs)

pub count_marked : (vs : Values) (m : ℕ) → m < 2 ^ count vs → count (marked vs m) ≡ ones m
unfolding marked count ones
count_marked empty m h = let z : m ≡ 0 = omega arith in rw z
count_marked (v ▸ vs) m h = by_digit_lem _ m
    (λ e. rw (ones_step m, e, count_marked vs (m / 2) (half_lt (count vs) m h)) (omega arith))
    (λ e. rw (ones_step m, e, count_marked vs (m / 2) (half_lt (count vs) m h)) (omega arith))

positive : (x : ℕ) → 0 < x → eqb x 0 ≡ false
positive zero h = absurd (omega arith)
positive (suc x) h = eqb-suc-zero x

pub empty_marked : (vs : Values) (m : ℕ) → m < 2 ^ count vs → is_empty (collection (marked vs m)) ≡ eqb m 0
unfolding marked count is_empty
empty_marked empty m h = let z : m ≡ 0 = omega arith in rw z
empty_marked (v ▸ vs) zero h = rw (marked_none vs)
empty_marked (v ▸ vs) (suc n) h = by_digit_lem _ (suc n)
    (λ e. rw (e, empty_marked vs (suc n / 2) (half_lt (count vs) (suc n) h), eqb-suc-zero n) (positive (suc n / 2) (half_pos (suc n) (omega arith) e)))
    (λ e. rw (e, eqb-suc-zero n))

-- The first element marked, and the rest.
pub marked_low : (vs : Values) (k m : ℕ) → 0 < m → m < 2 ^ count vs → m < 2 ^ k
    → marked vs m ≡ nth vs (count_trailing_zeros k m) ▸ marked vs (clear (count_trailing_zeros k m) m)
unfolding marked count nth clear
marked_low empty k m p h l = absurd (omega arith)
marked_low (v ▸ vs) zero m p h l = absurd (omega arith)
marked_low (v ▸ vs) (suc k) m p h l = by_digit_lem _ m
    (λ e.
    let t = count_trailing_zeros k (m / 2) in
    rw (low_even k m e, double_digit (clear t (m / 2)) (m % 2) (digit_2 m), double_half (clear t (m / 2)) (m % 2) (digit_2 m), e)
    (marked_low vs k (m / 2) (half_pos m p e) (half_lt (count vs) m h) (half_lt k m l)))
    (λ e. rw (low_odd k m e, e, even_digit m, even_half m))
