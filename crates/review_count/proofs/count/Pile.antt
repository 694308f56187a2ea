-- What waits, in its arrays: what a line makes of it, and how large its numbers are. Assumes nothing.
use Prim.Native.Nat.{ℕ, zero, suc, ◌+◌, ◌-◌, ◌*◌, ◌≤◌, ◌<◌}
use native.Mathlib.Omega.{arith}
use native.Mathlib.Nat.{mul-le-mul_left}
use native.Mathlib.Numerals.{add-one}
use native.Mathlib.Decide.{ℕ_discrete}
use mathlib.Core.Path.{◌≡◌, refl}
use mathlib.Core.Bool.{Bool, true, false, cond}
use mathlib.Core.List.{List, [], ◌∷◌}
use borrow.Author.Tests.{ne_eqb}
use lib.Dec.{eqb}
use lib.ListN.{length, set}
use lib.Seq.{get_or-set_same, get_or-set_other}
use Rattle.review_count.specs.Tally.{step_of, factor_of, next_of, aside, top_product, top_taken, rest_of, turn_of, laid_of, taken_of, last_of, waiting_of}
use Rattle.review_count.specs.declared.count.Laid.{Laid}
use Rattle.review_count.specs.Pile.{waiting_at, top_in, depth_by}
use Rattle.review_count.specs.declared.count.Turn.{Turn}
use Rattle.review_count.specs.declared.count.Turn.TheVariants.{Stay, Rest, Anew, Same, Take}

-- ---- The array.

pub top_is : (w : List Laid) (d : ℕ) → (top_product (waiting_at w d) ≡ (top_in w d).product) × (top_taken (waiting_at w d) ≡ (top_in w d).taken)
unfolding top_product top_taken waiting_at top_in
top_is w zero = (refl, refl)
top_is w (suc d) = (refl, refl)

-- A store at or above the top is not seen.
above : (w : List Laid) (i : ℕ) (v : Laid) (d : ℕ) → d ≤ i → waiting_at (set w i v) d ≡ waiting_at w d
unfolding waiting_at
above w i v zero h = refl
above w i v (suc d) h = rw (get_or-set_other w i d v (aside 0 0) (λ e. omega arith), above w i v d (omega arith))

pub push : (w : List Laid) (d : ℕ) (v : Laid) → d < length w → waiting_at (set w d v) (d + 1) ≡ v ∷ waiting_at w d
unfolding waiting_at
push w d v h = rw (add-one d, get_or-set_same w d v (aside 0 0) h, above w d v d (omega arith))

pub waits_after_lem : (r : Turn) (w : List Laid) (d : ℕ) (v : Laid) → d < length w → waiting_at (set w d v) (depth_by r d) ≡ waiting_of r v (waiting_at w d)
unfolding depth_by waiting_of rest_of waiting_at
waits_after_lem Stay w d v h = above w d v d (omega arith)
waits_after_lem Rest w d v h = push w d v h
waits_after_lem Anew w d v h = push w d v h
waits_after_lem Same w d v h = push w d v h
waits_after_lem Take w zero v h = refl
waits_after_lem Take w (suc d) v h = let e : suc d - 1 ≡ d = omega arith in rw e (above w (suc d) v d (omega arith))

pub depth_le : (r : Turn) (d : ℕ) → depth_by r d ≤ d + 1
unfolding depth_by
depth_le Stay d = omega arith
depth_le Rest d = omega arith
depth_le Anew d = omega arith
depth_le Same d = omega arith
depth_le Take d = omega arith

-- ---- The numbers of conses taken grow by at most 1 with a line.

unfoldable pub UpTo : ℕ → List Laid → Type 0
UpTo n [] = Unit {0}
UpTo n (x ∷ w) = (x.taken ≤ n) × UpTo n w

pub up_more : (n : ℕ) (w : List Laid) → UpTo n w → UpTo (n + 1) w
unfolding UpTo
up_more n [] h = tt
up_more n (x ∷ w) h = (omega (arith, h.0), up_more n w h.1)

up_rest : (n : ℕ) (w : List Laid) → UpTo n w → UpTo n (rest_of w)
unfolding UpTo rest_of
up_rest n [] h = tt
up_rest n (x ∷ w) h = h.1

up_top : (n : ℕ) (w : List Laid) → UpTo n w → top_taken w ≤ n
unfolding UpTo top_taken
up_top n [] h = omega arith
up_top n (x ∷ w) h = h.0

pub taken_le : (r : Turn) (n t : ℕ) (w : List Laid) → t ≤ n → UpTo n w → taken_of r t (top_taken w) ≤ n
unfolding taken_of
taken_le Stay n t w h u = h
taken_le Rest n t w h u = omega arith
taken_le Anew n t w h u = omega arith
taken_le Same n t w h u = h
taken_le Take n t w h u = up_top n w u

pub waiting_le : (r : Turn) (n e t : ℕ) (w : List Laid) → t ≤ n → UpTo n w → UpTo (n + 1) (waiting_of r (aside e (laid_of r t)) w)
unfolding waiting_of laid_of UpTo
waiting_le Stay n e t w h u = up_more n w u
waiting_le Rest n e t w h u = (omega arith, up_more n w u)
waiting_le Anew n e t w h u = (omega arith, up_more n w u)
waiting_le Same n e t w h u = (omega arith, up_more n w u)
waiting_le Take n e t w h u = up_more n (rest_of w) (up_rest n w u)

-- ---- The products: all together they grow by at most 65 * 2^32 with a line, since a product that is multiplied or laid aside was added to the count.

unfoldable pub sum_of : List Laid → ℕ
sum_of [] = 0
sum_of (x ∷ w) = x.product + sum_of w

top_rest : (w : List Laid) → top_product w + sum_of (rest_of w) ≡ sum_of w
unfolding top_product rest_of sum_of
top_rest [] = refl
top_rest (x ∷ w) = refl

cond_le : (b : Bool) (x y n : ℕ) → x ≤ n → y ≤ n → cond b x y ≤ n
cond_le true x y n p q = p
cond_le false x y n p q = q

pub step_le : (o e : ℕ) → step_of o e ≤ e
unfolding step_of
step_le o e = cond_le (eqb o 18) 0 _ e (omega arith) (cond_le (eqb o 19) 0 e e (omega arith) (omega arith))

pub factor_le : (most t o : ℕ) → most ≤ 64 → factor_of most t o ≤ 65
unfolding factor_of
factor_le most t o h = cond_le (eqb o 9) (most - t) _ 65 (omega arith) (cond_le (eqb o 10) (most + 1) 1 65 (omega arith) (omega arith))

-- What is laid aside is the product before the line.
kept_le : (r : Turn) (e u : ℕ) (w : List Laid) → last_of r (top_product w) + sum_of (waiting_of r (aside e u) w) ≤ e + sum_of w
unfolding last_of waiting_of sum_of
kept_le Stay e u w = omega arith
kept_le Rest e u w = omega arith
kept_le Anew e u w = omega arith
kept_le Same e u w = omega arith
kept_le Take e u w = omega (arith, top_rest w)

module _ (most e t l u : ℕ) (w : List Laid) (h : most ≤ 64) where
  abbrev Grows : ℕ → Type 0
  Grows o = next_of most o e t l + (last_of (turn_of o) (top_product w) + sum_of (waiting_of (turn_of o) (aside e u) w)) ≤ e + (l + sum_of w) + 279172874240

  other : (o : ℕ) → (o ≡ 17 → ⊥) → (o ≡ 18 → ⊥) → (o ≡ 19 → ⊥) → step_of o e ≤ 4294967295 → Grows o
  unfolding step_of next_of
  other o a b c k =
      let x = ne_eqb o 17 a in
      let y = ne_eqb o 18 b in
      let z = ne_eqb o 19 c in
      let m : e ≤ 4294967295 = rw (y, z) at k in
      let j : e * factor_of most t o ≤ e * 65 = mul-le-mul_left e (factor_le most t o h) in
      let g = kept_le (turn_of o) e u w in
      rw (x, y, z) (omega arith)

  pub grows : (o : ℕ) → step_of o e ≤ 4294967295 → Grows o
  unfolding next_of turn_of last_of waiting_of
  grows o k = by17 (ℕ_discrete o 17)
    where
      by19 : (o ≡ 17 → ⊥) → (o ≡ 18 → ⊥) → Dec (o ≡ 19) → Grows o
      by19 a b (yes q) = let g = top_rest w in rw q (omega arith)
      by19 a b (no c) = other o a b c k

      by18 : (o ≡ 17 → ⊥) → Dec (o ≡ 18) → Grows o
      by18 a (yes q) = let g = kept_le (turn_of 18) e u w in rw q (omega arith)
      by18 a (no b) = by19 a b (ℕ_discrete o 19)

      by17 : Dec (o ≡ 17) → Grows o
      by17 (yes q) = let g = kept_le (turn_of 17) e u w in rw q (omega arith)
      by17 (no a) = by18 a (ℕ_discrete o 18)
