-- The first entries of an array as a stack, the last on top. Assumes nothing.
use mathlib.Core.Path.{◌≡◌, refl, ◌∙◌}
use mathlib.Core.List.{List, [], ◌∷◌, ◌++◌}
use Prim.Native.Nat.{ℕ, zero, suc, ◌+◌, ◌<◌, ◌≤◌}
use native.Mathlib.Numerals.{add-one}
use native.Mathlib.Omega.{arith}
use lib.ListN.{length, get_or, take, set, length-set}
use lib.Seq.{get_or-set_same, get_or-set_other, take-suc-set}
use lib.IntN.{ℤ}
use Rattle.matchers.specs.Places.{matcher_end}
use Rattle.test_fit.specs.Fitting.{members_at, pushed}

unfoldable pub stack_of : List ℕ → ℕ → List ℕ
stack_of a zero = []
stack_of a (suc n) = get_or a n 0 ∷ stack_of a n

-- A store at or above the top is not seen.
stack_set : (a : List ℕ) (i v n : ℕ) → n ≤ i → stack_of (set a i v) n ≡ stack_of a n
unfolding stack_of
stack_set a i v zero h = refl
stack_set a i v (suc n) h = rw (get_or-set_other a i n v 0 (λ e. omega arith), stack_set a i v n (omega arith))

pub stack_one : (a : List ℕ) (n x : ℕ) → n < length a → stack_of (set a n x) (n + 1) ≡ x ∷ stack_of a n
unfolding stack_of
stack_one a n x h = rw (add-one n, get_or-set_same a n x 0 h, stack_set a n x n (omega arith))

pub take_more : (l : List ℕ) (n x : ℕ) → n < length l → take (n + 1) (set l n x) ≡ take n l ++ (x ∷ [])
take_more l n x h = rw (add-one n) (take-suc-set l n x h)

-- ---- The members of a tuple.

module _ (m : List ℤ) (n : ℕ) where
  pub length_pushed : (a : List ℕ) (k i : ℕ) → length (pushed m a n k i) ≡ length a
  unfolding pushed
  length_pushed a zero i = refl
  length_pushed a (suc k) i = length_pushed (set a (n + k) i) k (matcher_end m i) ∙ simp length-set

  -- What stands above them is not touched.
  pushed_above : (a : List ℕ) (k i x : ℕ) → n + k ≤ x → get_or (pushed m a n k i) x 0 ≡ get_or a x 0
  unfolding pushed
  pushed_above a zero i x h = refl
  pushed_above a (suc k) i x h = pushed_above (set a (n + k) i) k (matcher_end m i) x (omega arith) ∙ get_or-set_other a (n + k) x i 0 (λ e. omega arith)

  pub stack_pushed : (a : List ℕ) (k i : ℕ) → n + k ≤ length a → stack_of (pushed m a n k i) (n + k) ≡ members_at m k i ++ stack_of a n
  unfolding pushed members_at stack_of
  stack_pushed a zero i h = let e : n + 0 ≡ n = omega arith in rw e
  stack_pushed a (suc k) i h =
      let e : n + suc k ≡ suc (n + k) = omega arith in
      let l : n + k ≤ length (set a (n + k) i) = simp length-set (omega arith) in
      let g : get_or (pushed m (set a (n + k) i) n k (matcher_end m i)) (n + k) 0 ≡ i =
      pushed_above (set a (n + k) i) k (matcher_end m i) (n + k) (omega arith) ∙ get_or-set_same a (n + k) i 0 (omega arith) in
      rw (e, g, stack_pushed (set a (n + k) i) k (matcher_end m i) l, stack_set a (n + k) i n (omega arith))
