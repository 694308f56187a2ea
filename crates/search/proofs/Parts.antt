-- Entries written one after the other into a table: what stands where.
use Prim.Native.Nat.{ℕ, zero, suc, ◌+◌, ◌≤◌, ◌<◌}
use native.Mathlib.Omega.{arith}
use mathlib.Core.Path.{◌≡◌, refl, ◌∙◌}
use mathlib.Core.Bool.{Bool, true, false}
use mathlib.Core.List.{List}
use lib.ListN.{length, get_or, set, length-set}
use lib.Seq.{get_or-set_same, get_or-set_other}
use lib.Dec.{ltb}
use borrow.Author.Tests.{ltb-true, ltb-false}
use Rattle.search_atom.specs.Leaves.{stored}

-- A place before, among or after those from a up to b.
pub by_range : (P : Type 0) (a b j : ℕ) → (j < a → P) → (a ≤ j → j < b → P) → (b ≤ j → P) → P
by_range P a b j f g h = go (ltb j a) (ltb j b) (ltb-true j a) (ltb-false j a) (ltb-true j b) (ltb-false j b)
  where
    go : (x y : Bool) → (x ≡ true → j < a) → (x ≡ false → a ≤ j) → (y ≡ true → j < b) → (y ≡ false → b ≤ j) → P
    go true y t u v w = f (t refl)
    go false true t u v w = g (u refl) (v refl)
    go false false t u v w = h (w refl)

module _ (f : ℕ → ℕ) where
  pub stored_length : (j i n : ℕ) (l : List ℕ) → length (stored f j i n l) ≡ length l
  unfolding stored
  stored_length j i zero l = refl
  stored_length j i (suc n) l = stored_length (j + 1) (i + 1) n (set l j (f i)) ∙ length-set l j (f i)

  -- Before those written every entry is what it was, and after them.
  pub stored_before : (j i n : ℕ) (l : List ℕ) (k : ℕ) → k < j → get_or (stored f j i n l) k 0 ≡ get_or l k 0
  unfolding stored
  stored_before j i zero l k h = refl
  stored_before j i (suc n) l k h = stored_before (j + 1) (i + 1) n (set l j (f i)) k (omega arith) ∙ get_or-set_other l j k (f i) 0 (λ z. omega arith)

  pub stored_after : (j i n : ℕ) (l : List ℕ) (k : ℕ) → j + n ≤ k → get_or (stored f j i n l) k 0 ≡ get_or l k 0
  unfolding stored
  stored_after j i zero l k h = refl
  stored_after j i (suc n) l k h = stored_after (j + 1) (i + 1) n (set l j (f i)) k (omega arith) ∙ get_or-set_other l j k (f i) 0 (λ z. omega arith)

  -- Each reads back.
  pub stored_at : (j i n : ℕ) (l : List ℕ) (k : ℕ) → k < n → j + n ≤ length l → get_or (stored f j i n l) (j + k) 0 ≡ f (i + k)
  unfolding stored
  stored_at j i zero l k h m = absurd (omega arith)
  stored_at j i (suc n) l zero h m =
      let z : j + 0 ≡ j = omega arith in
      let y : i + 0 ≡ i = omega arith in
      rw (z, y) (stored_before (j + 1) (i + 1) n (set l j (f i)) j (omega arith) ∙ get_or-set_same l j (f i) 0 (omega arith))
  stored_at j i (suc n) l (suc k) h m =
      let z : j + suc k ≡ j + 1 + k = omega arith in
      let y : i + suc k ≡ i + 1 + k = omega arith in
      rw (z, y) (stored_at (j + 1) (i + 1) n (set l j (f i)) k (omega arith) (let e = length-set l j (f i) in omega arith))
