-- Matchers of the same shape as the code finds it: each premise is a fact that a place of the code has at hand. Assumes nothing.
use mathlib.Core.Path.{◌≡◌, refl, sym, ◌∙◌}
use mathlib.Core.Bool.{Bool, true, false, not, cond, ◌&&◌}
use mathlib.Core.List.{List}
use Prim.Native.Nat.{ℕ, suc, ◌+◌, ◌-◌, ◌<◌, ◌≤◌}
use native.Mathlib.Omega.{arith}
use borrow.Author.Rules.{rules}
use borrow.Author.Tests.{eqb-true, leb-true}
use lib.Dec.{eqb, leb, ltb}
use lib.ListN.{length}
use lib.IntN.{ℤ}
use Rattle.words.specs.Words.{tag_at}
use Rattle.words.proofs.Signed as signed
use Rattle.test_forms.specs.Ends.{within}
use Rattle.matchers.specs.Places.{matcher_end}
use Rattle.test_fit.specs.Shapes.{width_fits, tag_fits, word_fits, width_next, shapes_p, shapes}

-- ---- The words of a matcher, one by one.

places : (m : List ℤ) (n k i a j b : ℕ) → n ≡ k → i ≡ a → j ≡ b → shapes_p m n false i j ≡ shapes_p m k false a b
places m n k i a j b p q r = rw (p, q, r)

pub enter : (m : List ℤ) (i j e : ℕ) → e ≡ matcher_end m i → shapes m i j ≡ shapes_p m (e - i - 0) false (i + 0) (j + 0)
unfolding shapes
enter m i j e q = places m (matcher_end m i - i) (e - i - 0) i (i + 0) j (j + 0) (omega arith) (omega arith) (omega arith)

pub ends_after : (m : List ℤ) (i e : ℕ) → e ≡ matcher_end m i → i ≤ e
unfolding matcher_end
ends_after m i e q = omega arith

-- After a tuple's tag comes its width.
pub next_of_tag : (f : Bool) (x : ℕ) (w : Bool) → f ≡ false → w ≡ eqb x 4 → w ≡ width_next f x
unfolding width_next
next_of_tag f x w h e = rw h e

pub next_of_width : (f : Bool) (x : ℕ) (w : Bool) → f ≡ true → w ≡ not f → w ≡ width_next f x
unfolding width_next
next_of_width f x w h e = rw h (e ∙ rw h)

-- After k words of n.
module _ (m : List ℤ) (i j n k : ℕ) (f v : Bool) (inv : v ≡ shapes_p m (n - k) f (i + k) (j + k)) where
  pub ret_true : n ≤ k → true ≡ v
  unfolding shapes_p
  ret_true h = let z : n - k ≡ 0 = omega arith in sym (inv ∙ rw z)

  module _ (h : k < n) (x y : ℕ) (p : x ≡ tag_at m (i + k)) (q : y ≡ tag_at m (j + k)) (g : Bool) (r : g ≡ word_fits f x y) where
    by_word : v ≡ (g && shapes_p m (n - (k + 1)) (width_next f x) (i + (k + 1)) (j + (k + 1)))
    unfolding shapes_p
    by_word =
        let z : n - k ≡ suc (n - (k + 1)) = omega arith in
        let s : suc (i + k) ≡ i + (k + 1) = omega arith in
        let t : suc (j + k) ≡ j + (k + 1) = omega arith in
        inv ∙ rw (r, p, q, z, s, t)

    pub ret_false : g ≡ false → false ≡ v
    ret_false n = sym (by_word ∙ rw n)

    pub turn : g ≡ true → (w : Bool) → w ≡ width_next f x → v ≡ shapes_p m (n - (k + 1)) w (i + (k + 1)) (j + (k + 1))
    turn n w s = by_word ∙ rw (n, s)

-- A word that fits another is a tag or a width.
pub most : (low n high : ℕ) → within low n high ≡ true → n ≤ high
unfolding within
most low n high = go (ltb n low)
  where
    go : (b : Bool) → cond b false (leb n high) ≡ true → n ≤ high
    go true h = let z : ◌≡◌ {A = ℕ} 0 1 = cc in absurd (omega arith)
    go false h = leb-true n high h

pub same_most : (x y low high : ℕ) → cond (eqb x y) (within low x high) false ≡ true → y ≤ high
same_most x y low high = go (eqb x y) refl
  where
    go : (b : Bool) → eqb x y ≡ b → cond b (within low x high) false ≡ true → y ≤ high
    go true e h = let k = eqb-true x y e in let l = most low x high h in omega arith
    go false e h = let z : ◌≡◌ {A = ℕ} 0 1 = cc in absurd (omega arith)

fits_most : (f : Bool) (x y : ℕ) → word_fits f x y ≡ true → y ≤ 4
unfolding word_fits width_fits tag_fits
fits_most true x y h = same_most x y 2 4 h
fits_most false x y h = go (within 2 x 3) h
  where
    go : (b : Bool) → cond b (within 2 y 3) (cond (eqb x y) (within 1 x 4) false) ≡ true → y ≤ 4
    go true k = let l = most 2 y 3 k in omega arith
    go false k = same_most x y 1 4 k

pub next_b : (m : List ℤ) (b x y : ℕ) (f g : Bool) → y ≡ tag_at m b → g ≡ word_fits f x y → g ≡ true → b + 1 ≤ length m
next_b m b x y f g q r n =
    let k = fits_most f x y (sym r ∙ n) in
    let w = signed.within m b y q (omega arith) in
    omega arith

pub ruleset own_rules = (enter, ends_after, ret_true, ret_false, turn, next_b, rules)
