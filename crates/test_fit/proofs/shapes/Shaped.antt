-- Comparing the words of two matchers finds whether something does not occur in the first and they are of the same shape. Assumes nothing.
use mathlib.Core.Path.{◌≡◌, refl, ◌∙◌, ap}
use mathlib.Core.Bool.{Bool, true, false, ◌&&◌, cond}
use mathlib.Core.List.{List, ◌++◌}
use Prim.Native.Nat.{ℕ, zero, suc, ◌+◌, ◌-◌, ◌<◌}
use native.Mathlib.Numerals.{add-one}
use native.Mathlib.Omega.{arith}
use borrow.Author.Tests.{eqb-true, eqb-false}
use lib.Dec.{eqb}
use lib.ListN.{length, length-append}
use lib.IntN.{ℤ}
use Rattle.std.proofs.Math.Bool.{and-false, and-true}
use Rattle.rules.specs.Forms.{Matcher, something, integer, list, multiset, tuple_of, Matchers, no_matchers, ◌▸ᵐ◌, countᵐ}
use Rattle.rules.specs.Fit.{without_something, all_without_something, same_shape, same_shapes, is_integer, of_collection, of_tuple}
use Rattle.forms.specs.Written.{matcher_words, matcher_words_all, Widthsᵐ}
use Rattle.words.specs.Words.{tag_at}
use Rattle.test_forms.specs.Ends.{within}
use Rattle.test_forms.proofs.Turns.{is_width}
use Rattle.test_fit.specs.Shapes.{width_fits, tag_fits, word_fits, width_next, shapes_p, shapes}
use Rattle.test_fit.proofs.shapes.Standing.{At, AtAll, tag_of, at_tag, at_end, at_list, at_multiset, at_width, at_parts, at_first, at_others}

-- ---- Tests.

four : (a b c d e : Bool) → ((a && b) && ((c && d) && e)) ≡ (((a && c) && (b && d)) && e)
four true true c d e = refl
four true false true d e = refl
four true false false d e = refl
four false b c d e = refl

no_something : (y : ℕ) → tag_fits 0 y ≡ false
unfolding tag_fits within
no_something y = go (eqb 0 y)
  where
    go : (b : Bool) → cond b false false ≡ false
    go true = refl
    go false = refl

-- Tuples of unequal widths are not of the same shape.
unequal : (ks ls : Matchers) → (countᵐ ks ≡ countᵐ ls → ⊥) → same_shapes ks ls ≡ false
unfolding countᵐ same_shapes
unequal no_matchers no_matchers h = absurd (h refl)
unequal no_matchers (l ▸ᵐ ls) h = refl
unequal (k ▸ᵐ ks) no_matchers h = refl
unequal (k ▸ᵐ ks) (l ▸ᵐ ls) h = rw (unequal ks ls (λ e. h (ap suc e))) (and-false (same_shape k l))

module _ (s : List ℤ) where
  -- The words of k and of l are compared, and then n more.
  Compares : Matcher → Matcher → Type 0
  Compares k l = (a b n all : ℕ) → all ≡ length (matcher_words k) + n → At s a k → At s b l
      → shapes_p s all false a b
      ≡ ((without_something k && same_shape k l) && shapes_p s n false (a + length (matcher_words k)) (b + length (matcher_words l)))

  on : (n : ℕ) {a a' b b' : ℕ} → a ≡ a' → b ≡ b' → shapes_p s n false a b ≡ shapes_p s n false a' b'
  on n p q = rw (p, q)

  -- The first words are of different shapes.
  parted : (all a b x y : ℕ) → 0 < all → tag_at s a ≡ x → tag_at s b ≡ y → tag_fits x y ≡ false → shapes_p s all false a b ≡ false
  unfolding shapes_p word_fits
  parted zero a b x y h p q e = absurd (omega arith)
  parted (suc n) a b x y h p q e = rw (p, q, e)

  integers : (all a b n : ℕ) → all ≡ 1 + n → tag_at s a ≡ 1 → tag_at s b ≡ 1 → shapes_p s all false a b ≡ shapes_p s n false (a + 1) (b + 1)
  unfolding shapes_p word_fits width_next tag_fits within
  integers all a b n z p q = let w : all ≡ suc n = omega arith in rw (w, p, q, add-one a, add-one b)

  -- A list or a multiset, and another.
  inside : (k l : Matcher) → Compares k l → (a b n all x y : ℕ) → all ≡ suc (length (matcher_words k)) + n → tag_at s a ≡ x → tag_at s b ≡ y
      → tag_fits x y ≡ true → eqb x 4 ≡ false → At s (a + 1) k → At s (b + 1) l
      → shapes_p s all false a b
      ≡ ((without_something k && same_shape k l) && shapes_p s n false (a + suc (length (matcher_words k))) (b + suc (length (matcher_words l))))
  unfolding shapes_p word_fits width_next Compares
  inside k l c a b n zero x y z p q e f g h = absurd (omega arith)
  inside k l c a b n (suc all) x y z p q e f g h =
      let u : a + 1 + length (matcher_words k) ≡ a + suc (length (matcher_words k)) = omega arith in
      let v : b + 1 + length (matcher_words l) ≡ b + suc (length (matcher_words l)) = omega arith in
      rw (p, q, e, f, ← add-one a, ← add-one b, ← u, ← v) (c (a + 1) (b + 1) n all (omega arith) g h)

  -- A tuple, and another.
  module _ (ks ls : Matchers) (a b n : ℕ) (p : At s a (tuple_of ks)) (q : At s b (tuple_of ls))
      (parts : countᵐ ks ≡ countᵐ ls → shapes_p s (length (matcher_words_all ks) + n) false (a + 2) (b + 2)
      ≡ ((all_without_something ks && same_shapes ks ls) && shapes_p s n false (a + 2 + length (matcher_words_all ks)) (b + 2 + length (matcher_words_all ls)))) where
    tuples : (all : ℕ) → all ≡ suc (suc (length (matcher_words_all ks))) + n → shapes_p s all false a b
        ≡ ((all_without_something ks && same_shapes ks ls) && shapes_p s n false (a + suc (suc (length (matcher_words_all ks)))) (b + suc (suc (length (matcher_words_all ls)))))
    unfolding shapes_p word_fits width_next width_fits tag_fits within tag_of Widthsᵐ
    tuples all z =
        let w : all ≡ suc (suc (length (matcher_words_all ks) + n)) = omega arith in
        let u : a + 2 + length (matcher_words_all ks) ≡ a + suc (suc (length (matcher_words_all ks))) = omega arith in
        let v : b + 2 + length (matcher_words_all ls) ≡ b + suc (suc (length (matcher_words_all ls))) = omega arith in
        rw (
          w,
          at_tag s a (tuple_of ks) p,
          at_tag s b (tuple_of ls) q,
          ← add-one a,
          ← add-one b,
          at_width s a ks p,
          at_width s b ls q,
          ← u,
          ← v,
        )
        (go (eqb (countᵐ ks) (countᵐ ls)) refl)
      where
        go : (e : Bool) → eqb (countᵐ ks) (countᵐ ls) ≡ e
            → (cond e (within 2 (countᵐ ks) 4) false && shapes_p s (length (matcher_words_all ks) + n) false (suc (a + 1)) (suc (b + 1)))
            ≡ ((all_without_something ks && same_shapes ks ls) && shapes_p s n false (a + 2 + length (matcher_words_all ks)) (b + 2 + length (matcher_words_all ls)))
        go true e =
            let x : suc (a + 1) ≡ a + 2 = omega arith in
            let y : suc (b + 1) ≡ b + 2 = omega arith in
            rw (is_width (countᵐ ks) p.wide.0, x, y) (parts (eqb-true (countᵐ ks) (countᵐ ls) e))
        go false e = rw (unequal ks ls (eqb-false (countᵐ ks) (countᵐ ls) e), and-false (all_without_something ks))

  nothing : (a x : Bool) → false ≡ ((a && false) && x)
  nothing true x = refl
  nothing false x = refl

  mutual
    unfolding Compares matcher_words without_something same_shape is_integer of_collection of_tuple tag_of tag_fits within countᵐ

    compared : (k l : Matcher) → Compares k l
    compared something l a b n all z p q = parted all a b 0 _ (omega arith) (at_tag s a something p) refl (no_something (tag_at s b))
    compared integer something a b n all z p q = parted all a b 1 0 (omega arith) (at_tag s a _ p) (at_tag s b _ q) refl
    compared integer integer a b n all z p q = integers all a b n z (at_tag s a _ p) (at_tag s b _ q)
    compared integer (list l) a b n all z p q = parted all a b 1 2 (omega arith) (at_tag s a _ p) (at_tag s b _ q) refl
    compared integer (multiset l) a b n all z p q = parted all a b 1 3 (omega arith) (at_tag s a _ p) (at_tag s b _ q) refl
    compared integer (tuple_of ls) a b n all z p q = parted all a b 1 4 (omega arith) (at_tag s a _ p) (at_tag s b _ q) refl
    compared (list k) something a b n all z p q = parted all a b 2 0 (omega arith) (at_tag s a _ p) (at_tag s b _ q) refl ∙ nothing (without_something k) _
    compared (list k) integer a b n all z p q = parted all a b 2 1 (omega arith) (at_tag s a _ p) (at_tag s b _ q) refl ∙ nothing (without_something k) _
    compared (list k) (list l) a b n all z p q = inside k l (compared k l) a b n all 2 2 z (at_tag s a _ p) (at_tag s b _ q) refl refl (at_list s a k p) (at_list s b l q)
    compared (list k) (multiset l) a b n all z p q = inside k l (compared k l) a b n all 2 3 z (at_tag s a _ p) (at_tag s b _ q) refl refl (at_list s a k p) (at_multiset s b l q)
    compared (list k) (tuple_of ls) a b n all z p q = parted all a b 2 4 (omega arith) (at_tag s a _ p) (at_tag s b _ q) refl ∙ nothing (without_something k) _
    compared (multiset k) something a b n all z p q = parted all a b 3 0 (omega arith) (at_tag s a _ p) (at_tag s b _ q) refl ∙ nothing (without_something k) _
    compared (multiset k) integer a b n all z p q = parted all a b 3 1 (omega arith) (at_tag s a _ p) (at_tag s b _ q) refl ∙ nothing (without_something k) _
    compared (multiset k) (list l) a b n all z p q = inside k l (compared k l) a b n all 3 2 z (at_tag s a _ p) (at_tag s b _ q) refl refl (at_multiset s a k p) (at_list s b l q)
    compared (multiset k) (multiset l) a b n all z p q = inside k l (compared k l) a b n all 3 3 z (at_tag s a _ p) (at_tag s b _ q) refl refl (at_multiset s a k p) (at_multiset s b l q)
    compared (multiset k) (tuple_of ls) a b n all z p q = parted all a b 3 4 (omega arith) (at_tag s a _ p) (at_tag s b _ q) refl ∙ nothing (without_something k) _
    compared (tuple_of ks) something a b n all z p q = parted all a b 4 0 (omega arith) (at_tag s a _ p) (at_tag s b _ q) refl ∙ nothing (all_without_something ks) _
    compared (tuple_of ks) integer a b n all z p q = parted all a b 4 1 (omega arith) (at_tag s a _ p) (at_tag s b _ q) refl ∙ nothing (all_without_something ks) _
    compared (tuple_of ks) (list l) a b n all z p q = parted all a b 4 2 (omega arith) (at_tag s a _ p) (at_tag s b _ q) refl ∙ nothing (all_without_something ks) _
    compared (tuple_of ks) (multiset l) a b n all z p q = parted all a b 4 3 (omega arith) (at_tag s a _ p) (at_tag s b _ q) refl ∙ nothing (all_without_something ks) _
    compared (tuple_of ks) (tuple_of ls) a b n all z p q = tuples ks ls a b n p q (λ e. compared_all ks ls (a + 2) (b + 2) n _ refl (at_parts s a ks p) (at_parts s b ls q) e) all z

    compared_all : (ks ls : Matchers) (a b n all : ℕ) → all ≡ length (matcher_words_all ks) + n → AtAll s a ks → AtAll s b ls → countᵐ ks ≡ countᵐ ls
        → shapes_p s all false a b
        ≡ ((all_without_something ks && same_shapes ks ls) && shapes_p s n false (a + length (matcher_words_all ks)) (b + length (matcher_words_all ls)))
    compared_all no_matchers no_matchers a b n all z p q e = let w : all ≡ n = omega arith in rw w (on n (omega arith) (omega arith))
    compared_all no_matchers (l ▸ᵐ ls) a b n all z p q e = absurd (omega arith)
    compared_all (k ▸ᵐ ks) no_matchers a b n all z p q e = absurd (omega arith)
    compared_all (k ▸ᵐ ks) (l ▸ᵐ ls) a b n all z p q e =
        let u : a + length (matcher_words k) + length (matcher_words_all ks) ≡ a + length (matcher_words k ++ matcher_words_all ks) = omega (arith, length-append (matcher_words k) (matcher_words_all ks)) in
        let v : b + length (matcher_words l) + length (matcher_words_all ls) ≡ b + length (matcher_words l ++ matcher_words_all ls) = omega (arith, length-append (matcher_words l) (matcher_words_all ls)) in
        rw (← u, ← v)
        (compared k l a b (length (matcher_words_all ks) + n) all (omega (arith, length-append (matcher_words k) (matcher_words_all ks))) (at_first s a k ks p) (at_first s b l ls q)
        ∙ ap (λ (x : Bool). (without_something k && same_shape k l) && x)
        (compared_all ks ls (a + length (matcher_words k)) (b + length (matcher_words l)) n _ refl (at_others s a k ks p) (at_others s b l ls q) (omega arith))
        ∙ four (without_something k) (same_shape k l) (all_without_something ks) (same_shapes ks ls) _)

  pub shaped : (k l : Matcher) (i j : ℕ) → At s i k → At s j l → shapes s i j ≡ (without_something k && same_shape k l)
  unfolding shapes shapes_p Compares
  shaped k l i j p q =
      rw (at_end s i k p) (compared k l i j 0 (i + length (matcher_words k) - i) (omega arith) p q ∙ and-true (without_something k && same_shape k l))
