-- The matcher at an index by its tag; and a matcher's words are read back as it. Assumes nothing.
use mathlib.Core.Path.{◌≡◌, refl, sym, ◌∙◌, ap, ap₂}
use mathlib.Core.List.{List, ◌∷◌, ◌++◌, append_assoc}
use Prim.Native.Nat.{ℕ, zero, suc, ◌+◌, ◌<◌, ◌≤◌}
use native.Mathlib.Nat.{zero-add}
use native.Mathlib.Omega.{arith}
use borrow.Author.Tests.{le-ltb}
use lib.ListN.{length, get_or, drop, get_or-eq_default, length-append}
use lib.Seq.{drop-drop, drop-append_seam, get_or-drop}
use lib.IntN.{ℤ, pos, negsuc}
use Rattle.rules.specs.Forms.{Matcher, something, integer, list, multiset, tuple_of, Matchers, no_matchers, ◌▸ᵐ◌, countᵐ}
use Rattle.forms.specs.Written.{matcher_words, matcher_words_all, IsWidth, Widthsᵐ, WidthsAllᵐ}
use Rattle.words.specs.Words.{tag_z, tag_at}
use Rattle.words.proofs.Signed.{within}
use Rattle.matchers.proofs.Ends.{spans_none}
use Rattle.matchers.specs.Places.{width_of, width_at, spans, matcher_end, in_arow, matcher_by, matcher_for, matcher_at, matchers_at}

-- ---- By the tag. The depth does not matter.

by_high : (k : ℕ) (m : Matcher) (ks : Matchers) → 4 < k → matcher_by k m ks ≡ something
by_high zero m ks h = absurd (omega arith)
by_high (suc zero) m ks h = absurd (omega arith)
by_high (suc (suc zero)) m ks h = absurd (omega arith)
by_high (suc (suc (suc zero))) m ks h = absurd (omega arith)
by_high (suc (suc (suc (suc zero)))) m ks h = absurd (omega arith)
by_high (suc (suc (suc (suc (suc k))))) m ks h = refl

beyond : (ms : List ℤ) (i : ℕ) (m : Matcher) (ks : Matchers) → length ms ≤ i → matcher_by (tag_at ms i) m ks ≡ something
unfolding tag_at
beyond ms i m ks h = by_high (tag_at ms i) m ks (omega (arith, ap tag_z (get_or-eq_default ms (negsuc 0) h)))

row_same : (m k : ℕ → Matcher) (ms : List ℤ) (n at low : ℕ) → low ≤ at → ((j : ℕ) → low ≤ j → m j ≡ k j) → in_arow m ms n at ≡ in_arow k ms n at
unfolding in_arow matcher_end
row_same m k ms zero at low h e = refl
row_same m k ms (suc n) at low h e = ap₂ (λ (x : Matcher) (y : Matchers). x ▸ᵐ y) (e at h) (row_same m k ms n (matcher_end ms at) low (omega arith) e)

depth_any : (ms : List ℤ) (d c i : ℕ) → length ms ≤ d + i → length ms ≤ c + i → matcher_for d ms i ≡ matcher_for c ms i
unfolding matcher_for
depth_any ms zero zero i h l = refl
depth_any ms zero (suc c) i h l = sym (beyond ms i _ _ (omega arith))
depth_any ms (suc d) zero i h l = beyond ms i _ _ (omega arith)
depth_any ms (suc d) (suc c) i h l = ap₂ (matcher_by (tag_at ms i))
    (depth_any ms d c (i + 1) (omega arith) (omega arith))
    (row_same (λ j. matcher_for d ms j) (λ j. matcher_for c ms j) ms (width_at ms (i + 1)) (i + 2) (i + 1) (omega arith)
    (λ j u. depth_any ms d c j (omega arith) (omega arith)))

pub matcher_by_lem : (ms : List ℤ) (i : ℕ) → matcher_at ms i ≡ matcher_by (tag_at ms i) (matcher_at ms (i + 1)) (matchers_at ms (width_at ms (i + 1)) (i + 2))
unfolding matcher_at matcher_for matchers_at
matcher_by_lem ms i = depth_any ms (length ms) (suc (length ms)) i (omega arith) (omega arith)

module _ (ms : List ℤ) (i k : ℕ) (e : k ≡ tag_at ms i) where
  by_k : matcher_at ms i ≡ matcher_by k (matcher_at ms (i + 1)) (matchers_at ms (width_at ms (i + 1)) (i + 2))
  by_k = rw e (matcher_by_lem ms i)

  pub matcher_0 : k ≡ 0 → matcher_at ms i ≡ something
  matcher_0 z = by_k ∙ rw z

  pub matcher_1 : k ≡ 1 → matcher_at ms i ≡ integer
  matcher_1 z = by_k ∙ rw z

  pub matcher_2 : k ≡ 2 → matcher_at ms i ≡ list (matcher_at ms (i + 1))
  matcher_2 z = by_k ∙ rw z

  pub matcher_3 : k ≡ 3 → matcher_at ms i ≡ multiset (matcher_at ms (i + 1))
  matcher_3 z = by_k ∙ rw z

  pub matcher_4 : k ≡ 4 → matcher_at ms i ≡ tuple_of (matchers_at ms (width_at ms (i + 1)) (i + 2))
  matcher_4 z = by_k ∙ rw z

  pub matcher_high : 4 < k → matcher_at ms i ≡ something
  matcher_high h = by_k ∙ by_high k _ _ h

  -- a tag within the words
  pub matcher_inside : k ≤ 4 → i < length ms
  matcher_inside h = within ms i k e (omega arith)

-- n + 1 matchers: the one at the index, and n from its end on.
pub matchers_more : (ms : List ℤ) (n at : ℕ) → matchers_at ms (suc n) at ≡ matcher_at ms at ▸ᵐ matchers_at ms n (matcher_end ms at)
unfolding matchers_at in_arow
matchers_more ms n at = refl

pub matchers_none : (ms : List ℤ) (at : ℕ) → matchers_at ms 0 at ≡ no_matchers
unfolding matchers_at in_arow
matchers_none ms at = refl

-- ---- A matcher's words.

width_of_lem : (k : ℕ) → IsWidth k → width_of k ≡ k
unfolding width_of IsWidth
width_of_lem k w = rw (le-ltb 4 k w.1)

one_more : (ws : List ℤ) (n : ℕ) → 1 + spans ws (0 + n) ≡ 1 + spans ws n
one_more ws n = rw (zero-add n)

-- n + 1 matchers over the words of one are n after it.
mutual
  unfolding spans matcher_words matcher_words_all Widthsᵐ countᵐ

  pub spans_words : (m : Matcher) → Widthsᵐ m → (l : List ℤ) (n : ℕ) → spans (matcher_words m ++ l) (suc n) ≡ length (matcher_words m) + spans l n
  spans_words something w l n = one_more l n
  spans_words integer w l n = one_more l n
  spans_words (list m) w l n = let e : 1 + n ≡ suc n = omega arith in rw e (omega (arith, spans_words m w l n))
  spans_words (multiset m) w l n = let e : 1 + n ≡ suc n = omega arith in rw e (omega (arith, spans_words m w l n))
  spans_words (tuple_of ms) w l n = rw (width_of_lem (countᵐ ms) w.0) (omega (arith, spans_all ms w.1 l n))

  pub spans_all : (ms : Matchers) → WidthsAllᵐ ms → (l : List ℤ) (n : ℕ) → spans (matcher_words_all ms ++ l) (countᵐ ms + n) ≡ length (matcher_words_all ms) + spans l n
  spans_all no_matchers w l n = rw (zero-add n, zero-add (spans l n))
  spans_all (m ▸ᵐ ms) w l n =
      let e : suc (countᵐ ms) + n ≡ suc (countᵐ ms + n) = omega arith in
      rw (append_assoc, e, spans_words m w.0 (matcher_words_all ms ++ l) (countᵐ ms + n), spans_all ms w.1 l n, length-append (matcher_words m) (matcher_words_all ms)) (omega arith)

module _ (ms : List ℤ) (i : ℕ) (m : Matcher) (w : Widthsᵐ m) (l : List ℤ) (e : drop i ms ≡ matcher_words m ++ l) where
  pub end_words : matcher_end ms i ≡ i + length (matcher_words m)
  unfolding matcher_end
  end_words = rw (e, spans_words m w l 0) (omega (arith, spans_none l))

  pub end_drop : drop (matcher_end ms i) ms ≡ l
  end_drop = rw end_words (sym (drop-drop (length (matcher_words m)) i ms) ∙ ap (drop (length (matcher_words m))) e ∙ drop-append_seam (matcher_words m) l)

head_at : (ms : List ℤ) (i : ℕ) (t : ℤ) (l : List ℤ) → drop i ms ≡ t ∷ l → tag_z t ≡ tag_at ms i
unfolding tag_at
head_at ms i t l e =
    let z : i + 0 ≡ i = omega arith in
    ap (λ (k : List ℤ). tag_z (get_or k 0 (negsuc 0))) (sym e) ∙ ap tag_z (get_or-drop i ms 0 (negsuc 0) ∙ ap (λ (j : ℕ). get_or ms j (negsuc 0)) z)

tail_at : (ms : List ℤ) (i : ℕ) (t : ℤ) (l : List ℤ) → drop i ms ≡ t ∷ l → drop (i + 1) ms ≡ l
tail_at ms i t l e = sym (drop-drop 1 i ms) ∙ ap (drop 1) e

tail_two : (ms : List ℤ) (i : ℕ) (t : ℤ) (l : List ℤ) → drop (i + 1) ms ≡ t ∷ l → drop (i + 2) ms ≡ l
tail_two ms i t l e = let z : i + 1 + 1 ≡ i + 2 = omega arith in rw (← z) (tail_at ms (i + 1) t l e)

width_word : (ms : List ℤ) (i k : ℕ) (l : List ℤ) → IsWidth k → drop i ms ≡ pos k ∷ l → width_at ms i ≡ k
unfolding width_at
width_word ms i k l w e = rw (← head_at ms i (pos k) l e) (width_of_lem k w)

-- Where a matcher's words stand, it is that matcher.
mutual
  unfolding matcher_words matcher_words_all Widthsᵐ countᵐ

  pub matcher_at_lem : (m : Matcher) → Widthsᵐ m → (ms : List ℤ) (i : ℕ) (l : List ℤ) → drop i ms ≡ matcher_words m ++ l → matcher_at ms i ≡ m
  matcher_at_lem something w ms i l e = matcher_0 ms i 0 (head_at ms i (pos 0) l e) refl
  matcher_at_lem integer w ms i l e = matcher_1 ms i 1 (head_at ms i (pos 1) l e) refl
  matcher_at_lem (list m) w ms i l e =
      matcher_2 ms i 2 (head_at ms i (pos 2) (matcher_words m ++ l) e) refl ∙ ap list (matcher_at_lem m w ms (i + 1) l (tail_at ms i (pos 2) (matcher_words m ++ l) e))
  matcher_at_lem (multiset m) w ms i l e =
      matcher_3 ms i 3 (head_at ms i (pos 3) (matcher_words m ++ l) e) refl ∙ ap multiset (matcher_at_lem m w ms (i + 1) l (tail_at ms i (pos 3) (matcher_words m ++ l) e))
  matcher_at_lem (tuple_of ks) w ms i l e =
      let t = tail_at ms i (pos 4) (pos (countᵐ ks) ∷ matcher_words_all ks ++ l) e in
      matcher_4 ms i 4 (head_at ms i (pos 4) (pos (countᵐ ks) ∷ matcher_words_all ks ++ l) e) refl
      ∙ ap tuple_of (ap (λ (n : ℕ). matchers_at ms n (i + 2)) (width_word ms (i + 1) (countᵐ ks) (matcher_words_all ks ++ l) w.0 t)
      ∙ matchers_at_lem ks w.1 ms (i + 2) l (tail_two ms i (pos (countᵐ ks)) (matcher_words_all ks ++ l) t))

  pub matchers_at_lem : (ks : Matchers) → WidthsAllᵐ ks → (ms : List ℤ) (i : ℕ) (l : List ℤ) → drop i ms ≡ matcher_words_all ks ++ l → matchers_at ms (countᵐ ks) i ≡ ks
  matchers_at_lem no_matchers w ms i l e = matchers_none ms i
  matchers_at_lem (k ▸ᵐ ks) w ms i l e =
      let d : drop i ms ≡ matcher_words k ++ (matcher_words_all ks ++ l) = e ∙ append_assoc (matcher_words k) (matcher_words_all ks) l in
      matchers_more ms (countᵐ ks) i
      ∙ ap₂ (λ (x : Matcher) (y : Matchers). x ▸ᵐ y) (matcher_at_lem k w.0 ms i (matcher_words_all ks ++ l) d)
      (matchers_at_lem ks w.1 ms (matcher_end ms i) l (end_drop ms i k w.0 (matcher_words_all ks ++ l) d))
