-- Words written one after the other are the words together, and the check of what is written is the block's. Assumes nothing.
use Prim.Native.Nat.{ℕ, zero, suc, ◌+◌, ◌-◌, ◌*◌, ◌/◌, ◌%◌, ◌≤◌}
use native.Mathlib.Omega.{arith}
use mathlib.Core.Path.{◌≡◌, refl, sym, ap, ap₂, ◌∙◌}
use mathlib.Core.List.{List, [], ◌∷◌, ◌++◌, append-nil}
use lib.ListN.{length, drop, set, replicate, length-append, length-replicate}
use lib.Seq.{sets, sets-eq, drop-length}
use lib.IntN.{ℤ}
use Rattle.book_rules.specs.Sums.{word, placed, due}
use Rattle.book_rules.specs.Blocks.{unsigned, split, counts, laid, sealed, written, emptied}
use Rattle.book_rules.specs.Bytes.{word_at, words_from, bytes_of}
use Rattle.book_words.specs.Halves.{words_of}
use Rattle.book_rules.proofs.Round.{length_split, length_sealed}
use Rattle.book_rules.specs.Views.{length_bytes, within_sets, words_back}
use Rattle.book_blocks.specs.Heads.{entry}
use Rattle.book_blocks.proofs.Seen.{word_seen}

-- ---- One after the other.

bytes_append : (xs ys : List ℕ) → bytes_of (xs ++ ys) ≡ bytes_of xs ++ bytes_of ys
unfolding bytes_of
bytes_append [] ys = refl
bytes_append (x ∷ xs) ys = ap (λ (l : List ℕ). x % 256 ∷ x / 256 ∷ l) (bytes_append xs ys)

sets_append : (l : List ℕ) (i : ℕ) (xs ys : List ℕ) → sets l i (xs ++ ys) ≡ sets (sets l i xs) (i + length xs) ys
sets_append l i [] ys = let e : i ≡ i + 0 = omega arith in ap (λ (j : ℕ). sets l j ys) e
sets_append l i (x ∷ xs) ys = let e : suc i + length xs ≡ i + suc (length xs) = omega arith in sets_append (set l i x) (suc i) xs ys ∙ ap (λ (j : ℕ). sets (sets (set l i x) (suc i) xs) j ys) e

-- t holds xs, and u holds ys behind them; n is the byte behind xs as the code has it.
pub joined_up : (s t u : List ℕ) (at n : ℕ) (xs ys : List ℕ) → t ≡ sets s at (bytes_of xs) → u ≡ sets t n (bytes_of ys) → n ≡ at + 2 * length xs → u ≡ sets s at (bytes_of (xs ++ ys))
joined_up s t u at n xs ys p q e =
    q ∙ ap₂ (λ (l : List ℕ) (j : ℕ). sets l j (bytes_of ys)) p (e ∙ ap (λ (m : ℕ). at + m) (sym (length_bytes xs)))
    ∙ sym (ap (sets s at) (bytes_append xs ys) ∙ sets_append s at (bytes_of xs) (bytes_of ys))

pub start_out : (s t u : List ℕ) (a b : ℕ) → t ≡ sets s 0 (bytes_of (a ∷ [])) → u ≡ sets t 2 (bytes_of (b ∷ [])) → u ≡ sets s 0 (bytes_of (a ∷ b ∷ []))
start_out s t u a b p q = joined_up s t u 0 2 (a ∷ []) (b ∷ []) p q (omega arith)

pub counts_out : (s t u v : List ℕ) (a b c : ℕ) → t ≡ sets s 4 (bytes_of (a ∷ [])) → u ≡ sets t 6 (bytes_of (b ∷ [])) → v ≡ sets u 8 (bytes_of (c ∷ []))
    → v ≡ sets s 4 (bytes_of (a ∷ b ∷ c ∷ []))
counts_out s t u v a b c p q r = joined_up s u v 4 8 (a ∷ b ∷ []) (c ∷ []) (joined_up s t u 4 6 (a ∷ []) (b ∷ []) p q (omega arith)) r (omega arith)

-- The numbers as the code hands them on.
pub head_out : (s t u : List ℕ) (k n m : ℕ) (v b d n' f : ℕ) → n' ≡ n → f ≡ m + 32768 * (d - 1)
    → t ≡ sets s 0 (bytes_of (k ∷ v ∷ [])) → u ≡ sets t 4 (bytes_of (b ∷ n' ∷ f ∷ []))
    → u ≡ sets s 0 (bytes_of (k ∷ v ∷ b ∷ n ∷ (m + 32768 * (d - 1)) ∷ []))
head_out s t u k n m v b d n' f en ef p q =
    joined_up s t u 0 4 (k ∷ v ∷ []) (b ∷ n ∷ (m + 32768 * (d - 1)) ∷ []) p
    (q ∙ ap₂ (λ (x y : ℕ). sets t 4 (bytes_of (b ∷ x ∷ y ∷ []))) en ef) (omega arith)

-- ---- The rule.

split_append : (xs ys : List ℤ) → split (xs ++ ys) ≡ split xs ++ split ys
unfolding split
split_append [] ys = refl
split_append (x ∷ xs) ys = ap (λ (l : List ℕ). unsigned x % 65536 ∷ unsigned x / 65536 ∷ l) (split_append xs ys)

module _ (s t u v : List ℕ) (ms ps : List ℤ) where
  pub rule_out : t ≡ sets s 10 (bytes_of (split ms)) → u ≡ sets t (10 + 4 * length ms) (bytes_of (split ps))
      → v ≡ sets u (10 + 4 * (length ms + length ps)) (bytes_of (replicate (249 - 2 * (length ms + length ps)) 0))
      → v ≡ sets s 10 (bytes_of (split (ms ++ ps) ++ replicate (249 - 2 * (length ms + length ps)) 0))
  rule_out p q r =
      let a = length_split ms in
      let b = length_split (ms ++ ps) in
      let c = length-append ms ps in
      joined_up s u v 10 (10 + 4 * (length ms + length ps)) (split (ms ++ ps)) (replicate (249 - 2 * (length ms + length ps)) 0)
      (joined_up s t u 10 (10 + 4 * length ms) (split ms) (split ps) p q (omega arith) ∙ ap (λ (l : List ℕ). sets s 10 (bytes_of l)) (sym (split_append ms ps))) r (omega arith)

-- ---- The check.

placed_front : (s : List ℕ) (d p n at : ℕ) → placed p n (words_from s at (n + d)) ≡ placed p n (words_from s at n)
unfolding placed words_from
placed_front s d p zero at = refl
placed_front s d p (suc n) at =
    let a : suc n + d ≡ suc (n + d) = omega arith in
    ap (λ (m : ℕ). placed p (suc n) (words_from s at m)) a ∙ ap (λ (x : ℕ). p * word_at s at + x) (placed_front s d (suc p) n (2 + at))

-- A block that is written whole is what was written.
whole : (s bs : List ℕ) → length s ≡ length bs → sets s 0 bs ≡ bs
whole s bs h = let e : 0 + length bs ≡ length s = omega arith in sets-eq bs s 0 (omega arith) ∙ ap (λ (n : ℕ). bs ++ drop n s) e ∙ ap (λ (l : List ℕ). bs ++ l) (drop-length s) ∙ append-nil bs

module _ (s t u : List ℕ) (ws : List ℕ) (l : length ws ≡ 254) (h : length s ≡ 512) (p : t ≡ sets s 0 (bytes_of ws)) where
  back : words_from t 0 254 ≡ ws
  back =
      let b = length_bytes ws in
      ap (λ (x : List ℕ). words_from x 0 254) p ∙ words_back ws (sets s 0 (bytes_of ws)) 0 254 l (λ j k. within_sets 0 (bytes_of ws) s 0 j (omega arith) (omega arith))

  pub same_due : due (words_of t) ≡ due ws
  unfolding due
  same_due = ap (λ (x : ℕ). x % 65537) (placed_front t 2 1 254 0 ∙ ap (placed 1 254) back)

  pub sealed_up : u ≡ sets t 508 (bytes_of (due (words_of t) % 65536 ∷ due (words_of t) / 65536 ∷ [])) → u ≡ bytes_of (sealed ws)
  unfolding sealed
  sealed_up q =
      let n = length_sealed ws l in
      let m = length_bytes (sealed ws) in
      joined_up s t u 0 508 ws (due ws % 65536 ∷ due ws / 65536 ∷ []) p (q ∙ ap (λ (x : ℕ). sets t 508 (bytes_of (x % 65536 ∷ x / 65536 ∷ []))) same_due) (omega arith)
      ∙ whole s (bytes_of (sealed ws)) (omega arith)

-- ---- A rule.

module _ (s t u r : List ℕ) (k v b d : ℕ) (ms ps : List ℤ) (h : length s ≡ 512) (few : length ms + length ps ≤ 124) where
  pub block_out : t ≡ sets s 0 (bytes_of (k ∷ v ∷ b ∷ (length ms + length ps) ∷ (length ms + 32768 * (d - 1)) ∷ []))
      → u ≡ sets t 10 (bytes_of (split (ms ++ ps) ++ replicate (249 - 2 * (length ms + length ps)) 0))
      → r ≡ sets u 508 (bytes_of (due (words_of u) % 65536 ∷ due (words_of u) / 65536 ∷ []))
      → r ≡ bytes_of (written k (entry v b d ms ps))
  unfolding written laid counts
  block_out p q z = sealed_up s u r (laid k (entry v b d ms ps)) long h
      (joined_up s t u 0 10 (k ∷ v ∷ b ∷ (length ms + length ps) ∷ (length ms + 32768 * (d - 1)) ∷ []) (split (ms ++ ps) ++ replicate (249 - 2 * (length ms + length ps)) 0) p q (omega arith)) z
    where
      long : length (laid k (entry v b d ms ps)) ≡ 254
      long =
          let a = length_split (ms ++ ps) in
          let c = length-append ms ps in
          let e = length-append (split (ms ++ ps)) (replicate (249 - 2 * (length ms + length ps)) 0) in
          let f = length-replicate {A = ℕ} (249 - 2 * (length ms + length ps)) 0 in
          unfold laid counts in omega arith

-- ---- None.

module _ (s t u r : List ℕ) (k v : ℕ) (h : length s ≡ 512) (ev : v ≡ word_at s 2) where
  pub empty_out : t ≡ sets s 0 (bytes_of (k ∷ v ∷ [])) → u ≡ sets t 4 (bytes_of (replicate 252 0))
      → r ≡ sets u 508 (bytes_of (due (words_of u) % 65536 ∷ due (words_of u) / 65536 ∷ []))
      → r ≡ bytes_of (emptied k (word (words_of s) 1))
  unfolding emptied
  empty_out p q z =
      sealed_up s u r (k ∷ v ∷ replicate 252 0) refl h (joined_up s t u 0 4 (k ∷ v ∷ []) (replicate 252 0) p q (omega arith)) z
      ∙ ap (λ (x : ℕ). bytes_of (sealed (k ∷ x ∷ replicate 252 0))) (ev ∙ sym (word_seen s 1 (omega arith)))
