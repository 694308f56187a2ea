-- The test of a live block, each answer as the code asks for it. Assumes nothing.
use Prim.Native.Nat.{ℕ, ◌+◌, ◌-◌, ◌*◌, ◌≤◌, ◌<◌}
use native.Mathlib.Omega.{arith}
use mathlib.Core.Path.{◌≡◌, refl, sym, ap, ap₂, ◌∙◌}
use mathlib.Core.Bool.{Bool, true, false, not}
use mathlib.Core.List.{List}
use lib.ListN.{length, drop, take}
use lib.Seq.{sets}
use lib.Dec.{leb}
use lib.IntN.{ℤ}
use borrow.Author.Rules.{rules}
use borrow.Author.Tests.{le-leb, lt-leb}
use Rattle.rules.specs.Services.{Judged, Rule}
use Rattle.tests.specs.Judgements.{told, judgement}
use Rattle.tests.specs.declared.Refusal.{Refusal}
use Rattle.tests.proofs.Told.{was_accepted, was_refused}
use Rattle.std.specs.Prelude.{Result, Ok, Err}
use Rattle.std.specs.Result.{is_ok}
use Rattle.book_rules.specs.Sums.{word, and_also}
use Rattle.book_rules.specs.Blocks.{Block, joined, length_in, dialect_in, zeros, is_accepted, is_rule, entry_of, live_formed}
use Rattle.book_rules.specs.Bytes.{word_at, words_from}
use Rattle.book_words.specs.Halves.{words_of}
use Rattle.book_blocks.proofs.Seen.{word_seen, zeros_seen, joined_seen, length_joined, first_part, second_part}

-- ---- Review's 1 to 4.

pub accepted_is : (j : Judged Rule) (x : Result (Unit {0}) Refusal) → told x ≡ judgement j → is_ok x ≡ is_accepted j
unfolding is_accepted
accepted_is j (Ok u) e = sym (ap is_accepted (was_accepted j (Ok u) e u refl).1)
accepted_is j (Err f) e = sym (ap is_accepted (was_refused j (Err f) e f refl).0)

pub rule_given : (d : ℕ) (s : List ℕ) (m n : ℕ) (l t : List ℤ) (r : Bool) → m ≤ n → n ≤ length l → t ≡ sets l 0 (joined n (words_from s 10 (2 * n)))
    → r ≡ is_rule d (take m t) (take (n - m) (drop m t)) → r ≡ is_rule d (take m (joined n (words_from s 10 (2 * n)))) (drop m (joined n (words_from s 10 (2 * n))))
rule_given d s m n l t r g h e q =
    let zs = joined n (words_from s 10 (2 * n)) in
    q ∙ ap (λ (u : List ℤ). is_rule d (take m u) (take (n - m) (drop m u))) e
    ∙ ap₂ (is_rule d) (first_part l zs m n (length_joined s 10 n) h g) (second_part l zs m n (length_joined s 10 n) h)

-- ---- A live block.

four : (a b c d : Bool) → Bool
four a b c d = and_also a (and_also b (and_also c d))

module _ (s : List ℕ) (w n : ℕ) (e : w ≡ word_at s 6) (l : n ≡ w) where
  abbrev b : Block
  b = words_of s

  third : word b 3 ≡ n
  third = word_seen s 3 (omega arith) ∙ sym (l ∙ e)

  live_is : live_formed b ≡ four (leb n 124) (leb (length_in (word b 1) (word b 4)) n) (zeros (249 - 2 * n) (drop (5 + 2 * n) b))
      (is_rule (dialect_in (word b 1) (word b 4)) (take (length_in (word b 1) (word b 4)) (joined n (drop 5 b))) (drop (length_in (word b 1) (word b 4)) (joined n (drop 5 b))))
  unfolding live_formed four entry_of
  live_is = ap (λ (x : ℕ). four (leb x 124) (leb (length_in (word b 1) (word b 4)) x) (zeros (249 - 2 * x) (drop (5 + 2 * x) b))
      (is_rule (dialect_in (word b 1) (word b 4)) (take (length_in (word b 1) (word b 4)) (joined x (drop 5 b))) (drop (length_in (word b 1) (word b 4)) (joined x (drop 5 b))))) third

  pub live_over : 124 < n → false ≡ live_formed b
  unfolding four and_also
  live_over h = sym (live_is ∙ rw (lt-leb n 124 h))

  module _ (h : n ≤ 124) (v f m : ℕ) (ev : v ≡ word_at s 2) (ef : f ≡ word_at s 8) (em : m ≡ length_in v f) where
    matcher_is : length_in (word b 1) (word b 4) ≡ m
    matcher_is = ap₂ length_in (word_seen s 1 (omega arith) ∙ sym ev) (word_seen s 4 (omega arith) ∙ sym ef) ∙ sym em

    dialect_is : dialect_in (word b 1) (word b 4) ≡ dialect_in v f
    dialect_is = ap₂ dialect_in (word_seen s 1 (omega arith) ∙ sym ev) (word_seen s 4 (omega arith) ∙ sym ef)

    live_by : live_formed b ≡ four true (leb m n) (zeros (249 - 2 * n) (words_from s (10 + 4 * n) (249 - 2 * n)))
        (is_rule (dialect_in v f) (take m (joined n (words_from s 10 (2 * n)))) (drop m (joined n (words_from s 10 (2 * n)))))
    live_by = live_is ∙ ap (λ (y : ℕ). four (leb n 124) (leb (length_in (word b 1) (word b 4)) n) (zeros (249 - 2 * n) (drop (5 + 2 * n) b))
        (is_rule y (take (length_in (word b 1) (word b 4)) (joined n (drop 5 b))) (drop (length_in (word b 1) (word b 4)) (joined n (drop 5 b))))) dialect_is
        ∙ ap (λ (t : Bool). four t (leb (length_in (word b 1) (word b 4)) n) (zeros (249 - 2 * n) (drop (5 + 2 * n) b))
        (is_rule (dialect_in v f) (take (length_in (word b 1) (word b 4)) (joined n (drop 5 b))) (drop (length_in (word b 1) (word b 4)) (joined n (drop 5 b))))) (le-leb n 124 h)
        ∙ ap (λ (x : ℕ). four true (leb x n) (zeros (249 - 2 * n) (drop (5 + 2 * n) b)) (is_rule (dialect_in v f) (take x (joined n (drop 5 b))) (drop x (joined n (drop 5 b))))) matcher_is
        ∙ ap₂ (λ (t : Bool) (zs : List ℤ). four true (leb m n) t (is_rule (dialect_in v f) (take m zs) (drop m zs)))
        (zeros_seen s (5 + 2 * n) (249 - 2 * n) (10 + 4 * n) (omega arith) (omega arith)) (joined_seen s n h)

    pub live_long : n < m → false ≡ live_formed b
    unfolding four and_also
    live_long g = sym (live_by ∙ rw (lt-leb m n g))

    module _ (g : m ≤ n) (z : Bool) (ez : z ≡ zeros (249 - 2 * n) (words_from s (10 + 4 * n) (249 - 2 * n))) where
      live_then : live_formed b ≡ and_also z (is_rule (dialect_in v f) (take m (joined n (words_from s 10 (2 * n)))) (drop m (joined n (words_from s 10 (2 * n)))))
      unfolding four and_also
      live_then = live_by ∙ rw (le-leb m n g, ← ez)

      pub live_unused : not z ≡ true → false ≡ live_formed b
      live_unused t = sym (live_then ∙ by z t)
        where
          by : (y : Bool) → not y ≡ true → and_also y (is_rule (dialect_in v f) (take m (joined n (words_from s 10 (2 * n)))) (drop m (joined n (words_from s 10 (2 * n))))) ≡ false
          by true t = let q : ◌≡◌ {A = ℕ} 0 1 = cc in absurd (omega arith)
          by false t = unfold and_also in refl

      pub live_rule : not z ≡ false → (d : ℕ) → d ≡ dialect_in v f → (r : Bool)
          → r ≡ is_rule d (take m (joined n (words_from s 10 (2 * n)))) (drop m (joined n (words_from s 10 (2 * n)))) → r ≡ live_formed b
      live_rule t d ed r er = er ∙ ap (λ (y : ℕ). is_rule y (take m (joined n (words_from s 10 (2 * n)))) (drop m (joined n (words_from s 10 (2 * n))))) ed ∙ sym (live_then ∙ by z t)
        where
          by : (y : Bool) → not y ≡ false → and_also y (is_rule (dialect_in v f) (take m (joined n (words_from s 10 (2 * n)))) (drop m (joined n (words_from s 10 (2 * n))))) ≡ is_rule (dialect_in v f) (take m (joined n (words_from s 10 (2 * n)))) (drop m (joined n (words_from s 10 (2 * n))))
          by true t = unfold and_also in refl
          by false t = let q : ◌≡◌ {A = ℕ} 0 1 = cc in absurd (omega arith)

pub ruleset live_rules = (live_over, live_long, live_unused, live_rule, rules)
