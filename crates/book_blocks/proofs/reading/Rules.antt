-- The rule of a live block, as the code asks for it. Assumes nothing.
use Prim.Native.Nat.{ℕ, ◌+◌, ◌-◌, ◌*◌, ◌≤◌}
use native.Mathlib.Omega.{arith}
use mathlib.Core.Path.{◌≡◌, sym, ap, ap₂, ◌∙◌}
use mathlib.Core.Bool.{true}
use mathlib.Core.List.{List}
use lib.ListN.{length, drop, take, length-drop, take-append-drop}
use lib.Seq.{sets, length-take-le}
use lib.Dec.{leb}
use lib.IntN.{ℤ}
use borrow.Author.Tests.{leb-true}
use Rattle.book_rules.specs.Sums.{word}
use Rattle.book_rules.specs.Blocks.{Block, joined, length_in, dialect_in, entry_of, live_formed}
use Rattle.book_rules.specs.Bytes.{word_at, words_from}
use Rattle.book_words.specs.Halves.{words_of}
use Rattle.book_rules.proofs.Walks.{and_also_fst, and_also_snd}
use Rattle.book_blocks.specs.Heads.{ReadAs}
use Rattle.book_blocks.proofs.Seen.{word_seen, joined_seen, length_joined}

-- ---- The rule.

module _ (s : List ℕ) (live : live_formed (words_of s) ≡ true) (w n : ℕ) (ew : w ≡ word_at s 6) (en : n ≡ w) where
  abbrev b : Block
  b = words_of s

  third : word b 3 ≡ n
  third = word_seen s 3 (omega arith) ∙ sym (en ∙ ew)

  few : n ≤ 124
  unfolding live_formed
  few = let h : word b 3 ≤ 124 = leb-true (word b 3) 124 (and_also_fst (leb (word b 3) 124) _ live) in omega (arith, third)

  pub fits_in_lem : length s ≡ 512 → 10 + 4 * n ≤ length s
  fits_in_lem h = omega (arith, few)

  pub fits_out : (out : List ℤ) → 124 ≤ length out → n ≤ length out
  fits_out out h = omega (arith, few)

  module _ (v f m : ℕ) (ev : v ≡ word_at s 2) (ef : f ≡ word_at s 8) (em : m ≡ length_in v f) where
    first : word b 1 ≡ v
    first = word_seen s 1 (omega arith) ∙ sym ev

    fourth : word b 4 ≡ f
    fourth = word_seen s 4 (omega arith) ∙ sym ef

    matcher_is : length_in (word b 1) (word b 4) ≡ m
    matcher_is = ap₂ length_in first fourth ∙ sym em

    pub short : m ≤ n
    unfolding live_formed
    short =
        let t = and_also_snd (leb (word b 3) 124) _ live in
        let h : length_in (word b 1) (word b 4) ≤ word b 3 = leb-true (length_in (word b 1) (word b 4)) (word b 3) (and_also_fst (leb (length_in (word b 1) (word b 4)) (word b 3)) _ t) in
        omega (arith, third, matcher_is)

    abbrev zs : List ℤ
    zs = joined n (words_from s 10 (2 * n))

    words_is : joined (word b 3) (drop 5 b) ≡ zs
    words_is = ap (λ (x : ℕ). joined x (drop 5 b)) third ∙ joined_seen s n few

    pub rule_read : (d : ℕ) (out after : List ℤ) → d ≡ dialect_in v f → after ≡ sets out 0 zs → ReadAs (entry_of b) v d m (n - m) out after
    unfolding entry_of
    rule_read d out after ed ea = record {
      version_is = sym first;
      dialect_is = ed ∙ sym (ap₂ dialect_in first fourth);
      matcher_is = sym (ap₂ (λ (x : ℕ) (l : List ℤ). length (take x l)) matcher_is words_is ∙ length-take-le m zs long);
      pattern_is = sym (ap₂ (λ (x : ℕ) (l : List ℤ). length (drop x l)) matcher_is words_is ∙ length-drop m zs ∙ ap (λ (x : ℕ). x - m) (length_joined s 10 n));
      words_are = ea ∙ ap (sets out 0) (sym (take-append-drop (length_in (word b 1) (word b 4)) (joined (word b 3) (drop 5 b)) ∙ words_is));
    }
      where
        long : m ≤ length zs
        long = let l = length_joined s 10 n in let h = short in omega arith
