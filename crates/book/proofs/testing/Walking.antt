-- The test of a whole book, block by block. Assumes nothing.
use Prim.Native.Nat.{ℕ, zero, suc, ◌+◌, ◌-◌, ◌/◌, ◌≤◌, ◌<◌}
use native.Mathlib.Omega.{arith}
use mathlib.Core.Path.{◌≡◌, refl, sym, ap, ap₂, ◌∙◌}
use mathlib.Core.Bool.{Bool, true, false, not}
use mathlib.Core.List.{List, []}
use lib.ListN.{length}
use lib.Dec.{eqb, leb}
use borrow.Author.Tests.{le-leb, lt-leb}
use Rattle.book_rules.specs.Sums.{word, checked, and_also}
use Rattle.book_rules.specs.Blocks.{Block, badge_of, unless, or_else, known, formed, taken, verdict}
use Rattle.book_rules.specs.Books.{in_use, walk, fault, passes, passed}
use Rattle.book_rules.specs.Bytes.{block_at, blocks_from, book_of}
use Rattle.book.specs.Testing.{before, Answered}
use Rattle.book.proofs.Views.{in_use_is, lent_is}
use Rattle.book.proofs.testing.Finding.{taken_before}

-- ---- One block after others.

chain : (c n v f : Bool) → ℕ
chain c n v f = or_else (unless c 12) (or_else (unless n 13) (or_else (unless v 14) (unless f 15)))

module _ (t : Bool) where
  again : (c n v f : Bool) → (chain c n v f ≡ 0 → ⊥) → chain c n v (and_also f (not t)) ≡ chain c n v f
  unfolding chain or_else unless and_also
  again false n v f h = refl
  again true false v f h = refl
  again true true false f h = refl
  again true true true false h = refl
  again true true true true h = absurd (h refl)

  late : (c n v f : Bool) → chain c n v f ≡ 0 → chain c n v (and_also f (not t)) ≡ unless (not t) 15
  unfolding chain or_else unless and_also
  late false n v f h = let z : ◌≡◌ {A = ℕ} 12 0 = h in absurd (omega arith)
  late true false v f h = let z : ◌≡◌ {A = ℕ} 13 0 = h in absurd (omega arith)
  late true true false f h = let z : ◌≡◌ {A = ℕ} 14 0 = h in absurd (omega arith)
  late true true true false h = let z : ◌≡◌ {A = ℕ} 15 0 = h in absurd (omega arith)
  late true true true true h = refl

module _ (k : ℕ) (b : Block) where
  alone : verdict k [] b ≡ chain (checked b) (eqb (word b 0) k) (known (word b 1)) (formed b)
  unfolding verdict chain taken
  alone = ap (λ (t : Bool). chain (checked b) (eqb (word b 0) k) (known (word b 1)) t) (all (formed b))
    where
      all : (t : Bool) → and_also t (not false) ≡ t
      all true = unfold and_also in refl
      all false = unfold and_also in refl

  after : (xs : List Block) → verdict k xs b ≡ chain (checked b) (eqb (word b 0) k) (known (word b 1)) (and_also (formed b) (not (taken (badge_of b) xs)))
  unfolding verdict chain
  after xs = refl

module _ (s : List ℕ) (k a : ℕ) (e : a ≡ verdict k [] (block_at s k)) where
  abbrev b : Block
  b = block_at s k

  pub own_told : (a ≡ 0 → ⊥) → a ≡ verdict k (before s k) (block_at s k)
  own_told n = e ∙ alone k b ∙ sym (after k b (before s k) ∙ again (taken (badge_of b) (before s k)) (checked b) (eqb (word b 0) k) (known (word b 1)) (formed b) (λ h. n (e ∙ alone k b ∙ h)))

  module _ (z : a ≡ 0) (x : ℕ) (t : Bool) (ex : x ≡ badge_of (block_at s k)) (et : t ≡ taken x (blocks_from s 0 k)) where
    late_is : verdict k (before s k) (block_at s k) ≡ unless (not t) 15
    late_is = after k b (before s k) ∙ late (taken (badge_of b) (before s k)) (checked b) (eqb (word b 0) k) (known (word b 1)) (formed b) (sym (alone k b) ∙ sym e ∙ z)
        ∙ ap (λ (u : Bool). unless (not u) 15) (sym (taken_before (badge_of b) s k) ∙ ap (λ (y : ℕ). taken y (blocks_from s 0 k)) (sym ex) ∙ sym et)

    pub twice_told : t ≡ true → 15 ≡ verdict k (before s k) (block_at s k)
    unfolding unless
    twice_told q = sym (late_is ∙ ap (λ (u : Bool). unless (not u) 15) q)

    pub good_told : t ≡ false → 0 ≡ verdict k (before s k) (block_at s k)
    unfolding unless
    good_told q = sym (late_is ∙ ap (λ (u : Bool). unless (not u) 15) q)

-- ---- Block by block.

walk_step : (s : List ℕ) (k m : ℕ) → walk k (before s k) (blocks_from s k (suc m)) ≡ or_else (verdict k (before s k) (block_at s k)) (walk (suc k) (before s (suc k)) (blocks_from s (suc k) m))
unfolding walk blocks_from before
walk_step s k m = refl

passed_step : (s : List ℕ) (k m : ℕ) → passed k (before s k) (blocks_from s k (suc m)) ≡ passes (verdict k (before s k) (block_at s k)) (passed (suc k) (before s (suc k)) (blocks_from s (suc k) m))
unfolding passed blocks_from before
passed_step s k m = refl

-- What is left of the walk, and of the count of blocks that pass, n blocks being in use.
abbrev pub walk_left : List ℕ → ℕ → ℕ → ℕ
walk_left s n k = walk k (before s k) (blocks_from s k (n - k))

abbrev pub pass_left : List ℕ → ℕ → ℕ → ℕ
pass_left s n k = passed k (before s k) (blocks_from s k (n - k))

walk_on : (s : List ℕ) (n k : ℕ) → k < n → walk_left s n k ≡ or_else (verdict k (before s k) (block_at s k)) (walk_left s n (k + 1))
walk_on s n k h =
    let a : n - k ≡ suc (n - (k + 1)) = omega arith in
    let b : suc k ≡ k + 1 = omega arith in
    ap (λ (m : ℕ). walk k (before s k) (blocks_from s k m)) a ∙ walk_step s k (n - (k + 1))
    ∙ ap (λ (j : ℕ). or_else (verdict k (before s k) (block_at s k)) (walk j (before s j) (blocks_from s j (n - (k + 1))))) b

passed_on : (s : List ℕ) (n k : ℕ) → k < n → pass_left s n k ≡ passes (verdict k (before s k) (block_at s k)) (pass_left s n (k + 1))
passed_on s n k h =
    let a : n - k ≡ suc (n - (k + 1)) = omega arith in
    let b : suc k ≡ k + 1 = omega arith in
    ap (λ (m : ℕ). passed k (before s k) (blocks_from s k m)) a ∙ passed_step s k (n - (k + 1))
    ∙ ap (λ (j : ℕ). passes (verdict k (before s k) (block_at s k)) (passed j (before s j) (blocks_from s j (n - (k + 1))))) b

-- At block k of n, all before it being good.
pub record Walked (s : List ℕ) (used n k : ℕ) : Type 0 where
  pub answer : fault (book_of s used) ≡ or_else (walk_left s n k) (unless (leb used (length s / 512)) 13)
  pub block : passed 0 [] (in_use (book_of s used)) ≡ k + pass_left s n k
  pub inside : k ≤ n

pub walk_begins : (s : List ℕ) (used n : ℕ) → n ≡ used - (used - length s / 512) → Walked s used n 0
walk_begins s used n e = record {
  answer = fault_is;
  block = block_is;
  inside = omega arith;
}
  where
    whole : n ≡ n - 0
    whole = omega arith

    none : (m : ℕ) → m ≡ 0 + m
    none m = omega arith

    block_is : passed 0 [] (in_use (book_of s used)) ≡ 0 + pass_left s n 0
    block_is = unfold before in ap (passed 0 []) (in_use_is s used n e) ∙ ap (λ (m : ℕ). passed 0 [] (blocks_from s 0 m)) whole ∙ none (passed 0 [] (blocks_from s 0 (n - 0)))

    fault_is : fault (book_of s used) ≡ or_else (walk_left s n 0) (unless (leb used (length s / 512)) 13)
    fault_is = unfold fault book_of before in ap₂ (λ (bs : List Block) (l : ℕ). or_else (walk 0 [] bs) (unless (leb used l) 13)) (in_use_is s used n e ∙ ap (blocks_from s 0) whole) (lent_is s used)

or_suc : (a r : ℕ) → (a ≡ 0 → ⊥) → or_else a r ≡ a
unfolding or_else
or_suc zero r n = absurd (n refl)
or_suc (suc a) r n = refl

pass_suc : (a r : ℕ) → (a ≡ 0 → ⊥) → passes a r ≡ 0
unfolding passes
pass_suc zero r n = absurd (n refl)
pass_suc (suc a) r n = refl

module _ (s : List ℕ) (used n k : ℕ) (w : Walked s used n k) where
  module _ (a : ℕ) (h : k < n) (e : a ≡ verdict k (before s k) (block_at s k)) where
    pub walk_ends : (a ≡ 0 → ⊥) → Answered (book_of s used) a k
    walk_ends z = record {
      answer_is = sym (w.answer ∙ ap (λ (x : ℕ). or_else x (unless (leb used (length s / 512)) 13)) (walk_on s n k h ∙ ap (λ (x : ℕ). or_else x (walk_left s n (k + 1))) (sym e) ∙ or_suc a (walk_left s n (k + 1)) z)
          ∙ or_suc a (unless (leb used (length s / 512)) 13) z);
      block_is = sym (w.block ∙ ap (λ (x : ℕ). k + x) (passed_on s n k h ∙ ap (λ (x : ℕ). passes x (pass_left s n (k + 1))) (sym e) ∙ pass_suc a (pass_left s n (k + 1)) z) ∙ plain k);
    }
      where
        plain : (m : ℕ) → m + 0 ≡ m
        plain m = omega arith

    pub walk_turn : a ≡ 0 → Walked s used n (k + 1)
    walk_turn z = record {
      answer = w.answer ∙ ap (λ (x : ℕ). or_else x (unless (leb used (length s / 512)) 13)) (walk_on s n k h ∙ ap (λ (x : ℕ). or_else x (walk_left s n (k + 1))) (sym e ∙ z) ∙ first (walk_left s n (k + 1)));
      block = w.block ∙ ap (λ (x : ℕ). k + x) (passed_on s n k h ∙ ap (λ (x : ℕ). passes x (pass_left s n (k + 1))) (sym e ∙ z) ∙ one (pass_left s n (k + 1))) ∙ sum (pass_left s n (k + 1));
      inside = omega arith;
    }
      where
        first : (r : ℕ) → or_else 0 r ≡ r
        first r = unfold or_else in refl

        one : (r : ℕ) → passes 0 r ≡ suc r
        one r = unfold passes in refl

        sum : (r : ℕ) → k + suc r ≡ k + 1 + r
        sum r = omega arith

  module _ (h : n ≤ k) where
    gone : fault (book_of s used) ≡ unless (leb used (length s / 512)) 13
    unfolding or_else walk blocks_from
    gone = let a : n - k ≡ 0 = omega arith in w.answer ∙ ap (λ (m : ℕ). or_else (walk k (before s k) (blocks_from s k m)) (unless (leb used (length s / 512)) 13)) a

    all_passed : k ≡ passed 0 [] (in_use (book_of s used))
    unfolding passed blocks_from
    all_passed = let a : n - k ≡ 0 = omega arith in let p : k + 0 ≡ k = omega arith in sym (w.block ∙ ap (λ (m : ℕ). k + passed k (before s k) (blocks_from s k m)) a ∙ p)

    pub walk_missing : (l : ℕ) → l ≡ length s / 512 → l < used → Answered (book_of s used) 13 n
    unfolding unless
    walk_missing l e m = let i = w.inside in let u : n ≡ k = omega arith in record { answer_is = sym (gone ∙ ap (λ (t : Bool). unless t 13) (lt-leb used (length s / 512) (omega arith))); block_is = u ∙ all_passed }

    pub walk_good : (l : ℕ) → l ≡ length s / 512 → used ≤ l → n ≡ used - (used - length s / 512) → Answered (book_of s used) 0 used
    unfolding unless
    walk_good l e m q =
        let i = w.inside in
        let u : used ≡ k = omega arith in
        record { answer_is = sym (gone ∙ ap (λ (t : Bool). unless t 13) (le-leb used (length s / 512) (omega arith))); block_is = u ∙ all_passed }
