-- What is known of a block that was found in a good book. Assumes nothing.
use Prim.Native.Nat.{ℕ, ◌+◌, ◌*◌, ◌/◌, ◌≤◌, ◌<◌}
use native.Mathlib.Omega.{arith}
use mathlib.Core.Path.{◌≡◌, refl, sym, ap, ap₂, ◌∙◌, subst}
use mathlib.Core.Bool.{Bool, true, not}
use mathlib.Core.Option.{Option, none, some}
use mathlib.Core.List.{List, []}
use lib.ListN.{length, get_or}
use lib.Dec.{eqb, T}
use borrow.Author.Tests.{ne_eqb}
use Rattle.book_rules.specs.Sums.{word, checked, and_also}
use Rattle.book_rules.specs.Blocks.{Block, badge_of, unless, known, formed, live_formed, holds, taken, verdict}
use Rattle.book_rules.specs.Books.{fault, walk, place}
use Rattle.book_rules.specs.Bytes.{block_at, blocks_from, book_of}
use Rattle.book_rules.proofs.Round.{holds_true}
use Rattle.book_rules.specs.Noticed.{good_number}
use Rattle.book_rules.specs.Views.{Bytes, block_of, block_sized, length_blocks}
use Rattle.book_rules.proofs.Walks.{place_some, walk_at, or_second, last_test, and_also_fst, held_is, holds_zero}
use Rattle.book_rules.proofs.Kept.{good_walk}
use Rattle.book.specs.Testing.{found}
use Rattle.std.specs.Prelude.{Some, None, Err}
use Rattle.std.specs.Option.{ok_or}
use Rattle.std.specs.Prelude as code
use Rattle.book_blocks.specs.declared.fault.Fault.{Fault}
use Rattle.book_blocks.specs.declared.fault.Fault.TheVariants.{Check, Number, Version, Form, Live, NoBlock, TooLong, NotLive}
use Rattle.book_blocks.specs.Faults.{number_of}
use Rattle.book.proofs.Views.{good_fits, good_in_use}

-- ---- What an answer stands for.

pub found_some : (o : Option ℕ) (f : code.Option ℕ) (k : ℕ) → f ≡ found o → f ≡ Some k → o ≡ some k
unfolding found
found_some none f k p q = let z : ◌≡◌ {A = ℕ} 0 1 = cc in absurd (omega arith)
found_some (some i) f k p q = let e : i ≡ k = cc in ap some e

pub found_none : (o : Option ℕ) (f : code.Option ℕ) → f ≡ found o → f ≡ None → o ≡ none
unfolding found
found_none none f p q = refl
found_none (some i) f p q = let z : ◌≡◌ {A = ℕ} 0 1 = cc in absurd (omega arith)

-- No refusal has the number 0.
pub refused : (f : Fault) → number_of f ≡ 0 → ⊥
refused Check e = omega arith
refused Number e = omega arith
refused Version e = omega arith
refused Form e = omega arith
refused Live e = omega arith
refused NoBlock e = omega arith
refused TooLong e = omega arith
refused NotLive e = omega arith

-- The refusal of a place that is not there.
pub refusal_is : (o : code.Option ℕ) (d f : Fault) → o ≡ None → Err f ≡ ok_or o d → f ≡ d
refusal_is None d f n e = cc
refusal_is (Some i) d f n e = let z : ◌≡◌ {A = ℕ} 0 1 = cc in absurd (omega arith)

-- ---- A good block.

pub good_formed : (k : ℕ) (ys : List Block) (b : Block) → verdict k ys b ≡ 0 → formed b ≡ true
unfolding verdict
good_formed k ys b h =
    let r1 = or_second (unless (checked b) 12) _ h in
    let r2 = or_second (unless (eqb (word b 0) k) 13) _ r1 in
    let r3 = or_second (unless (known (word b 1)) 14) _ r2 in
    and_also_fst (formed b) _ (last_test (and_also (formed b) (not (taken (badge_of b) ys))) 15 (omega arith) r3)

pub formed_live : (b : Block) → formed b ≡ true → (badge_of b ≡ 0 → ⊥) → live_formed b ≡ true
unfolding formed
formed_live b h n = let e : formed b ≡ live_formed b = rw (ne_eqb (badge_of b) 0 n, formed) in sym e ∙ h

pub held_badge : (x : ℕ) (b : Block) → holds x b ≡ true → badge_of b ≡ 0 → ⊥
held_badge x b h z = subst T (sym h ∙ ap (λ (y : ℕ). holds y b) (sym (held_is x b (holds_true h)) ∙ z) ∙ holds_zero b) tt

module _ (s : List ℕ) (used : ℕ) (good : fault (book_of s used) ≡ 0) where
  fits : 512 * used ≤ length s
  fits = good_fits s used 0 (sym good) refl

  pub good_block : (j : ℕ) → j < used → (ys : List Block) × (verdict j ys (block_at s j) ≡ 0)
  good_block j h =
      let n = length_blocks s 0 used in
      let w = walk_at 0 [] (blocks_from s 0 used) j (omega arith) (ap (walk 0 []) (sym (good_in_use s used fits)) ∙ good_walk (book_of s used) good) in
      let e : 0 + j ≡ j = omega arith in
      (w.0, sym (ap₂ (λ (i : ℕ) (b : Block). verdict i w.0 b) e (block_of s 0 used j h ∙ ap (block_at s) e)) ∙ w.1)

  pub found_in_lem : (f : Block → Bool) (k : ℕ) → place f (blocks_from s 0 used) ≡ some k → (k < used) × (f (block_at s k) ≡ true)
  found_in_lem f k p =
      let i = place_some f (blocks_from s 0 used) k p in
      let n = length_blocks s 0 used in
      let m = i.inside in
      let l : k < used = omega arith in
      let e : 0 + k ≡ k = omega arith in
      (l, ap f (sym (block_of s 0 used k l ∙ ap (block_at s) e)) ∙ i.passes)

  pub found_fits : (f : Block → Bool) (k : ℕ) → place f (blocks_from s 0 used) ≡ some k → 512 * k + 512 ≤ length s
  found_fits f k p = let l = (found_in_lem f k p).0 in omega (arith, fits)

  pub found_small : Bytes s → (f : Block → Bool) (k : ℕ) → place f (blocks_from s 0 used) ≡ some k → k < 65536
  found_small bytes f k p =
      let g = good_block k (found_in_lem f k p).0 in
      let n = good_number k g.0 (block_at s k) g.1 in
      let m = (block_sized s bytes k).small 0 in
      small (word (block_at s k) 0) n m
    where
      small : (w : ℕ) → w ≡ k → w < 65536 → k < 65536
      small w e h = omega arith

  pub found_live : (x k : ℕ) → place (holds x) (blocks_from s 0 used) ≡ some k → live_formed (block_at s k) ≡ true
  found_live x k p =
      let i = found_in_lem (holds x) k p in
      let g = good_block k i.0 in
      formed_live (block_at s k) (good_formed k g.0 (block_at s k) g.1) (held_badge x (block_at s k) i.1)

  pub lent_at : (k : ℕ) → 512 * k + 512 ≤ length s → get_or (book_of s used).lent k [] ≡ block_at s k
  unfolding book_of
  lent_at k h = let e : 0 + k ≡ k = omega arith in block_of s 0 (length s / 512) k (omega arith) ∙ ap (block_at s) e
