-- The blocks in use as they stand in the bytes. Assumes nothing.
use Prim.Native.Nat.{ℕ, zero, suc, ◌-◌, ◌*◌, ◌/◌, ◌≤◌}
use native.Mathlib.Omega.{arith}
use mathlib.Core.Path.{◌≡◌, refl, sym, ap, ◌∙◌}
use mathlib.Core.List.{List, ◌∷◌}
use lib.ListN.{length, take}
use Rattle.book_rules.specs.Blocks.{Block}
use Rattle.book_rules.specs.Books.{in_use, fault}
use Rattle.book_rules.specs.Bytes.{block_at, blocks_from, book_of}
use Rattle.book_rules.specs.Views.{length_blocks}
use Rattle.book_rules.proofs.Kept.{good_lent}

take_blocks : (s : List ℕ) (k u m : ℕ) → take u (blocks_from s k m) ≡ blocks_from s k (u - (u - m))
unfolding blocks_from
take_blocks s k zero m = let e : 0 - (0 - m) ≡ 0 = omega arith in ap (blocks_from s k) (sym e)
take_blocks s k (suc u) zero = let e : suc u - (suc u - 0) ≡ 0 = omega arith in ap (blocks_from s k) (sym e)
take_blocks s k (suc u) (suc m) =
    let e : suc u - (suc u - suc m) ≡ suc (u - (u - m)) = omega arith in
    ap (λ (bs : List Block). block_at s k ∷ bs) (take_blocks s (suc k) u m) ∙ ap (blocks_from s k) (sym e)

-- The blocks in use that there are.
pub in_use_is : (s : List ℕ) (used n : ℕ) → n ≡ used - (used - length s / 512) → in_use (book_of s used) ≡ blocks_from s 0 n
unfolding book_of
in_use_is s used n e = take_blocks s 0 used (length s / 512) ∙ ap (blocks_from s 0) (sym e)

pub lent_is : (s : List ℕ) (used : ℕ) → length (book_of s used).lent ≡ length s / 512
unfolding book_of
lent_is s used = length_blocks s 0 (length s / 512)

used_is : (s : List ℕ) (used : ℕ) → (book_of s used).used ≡ used
unfolding book_of
used_is s used = refl

-- In a good book every block in use is lent.
pub good_fits : (s : List ℕ) (used a : ℕ) → a ≡ fault (book_of s used) → a ≡ 0 → 512 * used ≤ length s
good_fits s used a e z =
    let l = good_lent (book_of s used) (sym e ∙ z) in
    let m = lent_is s used in
    let n = used_is s used in
    fits l m n
  where
    fits : (book_of s used).used ≤ length (book_of s used).lent → length (book_of s used).lent ≡ length s / 512 → (book_of s used).used ≡ used → 512 * used ≤ length s
    fits l m n = omega arith

pub good_in_use : (s : List ℕ) (used : ℕ) → 512 * used ≤ length s → in_use (book_of s used) ≡ blocks_from s 0 used
good_in_use s used h = in_use_is s used used (omega arith)
