-- Document 02, No. 7: "a change within one word or an exchange of two unequal words of a block is refused".
use Rattle.std.specs.Prelude.{ℕ, zero, suc, ◌<◌, ◌≡◌, refl, Bool, true, false, ◌≢◌, List, length, eqb, T}
use Rattle.std.proofs.Common.{arith, eqb→eq}
use Rattle.book_rules.specs.Sums.{word, checked}
use Rattle.book_rules.specs.Blocks.{Block, unless, or_else, verdict}

-- A block as the game lends it: 256 words of 16 bits.
pub record Sized (b : Block) : Type 0 where
  pub long : length b ≡ 256
  pub small : (i : ℕ) → word b i < 65536

-- ---- The exchange of word 0 with word 255: the check may hold again, but the block number does not (reading 70).

pub data Refused (n : ℕ) : Type 0 where
  by_check : n ≡ 12 → Refused n
  by_number : n ≡ 13 → Refused n

first_passed : (t : Bool) (n r : ℕ) → n ≢ 0 → or_else (unless t n) r ≡ 0 → T t
unfolding or_else unless
first_passed true n r h e = tt
first_passed false zero r h e = h refl
first_passed false (suc n) r h e = h e

second_passed : (t : Bool) (n r : ℕ) → n ≢ 0 → or_else (unless t n) r ≡ 0 → r ≡ 0
unfolding or_else unless
second_passed true n r h e = e
second_passed false zero r h e = absurd (h refl)
second_passed false (suc n) r h e = absurd (h e)

pub good_checked : (k : ℕ) (earlier : List Block) (b : Block) → verdict k earlier b ≡ 0 → T (checked b)
unfolding verdict
good_checked k earlier b h = first_passed (checked b) 12 _ (omega arith) h

pub good_number : (k : ℕ) (earlier : List Block) (b : Block) → verdict k earlier b ≡ 0 → word b 0 ≡ k
unfolding verdict
good_number k earlier b h = eqb→eq (word b 0) k (first_passed (eqb (word b 0) k) 13 _ (omega arith) (second_passed (checked b) 12 _ (omega arith) h))
