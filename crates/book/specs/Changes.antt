-- What is told of a book that a call may change, and the bytes then.
use Rattle.std.specs.Prelude.{ℕ, zero, suc, ◌≡◌, not, List, leb, Result, Ok, Err}
use Rattle.std.proofs.Math.Option.{Option, none, some}
use Rattle.book_rules.specs.Blocks.{Block, Entry, counts, unless, or_else, known, holds, taken}
use Rattle.book_rules.specs.Books.{Book, Told, in_use, place, proper, slot, add_fault, withdraw}
use Rattle.book_rules.specs.Bytes.{holding}
use Rattle.book_blocks.specs.declared.fault.Fault.{Fault}
use Rattle.book.specs.declared.withdrawal.Changed.{Changed}

-- The block that a call wrote, 0 in a refusal, and the number of blocks in use then, which a refusal leaves as it was.
abbrev pub block_in : Result Changed Fault → ℕ
block_in (Ok c) = c.block
block_in (Err f) = 0

abbrev pub used_in : Result Changed Fault → (used : ℕ) → ℕ
used_in (Ok c) used = c.used
used_in (Err f) used = used

-- The answer and the blocks in use are those of the call t, the block is the one at that place, and the lent bytes hold the blocks of the book after it.
pub record ChangeTold (t : Told) (at answer block used : ℕ) (bytes after : List ℕ) : Type 0 where
  pub answer_is : answer ≡ t.answer
  pub block_is : block ≡ at
  pub used_is : used ≡ t.book.used
  pub bytes_are : after ≡ holding bytes t.book.lent

-- The block that is written; 0 in a refusal.
unfoldable pub written_at : (refusal : ℕ) → Option ℕ → ℕ
written_at zero none = 0
written_at zero (some i) = i
written_at (suc n) o = 0

unfoldable pub withdrawn_at : (badge : ℕ) → Book → ℕ
unfolding written_at withdraw place holds
withdrawn_at badge b = written_at (withdraw badge b).answer (place (holds badge) (in_use b))

unfoldable pub added_at : Entry → Book → ℕ
unfolding written_at add_fault slot
added_at e b = written_at (add_fault e b) (slot b)

-- 14 and 15 of an add, then 16 and 18, over the blocks in use.
unfoldable pub own_refusal : Entry → List Block → ℕ
unfolding or_else unless known proper taken counts
own_refusal e bs =
    or_else (unless (known e.version) 14)
    (or_else (unless (proper e) 15)
    (or_else (unless (not (taken e.badge bs)) 16)
    (unless (leb (counts e) 124) 18)))
