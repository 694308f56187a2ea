-- Blocks found by their badge, and what the test of a whole book tells.
use Rattle.std.specs.Prelude.{ℕ, zero, suc, ◌≡◌, Bool, List, [], ◌∷◌, eqb, Some, None, Result, Ok, Err}
use Rattle.std.specs.Prelude as code
use Rattle.std.proofs.Math.Option.{Option, none, some}
use Rattle.book_rules.specs.Blocks.{Block, badge_of}
use Rattle.book_rules.specs.Books.{Book, in_use, fault, passed}
use Rattle.book_rules.specs.Bytes.{block_at}
use Rattle.book_blocks.specs.Faults.{number_of}
use Rattle.book.specs.declared.testing.Refused.{Refused}

-- A block with this badge number.
unfoldable pub bears : ℕ → Block → Bool
bears badge b = eqb (badge_of b) badge

-- The place of a block, as the code has it.
unfoldable pub found : Option ℕ → code.Option ℕ
found none = None
found (some i) = Some i

-- The blocks before block k, the nearest first, as the walk through a book has them.
unfoldable pub before : (bytes : List ℕ) → ℕ → List Block
unfolding block_at
before s zero = []
before s (suc k) = block_at s k ∷ before s k

-- What the test of a book with so many blocks in use answers: 0 or the refusal, and how many blocks pass, which are all in use where none is refused.
abbrev pub answer_in : Result (Unit {0}) Refused → ℕ
answer_in (Ok u) = 0
answer_in (Err r) = number_of r.fault

abbrev pub passed_in : Result (Unit {0}) Refused → (used : ℕ) → ℕ
passed_in (Ok u) used = used
passed_in (Err r) used = r.block

-- The refusal of a whole book, and the number of the block that is refused.
pub record Answered (b : Book) (answer block : ℕ) : Type 0 where
  pub answer_is : answer ≡ fault b
  pub block_is : block ≡ passed 0 [] (in_use b)
