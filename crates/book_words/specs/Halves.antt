-- A word times its place, and two words as one number.
use Rattle.std.specs.Prelude.{ℕ, ◌+◌, ◌*◌, ◌≤◌, ◌≡◌, List}
use Rattle.book_rules.specs.Blocks.{Block}
use Rattle.book_rules.specs.Bytes.{word_at, words_from}

-- Word i of a block times its place, and the most that this can be.
pub record Placed (i w r : ℕ) : Type 0 where
  pub is : r ≡ (1 + i) * w
  pub most : r ≤ 16645890

-- The words at a byte's index and after it, low half first.
unfoldable pub halves : (bytes : List ℕ) → ℕ → ℕ
unfolding word_at
halves s i = word_at s i + 65536 * word_at s (i + 2)

-- The 256 words of a block's bytes.
abbrev pub words_of : (bytes : List ℕ) → Block
words_of bytes = words_from bytes 0 256
