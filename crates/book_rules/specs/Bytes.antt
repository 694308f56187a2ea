-- Document 02, No. 7: "512-byte blocks, 256 little-endian 16-bit words each". The lent bytes as the blocks of a book, and back.
use Rattle.std.specs.Prelude.{ℕ, zero, suc, ◌+◌, ◌*◌, ◌/◌, ◌%◌, List, [], ◌∷◌, ◌++◌, length, get_or, drop}
use Rattle.book_rules.specs.Blocks.{Block}
use Rattle.book_rules.specs.Books.{Book}

-- The word at a byte's index, low byte first; n words from there on.
unfoldable pub word_at : (bytes : List ℕ) → ℕ → ℕ
word_at s i = get_or s i 0 + 256 * get_or s (suc i) 0

unfoldable pub words_from : (bytes : List ℕ) → ℕ → (n : ℕ) → List ℕ
unfolding word_at
words_from s i zero = []
words_from s i (suc n) = word_at s i ∷ words_from s (2 + i) n

-- Block k; n blocks from there on.
unfoldable pub block_at : (bytes : List ℕ) → ℕ → Block
unfolding words_from
block_at s k = words_from s (512 * k) 256

unfoldable pub blocks_from : (bytes : List ℕ) → ℕ → (n : ℕ) → List Block
unfolding block_at
blocks_from s k zero = []
blocks_from s k (suc n) = block_at s k ∷ blocks_from s (suc k) n

-- The book that lent bytes are, with so many blocks in use (reading 74). A part of a block at the end is no block.
unfoldable pub book_of : (bytes : List ℕ) (used : ℕ) → Book
unfolding blocks_from
book_of s used = record { lent = blocks_from s 0 (length s / 512); used = used }

-- Words as bytes, blocks as bytes, and lent bytes that now hold these blocks: the bytes after the blocks are what they were.
unfoldable pub bytes_of : List ℕ → List ℕ
bytes_of [] = []
bytes_of (w ∷ ws) = w % 256 ∷ w / 256 ∷ bytes_of ws

unfoldable pub bytes_of_all : List Block → List ℕ
unfolding bytes_of
bytes_of_all [] = []
bytes_of_all (b ∷ bs) = bytes_of b ++ bytes_of_all bs

unfoldable pub holding : (bytes : List ℕ) → List Block → List ℕ
unfolding bytes_of_all
holding s bs = bytes_of_all bs ++ drop (length (bytes_of_all bs)) s
