-- Document 02, No. 7: the calls on a rule book at the border to C. The numbers go to a lent slice as ever; 24 before all others, with nothing written anywhere.
use Rattle.std.specs.Prelude.{ℕ, zero, suc, List, [], ◌∷◌, ◌++◌, cond, length, ltb, ℤ, Some, None}
use Rattle.std.specs.Prelude as code
use Rattle.std.proofs.Math.Option.{Option, none, some}
use Rattle.std.proofs.lemmas.List.Edits.{sets}
use Rattle.book_rules.specs.Blocks.{Entry, badge_of, entry_of}
use Rattle.book_rules.specs.Books.{Book, Told, in_use, fault, passed, read}
use Rattle.book_rules.specs.Bytes.{block_at, holding}
use Rattle.book_blocks.specs.declared.reading.Head.{Head}
use Rattle.book.specs.Lookup.{block_fault, badge_unless, rule_unless}
use Rattle.host_numbers.specs.Numbers.{bytes_of, over}
use Rattle.host.specs.Border.{Called, called}

-- What a call gives back, and what the book and the slice for the numbers hold then.
pub record BookCalled : Type 0 where
  pub answer : ℕ
  pub bytes : List ℕ
  pub numbers : List ℕ

abbrev pub book_called : ℕ → List ℕ → List ℕ → BookCalled
book_called a bytes numbers = record { answer = a; bytes = bytes; numbers = numbers }

-- Answer, number, blocks in use.
unfoldable pub book_numbers : Told → List ℕ
book_numbers t = t.answer ∷ t.number ∷ t.book.used ∷ []

-- Add and withdraw.
unfoldable pub changed : Told → (bytes numbers : List ℕ) → BookCalled
unfolding bytes_of over book_numbers holding
changed t bytes numbers = book_called t.answer (holding bytes t.book.lent) (over (bytes_of (book_numbers t)) numbers)

unfoldable pub changing : Told → (bytes numbers : List ℕ) → BookCalled
unfolding changed
changing t bytes numbers = cond (ltb (length numbers) 24) (book_called 24 bytes numbers) (changed t bytes numbers)

-- Total.
unfoldable pub told : Told → (numbers : List ℕ) → Called
unfolding bytes_of over book_numbers
told t numbers = called t.answer [] (over (bytes_of (book_numbers t)) numbers)

unfoldable pub telling : Told → (numbers : List ℕ) → Called
unfolding told
telling t numbers = cond (ltb (length numbers) 24) (called 24 [] numbers) (told t numbers)

-- Check: the refusal of the whole book, and the number of the first block that is refused.
unfoldable pub checked : Book → (numbers : List ℕ) → Called
unfolding bytes_of over fault passed
checked b numbers = called (fault b) [] (over (bytes_of (fault b ∷ passed 0 [] (in_use b) ∷ b.used ∷ [])) numbers)

unfoldable pub check_called : Book → (numbers : List ℕ) → Called
unfolding checked
check_called b numbers = cond (ltb (length numbers) 24) (called 24 [] numbers) (checked b numbers)

-- A rule that is read: version, dialect and lengths, all 0 where there is none; its words over the start of those lent.
unfoldable pub rule_numbers : Option Entry → List ℕ
rule_numbers none = 0 ∷ 0 ∷ 0 ∷ 0 ∷ []
rule_numbers (some e) = e.version ∷ e.dialect ∷ length e.matcher ∷ length e.pattern ∷ []

-- The same of the numbers that crate `book` tells.
abbrev pub head_numbers : code.Option Head → List ℕ
head_numbers None = 0 ∷ 0 ∷ 0 ∷ 0 ∷ []
head_numbers (Some h) = h.version ∷ h.dialect ∷ h.matcher ∷ h.pattern ∷ []

unfoldable pub rule_words : Option Entry → List ℤ → List ℤ
rule_words none words = words
rule_words (some e) words = sets words 0 (e.matcher ++ e.pattern)

unfoldable pub shown : (answer number : ℕ) → Option Entry → (words : List ℤ) (numbers : List ℕ) → Called
unfolding bytes_of over rule_numbers rule_words
shown a n rule words numbers = called a (rule_words rule words) (over (bytes_of (a ∷ n ∷ rule_numbers rule)) numbers)

-- 24 also where the slice for the words is shorter than the longest rule, 124.
unfoldable pub showing : (answer number : ℕ) → Option Entry → (words : List ℤ) (numbers : List ℕ) → Called
unfolding shown
showing a n rule words numbers = cond (ltb (length numbers) 48) (called 24 words numbers) (cond (ltb (length words) 124) (called 24 words numbers) (shown a n rule words numbers))

unfoldable pub read_called : (badge : ℕ) → Book → (words : List ℤ) (numbers : List ℕ) → Called
unfolding read showing
read_called badge b words numbers = showing (read badge b).answer (read badge b).number (read badge b).found words numbers

unfoldable pub block_called : (bytes : List ℕ) (block : ℕ) (words : List ℤ) (numbers : List ℕ) → Called
unfolding block_fault badge_unless rule_unless showing
block_called s k words numbers =
    showing (block_fault s k) (badge_unless (block_fault s k) (badge_of (block_at s k))) (rule_unless (block_fault s k) (badge_of (block_at s k)) (entry_of (block_at s k))) words numbers
