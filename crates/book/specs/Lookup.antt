-- What is told of a rule that is read.
use Rattle.std.specs.Prelude.{ℕ, zero, suc, ◌/◌, ◌≡◌, true, false, List, [], length, eqb, ltb, ℤ, Some, None, Result, Ok, Err}
use Rattle.std.specs.Prelude as code
use Rattle.std.proofs.Math.Option.{Option, none, some}
use Rattle.book_rules.specs.Blocks.{Entry, badge_of, entry_of, verdict}
use Rattle.book_rules.specs.Books.{Told}
use Rattle.book_rules.specs.Bytes.{block_at}
use Rattle.book_blocks.specs.Heads.{ReadAs}
use Rattle.book_blocks.specs.Faults.{answer_of}
use Rattle.book_blocks.specs.declared.fault.Fault.{Fault}
use Rattle.book_blocks.specs.declared.reading.Head.{Head}
use Rattle.book.specs.declared.lookup.Shown.{Shown}

-- A rule's numbers, and the lent words before and after; without a rule there are none, and the words are as they were.
pub data Read : (rule : Option Entry) (told : code.Option Head) (words after : List ℤ) → Type 0 where
  nothing : {words : List ℤ} → Read none None words words
  rule : {e : Entry} {h : Head} {words after : List ℤ} → ReadAs e h.version h.dialect h.matcher h.pattern words after → Read (some e) (Some h) words after

-- What is told of a rule: its numbers, none in a refusal, and 1 where there is one.
abbrev pub head_in : Result (code.Option Head) Fault → code.Option Head
head_in (Ok o) = o
head_in (Err f) = None

abbrev pub found_in : code.Option Head → ℕ
found_in (Some h) = 1
found_in None = 0

-- What a read by a badge tells.
pub record RuleTold (t : Told) (r : Result (code.Option Head) Fault) (words after : List ℤ) : Type 0 where
  pub answer_is : answer_of r ≡ t.answer
  pub found_is : found_in (head_in r) ≡ t.number
  pub rule_is : Read t.found (head_in r) words after

-- One block of the lent bytes by itself: 13 where it is not lent, else its own refusal.
unfoldable pub block_fault : (bytes : List ℕ) → ℕ → ℕ
unfolding verdict
block_fault s k = elim (ltb k (length s / 512)) [ true ↦ verdict k [] (block_at s k) | false ↦ 13 ]

-- Its badge and its rule, where it is not refused and not withdrawn.
unfoldable pub badge_unless : (refusal badge : ℕ) → ℕ
badge_unless zero badge = badge
badge_unless (suc n) badge = 0

unfoldable pub rule_unless : (refusal badge : ℕ) → Entry → Option Entry
rule_unless zero badge e = elim (eqb badge 0) [ true ↦ none | false ↦ some e ]
rule_unless (suc n) badge e = none

-- What is told of a block: its badge, 0 where there is no rule, and the rule's numbers.
abbrev pub shown_in : Result (code.Option Shown) Fault → code.Option Shown
shown_in (Ok o) = o
shown_in (Err f) = None

abbrev pub badge_in : code.Option Shown → ℕ
badge_in (Some x) = x.badge
badge_in None = 0

abbrev pub rule_in : code.Option Shown → code.Option Head
rule_in (Some x) = Some x.head
rule_in None = None

pub record BlockTold (s : List ℕ) (k : ℕ) (r : Result (code.Option Shown) Fault) (words after : List ℤ) : Type 0 where
  pub answer_is : answer_of r ≡ block_fault s k
  pub badge_is : badge_in (shown_in r) ≡ badge_unless (block_fault s k) (badge_of (block_at s k))
  pub rule_is : Read (rule_unless (block_fault s k) (badge_of (block_at s k)) (entry_of (block_at s k))) (rule_in (shown_in r)) words after
