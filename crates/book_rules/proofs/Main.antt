-- What is promised of the rule book, each in a line or two. The other modules hold the proofs.
use Rattle.std.specs.Prelude.{ℕ, ◌+◌, ◌/◌, ◌<◌, ◌≡◌, ◌≢◌, List, [], length, get_or, set}
use native.Mathlib.Omega.{arith}
use Rattle.std.proofs.Common.{sym, ◌∙◌, subst}
use Rattle.std.proofs.Math.Path.{ap}
use Rattle.std.proofs.Math.Option.{some}
use Rattle.book_rules.specs.Sums.{word, exchanged}
use Rattle.book_rules.specs.Blocks.{Block, Entry}
use Rattle.book_rules.specs.Books.{Book, fault, total, read, withdraw, add_fault, add}
use Rattle.book_rules.specs.Noticed.{Sized, Refused}
use Rattle.book_rules.proofs.Round.{Ranged}
use Rattle.book_rules.proofs.Kept as kept
use Rattle.book_rules.proofs.Added as added
use Rattle.book_rules.proofs.Damaged as damage
use Rattle.book_rules.proofs.History as histories
use Rattle.book_rules.specs.Bytes.{block_at, book_of, holding}
use Rattle.book_rules.specs.Views as views

-- "Reading back what was written": an add that is not refused is read back, word for word, and every other badge is read as before.
pub reads_back : (e : Entry) (b : Book) → add_fault e b ≡ 0 → Ranged e.matcher → Ranged e.pattern
    → read e.badge (add e b).book ≡ record { answer = 0; number = 1; found = some e; book = (add e b).book }
reads_back e b h m p = added.read_back e b h m p

pub reads_others : (e : Entry) (b : Book) → add_fault e b ≡ 0 → Ranged e.matcher → Ranged e.pattern
    → (x : ℕ) → x ≢ e.badge → (read x (add e b).book).found ≡ (read x b).found
reads_others e b h m p x n = added.read_other e b h m p x n

-- "A true total of live rules after any adds and withdrawals", refused calls among them, from a book of which nothing is in use.
abbrev pub unused : List Block → Book
unused lent = record { lent = lent; used = 0 }

pub true_total : (lent : List Block) (calls : List histories.Call)
    → (total (histories.history (unused lent) calls)).number + histories.all_lost (unused lent) calls ≡ (total (unused lent)).number + histories.all_gained (unused lent) calls
true_total lent calls = (histories.true_total (unused lent) calls (histories.empty_good lent)).1

-- "A refused call changes no block."
pub refused_add : (e : Entry) (b : Book) → (add e b).answer ≢ 0 → (add e b).book ≡ b
refused_add e b h = kept.refused_add_kept e b h

pub refused_withdraw : (x : ℕ) (b : Book) → (withdraw x b).answer ≢ 0 → (withdraw x b).book ≡ b
refused_withdraw x b h = kept.refused_withdraw_kept x b h

-- "A new rule takes the lowest withdrawn block before the book grows", and no other block changes.
pub takes_lowest : (e : Entry) (b : Book) (h : add_fault e b ≡ 0) (m : Ranged e.matcher) (p : Ranged e.pattern) → kept.Slot b (added.at e b h m p)
takes_lowest e b h m p = added.add_where e b h m p

pub leaves_others : (e : Entry) (b : Book) (h : add_fault e b ≡ 0) (m : Ranged e.matcher) (p : Ranged e.pattern)
    → (j : ℕ) → j ≢ added.at e b h m p → get_or (add e b).book.lent j [] ≡ get_or b.lent j []
leaves_others e b h m p j n = added.add_leaves e b h m p j n

-- Lent bytes whose book is good: any change within one word of a block in use is 12, and any exchange of two unequal words of it is 12 or 13.
module _ (s : List ℕ) (bytes : views.Bytes s) (used : ℕ) (good : fault (book_of s used) ≡ 0) (k : ℕ) (low : k < (book_of s used).used) where
  inside : k < length s / 512
  unfolding book_of
  inside = let l = kept.good_lent (book_of s used) good in let n = views.length_blocks s 0 (length s / 512) in omega arith

  its_own : damage.own (book_of s used) good k low ≡ block_at s k
  unfolding damage.own book_of
  its_own = views.block_of s 0 (length s / 512) k inside ∙ ap (λ (x : ℕ). block_at s x) (here k)
    where
      here : (k : ℕ) → 0 + k ≡ k
      here k = omega arith

  sized : Sized (damage.own (book_of s used) good k low)
  sized = subst (λ (b : Block). Sized b) (sym its_own) (views.block_sized s bytes k)

  pub change_told : (i y : ℕ) → i < 256 → y < 65536 → word (damage.own (book_of s used) good k low) i ≢ y
      → fault (damage.damaged (book_of s used) k (set (damage.own (book_of s used) good k low) i y)) ≡ 12
  change_told i y hi hy n = damage.change_told (book_of s used) good k low i y sized hi hy n

  pub exchange_told : (i j : ℕ) → i < 256 → j < 256 → word (damage.own (book_of s used) good k low) i ≢ word (damage.own (book_of s used) good k low) j
      → Refused (fault (damage.damaged (book_of s used) k (exchanged (damage.own (book_of s used) good k low) i j)))
  exchange_told i j hi hj n = damage.exchange_told (book_of s used) good k low i j sized hi hj n

-- Lent bytes hold their own blocks, so a book that stays leaves every byte.
pub bytes_stay : (s : List ℕ) → views.Bytes s → (used : ℕ) → holding s (book_of s used).lent ≡ s
unfolding book_of
bytes_stay s b used = views.holds_own s b (length s / 512) (omega arith)
