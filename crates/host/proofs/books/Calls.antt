-- The calls on a book by what crate `book` gives. Assumes nothing.
use Prim.Native.Nat.{ℕ, zero, suc, ◌≤◌}
use mathlib.Core.Path.{◌≡◌, refl, sym, ap, ap₂, ◌∙◌}
use mathlib.Core.Bool.{Bool}
use mathlib.Core.Option.{Option, none, some}
use mathlib.Core.List.{List, [], ◌∷◌}
use lib.ListN.{length, get_or}
use lib.IntN.{ℤ}
use borrow.Author.Tests.{le-ltb}
use Rattle.book_rules.specs.Blocks.{Entry, badge_of, entry_of, unless, or_else, holds, taken}
use Rattle.book_rules.specs.Books.{Book, Told, in_use, fault, passed, unless_refused, place, withdraw_from, withdraw, slot, add_fault, add_in, add, total, read}
use Rattle.book_rules.specs.Books as paper
use Rattle.book_rules.specs.Bytes.{block_at}
use Rattle.book.specs.Totals.{number_in}
use Rattle.book.specs.Lookup.{Read, nothing, rule, head_in, found_in, RuleTold, block_fault, badge_unless, rule_unless, badge_in, rule_in, shown_in, BlockTold}
use Rattle.std.specs.Prelude.{Some, None, Result, Ok, Err}
use Rattle.std.specs.Option.{is_some}
use Rattle.std.specs.Result.{result_unwrap_or as unwrap_or}
use mir.Val.{bool_byte}
use Rattle.std.specs.Prelude as code
use Rattle.book_blocks.specs.declared.fault.Fault.{Fault}
use Rattle.book_blocks.specs.declared.reading.Head.{Head}
use Rattle.book_blocks.specs.Faults.{answer_of}
use Rattle.book.specs.declared.lookup.Shown.{Shown}
use Rattle.host_numbers.specs.Numbers.{bytes_of, over}
use Rattle.host.specs.Border.{called}
use Rattle.host.specs.Books.{rule_numbers, head_numbers, rule_words, shown, showing, read_called, block_called}

-- ---- Add and withdraw tell no number.

module _ (b : Book) where
  refused_number : (n : ℕ) (t : Told) → t.number ≡ 0 → (unless_refused n b t).number ≡ 0
  unfolding unless_refused
  refused_number zero t h = h
  refused_number (suc n) t h = refl

  pub add_number : (e : Entry) → (add e b).number ≡ 0
  unfolding add
  add_number e = refused_number (add_fault e b) (add_in e b (slot b)) (either (slot b))
    where
      either : (o : Option ℕ) → (add_in e b o).number ≡ 0
      either none = unfold add_in paper.changed in refl
      either (some i) = unfold add_in paper.changed in refl

  pub withdraw_number : (x : ℕ) → (withdraw x b).number ≡ 0
  unfolding withdraw
  withdraw_number x = refused_number (or_else (fault b) (unless (taken x (in_use b)) 23)) (withdraw_from b (place (holds x) (in_use b))) (either (place (holds x) (in_use b)))
    where
      either : (o : Option ℕ) → (withdraw_from b o).number ≡ 0
      either none = unfold withdraw_from paper.changed in refl
      either (some i) = unfold withdraw_from paper.changed in refl

-- ---- What is told where there is no refusal.

pub number_is : (r : Result ℕ Fault) (n : ℕ) → n ≡ unwrap_or r 0 → n ≡ number_in r
number_is (Ok m) n e = e
number_is (Err f) n e = e

pub head_is : (r : Result (code.Option Head) Fault) (o : code.Option Head) → o ≡ unwrap_or r None → o ≡ head_in r
head_is (Ok h) o e = e
head_is (Err f) o e = e

pub found_is : (o : code.Option Head) (b : Bool) (n : ℕ) → b ≡ is_some o → n ≡ bool_byte b → n ≡ found_in o
found_is None b n e f = f ∙ ap bool_byte e
found_is (Some h) b n e f = f ∙ ap bool_byte e

-- ---- A rule that is read.

rule_told : {found : Option Entry} {head : code.Option Head} {words after : List ℤ} → Read found head words after → (rule_numbers found ≡ head_numbers head) × (rule_words found words ≡ after)
unfolding rule_numbers rule_words
rule_told nothing = (refl, refl)
rule_told (rule w) = (rw (w.version_is, w.dialect_is, w.matcher_is, w.pattern_is), sym w.words_are)

-- The four numbers, one by one.
pub four : (head : code.Option Head) (ns : List ℕ) → ns ≡ head_numbers head → get_or ns 0 0 ∷ get_or ns 1 0 ∷ get_or ns 2 0 ∷ get_or ns 3 0 ∷ [] ≡ head_numbers head
four None ns e = rw e
four (Some h) ns e = rw e

module _ (x n : ℕ) (found : Option Entry) (words : List ℤ) (numbers : List ℕ) where
  pub show_told : (head : code.Option Head) (after : List ℤ) (out : List ℕ) → 48 ≤ length numbers → 124 ≤ length words → Read found head words after
      → out ≡ over (bytes_of (x ∷ n ∷ head_numbers head)) numbers → called x after out ≡ showing x n found words numbers
  unfolding showing shown
  show_told head after out h k w o =
      let r = rule_told w in
      rw (le-ltb (length numbers) 48 h, le-ltb (length words) 124 k)
      (ap₂ (λ (y : List ℤ) (z : List ℕ). called x y z) (sym r.1) (o ∙ ap (λ (l : List ℕ). over (bytes_of (x ∷ n ∷ l)) numbers) (sym r.0)))

module _ (x : ℕ) (b : Book) (words : List ℤ) (numbers : List ℕ) where
  pub read_told : (r : Result (code.Option Head) Fault) (after : List ℤ) (out : List ℕ) (g a f : ℕ) (ns : List ℕ) → 48 ≤ length numbers → 124 ≤ length words → RuleTold (read x b) r words after
      → g ≡ answer_of r → a ≡ g → f ≡ found_in (head_in r) → ns ≡ head_numbers (head_in r)
      → out ≡ over (bytes_of (a ∷ f ∷ ns)) numbers → called g after out ≡ read_called x b words numbers
  unfolding read_called
  read_told r after out g a f ns h k w eg ea ef en o =
      ap (λ (y : ℕ). called y after out) (eg ∙ w.answer_is)
      ∙ show_told (read x b).answer (read x b).number (read x b).found words numbers (head_in r) after out h k w.rule_is
      (o ∙ ap (λ (l : List ℕ). over (bytes_of (a ∷ f ∷ l)) numbers) en ∙ ap₂ (λ (y z : ℕ). over (bytes_of (y ∷ z ∷ head_numbers (head_in r))) numbers) (ea ∙ eg ∙ w.answer_is) (ef ∙ w.found_is))

module _ (s : List ℕ) (j : ℕ) (words : List ℤ) (numbers : List ℕ) where
  pub block_told : (r : Result (code.Option Shown) Fault) (after : List ℤ) (out : List ℕ) (g a f : ℕ) (ns : List ℕ) → 48 ≤ length numbers → 124 ≤ length words → BlockTold s j r words after
      → g ≡ answer_of r → a ≡ g → f ≡ badge_in (shown_in r) → ns ≡ head_numbers (rule_in (shown_in r))
      → out ≡ over (bytes_of (a ∷ f ∷ ns)) numbers → called g after out ≡ block_called s j words numbers
  unfolding block_called
  block_told r after out g a f ns h k w eg ea ef en o =
      ap (λ (y : ℕ). called y after out) (eg ∙ w.answer_is)
      ∙ show_told (block_fault s j) (badge_unless (block_fault s j) (badge_of (block_at s j))) (rule_unless (block_fault s j) (badge_of (block_at s j)) (entry_of (block_at s j)))
      words numbers (rule_in (shown_in r)) after out h k w.rule_is
      (o ∙ ap (λ (l : List ℕ). over (bytes_of (a ∷ f ∷ l)) numbers) en ∙ ap₂ (λ (y z : ℕ). over (bytes_of (y ∷ z ∷ head_numbers (rule_in (shown_in r)))) numbers) (ea ∙ eg ∙ w.answer_is) (ef ∙ w.badge_is))
