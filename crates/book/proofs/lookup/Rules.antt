-- A rule read by its badge, and a block by itself, as the code asks for it. Assumes nothing.
use Prim.Native.Nat.{ℕ, zero, suc, ◌+◌, ◌*◌, ◌/◌, ◌≤◌, ◌<◌}
use mathlib.Core.Path.{◌≡◌, refl, sym, ap, ap₂, ◌∙◌, subst}
use mathlib.Core.Bool.{Bool, true, false}
use mathlib.Core.Option.{Option, none, some}
use mathlib.Core.List.{List, []}
use lib.ListN.{length}
use lib.IntN.{ℤ}
use borrow.Author.Tests.{lt-ltb, le-ltb, eq-eqb, ne_eqb}
use Rattle.book_rules.specs.Blocks.{Block, Entry, badge_of, entry_of, live_formed, holds, verdict}
use Rattle.book_rules.specs.Books.{Book, Told, in_use, fault, unless_refused, place, read_at, read}
use Rattle.book_rules.specs.Bytes.{block_at, blocks_from, book_of}
use Rattle.book_rules.proofs.Round.{none_taken}
use Rattle.book_rules.proofs.Walks.{untaken_place}
use Rattle.book_blocks.specs.Heads.{ReadAs}
use Rattle.book.specs.Testing.{bears, found, Answered}
use Rattle.book.specs.Lookup.{Read, nothing, rule, head_in, found_in, RuleTold, block_fault, badge_unless, rule_unless, badge_in, rule_in, shown_in, BlockTold}
use Rattle.std.specs.Prelude.{Some, None, Result, Ok, Err}
use Rattle.std.specs.Prelude as code
use Rattle.book_blocks.specs.declared.fault.Fault.{Fault}
use Rattle.book_blocks.specs.declared.reading.Head.{Head}
use Rattle.book_blocks.specs.Faults.{number_of, answer_of}
use Rattle.book.specs.declared.lookup.Shown.{Shown}
use Rattle.book.proofs.Views.{good_fits, good_in_use}
use Rattle.book.proofs.Blocks as blocks
use Rattle.book.proofs.testing.Finding.{place_holds}

-- ---- The block of a live badge.

pub live_none : (x : ℕ) (bs : List Block) → x ≡ 0 → None ≡ found (place (holds x) bs)
unfolding found
live_none x bs z = sym (ap (λ (y : ℕ). found (place (holds y) bs)) z ∙ ap found (untaken_place 0 bs (none_taken bs)))

pub live_some : (x : ℕ) (bs : List Block) (f : code.Option ℕ) → (x ≡ 0 → ⊥) → f ≡ found (place (bears x) bs) → f ≡ found (place (holds x) bs)
live_some x bs f n e = e ∙ ap found (sym (place_holds x n bs))

-- ---- Read by a badge.

told : (answer number : ℕ) (found : Option Entry) → Book → Told
told a n f b = record { answer = a; number = n; found = f; book = b }

turned_away_lem : (n : ℕ) (b : Book) (t : Told) → (n ≡ 0 → ⊥) → unless_refused n b t ≡ told n 0 none b
unfolding unless_refused told
turned_away_lem zero b t h = absurd (h refl)
turned_away_lem (suc n) b t h = refl

module _ (s : List ℕ) (used x a j : ℕ) (w : Answered (book_of s used) a j) where
  abbrev b : Book
  b = book_of s used

  read_by : read x b ≡ unless_refused a b (read_at b (place (holds x) (in_use b)))
  unfolding read
  read_by = ap (λ (n : ℕ). unless_refused n b (read_at b (place (holds x) (in_use b)))) (sym w.answer_is)

  nothing_told : (r : Result (code.Option Head) Fault) (words : List ℤ) → read x b ≡ told (answer_of r) 0 none b → head_in r ≡ None → RuleTold (read x b) r words words
  unfolding told
  nothing_told r words e n = subst (λ (t : Told). RuleTold t r words words) (sym e)
      (record { answer_is = refl; found_is = ap found_in n; rule_is = subst (λ (o : code.Option Head). Read none o words words) (sym n) nothing })

  pub read_refused : (r : Fault) (words : List ℤ) → a ≡ number_of r → RuleTold (read x b) (Err r) words words
  read_refused r words q = nothing_told (Err r) words
      (read_by ∙ turned_away_lem a b (read_at b (place (holds x) (in_use b))) (λ h. blocks.refused r (sym q ∙ h)) ∙ ap (λ (n : ℕ). told n 0 none b) q) refl

  module _ (z : a ≡ 0) (f : code.Option ℕ) (e : f ≡ found (place (holds x) (blocks_from s 0 used))) where
    good : fault b ≡ 0
    good = sym w.answer_is ∙ z

    read_good : read x b ≡ read_at b (place (holds x) (blocks_from s 0 used))
    unfolding unless_refused
    read_good = read_by ∙ ap₂ (λ (n : ℕ) (bs : List Block). unless_refused n b (read_at b (place (holds x) bs))) z (good_in_use s used (good_fits s used a w.answer_is z))

    pub read_none : (words : List ℤ) → f ≡ None → RuleTold (read x b) (Ok None) words words
    unfolding read_at told
    read_none words q = nothing_told (Ok None) words (read_good ∙ ap (read_at b) (blocks.found_none (place (holds x) (blocks_from s 0 used)) f e q)) refl

    module _ (k : ℕ) (q : f ≡ Some k) where
      at : place (holds x) (blocks_from s 0 used) ≡ some k
      at = blocks.found_some (place (holds x) (blocks_from s 0 used)) f k e q

      pub read_fits : 512 * k + 512 ≤ length s
      read_fits = blocks.found_fits s used good (holds x) k at

      pub read_live : live_formed (block_at s k) ≡ true
      read_live = blocks.found_live s used good x k at

      pub read_found : (h : Head) (words after : List ℤ) → ReadAs (entry_of (block_at s k)) h.version h.dialect h.matcher h.pattern words after
          → RuleTold (read x b) (Ok (Some h)) words after
      unfolding read_at told
      read_found h words after q = subst (λ (t : Told). RuleTold t (Ok (Some h)) words after)
          (sym (read_good ∙ ap (read_at b) at ∙ ap (λ (c : Block). told 0 1 (some (entry_of c)) b) (blocks.lent_at s used good k read_fits)))
          (record { answer_is = refl; found_is = refl; rule_is = rule q })

pub read_room : (s : List ℕ) (used a j : ℕ) → Answered (book_of s used) a j → a ≡ 0 → 512 * used ≤ length s
read_room s used a j w z = good_fits s used a w.answer_is z

-- ---- One block.

module _ (s : List ℕ) (k : ℕ) where
  no_block : (r : Result (code.Option Shown) Fault) (words : List ℤ) → answer_of r ≡ block_fault s k → shown_in r ≡ None
      → badge_unless (answer_of r) (badge_of (block_at s k)) ≡ 0 → rule_unless (answer_of r) (badge_of (block_at s k)) (entry_of (block_at s k)) ≡ none → BlockTold s k r words words
  no_block r words e n f g = record {
    answer_is = e;
    badge_is = ap badge_in n ∙ sym (ap (λ (m : ℕ). badge_unless m (badge_of (block_at s k))) (sym e) ∙ f);
    rule_is = subst (λ (o : code.Option Shown). Read (rule_unless (block_fault s k) (badge_of (block_at s k)) (entry_of (block_at s k))) (rule_in o) words words) (sym n)
        (subst (λ (o : Option Entry). Read o None words words) (sym (ap (λ (m : ℕ). rule_unless m (badge_of (block_at s k)) (entry_of (block_at s k))) (sym e) ∙ g)) nothing);
  }

  no_badge : (n : ℕ) → (n ≡ 0 → ⊥) → badge_unless n (badge_of (block_at s k)) ≡ 0
  unfolding badge_unless
  no_badge zero h = absurd (h refl)
  no_badge (suc n) h = refl

  no_rule : (n : ℕ) → (n ≡ 0 → ⊥) → rule_unless n (badge_of (block_at s k)) (entry_of (block_at s k)) ≡ none
  unfolding rule_unless
  no_rule zero h = absurd (h refl)
  no_rule (suc n) h = refl

  turned_away : (f : Fault) (words : List ℤ) → number_of f ≡ block_fault s k → BlockTold s k (Err f) words words
  turned_away f words e = no_block (Err f) words e refl (no_badge (number_of f) (blocks.refused f)) (no_rule (number_of f) (blocks.refused f))

  pub show_missing : (f : Fault) (words : List ℤ) → length s / 512 ≤ k → number_of f ≡ 13 → BlockTold s k (Err f) words words
  show_missing f words h q = turned_away f words (q ∙ sym missing)
    where
      missing : block_fault s k ≡ 13
      missing = unfold block_fault in ap (λ (t : Bool). elim t as (λ _. ℕ) [ true ↦ verdict k [] (block_at s k) | false ↦ 13 ]) (le-ltb k (length s / 512) h)

  module _ (l : k < length s / 512) (a : ℕ) (e : a ≡ verdict k [] (block_at s k)) where
    fault_is : a ≡ block_fault s k
    unfolding block_fault
    fault_is = e ∙ sym (ap (λ (t : Bool). elim t as (λ _. ℕ) [ true ↦ verdict k [] (block_at s k) | false ↦ 13 ]) (lt-ltb k (length s / 512) l))

    pub show_refused : (f : Fault) (words : List ℤ) → number_of f ≡ a → BlockTold s k (Err f) words words
    show_refused f words q = turned_away f words (q ∙ fault_is)

    module _ (z : a ≡ 0) (x : ℕ) (ex : x ≡ badge_of (block_at s k)) where
      none_is : 0 ≡ block_fault s k
      none_is = sym z ∙ fault_is

      pub show_withdrawn : (words : List ℤ) → x ≡ 0 → BlockTold s k (Ok None) words words
      unfolding badge_unless rule_unless
      show_withdrawn words h = no_block (Ok None) words none_is refl (sym ex ∙ h)
          (ap (λ (t : Bool). elim t as (λ _. Option Entry) [ true ↦ none | false ↦ some (entry_of (block_at s k)) ]) (eq-eqb (badge_of (block_at s k)) 0 (sym ex ∙ h)))

      module _ (n : x ≡ 0 → ⊥) where
        pub show_live : live_formed (block_at s k) ≡ true
        show_live = blocks.formed_live (block_at s k) (blocks.good_formed k [] (block_at s k) (sym e ∙ z)) (λ h. n (ex ∙ h))

        rule_there : some (entry_of (block_at s k)) ≡ rule_unless (block_fault s k) (badge_of (block_at s k)) (entry_of (block_at s k))
        unfolding rule_unless
        rule_there = sym (ap (λ (m : ℕ). rule_unless m (badge_of (block_at s k)) (entry_of (block_at s k))) (sym none_is)
            ∙ ap (λ (t : Bool). elim t as (λ _. Option Entry) [ true ↦ none | false ↦ some (entry_of (block_at s k)) ]) (ne_eqb (badge_of (block_at s k)) 0 (λ h. n (ex ∙ h))))

        pub show_found : (h : Head) (words after : List ℤ) → ReadAs (entry_of (block_at s k)) h.version h.dialect h.matcher h.pattern words after
            → BlockTold s k (Ok (Some (record { badge = x; head = h }))) words after
        unfolding badge_unless
        show_found h words after q = record {
          answer_is = none_is;
          badge_is = ex ∙ sym (ap (λ (y : ℕ). badge_unless y (badge_of (block_at s k))) (sym none_is));
          rule_is = subst (λ (o : Option Entry). Read o (Some h) words after) rule_there (rule q);
        }
