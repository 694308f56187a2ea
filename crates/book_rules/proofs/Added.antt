-- Document 02, No. 7: an add that is not refused: the lowest withdrawn block, reading back, the total.
use Rattle.std.specs.Prelude.{ℕ, suc, ◌+◌, ◌<◌, ◌≤◌, max, ◌≡◌, Bool, false, not, ◌≢◌, set, leb}
use native.Mathlib.Omega.{arith}
use Rattle.std.proofs.Math.Path.{refl, ap, subst}
use Rattle.std.proofs.Common.{sym, ◌∙◌, length-set, leb→le}
use Rattle.std.proofs.Math.Bool.{true}
use Rattle.std.proofs.Math.Option.{Option, none, some}
use mathlib.Core.List.{List, []}
use Rattle.std.proofs.Math.ListN.{length, get_or}
use Rattle.std.proofs.Math.Seq.{get_or-set_same, get_or-set_other}
use Rattle.std.proofs.Math.Dec.{eqb, T}
use Rattle.book_rules.specs.Blocks.{Block, Entry, counts, written, badge_of, entry_of, unless, or_else, known, holds, taken, verdict}
use Rattle.book_rules.specs.Books.{Book, in_use, walk, fault, Told, unless_refused, changed, place, withdrawn, live, total, read_at, read, dialect_for, proper, slot, is_some, add_fault, add_at, add_in, add}
use Rattle.book_rules.proofs.Round.{is_false, holds_true, eqb_other, Ranged, Fit, entry_back, written_badge, written_good}
use Rattle.book_rules.proofs.Walks.{place_other, stored, take_stored, holds_own, held_is, walk_stored, place_some, place_stored, live_added, or_first, or_second, last_test, and_also_fst, and_also_snd}
use Rattle.book_rules.proofs.Kept.{good_walk, good_lent, good_book, Slot, slot_is, Place, placed_by, total_is, found_is, withdrawn_holds}

some_is : (o : Option ℕ) → is_some o ≡ true → (i : ℕ) × (o ≡ some i)
unfolding is_some
some_is none h = absurd (subst T (sym h) tt)
some_is (some i) h = (i, refl)

not_true : (t : Bool) → not t ≡ true → t ≡ false
not_true true h = absurd (subst T (sym h) tt)
not_true false h = refl

module _ (e : Entry) (b : Book) (ok : add_fault e b ≡ 0) where
  add_good : fault b ≡ 0
  unfolding add_fault
  add_good = or_first (fault b) _ ok

  after_fault : or_else (unless (known e.version) 14) (or_else (unless (proper e) 15) (or_else (unless (not (taken e.badge (in_use b))) 16) (or_else (unless (leb (counts e) 124) 18) (unless (is_some (slot b)) 17)))) ≡ 0
  unfolding add_fault
  after_fault = or_second (fault b) _ ok

  add_version : known e.version ≡ true
  add_version = last_test (known e.version) 14 (omega arith) (or_first (unless (known e.version) 14) _ after_fault)

  after_version : or_else (unless (proper e) 15) (or_else (unless (not (taken e.badge (in_use b))) 16) (or_else (unless (leb (counts e) 124) 18) (unless (is_some (slot b)) 17))) ≡ 0
  after_version = or_second (unless (known e.version) 14) _ after_fault

  add_proper : proper e ≡ true
  add_proper = last_test (proper e) 15 (omega arith) (or_first (unless (proper e) 15) _ after_version)

  after_proper : or_else (unless (not (taken e.badge (in_use b))) 16) (or_else (unless (leb (counts e) 124) 18) (unless (is_some (slot b)) 17)) ≡ 0
  after_proper = or_second (unless (proper e) 15) _ after_version

  add_new : taken e.badge (in_use b) ≡ false
  add_new = not_true (taken e.badge (in_use b)) (last_test (not (taken e.badge (in_use b))) 16 (omega arith) (or_first (unless (not (taken e.badge (in_use b))) 16) _ after_proper))

  after_new : or_else (unless (leb (counts e) 124) 18) (unless (is_some (slot b)) 17) ≡ 0
  after_new = or_second (unless (not (taken e.badge (in_use b))) 16) _ after_proper

  add_short : counts e ≤ 124
  add_short = leb→le (counts e) 124 (holds_true (last_test (leb (counts e) 124) 18 (omega arith) (or_first (unless (leb (counts e) 124) 18) _ after_new)))

  add_slot : (i : ℕ) × (slot b ≡ some i)
  add_slot = some_is (slot b) (last_test (is_some (slot b)) 17 (omega arith) (or_second (unless (leb (counts e) 124) 18) _ after_new))

  add_badge : e.badge ≢ 0
  unfolding proper
  add_badge z = subst T (sym (ap (λ (x : ℕ). eqb x 0) z) ∙ not_true (eqb e.badge 0) (and_also_fst (not (eqb e.badge 0)) _ add_proper)) tt

  pub fit : Ranged e.matcher → Ranged e.pattern → Fit e
  unfolding proper
  fit rm rp =
      let r = and_also_snd (not (eqb e.badge 0)) _ add_proper in
      record {
        version = add_version;
        badge = add_badge;
        dialect = and_also_fst (dialect_for e.version e.dialect) _ r;
        rule = and_also_snd (dialect_for e.version e.dialect) _ r;
        short = add_short;
        matcher = rm;
        pattern = rp;
      }

  module _ (rm : Ranged e.matcher) (rp : Ranged e.pattern) where
    pub at : ℕ
    at = add_slot.0

    after : Book
    after = add_at e b at

    its : Place b at
    unfolding at
    its = placed_by b at (good_lent b add_good) (slot_is b at add_slot.1)

    block_badge : badge_of (written at e) ≡ e.badge
    block_badge = written_badge at e (fit rm rp)

    add_in_use : in_use after ≡ stored (in_use b) at (written at e)
    unfolding after add_at
    add_in_use = take_stored b.used at b.lent (written at e) its.low its.lent

    after_good : fault after ≡ 0
    after_good = good_book after
        (ap (λ (x : List Block). walk 0 [] x) add_in_use ∙ walk_stored 0 [] (in_use b) at (written at e) its.seen
        (λ ys h. subst (λ (k : ℕ). verdict k ys (written at e) ≡ 0) (from at) (written_good at e (fit rm rp) ys (ap (λ (x : ℕ). taken x ys) (sym block_badge) ∙ h)))
        (unfold taken in refl)
        (ap (λ (x : ℕ). taken x (in_use b)) block_badge ∙ add_new)
        (good_walk b add_good))
        (unfold after add_at in wide b.used at (length b.lent) (length (set b.lent at (written at e))) (length-set b.lent at (written at e)) (good_lent b add_good) its.lent)
      where
        from : (k : ℕ) → k ≡ 0 + k
        from k = omega arith

        wide : (u i n m : ℕ) → m ≡ n → u ≤ n → i < n → max u (suc i) ≤ m
        wide u i n m e p q = omega arith

    add_is : add e b ≡ changed after
    unfolding add unless_refused add_in at after
    add_is = ap (λ (n : ℕ). unless_refused n b (add_in e b (slot b))) ok ∙ ap (λ (o : Option ℕ). add_in e b o) add_slot.1

    add_book : (add e b).book ≡ after
    unfolding changed
    add_book = ap (λ (t : Told). t.book) add_is

    -- One block is written, block `at`, and no other changes.
    pub add_writes : get_or (add e b).book.lent at [] ≡ written at e
    unfolding after add_at
    add_writes = ap (λ (x : Book). get_or x.lent at []) add_book ∙ get_or-set_same b.lent at (written at e) [] its.lent

    pub add_leaves : (j : ℕ) → j ≢ at → get_or (add e b).book.lent j [] ≡ get_or b.lent j []
    unfolding after add_at
    add_leaves j ne = ap (λ (x : Book). get_or x.lent j []) add_book ∙ get_or-set_other b.lent at j (written at e) [] ne

    pub add_used : (add e b).book.used ≡ max b.used (suc at)
    unfolding after add_at
    add_used = ap (λ (x : Book). x.used) add_book

    -- (f) It is the lowest withdrawn block, or the next one where none is withdrawn.
    pub add_where : Slot b at
    unfolding at
    add_where = slot_is b at add_slot.1

    found_place : place (holds e.badge) (in_use after) ≡ some at
    found_place = ap (λ (x : List Block). place (holds e.badge) x) add_in_use
        ∙ place_stored e.badge (in_use b) at (written at e) its.seen add_new
        (ap (λ (x : ℕ). holds x (written at e)) (sym block_badge) ∙ holds_own (written at e) (λ z. add_badge (sym block_badge ∙ z)))

    found_entry : entry_of (get_or after.lent at []) ≡ e
    unfolding after add_at
    found_entry = ap entry_of (get_or-set_same b.lent at (written at e) [] its.lent) ∙ entry_back at e (fit rm rp)

    read_after : read e.badge after ≡ record { answer = 0; number = 1; found = some e; book = after }
    unfolding read unless_refused read_at
    read_after =
        ap (λ (n : ℕ). unless_refused n after (read_at after (place (holds e.badge) (in_use after)))) after_good
        ∙ ap (λ (o : Option ℕ). read_at after o) found_place
        ∙ ap (λ (x : Entry). telling after x) found_entry
      where
        telling : Book → Entry → Told
        telling x y = record { answer = 0; number = 1; found = some y; book = x }

    -- (c) Reading back what was added.
    pub read_back : read e.badge (add e b).book ≡ record { answer = 0; number = 1; found = some e; book = (add e b).book }
    read_back = subst (λ (x : Book). read e.badge x ≡ record { answer = 0; number = 1; found = some e; book = x }) (sym add_book) read_after

    -- (d) The book is good again, and has one live rule more.
    pub add_keeps_good : fault (add e b).book ≡ 0
    add_keeps_good = ap fault add_book ∙ after_good

    -- (c) Every other badge is read as before.
    pub read_other : (x : ℕ) → x ≢ e.badge → (read x (add e b).book).found ≡ (read x b).found
    read_other x ne = ap (λ (y : Book). (read x y).found) add_book ∙ found_is x after after_good
        ∙ ap (λ (o : Option ℕ). (read_at after o).found) (ap (λ (y : List Block). place (holds x) y) add_in_use ∙ place_other (holds x) (in_use b) at (written at e) its.seen free_of_x other_badge)
        ∙ same (place (holds x) (in_use b)) refl ∙ sym (found_is x b add_good)
      where
        other_badge : holds x (written at e) ≡ false
        other_badge = is_false (holds x (written at e)) (λ h. ne (sym (held_is x (written at e) h) ∙ block_badge))

        free_of_x : at < length (in_use b) → holds x (get_or (in_use b) at []) ≡ false
        free_of_x l = withdrawn_holds x (get_or (in_use b) at []) (its.free l)

        same : (o : Option ℕ) → place (holds x) (in_use b) ≡ o → (read_at after o).found ≡ (read_at b o).found
        same none p = unfold read_at in refl
        same (some j) p =
            let f = place_some (holds x) (in_use b) j p in
            unfold read_at after add_at in ap (λ (c : Block). some (entry_of c)) (get_or-set_other b.lent at j (written at e) [] (elsewhere j f.passes f.inside))
          where
            elsewhere : (j : ℕ) → holds x (get_or (in_use b) j []) ≡ true → j < length (in_use b) → j ≢ at
            elsewhere j q l z = subst T (sym q ∙ ap (λ (m : ℕ). holds x (get_or (in_use b) m [])) z ∙ free_of_x (subst (λ (m : ℕ). m < length (in_use b)) z l)) tt

    live_after : live (in_use after) ≡ 1 + live (in_use b)
    unfolding withdrawn
    live_after = ap live add_in_use ∙ live_added (in_use b) at (written at e) its.seen its.free
        (ap (λ (x : ℕ). eqb x 0) block_badge ∙ eqb_other e.badge 0 add_badge)

    pub total_added : (total (add e b).book).number ≡ 1 + (total b).number
    total_added = total_is (add e b).book add_keeps_good ∙ ap (λ (x : Book). live (in_use x)) add_book ∙ live_after ∙ ap (λ (n : ℕ). 1 + n) (sym (total_is b add_good))
