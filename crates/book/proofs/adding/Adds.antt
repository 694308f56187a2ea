-- A rule added, as the code asks for it. Assumes nothing.
use Prim.Native.Nat.{ℕ, zero, suc, ◌+◌, ◌-◌, ◌*◌, ◌/◌, ◌≤◌, ◌<◌, max}
use native.Mathlib.Omega.{arith}
use mathlib.Core.Path.{◌≡◌, refl, sym, ap, ap₂, ◌∙◌, subst}
use mathlib.Core.Bool.{true, not}
use mathlib.Core.Option.{Option, none, some}
use mathlib.Core.List.{List, ◌++◌}
use lib.ListN.{length, replicate, length-append, length-replicate}
use lib.Seq.{sets}
use lib.Dec.{eqb, leb}
use borrow.Author.Tests.{leb-true}
use Rattle.book_rules.specs.Sums.{word}
use Rattle.book_rules.specs.Blocks.{Block, split, Entry, counts, laid, written, unless, or_else, known, taken}
use Rattle.book_rules.specs.Books.{Book, Told, in_use, fault, unless_refused, changed, dialect_for, proper, is_some, slot, add_fault, add_at, add_in, add}
use Rattle.book_rules.specs.Bytes.{words_from, block_at, blocks_from, book_of, bytes_of}
use Rattle.book_rules.proofs.Kept.{Slot, lowest, grown, slot_is}
use Rattle.book_rules.specs.Noticed.{Sized, good_number}
use Rattle.book_rules.proofs.Round.{Dialect, first, second, dialect_is, length_split, length_sealed}
use Rattle.book_rules.specs.Views.{Bytes, length_bytes, length_blocks, block_sized, within_sets, words_back}
use Rattle.book_rules.proofs.Walks.{First, or_second, last_test, and_also_fst, and_also_snd}
use Rattle.book_rules.proofs.Walks as walks
use Rattle.book.specs.Testing.{found, Answered}
use Rattle.book.specs.Changes.{ChangeTold, written_at, added_at, own_refusal}
use Rattle.std.specs.Prelude.{Some, None}
use Rattle.std.specs.Prelude as code
use Rattle.book.proofs.Views.{good_fits, good_in_use, lent_is}
use Rattle.book.proofs.Blocks as blocks
use Rattle.book.proofs.withdrawal.Changes.{turned_away_lem, nowhere, left_alone, one_block}

-- ---- A block that was written has 256 words of 16 bits: they are seen in the bytes.

module _ (k : ℕ) (e : Entry) (few : length e.matcher + length e.pattern ≤ 124) where
  long : length (laid k e) ≡ 254
  unfolding laid counts
  long =
      let a = length_split (e.matcher ++ e.pattern) in
      let c = length-append e.matcher e.pattern in
      let d = length-append (split (e.matcher ++ e.pattern)) (replicate (249 - 2 * (length e.matcher + length e.pattern)) 0) in
      let f = length-replicate {A = ℕ} (249 - 2 * (length e.matcher + length e.pattern)) 0 in
      omega arith

  length_written : length (written k e) ≡ 256
  unfolding written
  length_written = length_sealed (laid k e) long

sized_by : (s after : List ℕ) (k : ℕ) (ws : List ℕ) → length ws ≡ 256 → 512 * k + 512 ≤ length s → after ≡ sets s (512 * k) (bytes_of ws) → Bytes after → Sized ws
sized_by s after k ws l h e bytes = subst (λ (x : Block). Sized x) seen (block_sized after bytes k)
  where
    seen : block_at after k ≡ ws
    seen = let n = length_bytes ws in unfold block_at in ap (λ (t : List ℕ). words_from t (512 * k) 256) e
        ∙ words_back ws (sets s (512 * k) (bytes_of ws)) (512 * k) 256 l (λ j q. within_sets 0 (bytes_of ws) s (512 * k) j (omega arith) (omega arith))

-- ---- The refusals in their order.

or_again : (a b c : ℕ) → or_else (or_else a b) c ≡ or_else a (or_else b c)
unfolding or_else
or_again zero b c = refl
or_again (suc a) b c = refl

or_first : (n m : ℕ) → (n ≡ 0 → ⊥) → or_else n m ≡ n
unfolding or_else
or_first zero m h = absurd (h refl)
or_first (suc n) m h = refl

fault_is : (e : Entry) (b : Book) → add_fault e b ≡ or_else (fault b) (or_else (own_refusal e (in_use b)) (unless (is_some (slot b)) 17))
unfolding add_fault own_refusal
fault_is e b = ap (or_else (fault b)) (sym (
    or_again (unless (known e.version) 14) _ (unless (is_some (slot b)) 17)
    ∙ ap (or_else (unless (known e.version) 14)) (or_again (unless (proper e) 15) _ (unless (is_some (slot b)) 17)
    ∙ ap (or_else (unless (proper e) 15)) (or_again (unless (not (taken e.badge (in_use b))) 16) _ (unless (is_some (slot b)) 17)))))

module _ (s : List ℕ) (bytes : Bytes s) (used : ℕ) (e : Entry) (a j : ℕ) (w : Answered (book_of s used) a j) where
  abbrev b : Book
  b = book_of s used

  fault_by : add_fault e b ≡ or_else a (or_else (own_refusal e (in_use b)) (unless (is_some (slot b)) 17))
  fault_by = fault_is e b ∙ ap (λ (n : ℕ). or_else n (or_else (own_refusal e (in_use b)) (unless (is_some (slot b)) 17))) (sym w.answer_is)

  away : (n : ℕ) → add_fault e b ≡ n → (n ≡ 0 → ⊥) → ChangeTold (add e b) (added_at e b) n 0 used s s
  unfolding add added_at
  away n p h = left_alone s bytes used n (add e b) (added_at e b)
      (ap (λ (m : ℕ). unless_refused m b (add_in e b (slot b))) p ∙ turned_away_lem n b (add_in e b (slot b)) h)
      (ap (λ (m : ℕ). written_at m (slot b)) p ∙ nowhere n (slot b) h)

  pub add_refused : (a ≡ 0 → ⊥) → ChangeTold (add e b) (added_at e b) a 0 used s s
  add_refused n = away a (fault_by ∙ or_first a (or_else (own_refusal e (in_use b)) (unless (is_some (slot b)) 17)) n) n

  module _ (z : a ≡ 0) (o : ℕ) (eo : o ≡ own_refusal e (blocks_from s 0 used)) where
    good : fault b ≡ 0
    good = sym w.answer_is ∙ z

    room : 512 * used ≤ length s
    room = good_fits s used a w.answer_is z

    fault_own : add_fault e b ≡ or_else o (unless (is_some (slot b)) 17)
    unfolding or_else
    fault_own = fault_by ∙ ap₂ (λ (n m : ℕ). or_else n (or_else m (unless (is_some (slot b)) 17))) z (ap (own_refusal e) (good_in_use s used room) ∙ sym eo)

    pub add_own : (o ≡ 0 → ⊥) → ChangeTold (add e b) (added_at e b) o 0 used s s
    add_own n = away o (fault_own ∙ or_first o (unless (is_some (slot b)) 17) n) n

    module _ (zo : o ≡ 0) (f : code.Option ℕ) (ef : f ≡ found (slot b)) where
      fault_slot : add_fault e b ≡ unless (is_some (slot b)) 17
      unfolding or_else
      fault_slot = fault_own ∙ ap (λ (n : ℕ). or_else n (unless (is_some (slot b)) 17)) zo

      pub add_full : f ≡ None → ChangeTold (add e b) (added_at e b) 17 0 used s s
      add_full h = away 17 (fault_slot ∙ ap (λ (p : Option ℕ). unless (is_some p) 17) (blocks.found_none (slot b) f ef h) ∙ none_free) (λ c. clash c)
        where
          none_free : unless (is_some none) 17 ≡ 17
          none_free = unfold unless is_some in refl

          clash : ◌≡◌ {A = ℕ} 17 0 → ⊥
          clash c = omega arith

      module _ (k : ℕ) (h : f ≡ Some k) where
        at : slot b ≡ some k
        at = blocks.found_some (slot b) f k ef h

        ok : add_fault e b ≡ 0
        unfolding unless is_some
        ok = fault_slot ∙ ap (λ (p : Option ℕ). unless (is_some p) 17) at

        where_it_goes : Slot b k
        where_it_goes = slot_is b k at

        low : k < used → k < 65536
        low m =
            let g = blocks.good_block s used good k m in
            let q = good_number k g.0 (block_at s k) g.1 in
            under (word (block_at s k) 0) q ((block_sized s bytes k).small 0)
          where
            under : (x : ℕ) → x ≡ k → x < 65536 → k < 65536
            under x p q = omega arith

        inside : Slot b k → (512 * k + 512 ≤ length s) × (k < 65536)
        inside (lowest i) =
            let n = length_blocks s 0 used in
            let l : k < length (blocks_from s 0 used) = subst (λ (bs : List Block). k < length bs) (good_in_use s used room) i.inside in
            let m : k < used = omega arith in
            (omega (arith, room), low m)
        inside (grown full p l m) = past p l m (lent_is s used) used_is
          where
            used_is : (book_of s used).used ≡ used
            used_is = unfold book_of in refl

            past : k ≡ b.used → b.used < length b.lent → b.used < 65536 → length b.lent ≡ length s / 512 → b.used ≡ used → (512 * k + 512 ≤ length s) × (k < 65536)
            past p l m n u = (omega arith, omega arith)

        pub add_fits : 512 * k + 512 ≤ length s
        add_fits = (inside where_it_goes).0

        pub add_small : k < 65536
        add_small = (inside where_it_goes).1

        own_zero : own_refusal e (in_use b) ≡ 0
        own_zero = ap (own_refusal e) (good_in_use s used room) ∙ sym eo ∙ zo

        past_version : or_else (unless (proper e) 15) (or_else (unless (not (taken e.badge (in_use b))) 16) (unless (leb (counts e) 124) 18)) ≡ 0
        unfolding own_refusal
        past_version = or_second (unless (known e.version) 14) _ own_zero

        is_proper : proper e ≡ true
        is_proper = last_test (proper e) 15 (omega arith) (walks.or_first (unless (proper e) 15) _ past_version)

        pub add_short : length e.matcher + length e.pattern ≤ 124
        unfolding counts
        add_short = leb-true (counts e) 124 (last_test (leb (counts e) 124) 18 (omega arith) (or_second (unless (not (taken e.badge (in_use b))) 16) _ (or_second (unless (proper e) 15) _ past_version)))

        dialects : Dialect e.version e.dialect → (1 ≤ e.dialect) × (e.dialect ≤ 2)
        dialects (first p) = (omega arith, omega arith)
        dialects (second p q) = (omega arith, omega arith)

        pub add_dialect : (1 ≤ e.dialect) × (e.dialect ≤ 2)
        unfolding proper
        add_dialect = dialects (dialect_is e.version e.dialect (and_also_fst (dialect_for e.version e.dialect) _ (and_also_snd (not (eqb e.badge 0)) _ is_proper)))

        add_is : add e b ≡ changed (add_at e b k)
        unfolding add unless_refused add_in
        add_is = ap₂ (λ (n : ℕ) (p : Option ℕ). unless_refused n b (add_in e b p)) ok at

        at_is : added_at e b ≡ k
        unfolding added_at written_at
        at_is = ap₂ written_at ok at

        pub add_written : (u : ℕ) (after : List ℕ) → Bytes after → u ≡ max used (k + 1) → after ≡ sets s (512 * k) (bytes_of (written k e))
            → ChangeTold (add e b) (added_at e b) 0 k u s after
        add_written u after bytes' eu ea = subst (λ (t : Told). ChangeTold t (added_at e b) 0 k u s after) (sym add_is) told
          where
            next : k + 1 ≡ suc k
            next = omega arith

            told : ChangeTold (changed (add_at e b k)) (added_at e b) 0 k u s after
            told = unfold changed add_at book_of in record {
              answer_is = refl;
              block_is = sym at_is;
              used_is = eu ∙ ap (max used) next;
              bytes_are = ea ∙ one_block s bytes used k (written k e) add_fits (sized_by s after k (written k e) (length_written k e add_short) add_fits ea bytes');
            }
