-- Document 02, No. 7: a withdrawal that is not refused: the block is emptied, the badge is not live any more, every other is read as before.
use Prim.Native.Nat.{ℕ, suc, ◌+◌, ◌<◌, ◌≤◌, max}
use native.Mathlib.Omega.{arith}
use Rattle.std.specs.Prelude.{◌≡◌, ◌≢◌, length, set}
use Rattle.std.proofs.Math.Path.{refl, ap, subst}
use Rattle.std.proofs.Common.{sym, ◌∙◌, length-set, eqb→eq}
use Rattle.std.proofs.Math.Bool.{true, false}
use Rattle.std.proofs.Math.Option.{Option, none, some}
use mathlib.Core.List.{List, []}
use Rattle.std.proofs.Math.ListN.{get_or, take}
use Rattle.std.proofs.Math.Seq.{get_or-set_same, get_or-set_other}
use Rattle.std.proofs.Math.Dec.{eqb, T}
use Rattle.book_rules.specs.Sums.{word}
use Rattle.book_rules.specs.Blocks.{Block, emptied, badge_of, entry_of, unless, or_else, known, holds, taken, verdict}
use Rattle.book_rules.specs.Books.{Book, in_use, walk, fault, Told, unless_refused, changed, place, withdrawn, live, total, read_at, read, withdraw_at, withdraw_from, withdraw}
use Rattle.book_rules.proofs.Round.{is_false, holds_true, emptied_badge, emptied_good, none_taken}
use Rattle.book_rules.proofs.Walks.{holds_zero, verdict_version, taken_out, taken_place, untaken_place, place_other, get_d_take, stored, take_stored, held_is, walk_stored, walk_at, First, place_some, live_withdrawn, or_first, or_second, last_test}
use Rattle.book_rules.proofs.Kept.{good_walk, good_lent, good_book, in_use_long, total_is, found_is, withdrawn_holds}

module _ (x : ℕ) (b : Book) (ok : or_else (fault b) (unless (taken x (in_use b)) 23) ≡ 0) where
  was_good : fault b ≡ 0
  was_good = or_first (fault b) _ ok

  was_live : taken x (in_use b) ≡ true
  was_live = last_test (taken x (in_use b)) 23 (omega arith) (or_second (fault b) _ ok)

  spot : (i : ℕ) × (place (holds x) (in_use b) ≡ some i)
  spot = taken_place x (in_use b) was_live

  -- The block that held the badge.
  pub gone : ℕ
  gone = spot.0

  where_it_was : First (holds x) (in_use b) spot.0
  where_it_was = place_some (holds x) (in_use b) spot.0 spot.1

  left : Block
  left = emptied spot.0 (word (get_or b.lent spot.0 []) 1)

  less : Book
  less = withdraw_at b spot.0

  spot_low : spot.0 < b.used
  spot_low = let n = in_use_long b (good_lent b was_good) in let m = where_it_was.inside in omega arith

  in_lent : get_or (in_use b) spot.0 [] ≡ get_or b.lent spot.0 []
  in_lent = get_d_take b.used spot.0 b.lent spot_low

  less_in_use : in_use less ≡ stored (in_use b) spot.0 left
  unfolding less withdraw_at left
  less_in_use = ap (λ (n : ℕ). take n (set b.lent spot.0 left)) (reach b.used spot.0 spot_low)
      ∙ take_stored b.used spot.0 b.lent left (below b.used spot.0 spot_low) (inside b.used spot.0 (length b.lent) spot_low (good_lent b was_good))
    where
      reach : (u i : ℕ) → i < u → u ≡ max u (suc i)
      reach u i h = omega arith

      below : (u i : ℕ) → i < u → i ≤ u
      below u i h = omega arith

      inside : (u i n : ℕ) → i < u → u ≤ n → i < n
      inside u i n h l = omega arith

  left_badge : badge_of left ≡ 0
  unfolding left
  left_badge = emptied_badge spot.0 (word (get_or b.lent spot.0 []) 1)

  less_good : fault less ≡ 0
  unfolding left
  less_good = good_book less
      (ap (λ (y : List Block). walk 0 [] y) less_in_use ∙ walk_stored 0 [] (in_use b) spot.0 left (under where_it_was.inside)
      (λ ys _. subst (λ (k : ℕ). verdict k ys left ≡ 0) (from spot.0) (unfold left in emptied_good spot.0 (word (get_or b.lent spot.0 []) 1) ys its_version))
      (ap (λ (y : ℕ). taken y []) left_badge ∙ none_taken [])
      (ap (λ (y : ℕ). taken y (in_use b)) left_badge ∙ none_taken (in_use b))
      (good_walk b was_good))
      (unfold less withdraw_at in wide b.used (length b.lent) (length (set b.lent spot.0 left)) (length-set b.lent spot.0 left) (good_lent b was_good))
    where
      under : {i n : ℕ} → i < n → i ≤ n
      under h = omega arith

      from : (k : ℕ) → k ≡ 0 + k
      from k = omega arith

      wide : (u n m : ℕ) → m ≡ n → u ≤ n → u ≤ m
      wide u n m e p = omega arith

      its_version : known (word (get_or b.lent spot.0 []) 1) ≡ true
      its_version =
          let r = walk_at 0 [] (in_use b) spot.0 where_it_was.inside (good_walk b was_good) in
          ap (λ (c : Block). known (word c 1)) (sym in_lent) ∙ verdict_version (0 + spot.0) r.0 (get_or (in_use b) spot.0 []) r.1

  withdraw_is : withdraw x b ≡ changed less
  unfolding withdraw unless_refused withdraw_from less
  withdraw_is = ap (λ (n : ℕ). unless_refused n b (withdraw_from b (place (holds x) (in_use b)))) ok ∙ ap (λ (o : Option ℕ). withdraw_from b o) spot.1

  withdraw_book : (withdraw x b).book ≡ less
  unfolding changed
  withdraw_book = ap (λ (t : Told). t.book) withdraw_is

  pub withdraw_writes : get_or (withdraw x b).book.lent gone [] ≡ emptied gone (word (get_or b.lent gone []) 1)
  unfolding less withdraw_at gone
  withdraw_writes = ap (λ (y : Book). get_or y.lent spot.0 []) withdraw_book ∙ get_or-set_same b.lent spot.0 (emptied spot.0 (word (get_or b.lent spot.0 []) 1)) []
      (inside b.used spot.0 (length b.lent) spot_low (good_lent b was_good))
    where
      inside : (u i n : ℕ) → i < u → u ≤ n → i < n
      inside u i n h l = omega arith

  pub withdraw_leaves : (j : ℕ) → j ≢ gone → get_or (withdraw x b).book.lent j [] ≡ get_or b.lent j []
  unfolding less withdraw_at gone
  withdraw_leaves j ne = ap (λ (y : Book). get_or y.lent j []) withdraw_book ∙ get_or-set_other b.lent spot.0 j (emptied spot.0 (word (get_or b.lent spot.0 []) 1)) [] ne

  pub withdraw_used : (withdraw x b).book.used ≡ b.used
  unfolding less withdraw_at
  withdraw_used = ap (λ (y : Book). y.used) withdraw_book

  pub gone_low : gone < b.used
  unfolding gone
  gone_low = spot_low

  pub withdraw_keeps_good : fault (withdraw x b).book ≡ 0
  withdraw_keeps_good = ap fault withdraw_book ∙ less_good

  live_before : live (in_use b) ≡ 1 + live (in_use less)
  unfolding withdrawn
  live_before = live_withdrawn (in_use b) spot.0 left where_it_was.inside not_yet (ap (λ (y : ℕ). eqb y 0) left_badge) ∙ ap (λ (y : List Block). 1 + live y) (sym less_in_use)
    where
      not_yet : eqb (badge_of (get_or (in_use b) spot.0 [])) 0 ≡ false
      not_yet = is_false (eqb (badge_of (get_or (in_use b) spot.0 [])) 0) (λ z.
          held_none (get_or (in_use b) spot.0 []) (eqb→eq (badge_of (get_or (in_use b) spot.0 [])) 0 z) where_it_was.passes)
        where
          held_none : (c : Block) → badge_of c ≡ 0 → holds x c ≡ true → ⊥
          held_none c z h = subst T (sym h ∙ ap (λ (y : ℕ). holds y c) (sym (held_is x c (holds_true h)) ∙ z) ∙ holds_zero c) tt

  -- (d) One live rule less, and that badge is not live any more.
  pub total_withdrawn : (total b).number ≡ 1 + (total (withdraw x b).book).number
  total_withdrawn = total_is b was_good ∙ live_before ∙ ap (λ (y : Book). 1 + live (in_use y)) (sym withdraw_book) ∙ ap (λ (n : ℕ). 1 + n) (sym (total_is (withdraw x b).book withdraw_keeps_good))

  pub not_live_then : taken x (in_use (withdraw x b).book) ≡ false
  not_live_then = ap (λ (y : Book). taken x (in_use y)) withdraw_book ∙ ap (λ (y : List Block). taken x y) less_in_use
      ∙ taken_out 0 x [] (in_use b) spot.0 left where_it_was.inside (good_walk b was_good) where_it_was.passes where_it_was.before
      (is_false (holds x left) (λ h. live_badge (sym (held_is x left h) ∙ left_badge)))
    where
      live_badge : x ≡ 0 → ⊥
      live_badge z = subst T (sym was_live ∙ ap (λ (y : ℕ). taken y (in_use b)) z ∙ none_taken (in_use b)) tt

  pub read_none_then : (read x (withdraw x b).book).found ≡ none
  read_none_then = found_is x (withdraw x b).book withdraw_keeps_good ∙ ap (λ (o : Option ℕ). (read_at (withdraw x b).book o).found) (untaken_place x (in_use (withdraw x b).book) not_live_then)
      ∙ unfold read_at in refl

  pub read_others_then : (y : ℕ) → y ≢ x → (read y (withdraw x b).book).found ≡ (read y b).found
  read_others_then y ne = ap (λ (z : Book). (read y z).found) withdraw_book ∙ found_is y less less_good
      ∙ ap (λ (o : Option ℕ). (read_at less o).found) (ap (λ (z : List Block). place (holds y) z) less_in_use
      ∙ place_other (holds y) (in_use b) spot.0 left (under where_it_was.inside) (λ _. not_there) not_left)
      ∙ same (place (holds y) (in_use b)) refl ∙ sym (found_is y b was_good)
    where
      under : {i n : ℕ} → i < n → i ≤ n
      under h = omega arith

      not_there : holds y (get_or (in_use b) spot.0 []) ≡ false
      not_there = is_false (holds y (get_or (in_use b) spot.0 [])) (λ h.
          ne (sym (held_is y (get_or (in_use b) spot.0 []) h) ∙ held_is x (get_or (in_use b) spot.0 []) (holds_true where_it_was.passes)))

      not_left : holds y left ≡ false
      not_left = withdrawn_holds y left (unfold withdrawn in ap (λ (z : ℕ). eqb z 0) left_badge)

      same : (o : Option ℕ) → place (holds y) (in_use b) ≡ o → (read_at less o).found ≡ (read_at b o).found
      same none p = unfold read_at in refl
      same (some j) p =
          let f = place_some (holds y) (in_use b) j p in
          unfold read_at less withdraw_at in ap (λ (c : Block). some (entry_of c)) (get_or-set_other b.lent spot.0 j (emptied spot.0 (word (get_or b.lent spot.0 []) 1)) [] (elsewhere j f.passes))
        where
          elsewhere : (j : ℕ) → holds y (get_or (in_use b) j []) ≡ true → j ≢ spot.0
          elsewhere j q z = subst T (sym q ∙ ap (λ (m : ℕ). holds y (get_or (in_use b) m [])) z ∙ not_there) tt
