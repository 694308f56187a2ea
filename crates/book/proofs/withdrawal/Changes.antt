-- A rule withdrawn, as the code asks for it. Assumes nothing.
use Prim.Native.Nat.{ℕ, zero, suc, ◌+◌, ◌*◌, ◌/◌, ◌≤◌, ◌<◌}
use native.Mathlib.Omega.{arith}
use mathlib.Core.Path.{◌≡◌, refl, sym, ap, ap₂, ◌∙◌, subst}
use mathlib.Core.Bool.{Bool, true, false}
use mathlib.Core.Option.{Option, none, some}
use mathlib.Core.List.{List}
use lib.ListN.{length, set}
use lib.Seq.{sets}
use Rattle.book_rules.specs.Sums.{word}
use Rattle.book_rules.specs.Blocks.{Block, emptied, unless, or_else, known, holds, taken}
use Rattle.book_rules.specs.Books.{Book, Told, in_use, fault, unless_refused, changed, place, withdraw_at, withdraw_from, withdraw}
use Rattle.book_rules.specs.Bytes.{block_at, blocks_from, book_of, bytes_of, holding}
use Rattle.book_rules.proofs.Main.{bytes_stay}
use Rattle.book_rules.specs.Noticed.{Sized}
use Rattle.book_rules.proofs.Sizes.{emptied_sized}
use Rattle.book_rules.specs.Views.{Bytes, holds_one}
use Rattle.book_rules.proofs.Walks.{taken_place, untaken_place, verdict_version}
use Rattle.book.specs.Testing.{found, Answered}
use Rattle.book.specs.Changes.{ChangeTold, written_at, withdrawn_at}
use Rattle.std.specs.Prelude.{Some, None}
use Rattle.std.specs.Prelude as code
use Rattle.book.proofs.Views.{good_fits, good_in_use}
use Rattle.book.proofs.Blocks as blocks

-- ---- A refused call leaves every byte.

pub refused_told : ℕ → Book → Told
refused_told n b = record { answer = n; number = 0; found = none; book = b }

pub turned_away_lem : (n : ℕ) (b : Book) (t : Told) → (n ≡ 0 → ⊥) → unless_refused n b t ≡ refused_told n b
unfolding unless_refused refused_told
turned_away_lem zero b t h = absurd (h refl)
turned_away_lem (suc n) b t h = refl

pub nowhere : (n : ℕ) (o : Option ℕ) → (n ≡ 0 → ⊥) → written_at n o ≡ 0
unfolding written_at
nowhere zero o h = absurd (h refl)
nowhere (suc n) o h = refl

pub left_alone : (s : List ℕ) → Bytes s → (used n : ℕ) (t : Told) (at : ℕ) → t ≡ refused_told n (book_of s used) → at ≡ 0 → ChangeTold t at n 0 used s s
unfolding refused_told
left_alone s bytes used n t at e z =
    subst (λ (u : Told). ChangeTold u at n 0 used s s) (sym e) (record {
      answer_is = refl;
      block_is = sym z;
      used_is = used_is;
      bytes_are = sym (bytes_stay s bytes used);
    })
  where
    used_is : used ≡ (book_of s used).used
    used_is = unfold book_of in refl

-- ---- Block k of the lent bytes changed.

pub one_block : (s : List ℕ) → Bytes s → (used k : ℕ) (c : Block) → 512 * k + 512 ≤ length s → Sized c → sets s (512 * k) (bytes_of c) ≡ holding s (set (book_of s used).lent k c)
unfolding book_of
one_block s bytes used k c h z = sym (holds_one s bytes k c z (length s / 512) (omega arith) (omega arith))

-- ---- A withdrawal.

module _ (s : List ℕ) (bytes : Bytes s) (used x a j : ℕ) (w : Answered (book_of s used) a j) where
  abbrev b : Book
  b = book_of s used

  withdraw_by : withdraw x b ≡ unless_refused (or_else a (unless (taken x (in_use b)) 23)) b (withdraw_from b (place (holds x) (in_use b)))
  unfolding withdraw
  withdraw_by = ap (λ (n : ℕ). unless_refused (or_else n (unless (taken x (in_use b)) 23)) b (withdraw_from b (place (holds x) (in_use b)))) (sym w.answer_is)

  first : (n m : ℕ) → (n ≡ 0 → ⊥) → or_else n m ≡ n
  unfolding or_else
  first zero m h = absurd (h refl)
  first (suc n) m h = refl

  at_none : (n : ℕ) → (n ≡ 0 → ⊥) → withdraw x b ≡ refused_told n b → withdrawn_at x b ≡ 0
  unfolding withdrawn_at refused_told
  at_none n h e = ap (λ (t : Told). written_at t.answer (place (holds x) (in_use b))) e ∙ nowhere n (place (holds x) (in_use b)) h

  pub withdraw_refused : (a ≡ 0 → ⊥) → ChangeTold (withdraw x b) (withdrawn_at x b) a 0 used s s
  withdraw_refused n =
      let e : withdraw x b ≡ refused_told a b = withdraw_by ∙ ap (λ (m : ℕ). unless_refused m b (withdraw_from b (place (holds x) (in_use b)))) (first a (unless (taken x (in_use b)) 23) n)
      ∙ turned_away_lem a b (withdraw_from b (place (holds x) (in_use b))) n in
      left_alone s bytes used a (withdraw x b) (withdrawn_at x b) e (at_none a n e)

  module _ (z : a ≡ 0) (f : code.Option ℕ) (e : f ≡ found (place (holds x) (blocks_from s 0 used))) where
    good : fault b ≡ 0
    good = sym w.answer_is ∙ z

    in_use_lem : in_use b ≡ blocks_from s 0 used
    in_use_lem = good_in_use s used (good_fits s used a w.answer_is z)

    withdraw_good : withdraw x b ≡ unless_refused (unless (taken x (in_use b)) 23) b (withdraw_from b (place (holds x) (in_use b)))
    unfolding or_else
    withdraw_good = withdraw_by ∙ ap (λ (n : ℕ). unless_refused (or_else n (unless (taken x (in_use b)) 23)) b (withdraw_from b (place (holds x) (in_use b)))) z

    pub withdraw_none : f ≡ None → ChangeTold (withdraw x b) (withdrawn_at x b) 23 0 used s s
    withdraw_none q =
        let o : place (holds x) (in_use b) ≡ none = ap (place (holds x)) in_use_lem ∙ blocks.found_none (place (holds x) (blocks_from s 0 used)) f e q in
        let t : withdraw x b ≡ refused_told 23 b = withdraw_good ∙ ap (λ (u : Bool). unless_refused (unless u 23) b (withdraw_from b (place (holds x) (in_use b)))) (untaken (taken x (in_use b)) refl o)
        ∙ not_live (withdraw_from b (place (holds x) (in_use b))) in
        left_alone s bytes used 23 (withdraw x b) (withdrawn_at x b) t (at_none 23 (λ c. clash c) t)
      where
        clash : ◌≡◌ {A = ℕ} 23 0 → ⊥
        clash c = omega arith

        not_live : (t : Told) → unless_refused (unless false 23) b t ≡ refused_told 23 b
        not_live t = unfold unless unless_refused refused_told in refl

        untaken : (u : Bool) → taken x (in_use b) ≡ u → place (holds x) (in_use b) ≡ none → taken x (in_use b) ≡ false
        untaken false p o = p
        untaken true p o =
            let v = taken_place x (in_use b) p in
            let c : some v.0 ≡ none = sym v.1 ∙ o in
            let y : ◌≡◌ {A = ℕ} 0 1 = cc in absurd (omega arith)

    module _ (k : ℕ) (q : f ≡ Some k) where
      at : place (holds x) (blocks_from s 0 used) ≡ some k
      at = blocks.found_some (place (holds x) (blocks_from s 0 used)) f k e q

      pub withdraw_fits : 512 * k + 512 ≤ length s
      withdraw_fits = blocks.found_fits s used good (holds x) k at

      pub withdraw_small : k < 65536
      withdraw_small = blocks.found_small s used good bytes (holds x) k at

      here : place (holds x) (in_use b) ≡ some k
      here = ap (place (holds x)) in_use_lem ∙ at

      live : (u : Bool) → taken x (in_use b) ≡ u → taken x (in_use b) ≡ true
      live true p = p
      live false p =
          let c : none ≡ some k = sym (untaken_place x (in_use b) p) ∙ here in
          let y : ◌≡◌ {A = ℕ} 0 1 = cc in absurd (omega arith)

      withdraw_is : withdraw x b ≡ changed (withdraw_at b k)
      unfolding unless unless_refused withdraw_from
      withdraw_is = withdraw_good ∙ ap₂ (λ (u : Bool) (o : Option ℕ). unless_refused (unless u 23) b (withdraw_from b o)) (live (taken x (in_use b)) refl) here

      its_version : known (word (block_at s k) 1) ≡ true
      its_version = let g = blocks.good_block s used good k (blocks.found_in_lem s used good (holds x) k at).0 in verdict_version k g.0 (block_at s k) g.1

      at_is : withdrawn_at x b ≡ k
      unfolding withdrawn_at written_at changed
      at_is = ap₂ (λ (t : Told) (o : Option ℕ). written_at t.answer o) withdraw_is here

      pub withdraw_found : (after : List ℕ) → after ≡ sets s (512 * k) (bytes_of (emptied k (word (block_at s k) 1)))
          → ChangeTold (withdraw x b) (withdrawn_at x b) 0 k used s after
      withdraw_found after h = subst (λ (t : Told). ChangeTold t (withdrawn_at x b) 0 k used s after) (sym withdraw_is) told
        where
          told : ChangeTold (changed (withdraw_at b k)) (withdrawn_at x b) 0 k used s after
          told = unfold changed withdraw_at book_of in record {
            answer_is = refl;
            block_is = sym at_is;
            used_is = refl;
            bytes_are = h ∙ one_block s bytes used k (emptied k (word (block_at s k) 1)) withdraw_fits (emptied_sized k (word (block_at s k) 1) withdraw_small its_version)
                ∙ ap (λ (c : Block). holding s (set (book_of s used).lent k (emptied k (word c 1)))) (sym (blocks.lent_at s used good k withdraw_fits));
          }
