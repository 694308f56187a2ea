-- Choices of the last open frame that are pairs, passed over at once: as so many turns. Assumes nothing.
use Prim.Native.Nat.{ℕ, suc, ◌+◌, ◌-◌, ◌<◌}
use native.Mathlib.Omega.{arith}
use mathlib.Core.Path.{◌≡◌, refl, sym, ap, subst, ◌∙◌}
use mathlib.Core.Bool.{Bool, true, false}
use mathlib.Core.List.{List}
use lib.ListN.{length, get_or, length-set}
use lib.Seq.{get_or-set_same, get_or-set_other, set-get_or, set-set, set_comm}
use lib.Count.{count_trailing_zeros}
use lib.IntN.{ℤ, pos}
use borrow.Author.Tests.{ne_eqb}
use Rattle.std.specs.Prelude.{Option, Some, None}
use Rattle.words.specs.Marks.{clear}
use Rattle.value_places.specs.Places.{element_at}
use Rattle.value_rows.specs.Row.{nothing}
use Rattle.value_rows.specs.declared.Binding.{Binding}
use Rattle.value_equality.specs.Equality.{is_sum}
use Rattle.tables.specs.Slot.{Tables, held_in, put_held, put_left}
use Rattle.search_atom.specs.Leaves.{when, is_wide, stored, part_marks, part_held}
use Rattle.search_step.specs.declared.State.{State}
use Rattle.search_step.specs.Steps.{counted, moved, lived, dropped, apart_at, apart_ats, apart_backs, apart_of}
use Rattle.search_seek.specs.Passed.{later, timed}
use Rattle.search_seek.specs.Pairs.{is_part, second_cost, cost_of, lowest_in, PassedPairs, stays, over, waiting}
use Rattle.search_seek.specs.declared.pairs.Sum.{Sum}
use Rattle.search_seek.specs.declared.pairs.Wanted.{Wanted}
use Rattle.search_seek.proofs.Passing.{element_some}
use Rattle.search.specs.Plain.{divide_of, step_by, step_of}
use Rattle.search.specs.Run.{Env, Run, run, after_turn, take_step, take_of, settled, run_of}
use Rattle.search.proofs.Counts.{run_more}
use Rattle.search.proofs.Sweeps.{Turns, no_turns, more_turns, take_fails, place, stood, chosen, picked, again}
use Rattle.search.proofs.Leaves.{take_holds, turn}

-- A pair is taken apart.
take_apart : (e : Env) (x : State) (t : Tables) (b : List Binding) (room : List ℤ) → get_or e.op x.pc 0 ≡ 11 → is_wide e.words x.at 1 ≡ true
    → take_of e (run x t b room)
    ≡ run (moved (counted x) (x.pc + 1) (element_at e.words x.at 0) (part_marks e.words x.at 0)) (put_held x.pc (part_held e.words x.at 1) t) b room
unfolding take_of take_step after_turn step_of step_by divide_of apart_of apart_at apart_ats apart_backs stored part_held put_held counted when
take_apart e x t b room z f = rw (z, f)

-- What is asked of the pair behind line j, the cons: the line of its first part asks for one integer; and the one after it, where both are asked for, for
-- another, of what waits at the pair's line.
pub record Then (e : Env) (b : List Binding) (j : ℕ) (q : Sum) : Type 0 where
  pub waits : get_or e.from (j + 1 + 1) 0 ≡ j + 1
  pub line : get_or e.op (get_or e.to (j + 1 + 1) 0) 0 ≡ 5
  pub at : q.at ≡ (get_or b (get_or e.arg (get_or e.to (j + 1 + 1) 0) 0) nothing).at
  pub plus : q.plus ≡ get_or e.con (get_or e.to (j + 1 + 1) 0) (pos 0)

pub record Wants (e : Env) (b : List Binding) (j : ℕ) (w : Wanted) : Type 0 where
  pub cons : get_or e.op j 0 ≡ 9
  pub pair : get_or e.op (j + 1) 0 ≡ 11
  pub line : get_or e.op (j + 1 + 1) 0 ≡ 5
  pub at : w.first.at ≡ (get_or b (get_or e.arg (j + 1 + 1) 0) nothing).at
  pub plus : w.first.plus ≡ get_or e.con (j + 1 + 1) (pos 0)
  pub also : (q : Sum) → w.second ≡ Some q → Then e b j q

module _ (e : Env) (b : List Binding) (j : ℕ) (w : Wanted) (wants : Wants e b j w) (room : List ℤ) where
  -- ---- One choice: the frame at j is the last that is open, with c left to choose from, not only one.

  module _ (x : State) (t : Tables) (live : x.live ≡ 2) (some : x.top ≡ 0 → ⊥) (top : x.top - 1 ≡ j) (c : ℕ) (left : get_or t.lefts j 0 ≡ c)
      (more : clear (count_trailing_zeros 64 c) c ≡ 0 → ⊥) (inside : j + 1 < length t.ats) where
    lowest : ℕ
    lowest = place e j wants.cons x t b room live some top c left more

    at_pair : State
    at_pair = stood e j wants.cons x t b room live some top c left more

    in_pair : Tables
    in_pair = chosen e j wants.cons x t b room live some top c left more

    -- The tables with the second part in its slot.
    held : Tables
    held = put_held (j + 1) (part_held e.words lowest 1) t

    abbrev passed : (k : ℕ) → Run
    passed k = run (timed x (x.steps + k)) (put_left j (clear (count_trailing_zeros 64 c) c) held) b room

    module _ (wide : is_wide e.words lowest 1 ≡ true) where
      at_first : State
      at_first = moved (counted at_pair) (j + 1 + 1) (element_at e.words lowest 0) (part_marks e.words lowest 0)

      in_first : Tables
      in_first = put_held (j + 1) (part_held e.words lowest 1) in_pair

      parted : (n : ℕ) → run_of e (suc n) (settled e (run x t b room)) ≡ run_of e n (run at_first in_first b room)
      unfolding at_first in_first at_pair in_pair lowest stood moved counted
      parted n =
          ap (run_of e (suc n)) (picked e j wants.cons x t b room live some top c left more)
          ∙ turn e n (run at_pair in_pair b room) (run at_first in_first b room) refl (take_apart e at_pair in_pair b room wants.pair wide) refl

      -- Where it has failed, the next choice is as from the state before.
      fallen : (k : ℕ) (y : State) → y.top ≡ x.top → y.rows ≡ x.rows → y.steps ≡ x.steps + k → y.words ≡ x.words
          → settled e (run (lived y 2) in_first b room) ≡ settled e (passed k)
      unfolding lived timed in_first in_pair held chosen put_held
      fallen k y o r n m =
          let z : j ≡ j + 1 → ⊥ = λ q. absurd (omega (arith, q)) in
          rw (o, r, n, m, set_comm t.backs j (j + 1) (clear (count_trailing_zeros 64 c) (get_or t.wholes j 0)) (part_held e.words lowest 1).marks z)
          (again e j wants.cons x held b room live some top c left more _ _ _ x.rows (x.steps + k) x.words b room)

      first_asked : (v : Bool) → is_part e.words w.first lowest 0 ≡ v
          → is_sum e.words (get_or b (get_or e.arg (j + 1 + 1) 0) nothing).at (get_or e.con (j + 1 + 1) (pos 0)) (element_at e.words lowest 0) ≡ v
      unfolding is_part
      first_asked v f = rw (← wants.at, ← wants.plus) f

      over_first : is_part e.words w.first lowest 0 ≡ false → settled e (passed 2) ≡ run_of e 2 (settled e (run x t b room))
      unfolding at_first at_pair stood moved counted run_of
      over_first f = sym (parted 1 ∙ run_more e 0 (run at_first in_first b room) refl
          ∙ ap (settled e) (take_fails e at_first in_first b room wants.line (first_asked false f))
          ∙ fallen 2 (counted at_first) refl refl (omega arith) refl)

      module _ (q : Sum) (also : Then e b j q) where
        at_second : State
        at_second = dropped e.from e.to in_first.ats in_first.backs (counted at_first)

        second_at : at_second.at ≡ element_at e.words lowest 1
        unfolding at_second dropped moved counted at_first in_first in_pair chosen put_held part_held
        second_at = rw also.waits (get_or-set_same t.ats (j + 1) (element_at e.words lowest 1) 0 inside)

        over_second : is_part e.words w.first lowest 0 ≡ true → is_part e.words q lowest 1 ≡ false → settled e (passed 3) ≡ run_of e 3 (settled e (run x t b room))
        unfolding is_part at_second dropped at_first at_pair stood moved counted run_of
        over_second f s = sym (parted 2
            ∙ turn e 1 (run at_first in_first b room) (run at_second in_first b room) refl (take_holds e at_first in_first b room wants.line (first_asked true f)) refl
            ∙ run_more e 0 (run at_second in_first b room) refl
            ∙ ap (settled e) (take_fails e at_second in_first b room also.line (rw (second_at, ← also.at, ← also.plus) s))
            ∙ fallen 3 (counted at_second) refl refl (omega arith) refl)

    over_lowest : 0 < cost_of e.words w lowest → Turns e (run x t b room) (passed (cost_of e.words w lowest))
    unfolding cost_of second_cost when timed
    over_lowest = go (is_wide e.words lowest 1) refl (is_part e.words w.first lowest 0) refl w.second refl
      where
        at_second : (q : Sum) → Then e b j q → is_wide e.words lowest 1 ≡ true → is_part e.words w.first lowest 0 ≡ true → (s : Bool) → is_part e.words q lowest 1 ≡ s
            → 0 < when s 0 3 → Turns e (run x t b room) (passed (when s 0 3))
        at_second q also d f false r h = record { more = 3; steps = refl; are = over_second d q also f r }
        at_second q also d f true r h = absurd (omega (arith, h))

        go : (d : Bool) → is_wide e.words lowest 1 ≡ d → (f : Bool) → is_part e.words w.first lowest 0 ≡ f → (o : Option Sum) → w.second ≡ o
            → 0 < when d (when f (second_cost e.words o lowest) 2) 0 → Turns e (run x t b room) (passed (when d (when f (second_cost e.words o lowest) 2) 0))
        go true d true f (Some q) o h = at_second q (wants.also q o) d f (is_part e.words q lowest 1) refl h
        go true d true f None o h = absurd (omega (arith, h))
        go true d false f o p h = record { more = 2; steps = refl; are = over_first d f }
        go false d f p o q h = absurd (omega (arith, h))

    over_turns : (l : ℕ) → lowest ≡ l → 0 < cost_of e.words w l
        → Turns e (run x t b room) (run (timed x (x.steps + cost_of e.words w l)) (put_left j (clear (count_trailing_zeros 64 c) c) (put_held (j + 1) (part_held e.words l 1) t)) b room)
    unfolding held
    over_turns l q = subst (λ (n : ℕ). 0 < cost_of e.words w n
        → Turns e (run x t b room) (run (timed x (x.steps + cost_of e.words w n)) (put_left j (clear (count_trailing_zeros 64 c) c) (put_held (j + 1) (part_held e.words n 1) t)) b room)) q over_lowest

  -- ---- The choices passed over.

  module _ (x : State) (t : Tables) (live : x.live ≡ 2) (some : x.top ≡ 0 → ⊥) (top : x.top - 1 ≡ j) (inside : j < length t.lefts) (slot : j + 1 < length t.ats) where
    kept : (last : ℕ) → Tables
    kept last = put_held (j + 1) (waiting e.words last (held_in t (j + 1))) t

    after : (left steps last : ℕ) → Run
    after left steps last = run (timed x steps) (put_left j left (kept last)) b room

    abbrev low : ℕ → ℕ
    low c = lowest_in e.words (get_or t.ats j 0) c

    module _ (c k m : ℕ) (h : 0 < later c) (f : 0 < cost_of e.words w (low c)) where
      slot_there : j + 1 < length (put_left j c (kept m)).ats
      unfolding kept put_left put_held
      slot_there = omega (arith, slot, length-set t.ats (j + 1) (waiting e.words m (held_in t (j + 1))).at)

      left_is : get_or (put_left j c (kept m)).lefts j 0 ≡ c
      unfolding kept put_left put_held
      left_is = get_or-set_same t.lefts j c 0 inside

      not_last : clear (count_trailing_zeros 64 c) c ≡ 0 → ⊥
      unfolding later
      not_last z = absurd (omega (arith, z, h))

      live_is : (timed x k).live ≡ 2
      unfolding timed
      live_is = live

      some_is : (timed x k).top ≡ 0 → ⊥
      unfolding timed
      some_is = some

      top_is : (timed x k).top - 1 ≡ j
      unfolding timed
      top_is = top

      low_is : lowest (timed x k) (put_left j c (kept m)) live_is some_is top_is c left_is not_last slot_there ≡ low c
      unfolding lowest place lowest_in kept put_left put_held
      low_is = ap (λ (n : ℕ). element_at e.words n (count_trailing_zeros 64 c)) (get_or-set_other t.ats (j + 1) j (waiting e.words m (held_in t (j + 1))).at 0 (λ q. absurd (omega (arith, q))))

      waits_is : waiting e.words (low c) (held_in t (j + 1)) ≡ part_held e.words (low c) 1
      unfolding waiting when lowest_in
      waits_is = rw (ne_eqb (low c) 0 (λ z. absurd (omega (arith, z, element_some e.words (get_or t.ats j 0) (count_trailing_zeros 64 c)))))

      tables_are : put_left j (later c) (kept (low c)) ≡ put_left j (clear (count_trailing_zeros 64 c) c) (put_held (j + 1) (part_held e.words (low c) 1) (put_left j c (kept m)))
      unfolding kept put_left put_held later
      tables_are = let v = waiting e.words m (held_in t (j + 1)) in let u = part_held e.words (low c) 1 in
          rw (waits_is, set-set t.ats (j + 1) v.at u.at, set-set t.lefts j c (clear (count_trailing_zeros 64 c) c), set-set t.backs (j + 1) v.marks u.marks)

      one_more : Turns e (after c k m) (after (later c) (k + cost_of e.words w (low c)) (low c))
      unfolding after timed
      one_more = rw tables_are (over_turns (timed x k) (put_left j c (kept m)) live_is some_is top_is c left_is not_last slot_there (low c) low_is f)

    no_more : Turns e (run x t b room) (run (timed x x.steps) (put_left j (get_or t.lefts j 0) (put_held (j + 1) (waiting e.words 0 (held_in t (j + 1))) t)) b room)
    unfolding timed waiting when held_in put_left put_held
    no_more = rw (set-get_or t.lefts j 0, set-get_or t.ats (j + 1) 0, set-get_or t.backs (j + 1) 0) (no_turns e (run x t b room))

    pub pairs_turns : (left steps last : ℕ) → PassedPairs e.words (get_or t.ats j 0) w (get_or t.lefts j 0) x.steps left steps last
        → Turns e (run x t b room) (run (timed x steps) (put_left j left (put_held (j + 1) (waiting e.words last (held_in t (j + 1))) t)) b room)
    unfolding after kept
    pairs_turns left steps last stays = no_more
    pairs_turns left steps last (over c k m p h f) =
        more_turns e (run x t b room) (after c k m) (after (later c) (k + cost_of e.words w (low c)) (low c)) (pairs_turns c k m p) (one_more c k m h f)
