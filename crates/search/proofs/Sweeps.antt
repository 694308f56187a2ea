-- Choices of the last open frame that are passed over at once: as so many turns. Assumes nothing.
use Prim.Native.Nat.{ℕ, zero, suc, ◌+◌, ◌-◌, ◌<◌}
use native.Mathlib.Omega.{arith}
use mathlib.Core.Path.{◌≡◌, refl, sym, ap, ◌∙◌}
use mathlib.Core.Bool.{Bool, true, false}
use mathlib.Core.List.{List}
use lib.ListN.{length, get_or, set}
use lib.Seq.{get_or-set_same, set-get_or, set-set}
use lib.Dec.{eqb}
use lib.Count.{count_trailing_zeros}
use lib.IntN.{ℤ, pos}
use borrow.Author.Tests.{eqb-true, eqb-false, eq-eqb, ne_eqb}
use Rattle.words.specs.Marks.{clear}
use Rattle.value_places.specs.Places.{element_at}
use Rattle.value_places.specs.Held.{whole_at}
use Rattle.value_rows.specs.Row.{nothing}
use Rattle.value_rows.specs.declared.Binding.{Binding}
use Rattle.value_equality.specs.Equality.{is_sum}
use Rattle.search_step.specs.declared.State.{State}
use Rattle.search_atom.specs.Leaves.{when, passes_of, now_left}
use Rattle.tables.specs.Slot.{Tables, tables, put_left}
use Rattle.search_step.specs.Steps.{counted, moved, lived, topped}
use Rattle.search.specs.Plain.{step_by, step_of}
use Rattle.search_choice.specs.Choices.{top_left, cons_by, cons_of, choice_of, pick_of}
use Rattle.search_seek.specs.Passed.{later, is_lowest, Passed, stays, over, timed}
use Rattle.search.specs.Run.{Env, Run, run, ask_of, bound_at, asked, after_turn, take_step, take_of, settled, run_of}
use Rattle.search.proofs.Counts.{run_over, run_more}

-- ---- Turns add up.

pub run_add : (e : Env) (a b : ℕ) (r : Run) → run_of e (a + b) r ≡ run_of e b (run_of e a r)
unfolding run_of
run_add e zero b r = let z : 0 + b ≡ b = omega arith in ap (λ (n : ℕ). run_of e n r) z
run_add e (suc a) b r = go (eqb r.state.live 1) refl (run_add e a b (settled e (take_of e r)))
  where
    go : (d : Bool) → eqb r.state.live 1 ≡ d → run_of e (a + b) (settled e (take_of e r)) ≡ run_of e b (run_of e a (settled e (take_of e r)))
        → run_of e (suc a + b) r ≡ run_of e b (run_of e (suc a) r)
    go true j h = let l = eqb-true _ _ j in let z : suc a + b ≡ suc (a + b) = omega arith in ap (λ (n : ℕ). run_of e n r) z ∙ run_more e (a + b) r l ∙ h ∙ ap (run_of e b) (sym (run_more e a r l))
    go false j h = let l = eqb-false _ _ j in run_over e (suc a + b) r l ∙ sym (run_over e b r l) ∙ ap (run_of e b) (sym (run_over e (suc a) r l))

-- Where no state stands: the next choices have been taken up, in so many turns.
pub record Turns (e : Env) (r r' : Run) : Type 0 where
  pub more : ℕ
  pub steps : r'.state.steps ≡ r.state.steps + more
  pub are : settled e r' ≡ run_of e more (settled e r)

pub no_turns : (e : Env) (r : Run) → Turns e r r
unfolding run_of
no_turns e r = record { more = 0; steps = omega arith; are = refl }

pub more_turns : (e : Env) (r s u : Run) → Turns e r s → Turns e s u → Turns e r u
more_turns e r s u p q = record {
  more = p.more + q.more;
  steps = (let a = p.steps in let b = q.steps in omega arith);
  are = q.are ∙ ap (run_of e q.more) p.are ∙ sym (run_add e p.more q.more (settled e r));
}

-- ---- A choice that fails.

-- Tag 3 under integer, where it is not equal.
pub take_fails : (e : Env) (x : State) (t : Tables) (b : List Binding) (room : List ℤ) → get_or e.op x.pc 0 ≡ 5
    → is_sum e.words (get_or b (get_or e.arg x.pc 0) nothing).at (get_or e.con x.pc (pos 0)) x.at ≡ false
    → take_of e (run x t b room) ≡ run (lived (counted x) 2) t b room
unfolding take_of take_step after_turn asked ask_of bound_at step_of step_by passes_of counted when
take_fails e x t b room z f = rw (z, f)

-- The frame at j is the last that is open, a multiset's cons, with c left to choose from, not only one.
module _ (e : Env) (j : ℕ) (cons : get_or e.op j 0 ≡ 9) (x : State) (t : Tables) (b : List Binding) (room : List ℤ)
    (live : x.live ≡ 2) (some : x.top ≡ 0 → ⊥) (top : x.top - 1 ≡ j) (c : ℕ) (left : get_or t.lefts j 0 ≡ c) (more : clear (count_trailing_zeros 64 c) c ≡ 0 → ⊥) where
  unfoldable pub place : ℕ
  place = element_at e.words (get_or t.ats j 0) (count_trailing_zeros 64 c)

  unfoldable pub stood : State
  stood = record { pc = j + 1; at = place; marks = whole_at e.words place; top = x.top; live = 1; rows = x.rows; steps = x.steps; words = x.words }

  unfoldable pub chosen : Tables
  chosen =
      tables t.ats t.wholes (set t.lefts j (clear (count_trailing_zeros 64 c) c)) t.lows (set t.backs j (clear (count_trailing_zeros 64 c) (get_or t.wholes j 0)))

  pub picked : settled e (run x t b room) ≡ run stood chosen b room
  unfolding settled after_turn pick_of choice_of cons_of cons_by top_left now_left moved when place stood chosen
  picked = rw (eq-eqb x.live 2 live, ne_eqb x.top 0 some, top, cons, left, ne_eqb (clear (count_trailing_zeros 64 c) c) 0 more)

  -- From another state with the same last frame the next choice is the same.
  pub again : (p a m r n w : ℕ) (b' : List Binding) (room' : List ℤ)
      → settled e (run (record { pc = p; at = a; marks = m; top = x.top; live = 2; rows = r; steps = n; words = w }) chosen b' room')
      ≡ settled e (run (record { pc = x.pc; at = x.at; marks = x.marks; top = x.top; live = x.live; rows = r; steps = n; words = w }) (put_left j (clear (count_trailing_zeros 64 c) c) t) b' room')
  unfolding settled after_turn pick_of choice_of cons_of cons_by top_left topped now_left moved when chosen put_left
  again p a m r n w b' room' = rw (eq-eqb x.live 2 live, ne_eqb x.top 0 some, top, cons, set-set t.backs j _ _)

  pub over_fails : get_or e.op (j + 1) 0 ≡ 5
      → is_sum e.words (get_or b (get_or e.arg (j + 1) 0) nothing).at (get_or e.con (j + 1) (pos 0)) place ≡ false
      → settled e (run (timed x (x.steps + 1)) (put_left j (clear (count_trailing_zeros 64 c) c) t) b room) ≡ run_of e 1 (settled e (run x t b room))
  unfolding run_of stood lived counted timed
  over_fails z f =
      sym (ap (run_of e 1) picked ∙ run_more e 0 (run stood chosen b room) refl ∙ ap (settled e) (take_fails e stood chosen b room z f)
      ∙ again (j + 1) place (whole_at e.words place) x.rows (x.steps + 1) x.words b room)

-- ---- The choices passed over.

-- l: the line of the first part, which asks for the integer at n, plus its constant.
module _ (e : Env) (j l : ℕ) (line : j + 1 ≡ l) (cons : get_or e.op j 0 ≡ 9) (asks : get_or e.op l 0 ≡ 5) (x : State) (t : Tables) (b : List Binding) (room : List ℤ)
    (n : ℕ) (number : n ≡ (get_or b (get_or e.arg l 0) nothing).at) (live : x.live ≡ 2) (some : x.top ≡ 0 → ⊥) (top : x.top - 1 ≡ j) (inside : j < length t.lefts) where
  after : (left steps : ℕ) → Run
  after left steps = run (timed x steps) (put_left j left t) b room

  pub passed_turns : (left steps : ℕ) → Passed e.words (get_or t.ats j 0) n (get_or e.con l (pos 0)) (get_or t.lefts j 0) x.steps left steps
      → Turns e (run x t b room) (run (timed x steps) (put_left j left t) b room)
  unfolding after timed put_left later is_lowest place
  passed_turns left steps stays = rw (set-get_or t.lefts j 0) (no_turns e (run x t b room))
  passed_turns left steps (over c k p h f) = more_turns e (run x t b room) (after c k) (after (later c) (k + 1)) (passed_turns c k p) (record {
    more = 1;
    steps = refl;
    are =
        ap (λ (u : List ℕ). settled e (run (timed x (k + 1)) (tables t.ats t.wholes u t.lows t.backs) b room)) (sym (set-set t.lefts j c (later c)))
        ∙ over_fails e j cons (timed x k) (put_left j c t) b room live some top c (get_or-set_same t.lefts j c 0 inside) (λ z. absurd (omega arith)) (rw line asks)
        (rw (line, ← number) f);
  })
