-- `search::advance` meets its contract: at the loop's head the whole run is what is left of it from here. The measure is the steps left. In the inner loop
-- what is left of the row is still to be written.
use Prim.Native.Nat.{ℕ, ◌-◌, ◌<◌}
use mathlib.Core.Path.{◌≡◌, refl, sym, ap, ◌∙◌}
use mathlib.Core.Bool.{Bool}
use mathlib.Core.List.{List}
use native.Mathlib.Omega.{arith}
use borrow.Author.Rules.{rules}
use mir.Syntax.{w64}
use mir.Val.{Fits}
use lib.ListN.{get_or, set}
use Rattle.value_rows.specs.Row.{form_by}
use Rattle.value_rows.specs.declared.Binding.{Binding}
use Rattle.tables.specs.Line.{columns_of}
use Rattle.tables.specs.Slot.{Tables, view_of}
use Rattle.search_step.specs.declared.State.{State}
use Rattle.search_step.specs.Steps.{turned, step_of}
use Rattle.search_seek.specs.Passed.{timed}
use Rattle.search.specs.Run.{Env, Run, run, choices_of}
use Rattle.search.specs.Narrow.{narrowed}
use Rattle.search.specs.Told.{env_by}
use Rattle.search.specs.Valid.{Rows}
use Rattle.search.proofs.Laws.{goes_live, goes_less, here_start, here_end, Asked, asked_3, asked_4, asked_5, asked_6, asked_below, asked_above, took_end, ended_at, Taken, taken_is, taken_chosen, taken_step, turn_row, turn_steps, settled_by, Ready, ready, ready_place, ready_constant, ready_number, ready_number_mul, ready_bound, ready_sum, fine_named}
use Rattle.search.proofs.Narrows.{narrow_code, narrow_asks}
use Rattle.search.proofs.Swept.{Swept, here_swept, swept_less, swept_at, swept_none}
use Rattle.search.proofs.Leafed.{leaf_looks, leaf_takes, leaf_slotted, leaf_alone, leaf_number, swept_leaf, swept_as}
use Rattle.search.proofs.Sought.{sought_opens, first_place, second_place, first_number, second_number, sought_seeking, swept_pass}
use Rattle.search.proofs.advance.Goals as goal
use Rattle.search.proofs.advance.Goals.{then-o-gt-DROP+then-o-eq-SUM, then-o-gt-DROP+else-o-eq-SUM+then-o-lt-SUM+then-o-eq-BIND, then-o-gt-DROP+else-o-eq-SUM+then-o-lt-SUM+else-o-eq-BIND, then-o-gt-DROP+else-o-eq-SUM+else-o-lt-SUM+then-o-lt-NIL, then-o-gt-DROP+else-o-eq-SUM+else-o-lt-SUM+else-o-lt-NIL, else-o-gt-DROP, then-a-gt0, else-a-gt0, then-o-eq-END, else-o-eq-END+then-o-eq-MULTISET_CONS+then-i-gt0, else-o-eq-END+then-o-eq-MULTISET_CONS+else-i-gt0, else-o-eq-END+else-o-eq-MULTISET_CONS}

-- The program and the run at the loop's head.
abbrev program : goal.In-loop-terms → Env
program c = env_by (columns_of c.args.lines.now) c.args.mt.now c.args.units.words.now c.args.terms

abbrev current : goal.In-loop-terms → Run
current c = run c.loop-terms.x (view_of (columns_of c.args.lines.now).arg c.loop-terms.slots) c.loop-terms.b c.loop-terms.room

-- A state stands, and the budget is not used up.
stands : (c : goal.In-loop-terms) → Ready (program c) (current c)
stands c =
    let k : Fits w64 c.args.terms.budget = search rules in
    ready _ _ _ _ _ c.loop-terms.invariant c.requires.fine c.requires.given.target (goes_live _ _ _ c.goes_on.ensures c.loop-terms-test.true)
    (goes_less _ _ _ c.goes_on.ensures c.loop-terms-test.true) (omega (arith, k.fits))

-- The budget is not used up.
less : (c : goal.In-loop-terms) → c.loop-terms.x.steps < c.args.terms.budget
less c = goes_less _ _ _ c.goes_on.ensures c.loop-terms-test.true

-- Where the branches before a step meet: before a step, before a row, and after both.
joined : (c : goal.After-step-arg-1) → Asked (program c.before.before.before.before) (current c.before.before.before.before) c.if-o-gt-DROP.same c.if-o-gt-DROP.b
joined c =
    elim c.if-o-gt-DROP.branch [
      | then-o-gt-DROP+then-o-eq-SUM w ↦ asked_5 _ _ _ _ _ _ _ _ c.op_at-o.ensures _ _ w.if-o-eq-SUM.true w.arg_at-v.ensures w.b-is w.same-is w.is_sum_at-same.ensures
      | then-o-gt-DROP+else-o-eq-SUM+then-o-lt-SUM+then-o-eq-BIND w ↦ asked_3 _ _ _ _ _ _ _ _ c.op_at-o.ensures _ _ w.if-o-eq-BIND.true w.arg_at-v.ensures w.value_of.ensures w.b-is w.same-is
      | then-o-gt-DROP+else-o-eq-SUM+then-o-lt-SUM+else-o-eq-BIND w ↦ asked_4 _ _ _ _ _ _ _ _ c.op_at-o.ensures w.if-o-lt-SUM.true w.if-o-eq-BIND.false w.b-is w.same-is
      | then-o-gt-DROP+else-o-eq-SUM+else-o-lt-SUM+then-o-lt-NIL w ↦ asked_6 _ _ _ _ _ _ _ _ c.op_at-o.ensures _ _ w.if-o-eq-SUM.false w.if-o-lt-SUM.false w.if-o-lt-NIL.true w.arg_at-v.ensures w.b-is w.same-is w.is_equal_at-same.ensures
      | then-o-gt-DROP+else-o-eq-SUM+else-o-lt-SUM+else-o-lt-NIL w ↦ asked_above _ _ _ _ _ _ _ _ c.op_at-o.ensures w.if-o-lt-NIL.false w.b-is w.same-is
      | else-o-gt-DROP w ↦ asked_below _ _ _ _ _ _ _ _ c.op_at-o.ensures w.if-o-gt-DROP.false w.b-is w.same-is
    ]

joined_row : (c : goal.After-take_end-arg-1) → Asked (program c.before.before.before.before) (current c.before.before.before.before) c.if-o-gt-DROP.same c.if-o-gt-DROP.b
joined_row c =
    elim c.if-o-gt-DROP.branch [
      | then-o-gt-DROP+then-o-eq-SUM w ↦ asked_5 _ _ _ _ _ _ _ _ c.op_at-o.ensures _ _ w.if-o-eq-SUM.true w.arg_at-v.ensures w.b-is w.same-is w.is_sum_at-same.ensures
      | then-o-gt-DROP+else-o-eq-SUM+then-o-lt-SUM+then-o-eq-BIND w ↦ asked_3 _ _ _ _ _ _ _ _ c.op_at-o.ensures _ _ w.if-o-eq-BIND.true w.arg_at-v.ensures w.value_of.ensures w.b-is w.same-is
      | then-o-gt-DROP+else-o-eq-SUM+then-o-lt-SUM+else-o-eq-BIND w ↦ asked_4 _ _ _ _ _ _ _ _ c.op_at-o.ensures w.if-o-lt-SUM.true w.if-o-eq-BIND.false w.b-is w.same-is
      | then-o-gt-DROP+else-o-eq-SUM+else-o-lt-SUM+then-o-lt-NIL w ↦ asked_6 _ _ _ _ _ _ _ _ c.op_at-o.ensures _ _ w.if-o-eq-SUM.false w.if-o-lt-SUM.false w.if-o-lt-NIL.true w.arg_at-v.ensures w.b-is w.same-is w.is_equal_at-same.ensures
      | then-o-gt-DROP+else-o-eq-SUM+else-o-lt-SUM+else-o-lt-NIL w ↦ asked_above _ _ _ _ _ _ _ _ c.op_at-o.ensures w.if-o-lt-NIL.false w.b-is w.same-is
      | else-o-gt-DROP w ↦ asked_below _ _ _ _ _ _ _ _ c.op_at-o.ensures w.if-o-gt-DROP.false w.b-is w.same-is
    ]

joined_both : (c : goal.After-settle-arg-1) → Asked (program c.before.before.before.before) (current c.before.before.before.before) c.if-o-gt-DROP.same c.if-o-gt-DROP.b
joined_both c =
    elim c.if-o-gt-DROP.branch [
      | then-o-gt-DROP+then-o-eq-SUM w ↦ asked_5 _ _ _ _ _ _ _ _ c.op_at-o.ensures _ _ w.if-o-eq-SUM.true w.arg_at-v.ensures w.b-is w.same-is w.is_sum_at-same.ensures
      | then-o-gt-DROP+else-o-eq-SUM+then-o-lt-SUM+then-o-eq-BIND w ↦ asked_3 _ _ _ _ _ _ _ _ c.op_at-o.ensures _ _ w.if-o-eq-BIND.true w.arg_at-v.ensures w.value_of.ensures w.b-is w.same-is
      | then-o-gt-DROP+else-o-eq-SUM+then-o-lt-SUM+else-o-eq-BIND w ↦ asked_4 _ _ _ _ _ _ _ _ c.op_at-o.ensures w.if-o-lt-SUM.true w.if-o-eq-BIND.false w.b-is w.same-is
      | then-o-gt-DROP+else-o-eq-SUM+else-o-lt-SUM+then-o-lt-NIL w ↦ asked_6 _ _ _ _ _ _ _ _ c.op_at-o.ensures _ _ w.if-o-eq-SUM.false w.if-o-lt-SUM.false w.if-o-lt-NIL.true w.arg_at-v.ensures w.b-is w.same-is w.is_equal_at-same.ensures
      | then-o-gt-DROP+else-o-eq-SUM+else-o-lt-SUM+else-o-lt-NIL w ↦ asked_above _ _ _ _ _ _ _ _ c.op_at-o.ensures w.if-o-lt-NIL.false w.b-is w.same-is
      | else-o-gt-DROP w ↦ asked_below _ _ _ _ _ _ _ _ c.op_at-o.ensures w.if-o-gt-DROP.false w.b-is w.same-is
    ]

-- At a state with no atom left: its row can be written.
rows : (c : goal.After-take_end-arg-1) → Rows c.args.units.words.now c.if-o-gt-DROP.b c.args.terms.vars c.loop-terms.x c.loop-terms.room
rows c = let h = stands c.before.before.before.before in turn_row _ _ _ _ _ _ _ (joined_row c) h.fine h.target h.valid h.count (sym c.op_at-o.ensures ∙ c.if-o-eq-END.true)

-- A step is taken, by a line that is no cons under a multiset; and by one that is, narrowed. The line's instruction is o.
module _ (e : Env) (r : Run) (q : Bool) (b : List Binding) (a : Asked e r q b) (h : Ready e r) (o : ℕ) (i : o ≡ get_or e.op r.state.pc 0) (n : o ≡ 0 → ⊥) (y : State) (u : Tables)
    (t : turned y u ≡ step_of e.op e.from e.to e.con e.words q r.state r.tables) where
  took : (o ≡ 9 → ⊥) → Taken e r y u b r.room
  took m = taken_step _ _ _ _ _ _ _ a h.fine h.target h.valid h.count h.live _ _ _ (λ z. n (i ∙ z)) (λ z. m (i ∙ z)) t refl

  narrows : (budget : ℕ) → r.state.steps < budget → (u' : Tables) → o ≡ 9 → u' ≡ narrowed e.dialect e.matcher (get_or e.mat (y.top - 1) 0) e.words y u → Swept e r budget y u' b r.room
  unfolding choices_of
  narrows budget l u' z d =
      swept_none _ _ _ _ _ _ (taken_chosen _ _ _ _ _ _ _ a h.fine h.target h.valid h.count h.live _ _ _ (λ k. n (i ∙ k))
      (narrow_code _ _ _ e.mat e.arg _ _ _ _ _ _ (sym i ∙ z) h.valid.long h.valid.place _ _ t _ _ d) refl) h.valid.room _ l

-- After a multiset's cons: its choices are narrowed.
chosen : (c : goal.After-narrow) → Swept (program c.before.before.before.before.before.before.before.before) (current c.before.before.before.before.before.before.before.before) c.args.terms.budget c.step-x.result (view_of (columns_of c.args.lines.now).arg c.narrow.new.slots) c.if-o-gt-DROP.b c.loop-terms.room
chosen c = narrows _ _ _ _ (joined c.before.before.before.before) (stands c.before.before.before.before.before.before.before.before) _ c.op_at-o.ensures c.if-o-eq-END.false _ _ c.step-x.ensures _ (less c.before.before.before.before.before.before.before.before) _ c.if-o-eq-MULTISET_CONS.true c.narrow.ensures

-- Choices may then be passed over.
sought : (c : goal.Joined-a-gt0) → Swept (program c.before.before.before.before.before.before.before.before.before.before.before) (current c.before.before.before.before.before.before.before.before.before.before.before) c.args.terms.budget c.if-a-gt0.x (view_of (columns_of c.args.lines.now).arg c.if-a-gt0.slots) c.if-o-gt-DROP.b c.loop-terms.room
unfolding timed
sought c =
    let h = stands c.before.before.before.before.before.before.before.before.before.before.before in
    let m = chosen c.before.before.before in
    elim c.if-a-gt0.branch [
      | then-a-gt0 w ↦ swept_at _ _ _ _ _ _ _ _ _ _ w.x-is (ap (view_of _) w.slots-is) refl (swept_pass _ _ _ _ _ c.loop-terms.invariant h.fine h.target h.live _ _ _ _ m _ c.asked_at-a.ensures w.if-a-gt0.true _ _ w.arg_at.ensures w.arg_at-then-a-gt0.ensures _ _ w.pass.ensures.integers w.pass.ensures.pairs)
      | else-a-gt0 w ↦ swept_at _ _ _ _ _ _ _ _ _ _ w.x-is (ap (view_of _) w.slots-is) refl m
    ]

-- Where a row and a step meet: the state is taken up, and choices may be passed over or taken up.
met : (c : goal.After-settle-arg-1) → Swept (program c.before.before.before.before) (current c.before.before.before.before) c.args.terms.budget c.if-o-eq-END.x (view_of (columns_of c.args.lines.now).arg c.if-o-eq-END.slots) c.if-o-eq-END.b c.if-o-eq-END.room
unfolding timed
met c =
    let h = stands c.before.before.before.before in
    let l = less c.before.before.before.before in
    let a = joined_both c in
    elim c.if-o-eq-END.branch [
      | then-o-eq-END w ↦ swept_as _ _ _ _ _ _ _ _ _ _ _ refl refl w.b-is refl (swept_none _ _ _ _ _ _ (taken_is _ _ _ _ _ _ _ a h.fine h.target h.valid h.count h.live _ _ _
          (took_end _ _ _ _ _ _ _ a _ _ _ (sym c.op_at-o.ensures ∙ w.if-o-eq-END.true) (ended_at _ _ _ _ w.x-is w.room-is ∙ w.take_end-x.ensures) (ap (view_of _) w.slots-is))) h.valid.room _ l)
      | else-o-eq-END+then-o-eq-MULTISET_CONS+then-i-gt0 w ↦
          let m = narrows _ _ _ _ a h _ c.op_at-o.ensures w.if-o-eq-END.false _ _ w.step-x.ensures _ l _ w.if-o-eq-MULTISET_CONS.true w.narrow.ensures in
          let q : Swept (program c.before.before.before.before) (current c.before.before.before.before) c.args.terms.budget w.if-a-gt0.x (view_of (columns_of c.args.lines.now).arg w.if-a-gt0.slots) c.if-o-gt-DROP.b c.loop-terms.room = elim w.if-a-gt0.branch [
            | then-a-gt0 v ↦ swept_at _ _ _ _ _ _ _ _ _ _ v.x-is (ap (view_of _) v.slots-is) refl (swept_pass _ _ _ _ _ c.loop-terms.invariant h.fine h.target h.live _ _ _ _ m _ w.asked_at-a.ensures v.if-a-gt0.true _ _ v.arg_at.ensures v.arg_at-then-a-gt0.ensures _ _ v.pass.ensures.integers v.pass.ensures.pairs)
            | else-a-gt0 v ↦ swept_at _ _ _ _ _ _ _ _ _ _ v.x-is (ap (view_of _) v.slots-is) refl m
          ] in
          swept_as _ _ _ _ _ _ _ _ _ _ _ w.x-is (ap (view_of _) w.slots-is) (w.b-is ∙ ap (set c.if-o-gt-DROP.b w.arg_at-then-i-gt0.result) w.last_of.ensures) w.room-is
          (swept_leaf _ _ _ _ _ c.loop-terms.invariant h.fine h.target h.live _ _ _ _ q _ (w.leaf_at-i.ensures w.if-i-gt0.true) _ w.bounds_of.ensures.0 w.bounds_of.ensures.1.0 (ap form_by (sym w.bounds_of.ensures.1.1)) _ _ _ _ _ w.arg_at-then-i-gt0.ensures w.take-r.ensures)
      | else-o-eq-END+then-o-eq-MULTISET_CONS+else-i-gt0 w ↦
          let m = narrows _ _ _ _ a h _ c.op_at-o.ensures w.if-o-eq-END.false _ _ w.step-x.ensures _ l _ w.if-o-eq-MULTISET_CONS.true w.narrow.ensures in
          let q : Swept (program c.before.before.before.before) (current c.before.before.before.before) c.args.terms.budget w.if-a-gt0.x (view_of (columns_of c.args.lines.now).arg w.if-a-gt0.slots) c.if-o-gt-DROP.b c.loop-terms.room = elim w.if-a-gt0.branch [
            | then-a-gt0 v ↦ swept_at _ _ _ _ _ _ _ _ _ _ v.x-is (ap (view_of _) v.slots-is) refl (swept_pass _ _ _ _ _ c.loop-terms.invariant h.fine h.target h.live _ _ _ _ m _ w.asked_at-a.ensures v.if-a-gt0.true _ _ v.arg_at.ensures v.arg_at-then-a-gt0.ensures _ _ v.pass.ensures.integers v.pass.ensures.pairs)
            | else-a-gt0 v ↦ swept_at _ _ _ _ _ _ _ _ _ _ v.x-is (ap (view_of _) v.slots-is) refl m
          ] in
          swept_as _ _ _ _ _ _ _ _ _ _ _ w.x-is (ap (view_of _) w.slots-is) w.b-is w.room-is q
      | else-o-eq-END+else-o-eq-MULTISET_CONS w ↦ swept_as _ _ _ _ _ _ _ _ _ _ _ w.x-is (ap (view_of _) w.slots-is) w.b-is w.room-is (swept_none _ _ _ _ _ _ (took _ _ _ _ a h _ c.op_at-o.ensures w.if-o-eq-END.false _ _ w.step-x.ensures w.if-o-eq-MULTISET_CONS.false) h.valid.room _ l)
    ]

pub loop-terms-init : goal.loop-terms-init
loop-terms-init c = here_start _ _ _ c.requires.valid

pub op_at-o-requires : goal.op_at-o-requires
op_at-o-requires c = ready_place _ _ _ _ _ (stands c)

pub arg_at-v-requires : goal.arg_at-v-requires
arg_at-v-requires c = ready_place _ _ _ _ _ (stands c.before.before)

pub offset_bounds-b-v : goal.offset_bounds-b-v
offset_bounds-b-v c = ready_number_mul _ _ _ _ _ (stands c.before.before.before.before) _ c.op_at-o.ensures (omega (arith, c.if-o-eq-SUM.true)) (omega (arith, c.if-o-eq-SUM.true)) _ c.arg_at-v.ensures

pub bounds-b-v : goal.bounds-b-v
bounds-b-v c = ready_number _ _ _ _ _ (stands c.before.before.before.before) _ c.op_at-o.ensures (omega (arith, c.if-o-eq-SUM.true)) (omega (arith, c.if-o-eq-SUM.true)) _ c.arg_at-v.ensures

pub is_sum_at-same-requires : goal.is_sum_at-same-requires
is_sum_at-same-requires c = let h = stands c.before.before.before.before.before.before in
    let k = ready_sum _ _ _ _ _ h _ c.op_at-o.ensures (omega (arith, c.if-o-eq-SUM.true)) (omega (arith, c.if-o-eq-SUM.true)) _ c.arg_at-v.ensures in record { number_y = k.0; number_x = k.1; line = ready_place _ _ _ _ _ h; constant = ready_constant _ _ _ _ _ h }

pub offset_bounds-b-v-then-o-eq-BIND : goal.offset_bounds-b-v-then-o-eq-BIND
offset_bounds-b-v-then-o-eq-BIND c = ready_number_mul _ _ _ _ _ (stands c.before.before.before.before.before.before.before) _ c.op_at-o.ensures (omega (arith, c.if-o-eq-BIND.true)) (omega (arith, c.if-o-eq-BIND.true)) _ c.arg_at-v.ensures

pub bounds-b-v-then-o-eq-BIND : goal.bounds-b-v-then-o-eq-BIND
bounds-b-v-then-o-eq-BIND c = ready_number _ _ _ _ _ (stands c.before.before.before.before.before.before.before) _ c.op_at-o.ensures (omega (arith, c.if-o-eq-BIND.true)) (omega (arith, c.if-o-eq-BIND.true)) _ c.arg_at-v.ensures

pub offset_bounds-b-v-then-o-lt-NIL : goal.offset_bounds-b-v-then-o-lt-NIL
offset_bounds-b-v-then-o-lt-NIL c = ready_number_mul _ _ _ _ _ (stands c.before.before.before.before.before.before) _ c.op_at-o.ensures c.if-o-gt-DROP.true c.if-o-lt-NIL.true _ c.arg_at-v.ensures

pub bounds-b-v-then-o-lt-NIL : goal.bounds-b-v-then-o-lt-NIL
bounds-b-v-then-o-lt-NIL c = ready_number _ _ _ _ _ (stands c.before.before.before.before.before.before) _ c.op_at-o.ensures c.if-o-gt-DROP.true c.if-o-lt-NIL.true _ c.arg_at-v.ensures

pub is_equal_at-same-requires : goal.is_equal_at-same-requires
is_equal_at-same-requires c = let h = stands c.before.before.before.before.before.before.before in record { given = c.requires.given; held_y = ready_bound _ _ _ _ _ h _ c.op_at-o.ensures c.if-o-gt-DROP.true c.if-o-lt-NIL.true _ c.arg_at-v.ensures; held_x = h.valid.held; line = ready_place _ _ _ _ _ h }

pub take_end-x-requires : goal.take_end-x-requires
take_end-x-requires c = let h = stands c.before.before.before.before in record { given = c.requires.given; some_words = omega (arith, h.valid.held.tag.inside); rows = rows c }

pub step-x-requires : goal.step-x-requires
step-x-requires c = let h = stands c.before.before.before.before in record { placed = c.requires.given.placed; steps = turn_steps _ _ _ _ _ _ _ (joined c) h.fine h.target h.valid h.count _ refl }

pub narrow-requires : goal.narrow-requires
narrow-requires c = let h = stands c.before.before.before.before.before.before.before in
    let o : c.op_at-o.result ≡ 9 = c.if-o-eq-MULTISET_CONS.true in
    let z = sym c.op_at-o.ensures ∙ o in record {
      given = c.requires.given;
      opened = narrow_asks _ _ _ (columns_of c.args.lines.now).mat _ _ c.args.mt.now _ _ _ _ z h.valid.long h.valid.place _ _ c.step-x.ensures h.valid.held _ refl
          (h.fine.slot _) (h.fine.alone _ h.valid.place (omega (arith, z)) (omega (arith, z)));
      fresh = c.requires.fresh;
    }

pub asked_at-a-requires : goal.asked_at-a-requires
asked_at-a-requires c = let h = stands c.before.before.before.before.before.before.before.before in sought_opens _ _ _ _ _ c.loop-terms.invariant h.fine h.target h.live _ _ _ _ (chosen c)

pub arg_at-requires : goal.arg_at-requires
arg_at-requires c = let h = stands c.before.before.before.before.before.before.before.before.before.before.before in first_place _ _ _ _ _ c.loop-terms.invariant h.fine h.target h.live _ _ _ _ (chosen c.before.before.before) _ c.asked_at-a.ensures c.if-a-gt0.true

pub bounds-b-arg_at : goal.bounds-b-arg_at
bounds-b-arg_at c = let h = stands c.before.before.before.before.before.before.before.before.before.before.before.before in first_number _ _ _ _ _ c.loop-terms.invariant h.fine h.target h.live _ _ _ _ (chosen c.before.before.before.before) _ c.asked_at-a.ensures c.if-a-gt0.true _ c.arg_at.ensures

pub offset_bounds-b-arg_at : goal.offset_bounds-b-arg_at
offset_bounds-b-arg_at c = let l = bounds-b-arg_at c in record { fits = omega (arith, l) }

pub arg_at-requires-then-a-gt0 : goal.arg_at-requires-then-a-gt0
arg_at-requires-then-a-gt0 c = let h = stands c.before.before.before.before.before.before.before.before.before.before.before.before in second_place _ _ _ _ _ c.loop-terms.invariant h.fine h.target h.live _ _ _ _ (chosen c.before.before.before.before) _ c.asked_at-a.ensures c.if-a-gt0.true

pub bounds-b-arg_at-then-a-gt0 : goal.bounds-b-arg_at-then-a-gt0
bounds-b-arg_at-then-a-gt0 c = let h = stands c.before.before.before.before.before.before.before.before.before.before.before.before.before in second_number _ _ _ _ _ c.loop-terms.invariant h.fine h.target h.live _ _ _ _ (chosen c.before.before.before.before.before) _ c.asked_at-a.ensures c.if-a-gt0.true _ c.arg_at-then-a-gt0.ensures

pub offset_bounds-b-arg_at-then-a-gt0 : goal.offset_bounds-b-arg_at-then-a-gt0
offset_bounds-b-arg_at-then-a-gt0 c = let l = bounds-b-arg_at-then-a-gt0 c in record { fits = omega (arith, l) }

pub pass-requires : goal.pass-requires
pass-requires c = let h = stands c.before.before.before.before.before.before.before.before.before.before.before.before.before.before in record { placed = c.requires.given.placed; seeking = sought_seeking _ _ _ _ _ c.loop-terms.invariant h.fine h.target h.live _ _ _ _ (chosen c.before.before.before.before.before.before) _ c.asked_at-a.ensures c.if-a-gt0.true _ _ c.arg_at.ensures c.arg_at-then-a-gt0.ensures _ refl }

pub leaf_at-i-requires : goal.leaf_at-i-requires
leaf_at-i-requires c = let h = stands c.before.before.before.before.before.before.before.before.before.before.before in leaf_looks _ _ _ _ _ c.loop-terms.invariant h.fine h.target h.live _ _ _ _ (sought c) _ refl

pub take-r-requires : goal.take-r-requires
take-r-requires c = let h = stands c.before.before.before.before.before.before.before.before.before.before.before.before.before.before.before.before in
    let q = sought c.before.before.before.before.before in
    let i = c.leaf_at-i.ensures c.if-i-gt0.true in record { placed = c.requires.given.placed; takes = leaf_takes _ _ _ _ _ c.loop-terms.invariant h.fine h.target h.live _ _ _ _ q _ i _ _ c.bounds_of.ensures.0 c.bounds_of.ensures.1.0; slotted = leaf_slotted _ _ _ _ _ c.loop-terms.invariant h.fine h.target h.live _ _ _ _ q _ i _ refl; alone = leaf_alone _ _ _ _ _ c.loop-terms.invariant h.fine h.target h.live _ _ _ _ q _ i }

pub arg_at-requires-then-i-gt0 : goal.arg_at-requires-then-i-gt0
arg_at-requires-then-i-gt0 c = (c.leaf_at-i.ensures c.if-i-gt0.true).tested.place

pub bounds-b-arg_at-then-i-gt0 : goal.bounds-b-arg_at-then-i-gt0
bounds-b-arg_at-then-i-gt0 c = let h = stands c.before.before.before.before.before.before.before.before.before.before.before.before.before.before.before.before.before.before.before.before.before in leaf_number _ _ _ _ _ c.loop-terms.invariant h.fine h.target h.live _ _ _ _ (sought c.before.before.before.before.before.before.before.before.before.before) _ (c.leaf_at-i.ensures c.if-i-gt0.true) _ c.arg_at-then-i-gt0.ensures

pub offset_bounds-b-arg_at-then-i-gt0 : goal.offset_bounds-b-arg_at-then-i-gt0
offset_bounds-b-arg_at-then-i-gt0 c = let l = bounds-b-arg_at-then-i-gt0 c in record { fits = omega (arith, l) }

pub settle-x-requires : goal.settle-x-requires
settle-x-requires c = let h = stands c.before.before.before.before in
    let m = met c in record { placed = c.requires.given.placed; named = fine_named _ h.fine _ m.long; picks_if = m.picks }

pub loop-terms-smaller : goal.loop-terms-smaller
loop-terms-smaller c = let h = stands c.before.before.before.before.before in
    swept_less _ _ _ _ _ c.loop-terms.invariant h.fine h.target h.live _ _ _ _ (met c.before) _ (settled_by _ (run c.if-o-eq-END.x _ _ _) _ _ c.settle-x.ensures)

pub loop-terms-preserved : goal.loop-terms-preserved
loop-terms-preserved c = let h = stands c.before.before.before.before.before in
    here_swept _ _ _ _ _ c.loop-terms.invariant h.fine h.target h.live _ _ _ _ (met c.before) _ (settled_by _ (run c.if-o-eq-END.x _ _ _) _ _ c.settle-x.ensures)

pub shape_of-room : goal.shape_of-room
shape_of-room c = c.loop-terms.invariant.long

pub returns : goal.returns
returns c = here_end _ _ _ _ _ c.loop-terms.invariant _ c.goes_on.ensures c.loop-terms-test.false
