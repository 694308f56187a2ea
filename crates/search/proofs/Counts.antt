-- What a state taken up and a choice taken do to the counts, the room and the words written.
use Prim.Native.Nat.{ℕ, zero, suc, ◌+◌, ◌-◌, ◌≤◌}
use native.Mathlib.Omega.{arith}
use mathlib.Core.Path.{◌≡◌, refl, ap}
use mathlib.Core.Logic.{◌⊎◌, inl, inr}
use mathlib.Core.Bool.{Bool}
use mathlib.Core.List.{List}
use lib.ListN.{length, get_or, drop}
use lib.Dec.{eqb, ltb}
use lib.Count.{count_trailing_zeros}
use lib.IntN.{ℤ, pos}
use borrow.Author.Tests.{eqb-false, ltb-false, eq-eqb, ne_eqb}
use Rattle.rules.specs.Rows.{row}
use Rattle.words.specs.Marks.{clear}
use Rattle.value_places.specs.Places.{element_at}
use Rattle.value_places.specs.Held.{whole_at, put}
use Rattle.value_rows.specs.Row.{bound}
use Rattle.search_step.specs.declared.State.{State}
use Rattle.search_atom.specs.Leaves.{when, passes_of, none_of, is_wide, longer_of}
use Rattle.tables.specs.Slot.{Tables}
use Rattle.search_step.specs.Steps.{Turned, turned, counted, moved, lived, topped, dropped, pushed, pushed_in, apart_at, apart_of, kept_at, kept_in, framed_at, framed_in, cut_to, sides_of}
use Rattle.search_machine.specs.Operations.{opens_with}
use Rattle.search.specs.Plain.{split_of, divide_of, step_by, step_of}
use Rattle.search_choice.specs.Choices.{top_left, join_of, join_by, cons_of, cons_by, resumed_at, resumed_by, resume_of, choice_of, pick_of}
use Rattle.search.specs.Run.{Env, Run, run, Ended, ended, filled, wrote, end_by, end_of, after_turn, after_end, take_end, take_bind, take_step, take_of, asked, choices_of, settled, run_of}
use Rattle.value_rows.proofs.Room.{length_put}
use Rattle.search.proofs.Room.{put_after}
use Rattle.search.proofs.Frames.{when_if}

-- A state with an atom left: one step more, and a state stands or the next choice is to be taken.
pub record Took (x y : State) : Type 0 where
  pub rows : y.rows ≡ x.rows
  pub words : y.words ≡ x.words
  pub steps : y.steps ≡ x.steps + 1
  pub live : (y.live ≡ 1) ⊎ (y.live ≡ 2)

took_1 : (x y : State) → y.rows ≡ x.rows → y.words ≡ x.words → y.steps ≡ x.steps + 1 → y.live ≡ 1 → Took x y
took_1 x y r w s l = record { rows = r; words = w; steps = s; live = inl l }

took_2 : (x y : State) → y.rows ≡ x.rows → y.words ≡ x.words → y.steps ≡ x.steps + 1 → y.live ≡ 2 → Took x y
took_2 x y r w s l = record { rows = r; words = w; steps = s; live = inr l }

sides_took : (o : ℕ) (from : List ℕ) (x : State) (t : Tables) → Took x (sides_of o from (counted x) t).state
unfolding sides_of kept_at framed_at cut_to counted moved lived
sides_took o from x t =
    when_if at_turn (eqb o 14) (turned (kept_at (counted x)) (kept_in (counted x) t)) others (λ z. took_1 x _ refl refl refl refl)
    (λ z. when_if at_turn (ltb o 17) (turned (framed_at (counted x)) (framed_in (counted x) t)) ends (λ k. took_1 x _ refl refl refl refl)
    (λ k. when_if at_turn (eqb o 17) (turned (cut_to from t.lows (counted x)) t) (turned (lived (counted x) 2) t)
    (λ y. took_2 x _ refl refl refl refl) (λ y. took_2 x _ refl refl refl refl)))
  where
    at_turn : Turned → Type 0
    at_turn u = Took x u.state

    ends : Turned
    ends = when (eqb o 17) (turned (cut_to from t.lows (counted x)) t) (turned (lived (counted x) 2) t)

    others : Turned
    others = when (ltb o 17) (turned (framed_at (counted x)) (framed_in (counted x) t)) ends

divide_took : (s : List ℤ) (o c : ℕ) (from : List ℕ) (x : State) (t : Tables) → Took x (divide_of s o c from (counted x) t).state
unfolding divide_of split_of apart_of apart_at counted moved lived pushed
divide_took s o c from x t =
    when_if at_turn (ltb 10 o) (when (ltb o 14) (apart_of s (o - 10) (counted x) t) (sides_of o from (counted x) t)) (split_of o c (counted x) t)
    (λ k. when_if at_turn (ltb o 14) (apart_of s (o - 10) (counted x) t) (sides_of o from (counted x) t)
    (λ y. when_if (Took x) (is_wide s x.at (o - 10)) _ (lived (counted x) 2) (λ u. took_1 x _ refl refl refl refl) (λ u. took_2 x _ refl refl refl refl))
    (λ y. sides_took o from x t))
    (λ w. when_if at_turn (none_of o x.marks) (turned (lived (counted x) 2) t) (turned (pushed (counted x)) (pushed_in (opens_with o x.marks c) (counted x) t))
    (λ y. took_2 x _ refl refl refl refl) (λ y. took_2 x _ refl refl refl refl))
  where
    at_turn : Turned → Type 0
    at_turn u = Took x u.state

pub step_took : (op from to : List ℕ) (con s : List ℤ) (q : Bool) (c : ℕ) (x : State) (t : Tables) → Took x (step_of op from to con s q c x t).state
unfolding step_of step_by counted moved lived dropped
step_took op from to con s q c x t =
    when_if at_turn (eqb o 1) (turned (moved (counted x) (x.pc + 1) x.at x.marks) t) rest (λ z. took_1 x _ refl refl refl refl)
    (λ z. when_if at_turn (ltb 7 o) (divide_of s o c from (counted x) t) tests (λ k. divide_took s o c from x t)
    (λ k. when_if at_turn passes (turned (dropped from to t.ats t.backs (counted x)) t) (turned (lived (counted x) 2) t)
    (λ y. took_1 x _ refl refl refl refl) (λ y. took_2 x _ refl refl refl refl)))
  where
    at_turn : Turned → Type 0
    at_turn u = Took x u.state

    o : ℕ
    o = get_or op x.pc 0

    passes : Bool
    passes = passes_of o q s x.at x.marks (get_or con x.pc (pos 0))

    tests : Turned
    tests = when passes (turned (dropped from to t.ats t.backs (counted x)) t) (turned (lived (counted x) 2) t)

    rest : Turned
    rest = when (ltb 7 o) (divide_of s o c from (counted x) t) tests

pub bind_took : (e : Env) (r : Run) → Took r.state (take_bind e r).state
unfolding take_bind dropped moved counted
bind_took e r = took_1 r.state _ refl refl refl refl

-- A choice: the counts stay, and a state stands or none is left.
pub record Chose (x y : State) : Type 0 where
  pub rows : y.rows ≡ x.rows
  pub words : y.words ≡ x.words
  pub steps : y.steps ≡ x.steps
  pub live : (y.live ≡ 0) ⊎ (y.live ≡ 1)

top_chose : (x y : State) (more j : ℕ) (lows : List ℕ) → y.rows ≡ x.rows → y.words ≡ x.words → y.steps ≡ x.steps → y.live ≡ 1 → Chose x (top_left more j lows y)
unfolding top_left topped
top_chose x y more j lows r w s l = when_if (Chose x) (eqb more 0) _ _ (λ z. record { rows = r; words = w; steps = s; live = inr l }) (λ z. record { rows = r; words = w; steps = s; live = inr l })

join_chose : (j : ℕ) (x : State) (t : Tables) → Chose x (join_of j x t).state
unfolding join_of join_by moved
join_chose j x t =
    top_chose x (moved x (j + 1) (get_or t.ats j 0) (get_or t.lefts j 0)) (longer_of (get_or t.lefts j 0) (get_or t.wholes j 0 - get_or t.lefts j 0)) j t.lows
    refl refl refl refl

cons_chose : (s : List ℤ) (j : ℕ) (x : State) (t : Tables) → Chose x (cons_of s j x t).state
unfolding cons_of cons_by moved
cons_chose s j x t = top_chose x (moved x (j + 1) at (whole_at s at)) (clear k (get_or t.lefts j 0)) j t.lows refl refl refl refl
  where
    k : ℕ
    k = count_trailing_zeros 64 (get_or t.lefts j 0)

    at : ℕ
    at = element_at s (get_or t.ats j 0) k

resume_chose : (o j : ℕ) (from to : List ℕ) (x : State) (t : Tables) → Chose x (resume_of o j from to x t).state
unfolding resume_of resumed_at resumed_by
resume_chose o j from to x t = record { rows = refl; words = refl; steps = refl; live = inr refl }

choice_chose : (o j : ℕ) (from to : List ℕ) (s : List ℤ) (x : State) (t : Tables) → Chose x (choice_of o j from to s x t).state
unfolding choice_of
choice_chose o j from to s x t =
    when_if at_turn (ltb 9 o) (when (eqb o 10) (join_of j x t) (resume_of o j from to x t)) (cons_of s j x t)
    (λ z. when_if at_turn (eqb o 10) (join_of j x t) (resume_of o j from to x t) (λ k. join_chose j x t) (λ k. resume_chose o j from to x t))
    (λ z. cons_chose s j x t)
  where
    at_turn : Turned → Type 0
    at_turn u = Chose x u.state

pub pick_chose : (op from to : List ℕ) (s : List ℤ) (x : State) (t : Tables) → Chose x (pick_of op from to s x t).state
unfolding pick_of lived
pick_chose op from to s x t =
    when_if at_turn (eqb x.top 0) (turned (lived x 0) t) (choice_of (get_or op (x.top - 1) 0) (x.top - 1) from to s x t)
    (λ z. record { rows = refl; words = refl; steps = refl; live = inl refl })
    (λ z. choice_chose (get_or op (x.top - 1) 0) (x.top - 1) from to s x t)
  where
    at_turn : Turned → Type 0
    at_turn u = Chose x u.state

-- Settled: where the next choice is to be taken it is; else nothing changes.
pub record Settles (r r' : Run) : Type 0 where
  pub rows : r'.state.rows ≡ r.state.rows
  pub words : r'.state.words ≡ r.state.words
  pub steps : r'.state.steps ≡ r.state.steps
  pub room : r'.room ≡ r.room
  pub live : (r'.state.live ≡ r.state.live) ⊎ ((r'.state.live ≡ 0) ⊎ (r'.state.live ≡ 1))
  pub picked : r'.state.live ≡ 2 → ⊥

pub settled_is : (e : Env) (r : Run) → Settles r (settled e r)
unfolding settled after_turn
settled_is e r = when_if (Settles r) (eqb r.state.live 2) _ _
    (λ z. let c = pick_chose e.op e.from e.to e.words r.state r.tables in record {
      rows = c.rows;
      words = c.words;
      steps = c.steps;
      room = refl;
      live = inr c.live;
      picked = λ y. not_two _ c.live y;
    })
    (λ z. record { rows = refl; words = refl; steps = refl; room = refl; live = inl refl; picked = eqb-false _ _ z })
  where
    not_two : (n : ℕ) → (n ≡ 0) ⊎ (n ≡ 1) → n ≡ 2 → ⊥
    not_two n (inl a) y = omega arith
    not_two n (inr a) y = omega arith

-- A state taken up: one step more, at most one row more; the words after those written are what they were.
pub record Takes (r r' : Run) : Type 0 where
  pub steps : r'.state.steps ≡ r.state.steps + 1
  pub rows : r'.state.rows ≤ r.state.rows + 1
  pub live : (r'.state.live ≡ 1) ⊎ ((r'.state.live ≡ 2) ⊎ (r'.state.live ≡ 3))
  pub more : r.state.words ≤ r'.state.words
  pub long : length r'.room ≡ length r.room
  pub after : drop r'.state.words r'.room ≡ drop r'.state.words r.room

took_takes : (r r' : Run) → Took r.state r'.state → r'.room ≡ r.room → Takes r r'
took_takes r r' k e = record {
  steps = k.steps;
  rows = (let h = k.rows in omega arith);
  live = or k.live;
  more = (let h = k.words in omega arith);
  long = ap length e;
  after = ap (drop r'.state.words) e;
}
  where
    or : (r'.state.live ≡ 1) ⊎ (r'.state.live ≡ 2) → (r'.state.live ≡ 1) ⊎ ((r'.state.live ≡ 2) ⊎ (r'.state.live ≡ 3))
    or (inl z) = inl z
    or (inr z) = inr (inl z)

end_takes : (r : Run) (ws : List ℤ) → r.state.words ≤ length r.room → Takes r (after_end (end_by ws r.state r.room) r.tables r.binds)
unfolding end_by after_end filled wrote
end_takes r ws h = when_if (λ (u : Ended). Takes r (run u.state r.tables r.binds u.room)) (ltb (length r.room - r.state.words) (length ws))
    (ended (filled r.state) r.room) (ended (wrote r.state (length ws)) (put r.room r.state.words ws))
    (λ z. record { steps = refl; rows = omega arith; live = inr (inr refl); more = omega arith; long = refl; after = refl })
    (λ z. let k = ltb-false (length r.room - r.state.words) (length ws) z in record {
      steps = refl;
      rows = omega arith;
      live = inr (inl refl);
      more = omega arith;
      long = length_put r.room r.state.words ws;
      after = put_after r.room r.state.words ws (omega arith);
    })

pub takes_is : (e : Env) (r : Run) → r.state.words ≤ length r.room → Takes r (take_of e r)
unfolding take_of take_end take_bind take_step end_of after_turn
takes_is e r h = when_if (Takes r) (eqb (get_or e.op r.state.pc 0) 0) (take_end e r) (when (eqb (get_or e.op r.state.pc 0) 3) (take_bind e r) (take_step e r))
    (λ z. end_takes r (row e.form (bound e.words r.binds e.vars)) h)
    (λ z. when_if (Takes r) (eqb (get_or e.op r.state.pc 0) 3) (take_bind e r) (take_step e r)
    (λ k. took_takes r (take_bind e r) (bind_took e r) (bind_room e r))
    (λ k. took_takes r (take_step e r) (step_took e.op e.from e.to e.con e.words (asked e r) (choices_of e r) r.state r.tables) refl))
  where
    bind_room : (e : Env) (r : Run) → (take_bind e r).room ≡ r.room
    bind_room e r = refl

-- ---- The run.

pub run_over : (e : Env) (n : ℕ) (r : Run) → (r.state.live ≡ 1 → ⊥) → run_of e n r ≡ r
unfolding run_of when
run_over e zero r h = refl
run_over e (suc n) r h = rw (ne_eqb r.state.live 1 h)

pub run_more : (e : Env) (n : ℕ) (r : Run) → r.state.live ≡ 1 → run_of e (suc n) r ≡ run_of e n (settled e (take_of e r))
unfolding run_of when
run_more e n r l = rw (eq-eqb r.state.live 1 l)
