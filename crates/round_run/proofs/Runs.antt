-- The whole run: its first list, and what is told at its end.
use Prim.Native.Nat.{ℕ, zero, suc, ◌+◌, ◌-◌, ◌*◌, ◌/◌, ◌≤◌}
use native.Mathlib.Omega.{arith}
use native.Mathlib.Nat.{min-le_left, min-le_right}
use mathlib.Core.Path.{◌≡◌, refl, sym, ap, ap₂, ◌∙◌, subst}
use mathlib.Core.Bool.{true, false, cond}
use mathlib.Core.List.{List, [], ◌∷◌, ◌++◌, append-nil}
use lib.ListN.{length, take, drop, take-append-drop}
use lib.Seq.{length-take-le}
use lib.Dec.{eqb}
use lib.IntN.{ℤ}
use Rattle.std.specs.Prelude.{Some, None}
use borrow.Author.Tests.{ne_eqb, lt-leb}
use Rattle.rules.specs.Dialects.{Dialect}
use Rattle.rules.specs.Rows.{Form}
use Rattle.rules.specs.Search as paper
use Rattle.rules.specs.Search.{start, stopped}
use Rattle.rules.specs.Services.{carried_out}
use Rattle.round_rules.specs.Rounds.{Branch, branch, remainders, waiting, take_round, by_rounds, limit_of, states_in, run_rounds}
use Rattle.value_places.specs.Held.{whole_at}
use Rattle.value_rows.specs.declared.Binding.{Binding}
use Rattle.tables.specs.Slot.{no_slots, view_of}
use Rattle.search_machine.specs.Drive.{same_waiting}
use Rattle.search_machine.specs.Machine as machines
use Rattle.search_machine.specs.Operations.{binding}
use Rattle.search_machine.specs.Whole.{fresh, fresh_same}
use Rattle.search_step.specs.declared.State.{State}
use Rattle.search.specs.Run.{Env, run, opening, matched}
use Rattle.search.specs.Valid.{Valid}
use Rattle.search.specs.Meaning.{slots_of, binds_of, conf_of}
use Rattle.search.specs.Searched.{unbound}
use Rattle.search.specs.Stops.{number_of}
use Rattle.search.specs.declared.stop.Stop.TheVariants.{Budget, Table}
use Rattle.search.specs.declared.Report.{Report}
use Rattle.search.proofs.Begun.{first_valid}
use Rattle.round_lists.specs.Lists.{Framed, Stored}
use Rattle.round_states.specs.Ruled.{Ruled, follows}
use Rattle.round_states.specs.Standing.{Standing, Used}
use Rattle.round_states.specs.Table.{kept_is, framed, Lists}
use Rattle.round_states.specs.Taking.{D, code, points, Far, on}
use Rattle.round_states.specs.Outcomes.{valid_clean}
use Rattle.round_states.specs.Sweeps.{waiting_one}
use Rattle.round_states.specs.Rounding.{Rounding}
use Rattle.round_run.specs.Sizes.{Numbered}
use Rattle.round_run.specs.Courses.{Journey, Onward, Starts, Ended, Arrived}
use Rattle.round_run.specs.Runs.{no_table, ByRounds}
use Rattle.round_run.specs.declared.rounds.Round.{Round}

-- ---- A table that holds no state.

nothing_ran : (a : ℕ) (room : List ℤ) → matched a 0 0 0 room ≡ carried_out (stopped a 0) room
unfolding matched carried_out stopped
nothing_ran a room = refl

-- The number of what stops such a run.
none_number : (n : ℕ) → number_of (cond (eqb n 0) (Some Budget) (Some Table)) ≡ cond (eqb n 0) 7 21
unfolding cond
none_number zero = refl
none_number (suc n) = rw (ne_eqb (suc n) 0 (λ y. omega arith)) refl

none_ran : (dialect : Dialect) (f : Form) (first : paper.State) (room : List ℤ) (n : ℕ)
    → matched (cond (eqb n 0) 7 21) 0 0 0 room ≡ carried_out (by_rounds dialect f n 0 n (record { first = first; others = [] } ∷ []) (length room)) room
unfolding by_rounds cond
none_ran dialect f first room zero = nothing_ran 7 room
none_ran dialect f first room (suc n) =
    let b : List Branch = record { first = first; others = [] } ∷ [] in
    rw (ne_eqb (suc n) 0 (λ y. omega arith)) (nothing_ran 21 room
    ∙ ap (λ t. carried_out (elim t as (λ _. paper.Run) [ true ↦ take_round dialect f (suc n) b [] (length room) (λ l nw free. by_rounds dialect f n 0 l (nw ++ remainders b) free) | false ↦ stopped 21 0 ]) room)
    (sym (lt-leb (waiting b) 0 (let w = waiting_one (record { first = first; others = [] }) in omega arith))))

pub no_table_lem : (e : Env) (budget words : ℕ) (room : List ℤ) (limit : ℕ) → limit ≡ limit_of (states_in 825 words) → limit ≡ 0 → (r : Report) → r ≡ no_table budget
    → ByRounds e budget words room (matched (number_of r.stop) r.rows r.steps r.words room)
unfolding ByRounds no_table run_rounds branch
no_table_lem e budget words room limit q z r h R =
    let first = start R.rule.matcher R.rule.pattern R.value in
    ap (λ (r : Report). matched (number_of r.stop) r.rows r.steps r.words room) h
    ∙ ap (λ (a : ℕ). matched a 0 0 0 room) (none_number budget)
    ∙ none_ran e.dialect e.form first room budget
    ∙ ap (λ n. carried_out (by_rounds e.dialect e.form budget n budget (record { first = first; others = [] } ∷ []) (length room)) room) (sym z ∙ q)

-- A table that holds some.
pub table_some : (words limit : ℕ) → limit ≡ limit_of (states_in 825 words) → (limit ≡ 0 → ⊥) → 825 * 0 + 825 ≤ words
unfolding limit_of states_in
table_some words limit q n = let a = min-le_right 256 (words / 825) in let b = above n in omega arith
  where
    above : (limit ≡ 0 → ⊥) → 1 ≤ limit
    above n = omega arith

-- ---- The first list.

pub used_is : (e : Env) (R : Ruled e) (used : ℕ) → Numbered e.arg 650 used → Used e R used
used_is e R used n = record { lines = λ i h. n.lines i h; variables = n.variables; most = n.most }

module _ (e : Env) (R : Ruled e) where
  abbrev pub first_state : paper.State
  first_state = start R.rule.matcher R.rule.pattern R.value

  stands_first : (slots : List ℕ) (b : List Binding) → Valid e (run (opening 0 (whole_at e.words 0)) (view_of e.arg slots) b [])
      → Standing e R (opening 0 (whole_at e.words 0)) slots b (record { first = first_state; others = [] })
  unfolding opening fresh conf_of machines.opened
  stands_first slots b v = record {
    clean = valid_clean e R (opening 0 (whole_at e.words 0)) slots b [] v (λ z. omega arith);
    live_is = refl;
    place = v.place;
    held = v.held;
    frames = v.frames;
    rep = same_waiting (D e R) (code e R) (points e R) (follows e R)
        (fresh_same (D e R) R.rule.matcher R.rule.pattern R.value (binding 0 (whole_at e.words 0)) R.is 0 R.kinds R.fit R.wide R.closed
        (slots_of e.dialect e.form e.words R.target_is (view_of e.arg slots)) (binds_of e.dialect e.form e.words R.target_is b) 0) refl;
    shallow = record { frame = λ j h. absurd (omega arith) };
  }

  module _ (x : State) (opened : x ≡ opening 0 (whole_at e.words 0)) (b : List Binding) (free : b ≡ unbound 16) (slots : List ℕ) (none : slots ≡ no_slots) where
    pub first_standing : Standing e R x slots b (record { first = first_state; others = [] })
    first_standing = subst (λ (y : State). Standing e R y slots b (record { first = first_state; others = [] })) (sym opened)
        (stands_first slots b (subst (λ (y : State). Valid e (run y (view_of e.arg slots) b [])) opened (first_valid e R.some_words x opened b free slots none [])))

    pub first_framed : Framed e.arg slots x.top
    first_framed = framed e R first_standing

    module _ (used : ℕ) (num : Numbered e.arg 650 used) (budget words limit : ℕ) (size : limit ≡ limit_of (states_in 825 words)) (room : List ℤ) (old new : List ℤ) (long : words ≡ length old)
        (st : Stored old new 0 e.vars used x (view_of e.arg slots) slots b) where
      abbrev pub journey : Journey e used
      journey = record {
        ruled = R;
        uses = used_is e R used num;
        whole = run_rounds e.dialect e.form (states_in 825 words) budget (first_state ∷ []) (length room);
        limit = limit;
        base = room;
      }

      holds : 825 * limit ≤ length new
      unfolding limit_of states_in
      holds = let a = min-le_right 256 (words / 825) in let b = st.long in let c = size in omega arith

      on_nothing : (r : paper.Run) → r ≡ on 0 0 (take 0 room) r
      unfolding on
      on_nothing r i = record {
        answer = r.answer;
        rows = (let z : r.rows ≡ 0 + r.rows = omega arith in z) i;
        steps = (let z : r.steps ≡ 0 + r.steps = omega arith in z) i;
        written = r.written;
      }

      far_first : Far journey.whole (opening 0 (whole_at e.words 0)) room
          (by_rounds e.dialect e.form budget limit (budget - 0) (record { first = first_state; others = [] } ∷ []) (length room - 0))
      unfolding Far opening run_rounds branch
      far_first =
          let p : budget ≡ budget - 0 = omega arith in
          let q : length room ≡ length room - 0 = omega arith in
          on_nothing _ ∙ ap₂ (λ n k. on 0 0 (take 0 room) (by_rounds e.dialect e.form budget (limit_of (states_in 825 words)) n (record { first = first_state; others = [] } ∷ []) k)) p q
          ∙ ap (λ l. on 0 0 (take 0 room) (by_rounds e.dialect e.form budget l (budget - 0) (record { first = first_state; others = [] } ∷ []) (length room - 0))) (sym size)

      first_rounding : Rounding e R used (used_is e R used num) journey.whole budget limit budget new 1 1 (opening 0 (whole_at e.words 0)) room
      unfolding opening
      first_rounding = record {
        all = record { first = first_state; others = [] } ∷ [];
        count = refl;
        waits = sym (waiting_one (record { first = first_state; others = [] }));
        there = holds;
        lists = unfold Lists in (kept_is e R used (used_is e R used num) x slots b (record { first = first_state; others = [] }) first_standing old new 0 st, tt);
        far = far_first;
        fuel = omega arith;
      }

      pub first_onward : Onward e used journey budget (record { state = x; binds = b; many = 1; waiting = 1; stop = None }) new slots room
      first_onward = subst (λ (y : State). Onward e used journey budget (record { state = y; binds = b; many = 1; waiting = 1; stop = None }) new slots room) (sym opened) (unfold opening in record {
        clean = first_standing.clean;
        words = omega arith;
        counts = omega arith;
        most = omega arith;
        kept = record { long = refl; after = refl };
        rounds = budget;
        goes = λ z. first_rounding;
        stops = λ z. absurd (z refl);
      })

      pub first_starts : Starts e used budget limit (record { state = x; binds = b; many = 1; waiting = 1; stop = None }) new slots room
      unfolding limit_of
      first_starts = record {
        journey = journey;
        onward = first_onward;
        limited = refl;
        small = let a = min-le_left 256 (states_in 825 words) in let c = size in omega arith;
        going = refl;
      }

-- ---- What is told.

module _ (a : ℕ) (x : State) (room base : List ℤ) (w : x.words ≤ length room) (k : drop x.words room ≡ drop x.words base) where
  long : length (take x.words room ++ []) ≡ x.words
  long = ap length (append-nil (take x.words room)) ∙ length-take-le x.words room w

  all : room ≡ (take x.words room ++ []) ++ drop (length (take x.words room ++ [])) base
  all = sym (take-append-drop x.words room) ∙ ap (λ l. take x.words room ++ l) k ∙ ap₂ (λ l n. l ++ drop n base) (sym (append-nil (take x.words room))) (sym long)

  told_so_far : matched a x.rows x.steps x.words room ≡ carried_out (on x.rows x.steps (take x.words room) (stopped a 0)) base
  unfolding matched carried_out on stopped
  told_so_far i = record {
    answer = a;
    place = 0;
    rows = (let z : x.rows ≡ x.rows + 0 = omega arith in z) i;
    steps = (let z : x.steps ≡ x.steps + 0 = omega arith in z) i;
    words = sym long i;
    cause = 0;
    room = all i;
  }

  told_far : (F : paper.Run) → Far F x room (stopped a 0) → matched a x.rows x.steps x.words room ≡ carried_out F base
  unfolding Far
  told_far F f = told_so_far ∙ ap (λ r. carried_out r base) (sym f)

module _ (e : Env) (x : State) (b : List Binding) (slots : List ℕ) (used budget words limit : ℕ) (room old new : List ℤ) (opened : x ≡ opening 0 (whole_at e.words 0)) (free : b ≡ unbound 16)
    (none : slots ≡ no_slots) (num : Numbered e.arg 650 used) (size : limit ≡ limit_of (states_in 825 words)) (long : words ≡ length old)
    (st : Stored old new 0 e.vars used x (view_of e.arg slots) slots b) (q : Round) (ws : List ℤ) (slots₁ : List ℕ) (room₁ : List ℤ)
    (A : Arrived e used budget limit (record { state = x; binds = b; many = 1; waiting = 1; stop = None }) new slots room q ws slots₁ room₁) where
  ended : (R : Ruled e) → Ended e used (journey e R x opened b free slots none used num budget words limit size room old new long st) q slots₁ room₁
  ended R = A.ended (journey e R x opened b free slots none used num budget words limit size room old new long st) refl (first_onward e R x opened b free slots none used num budget words limit size room old new long st)

  pub run_room : Ruled e → length room₁ ≡ length room
  run_room R = (ended R).kept.long

  pub run_told : ByRounds e budget words room (matched (number_of q.stop) q.state.rows q.state.steps q.state.words room₁)
  unfolding ByRounds
  run_told R =
      let d = ended R in
      told_far (number_of q.stop) q.state room₁ room d.words d.kept.after (journey e R x opened b free slots none used num budget words limit size room old new long st).whole d.far
