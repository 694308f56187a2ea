-- One state taken up on numbers and lists, as the definitions of No. 10 take it up.
use Rattle.std.specs.Prelude.{ℕ, zero, suc, ◌+◌, ◌-◌, ◌≤◌, ◌<◌, ◌≡◌, refl, ◌⊎◌, Bool, true, false, List, [], ◌∷◌, ◌++◌, map, length, get_or, take, drop, leb, eqb, ℤ}
use Rattle.std.proofs.Common.{add-zero, sym, ap₂, ◌∙◌, inl, inr, ⊎_elim, append-nil, append_assoc, eqb-true}
use native.Mathlib.Omega.{arith}
use Rattle.std.proofs.Math.Path.{ap, subst}
use Rattle.std.proofs.Math.Option.{Option, none, some}
use Rattle.rules.specs.Rows.{Form, row}
use Rattle.rules.specs.Search as paper
use Rattle.rules.specs.Search.{atom, end_of_not, state, stopped, step, row_step}
use Rattle.round_rules.specs.Rounds.{searching, on_first, unmarked, Inside, spent, left, one_more, inside, past, take_up}
use Rattle.words.specs.Words.{entries}
use Rattle.program_rules.specs.Points.{Instr, deny, cut_at, Point, resume}
use Rattle.program_rules.specs.Points as point
use Rattle.program_rules.specs.Program.{program, point_at}
use Rattle.program_rules.specs.Fitted.{program_follows}
use Rattle.program_rules.specs.Meaning.{means_deny}
use Rattle.search_machine.specs.Held.{Data}
use Rattle.search_machine.specs.Machine.{Machine, passing, writing, filling, step_on, once}
use Rattle.search_machine.specs.Engine.{Conf, exec, settle}
use Rattle.search_machine.specs.Drive.{Engine, turns, same_turn, Same, running, stopped as halted, same_waiting}
use Rattle.search_machine.specs.Rep.{Rep, over_all, live}
use Rattle.search_machine.proofs.Instance.{places}
use Rattle.value_places.specs.Places.{Target}
use Rattle.value_places.specs.Held.{Held}
use Rattle.value_rows.specs.Row.{Bound}
use Rattle.value_rows.specs.declared.Binding.{Binding}
use Rattle.tables.specs.Slot.{Tables}
use Rattle.search_atom.specs.Leaves.{when}
use Rattle.search_step.specs.declared.State.{State}
use Rattle.search.specs.Run.{Env, Run, run, line_at, take_of, settled, run_of}
use Rattle.search.specs.Valid.{Fine, Long, Open, Valid}
use Rattle.search.specs.Meaning.{conf_of, standing, engine_of}
use Rattle.search.proofs.Whole.{Stands, Kept, run_stands, run_is}
use Rattle.search.proofs.Counts.{takes_is, settled_is, run_more}
use Rattle.round_states.specs.Ruled.{Ruled, means, ends_after, follows, by_line_lem}
use Rattle.round_states.specs.Branches.{Shallow, Shallows, alone, outside, plain_rep, step_shallow, cut_inside, end_inside, row_outside, chain_plain}
use Rattle.round_states.specs.Nots.{behind, past_more, past_over, inside_over, inside_spent, inside_more, inside_open, inside_left, inside_step, not_step}

-- ---- What a run adds to what came before it.

unfoldable pub on : (rows steps : ℕ) (written : List ℤ) → paper.Run → paper.Run
on rows steps written r = record { answer = r.answer; rows = rows + r.rows; steps = steps + r.steps; written = written ++ r.written }

same_run : (a : ℕ) {x x' y y' : ℕ} {w w' : List ℤ} → x ≡ x' → y ≡ y' → w ≡ w'
    → ◌≡◌ {A = paper.Run} (record { answer = a; rows = x; steps = y; written = w }) (record { answer = a; rows = x'; steps = y'; written = w' })
same_run a p q r i = record { answer = a; rows = p i; steps = q i; written = r i }

pub on_step_lem : (rows steps : ℕ) (written : List ℤ) (r : paper.Run) → on rows steps written (step r) ≡ on rows (suc steps) written r
unfolding on step
on_step_lem rows steps written r = same_run r.answer refl (omega arith) refl

pub on_row : (rows steps : ℕ) (written ws : List ℤ) (r : paper.Run) → on rows steps written (row_step ws r) ≡ on (suc rows) (suc steps) (written ++ ws) r
unfolding on row_step
on_row rows steps written ws r = same_run r.answer (omega arith) (omega arith) (sym (append_assoc written ws r.written))

pub on_full : (rows steps : ℕ) (written : List ℤ) (a : ℕ) → on rows steps written (stopped a 1) ≡ on rows (suc steps) written (stopped a 0)
unfolding on stopped
on_full rows steps written a = same_run a refl (omega arith) refl

-- ---- What a run's numbers stand for.

-- What is so far of the run F: then comes r.
unfoldable pub Far : (F : paper.Run) → State → List ℤ → paper.Run → Type 0
unfolding on
Far F x room r = F ≡ on x.rows x.steps (take x.words room) r

module _ (e : Env) (R : Ruled e) where
  abbrev pub D : Data
  D = places e.dialect e.form e.words R.target_is

  abbrev pub code : ℕ → Instr
  code = program R.rule.matcher R.rule.pattern

  abbrev pub points : ℕ → Point
  points = point_at R.rule.matcher R.rule.pattern

  abbrev pub stood : State → Tables → List Binding → Option (Conf D)
  stood x t b = standing e.dialect e.form e.words R.target_is x t b

  -- Nothing that it holds lies outside the target, and it can be counted.
  abbrev pub StandsIn : List ℤ → Run → Type 0
  StandsIn room r =
      Stands e R.target_is R.fine R.rule.matcher R.rule.pattern 0 R.kinds R.fit R.wide R.closed (means e R) (ends_after e R) room r

  same_fields : {k : Engine D} {K : Machine} → Same D code points (follows e R) k K
      → (k.rows ≡ K.rows) × (k.steps ≡ K.steps) × (k.written ≡ K.written) × (k.left ≡ K.left) × (k.full ≡ K.full)
  same_fields (running r) = (refl, refl, refl, refl, refl)
  same_fields halted = (refl, refl, refl, refl, refl)

  module _ (x : State) (t : Tables) (b : List Binding) (room : List ℤ) (valid : Valid e (run x t b room)) (one : x.live ≡ 1)
      (s : paper.State) (ss : List paper.State) (rep : Rep D code points (some (conf_of e.dialect e.form e.words R.target_is x t b)) (s ∷ ss)) where
    abbrev r : Run
    r = run x t b room

    abbrev r₁ : Run
    r₁ = run_of e 1 r

    abbrev k₀ : Machine
    k₀ = record { waiting = s ∷ ss; left = length room - x.words; rows = x.rows; steps = x.steps; written = take x.words room; full = false }

    same₀ : Same D code points (follows e R) (engine_of e.dialect e.form e.words R.target_is r) k₀
    unfolding engine_of standing when
    same₀ = rw one (running rep)

    pub stands₀ : StandsIn room r
    stands₀ = record {
      valid = valid;
      phase = inr (inl one);
      kept = record { long = refl; after = refl };
      machine = k₀;
      same = same₀;
    }

    pub stands₁ : StandsIn room r₁
    stands₁ = run_stands e R.target_is R.fine R.rule.matcher R.rule.pattern 0 R.kinds R.fit R.wide R.closed (means e R) (ends_after e R) 1 room r stands₀

    -- The same over a room that was there before.
    pub stands_kept : (base : List ℤ) → Kept base r → StandsIn base r₁
    stands_kept base k =
        run_stands e R.target_is R.fine R.rule.matcher R.rule.pattern 0 R.kinds R.fit R.wide R.closed (means e R) (ends_after e R) 1 base r
        (record { valid = valid; phase = inr (inl one); kept = k; machine = k₀; same = same₀ })

    pub one_step : r₁.state.steps ≡ suc x.steps
    unfolding run_of
    one_step =
        let a = (takes_is e r valid.room).steps in
        let c = (settled_is e (take_of e r)).steps in
        let m = ap (λ (q : Run). q.state.steps) (run_more e 0 r one) in
        omega arith

    -- The machine then.
    abbrev k₁ : Machine
    k₁ = once e.dialect e.form k₀

    same₁ : Same D code points (follows e R) (engine_of e.dialect e.form e.words R.target_is r₁) k₁
    unfolding turns
    same₁ = subst (λ k. Same D code points (follows e R) k k₁)
        (sym (run_is e R.target_is R.fine R.rule.matcher R.rule.pattern 0 R.kinds R.fit R.wide R.closed (means e R) (ends_after e R) 1 room r stands₀))
        (same_turn D code points (follows e R) same₀)

    -- It has taken a step and written nothing, and stands for the states L.
    pub record Passed (L : List paper.State) : Type 0 where
      pub rows : r₁.state.rows ≡ x.rows
      pub steps : r₁.state.steps ≡ suc x.steps
      pub words : take r₁.state.words r₁.room ≡ take x.words room
      pub free : length r₁.room - r₁.state.words ≡ length room - x.words
      pub going : r₁.state.live ≡ 3 → ⊥
      pub stands : Rep D code points (stood r₁.state r₁.tables r₁.binds) L

    not_full : eqb r₁.state.live 3 ≡ false → r₁.state.live ≡ 3 → ⊥
    not_full h z = let y : ◌≡◌ {A = Bool} true false = sym (ap (λ n. eqb n 3) z) ∙ h in let w : ◌≡◌ {A = ℕ} 0 1 = cc in omega arith

    pub pass : (L : List paper.State) → k₁ ≡ passing k₀ L → Passed L
    unfolding passing engine_of
    pass L h =
        let f = same_fields (subst (λ k. Same D code points (follows e R) (engine_of e.dialect e.form e.words R.target_is r₁) k) h same₁) in
        record {
          rows = f.0;
          steps = f.1;
          words = f.2;
          free = f.3;
          going = not_full f.4;
          stands = same_waiting D code points (follows e R) (subst (λ k. Same D code points (follows e R) (engine_of e.dialect e.form e.words R.target_is r₁) k) h same₁) f.4;
        }

    -- It has written a row.
    pub record Wrote (ws : List ℤ) (L : List paper.State) : Type 0 where
      pub rows : r₁.state.rows ≡ suc x.rows
      pub steps : r₁.state.steps ≡ suc x.steps
      pub words : take r₁.state.words r₁.room ≡ take x.words room ++ ws
      pub free : length r₁.room - r₁.state.words ≡ length room - x.words - length ws
      pub going : r₁.state.live ≡ 3 → ⊥
      pub stands : Rep D code points (stood r₁.state r₁.tables r₁.binds) L

    pub write : (ws : List ℤ) (L : List paper.State) → k₁ ≡ writing k₀ ws L → Wrote ws L
    unfolding writing engine_of
    write ws L h =
        let f = same_fields (subst (λ k. Same D code points (follows e R) (engine_of e.dialect e.form e.words R.target_is r₁) k) h same₁) in
        record {
          rows = f.0;
          steps = f.1;
          words = f.2;
          free = f.3;
          going = not_full f.4;
          stands = same_waiting D code points (follows e R) (subst (λ k. Same D code points (follows e R) (engine_of e.dialect e.form e.words R.target_is r₁) k) h same₁) f.4;
        }

    -- The row did not fit.
    pub record Filled : Type 0 where
      pub rows : r₁.state.rows ≡ x.rows
      pub steps : r₁.state.steps ≡ suc x.steps
      pub words : take r₁.state.words r₁.room ≡ take x.words room
      pub full : r₁.state.live ≡ 3

    is_three : (n : ℕ) → eqb n 3 ≡ true → n ≡ 3
    is_three n h = eqb-true n 3 h

    pub fill : (L : List paper.State) → k₁ ≡ filling k₀ L → Filled
    unfolding filling engine_of
    fill L h =
        let f = same_fields (subst (λ k. Same D code points (follows e R) (engine_of e.dialect e.form e.words R.target_is r₁) k) h same₁) in
        record { rows = f.0; steps = f.1; words = f.2; full = is_three r₁.state.live f.4 }
