-- The run on numbers and lists tells what document 01's run tells, at every budget and room.
use Prim.Native.Nat.{ℕ, zero, suc, ◌+◌, ◌-◌, ◌≤◌, ◌<◌}
use native.Mathlib.Nat.{sub-zero}
use native.Mathlib.Omega.{arith}
use mathlib.Core.Path.{◌≡◌, refl, sym, ap, ◌∙◌, subst}
use mathlib.Core.Logic.{◌⊎◌, inl, inr, ⊎_elim}
use mathlib.Core.Bool.{Bool, true, false}
use mathlib.Core.Option.{none, some}
use mathlib.Core.List.{List, [], ◌∷◌, ◌++◌}
use lib.ListN.{length, get_or, take, drop, take-append-drop}
use lib.Seq.{drop-drop, length-take-le}
use lib.Dec.{ltb}
use lib.IntN.{ℤ}
use borrow.Author.Tests.{ltb-true, ltb-false}
use Rattle.rules.specs.Forms.{Matcher, Pattern, Value}
use Rattle.rules.specs.Origins.{target}
use Rattle.rules.specs.Reading.{ok}
use Rattle.rules.specs.Fit.{fits}
use Rattle.rules.specs.Search as search
use Rattle.rules.specs.Search.{start}
use Rattle.rules.specs.Services.{carried_out}
use Rattle.forms.specs.Written.{Widthsᵖ}
use Rattle.program_rules.specs.Points.{Instr}
use Rattle.program_rules.specs.Program.{program, point_at}
use Rattle.program_rules.specs.Fitted.{program_follows}
use Rattle.program_rules.specs.Closed.{Closed}
use Rattle.program_rules.specs.Length.{instrs}
use Rattle.program_rules.specs.Meaning.{Means}
use Rattle.search_machine.specs.Held.{Data}
use Rattle.search_machine.specs.Machine.{Machine, once, opened}
use Rattle.search_machine.specs.Drive as drive
use Rattle.search_machine.specs.Drive.{Engine, advance, turn, turns, verdict, reports, Same, same_waiting}
use Rattle.search_machine.specs.Rep.{Rep}
use Rattle.search_machine.specs.Whole.{fresh, fresh_same, machine_runs, place_bound}
use Rattle.value_places.specs.Places.{Target}
use Rattle.value_rows.specs.declared.Binding.{Binding}
use Rattle.search_atom.specs.Leaves.{when}
use Rattle.tables.specs.Slot.{Tables}
use Rattle.search_machine.specs.Operations.{binding}
use Rattle.search_machine.proofs.Instance.{places}
use Rattle.search.specs.Run.{Env, Run, run, line_at, take_of, settled, run_of, opening, answer_of, matched, told}
use Rattle.search.specs.Valid.{Fine, Valid}
use Rattle.search.specs.Meaning.{slots_of, binds_of, conf_of, standing, engine_of}
use Rattle.search.proofs.Keeps.{take_keeps}
use Rattle.search.proofs.Settles.{settle_keeps}
use Rattle.search.proofs.Counts.{settled_is, takes_is, run_over, run_more}
use Rattle.search.proofs.Turns.{Divided}
use Rattle.search.proofs.Runs.{turn_is}

-- ---- Ended engines stay.

turn_full : (D : Data) (code : ℕ → Instr) (k : Engine D) → k.full ≡ true → turn D code k ≡ k
unfolding turn
turn_full D code k e = ap (λ z. elim z as (λ _. Engine D) [ true ↦ k | false ↦ advance D code k k.conf ]) e

turn_none : (D : Data) (code : ℕ → Instr) (k : Engine D) → k.full ≡ false → k.conf ≡ none → turn D code k ≡ k
unfolding turn advance
turn_none D code k e f = ap (λ z. elim z as (λ _. Engine D) [ true ↦ k | false ↦ advance D code k k.conf ]) e ∙ ap (advance D code k) f

still : (D : Data) (code : ℕ → Instr) (n : ℕ) (k : Engine D) → turn D code k ≡ k → turns D code n k ≡ k
unfolding turns
still D code zero k h = refl
still D code (suc n) k h = ap (turns D code n) h ∙ still D code n k h

-- ---- Between two turns: none is left, a state stands, or a row did not fit.

abbrev Phase : ℕ → Type 0
Phase n = (n ≡ 0) ⊎ ((n ≡ 1) ⊎ (n ≡ 3))

phase_next : (e : Env) (r : Run) → r.state.words ≤ length r.room → Phase (settled e (take_of e r)).state.live
phase_next e r h = go (takes_is e r h).live (settled_is e (take_of e r)).live (settled_is e (take_of e r)).picked
  where
    go : {n k : ℕ} → (k ≡ 1) ⊎ ((k ≡ 2) ⊎ (k ≡ 3)) → (n ≡ k) ⊎ ((n ≡ 0) ⊎ (n ≡ 1)) → (n ≡ 2 → ⊥) → Phase n
    go (inl a) (inl b) p = inr (inl (b ∙ a))
    go (inr (inl a)) (inl b) p = absurd (p (b ∙ a))
    go (inr (inr a)) (inl b) p = inr (inr (b ∙ a))
    go a (inr (inl b)) p = inl b
    go a (inr (inr b)) p = inr (inl b)

-- ---- The room: the words after those written are the room's own.

pub record Kept (room : List ℤ) (r : Run) : Type 0 where
  pub long : length r.room ≡ length room
  pub after : drop r.state.words r.room ≡ drop r.state.words room

drop_more : (a b : ℕ) (k l : List ℤ) → a ≤ b → drop a k ≡ drop a l → drop b k ≡ drop b l
drop_more a b k l h e =
    let z : a + (b - a) ≡ b = omega arith in
    sym (drop-drop (b - a) a k ∙ ap (λ n. drop n k) z) ∙ ap (drop (b - a)) e ∙ drop-drop (b - a) a l ∙ ap (λ n. drop n l) z

kept_next : (e : Env) (room : List ℤ) (r : Run) → r.state.words ≤ length r.room → Kept room r → Kept room (settled e (take_of e r))
kept_next e room r h k =
    let t = takes_is e r h in
    let c = settled_is e (take_of e r) in
    record {
      long = ap length c.room ∙ t.long ∙ k.long;
      after = rw (c.words, c.room) (t.after ∙ drop_more r.state.words (take_of e r).state.words r.room room t.more k.after);
    }

-- ---- The run.

module _ (e : Env) (g : Target e.words) (fine : Fine e) (m : Matcher) (p : Pattern) (at₀ : ℕ) (ks : List Matcher) (fit : fits p m at₀ [] ≡ ok ks) (wide : Widthsᵖ p) (closed : Closed p)
    (means : (pc : ℕ) → pc ≤ instrs p m → Means e.matcher e.vars (line_at e pc) (get_or e.to pc 0) (program m p pc))
    (after : (pc : ℕ) → instrs p m < pc → get_or e.op pc 0 ≡ 0) where
  -- A line that divides is one of the program's.
  divides : Divided e g (program m p)
  divides j h = go (ltb (instrs p m) j) (ltb-true _ _) (ltb-false _ _)
    where
      go : (b : Bool) → (b ≡ true → instrs p m < j) → (b ≡ false → j ≤ instrs p m) → Means e.matcher e.vars (line_at e j) (get_or e.to j 0) (program m p j)
      go true f k = let z = after j (f refl) in absurd (omega arith)
      go false f k = means j (k refl)

  -- Taken up, a state leaves a run that is valid and still stands for what waits.
  pub record Stands (room : List ℤ) (r : Run) : Type 0 where
    pub valid : Valid e r
    pub phase : Phase r.state.live
    pub kept : Kept room r
    pub machine : Machine
    pub same : Same (places e.dialect e.form e.words g) (program m p) (point_at m p) (program_follows m p at₀ ks fit wide closed) (engine_of e.dialect e.form e.words g r) machine

  one_turn : (room : List ℤ) (r : Run) → Stands room r → r.state.live ≡ 1
      → turn (places e.dialect e.form e.words g) (program m p) (engine_of e.dialect e.form e.words g r) ≡ engine_of e.dialect e.form e.words g (settled e (take_of e r))
  unfolding engine_of standing when conf_of
  one_turn room r s l =
      let w = same_waiting (places e.dialect e.form e.words g) (program m p) (point_at m p) (program_follows m p at₀ ks fit wide closed) s.same (rw l) in
      let b = place_bound (places e.dialect e.form e.words g) m p (subst (λ o. Rep (places e.dialect e.form e.words g) (program m p) (point_at m p) o s.machine.waiting) stood w) in
      turn_is e g fine (program m p) r.state r.tables r.binds r.room s.valid l (means r.state.pc b.0) divides
    where
      stood : standing e.dialect e.form e.words g r.state r.tables r.binds ≡ some (conf_of e.dialect e.form e.words g r.state r.tables r.binds)
      stood = rw l

  -- A state taken up: the run stands for what follows it, and then the rest.
  pub stands_next : (room : List ℤ) (r : Run) → Stands room r → r.state.live ≡ 1 → Stands room (settled e (take_of e r))
  stands_next room r s l = record {
    valid = settle_keeps e fine g (take_of e r) (take_keeps e fine g r s.valid l);
    phase = phase_next e r s.valid.room;
    kept = kept_next e room r s.valid.room s.kept;
    machine = once e.dialect e.form s.machine;
    same = subst (λ k. Same (places e.dialect e.form e.words g) (program m p) (point_at m p) (program_follows m p at₀ ks fit wide closed) k (once e.dialect e.form s.machine)) (one_turn room r s l)
        (drive.same_turn (places e.dialect e.form e.words g) (program m p) (point_at m p) (program_follows m p at₀ ks fit wide closed) s.same);
  }

  ended_stays : (r : Run) → (r.state.live ≡ 0) ⊎ (r.state.live ≡ 3)
      → turn (places e.dialect e.form e.words g) (program m p) (engine_of e.dialect e.form e.words g r) ≡ engine_of e.dialect e.form e.words g r
  unfolding engine_of standing when
  ended_stays r (inl l) = turn_none (places e.dialect e.form e.words g) (program m p) (engine_of e.dialect e.form e.words g r) (rw l) (rw l)
  ended_stays r (inr l) = turn_full (places e.dialect e.form e.words g) (program m p) (engine_of e.dialect e.form e.words g r) (rw l)

  pub run_stands : (n : ℕ) (room : List ℤ) (r : Run) → Stands room r → Stands room (run_of e n r)
  unfolding run_of
  run_stands zero room r s = s
  run_stands (suc n) room r s = ⊎_elim
      (λ l. rw (run_over e (suc n) r (λ z. omega arith)) s)
      (⊎_elim
      (λ l. rw (run_more e n r l) (run_stands n room (settled e (take_of e r)) (stands_next room r s l)))
      (λ l. rw (run_over e (suc n) r (λ z. omega arith)) s))
      s.phase

  stays : (n : ℕ) (r : Run) → (r.state.live ≡ 0) ⊎ (r.state.live ≡ 3)
      → engine_of e.dialect e.form e.words g (run_of e n r) ≡ turns (places e.dialect e.form e.words g) (program m p) n (engine_of e.dialect e.form e.words g r)
  stays n r l = ap (engine_of e.dialect e.form e.words g) (run_over e n r (not_one l)) ∙ sym (still (places e.dialect e.form e.words g) (program m p) n (engine_of e.dialect e.form e.words g r) (ended_stays r l))
    where
      not_one : (r.state.live ≡ 0) ⊎ (r.state.live ≡ 3) → r.state.live ≡ 1 → ⊥
      not_one (inl a) z = omega arith
      not_one (inr a) z = omega arith

  pub run_is : (n : ℕ) (room : List ℤ) (r : Run) → Stands room r
      → engine_of e.dialect e.form e.words g (run_of e n r) ≡ turns (places e.dialect e.form e.words g) (program m p) n (engine_of e.dialect e.form e.words g r)
  unfolding run_of turns
  run_is zero room r s = refl
  run_is (suc n) room r s = ⊎_elim
      (λ l. stays (suc n) r (inl l))
      (⊎_elim
      (λ l.
      ap (engine_of e.dialect e.form e.words g) (run_more e n r l) ∙ run_is n room (settled e (take_of e r)) (stands_next room r s l)
      ∙ ap (turns (places e.dialect e.form e.words g) (program m p) n) (sym (one_turn room r s l)))
      (λ l. stays (suc n) r (inr l)))
      s.phase

  -- ---- What is told.

  answer_is : (r : Run) → Phase r.state.live
      → verdict (places e.dialect e.form e.words g) (engine_of e.dialect e.form e.words g r).full (engine_of e.dialect e.form e.words g r).conf ≡ answer_of r.state.live
  unfolding engine_of standing answer_of verdict when
  answer_is r (inl l) = rw l
  answer_is r (inr (inl l)) = rw l
  answer_is r (inr (inr l)) = rw l

  told_is : (room : List ℤ) (r : Run) → Stands room r → told r ≡ carried_out (reports (places e.dialect e.form e.words g) (engine_of e.dialect e.form e.words g r)) room
  unfolding told matched carried_out reports engine_of
  told_is room r s k = record {
    answer = sym (answer_is r s.phase) k;
    place = 0;
    rows = r.state.rows;
    steps = r.state.steps;
    words = sym long k;
    cause = 0;
    room = whole k;
  }
    where
      long : length (take r.state.words r.room) ≡ r.state.words
      long = length-take-le r.state.words r.room s.valid.room

      whole : r.room ≡ take r.state.words r.room ++ drop (length (take r.state.words r.room)) room
      whole = rw long (sym (take-append-drop r.state.words r.room) ∙ ap (λ l. take r.state.words r.room ++ l) s.kept.after)

  -- The run from its first state, whatever the tables and the bindings binding.
  module _ (v : Value) (at₁ marks : ℕ) (is : (places e.dialect e.form e.words g).Is m (binding at₁ marks) (target v)) (t : Tables) (b : List Binding) (room : List ℤ)
      (valid : Valid e (run (opening at₁ marks) t b room)) where
    first_engine : fresh (places e.dialect e.form e.words g) (binding at₁ marks) (slots_of e.dialect e.form e.words g t) (binds_of e.dialect e.form e.words g b) (length room) ≡ engine_of e.dialect e.form e.words g (run (opening at₁ marks) t b room)
    unfolding opening engine_of standing conf_of when fresh
    first_engine = rw (sub-zero (length room))

    first_stands : Stands room (run (opening at₁ marks) t b room)
    unfolding opening
    first_stands = record {
      valid = valid;
      phase = inr (inl refl);
      kept = record { long = refl; after = refl };
      machine = opened (start m p v) (length room);
      same = subst (λ k. Same (places e.dialect e.form e.words g) (program m p) (point_at m p) (program_follows m p at₀ ks fit wide closed) k (opened (start m p v) (length room))) first_engine
          (fresh_same (places e.dialect e.form e.words g) m p v (binding at₁ marks) is at₀ ks fit wide closed (slots_of e.dialect e.form e.words g t) (binds_of e.dialect e.form e.words g b) (length room));
    }

    pub search_runs : (budget : ℕ)
        → told (run_of e budget (run (opening at₁ marks) t b room)) ≡ carried_out (search.run_in e.dialect e.form budget (start m p v ∷ []) (length room)) room
    search_runs budget =
        told_is room (run_of e budget (run (opening at₁ marks) t b room)) (run_stands budget room (run (opening at₁ marks) t b room) first_stands)
        ∙ ap (λ k. carried_out (reports (places e.dialect e.form e.words g) k) room)
        (run_is budget room (run (opening at₁ marks) t b room) first_stands ∙ ap (turns (places e.dialect e.form e.words g) (program m p) budget) (sym first_engine))
        ∙ ap (λ r. carried_out r room)
        (machine_runs (places e.dialect e.form e.words g) m p v (binding at₁ marks) is at₀ ks fit wide closed (slots_of e.dialect e.form e.words g t) (binds_of e.dialect e.form e.words g b) budget (length room))
