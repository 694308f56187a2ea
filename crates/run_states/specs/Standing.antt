-- What the numbers of a run stand for between two advances: the waiting states that document 02, No. 8, speaks of; and that an advance goes on from these.
use Prim.Native.Nat.{ℕ, zero, suc, ◌+◌, ◌-◌, ◌≤◌, ◌<◌}
use Rattle.std.proofs.Common.{arith, ◌∙◌, inl, inr, take-append-drop, length-append, length-take-le}
use Rattle.std.specs.Prelude.{◌≡◌, ◌⊎◌, Bool, true, get_or, take, ℤ}
use Rattle.std.proofs.Math.Path.{refl, sym, ap, ap₂, subst}
use Rattle.std.proofs.Math.Logic.{⊎_elim}
use Rattle.std.proofs.Math.Bool.{false}
use Rattle.std.proofs.Math.Option.{Option, none, some}
use mathlib.Core.List.{List, [], ◌∷◌, ◌++◌, append_assoc}
use Rattle.std.proofs.Math.ListN.{length, drop}
use Rattle.rules.specs.Forms.{Matcher, Pattern, Value}
use Rattle.rules.specs.Reading.{ok, read_target}
use Rattle.rules.specs.Fit.{fits, fits_value}
use Rattle.rules.specs.Search as paper
use Rattle.rules.specs.Search.{start}
use Rattle.forms.specs.Written.{Widthsᵖ}
use Rattle.run_rules.specs.Lent.{Terms, Numbers, Held, ended, going, remaining, holding, allowed, since, written_at, told, held_after, room_after}
use Rattle.program_rules.specs.Program.{program, point_at}
use Rattle.program_rules.specs.Fitted.{program_follows}
use Rattle.program_rules.specs.Closed.{Closed}
use Rattle.program_rules.specs.Length.{instrs}
use Rattle.program_rules.specs.Meaning.{Means}
use Rattle.search_machine.specs.Machine as machines
use Rattle.search_machine.specs.Machine.{Machine, times, answer_by}
use Rattle.search_machine.specs.Drive as drive
use Rattle.search_machine.specs.Drive.{Engine, turns, verdict, reports, Same, running, stopped, same_waiting, same_result}
use Rattle.search_machine.specs.Held.{Data}
use Rattle.search_machine.specs.Engine.{Conf}
use Rattle.program_rules.specs.Points.{Instr, Point, Follows}
use Rattle.search_machine.specs.Rep.{Rep, over_all, live}
use Rattle.search_machine.specs.Whole.{fresh, fresh_same}
use Rattle.search_machine.specs.Operations.{binding}
use Rattle.search_machine.proofs.Instance.{places, target_is}
use Rattle.value_places.specs.Places.{Target}
use Rattle.value_places.specs.Held.{whole_at}
use Rattle.value_rows.specs.declared.Binding.{Binding}
use Rattle.search_atom.specs.Leaves.{when}
use Rattle.search_step.specs.declared.State.{State}
use Rattle.tables.specs.Slot.{Tables}
use Rattle.search.specs.Run.{Env, Run, run, line_at, run_of, opening, answer_of}
use Rattle.search.specs.Valid.{Fine, Valid}
use Rattle.search.specs.Meaning.{slots_of, binds_of, conf_of, standing, engine_of}
use Rattle.search.proofs.Counts.{run_over}
use Rattle.search.proofs.Whole.{Stands, run_stands, run_is}
use Rattle.run_states.specs.Steps.{machine, After, goes}

-- The six numbers that the numbers of a state tell.
unfoldable pub numbers_of : State → Numbers
unfolding answer_of
numbers_of x = record { answer = answer_of x.live; place = 0; rows = x.rows; steps = x.steps; words = x.words; cause = 0 }

-- What the run's opening was told.
abbrev pub terms_of : Env → Terms
terms_of e = record { form = e.form; dialect = e.dialect }

-- ---- What an engine and the states that it stands for have in common.

module _ (D : Data) (code : ℕ → Instr) (points : ℕ → Point) where
  same_full : {follows : (pc : ℕ) → Follows points pc (code pc) (points pc)} {k : Engine D} {K : Machine} → Same D code points follows k K → k.full ≡ K.full
  same_full (running r) = refl
  same_full stopped = refl

  rep_none : {o : Option (Conf D)} {ss : List paper.State} → Rep D code points o ss → o ≡ none → ss ≡ []
  rep_none over_all e = refl
  rep_none (live l a ch) e = let z : ◌≡◌ {A = ℕ} 0 1 = cc in absurd (omega arith)

  rep_some : {o : Option (Conf D)} {ss : List paper.State} → Rep D code points o ss → (c : Conf D) → o ≡ some c → (s : paper.State) × (others : List paper.State) × (ss ≡ s ∷ others)
  rep_some over_all c e = let z : ◌≡◌ {A = ℕ} 0 1 = cc in absurd (omega arith)
  rep_some (live {s = s} {ss = ss} l a ch) c e = (s, ss, refl)

module _ (e : Env) (g : Target e.words) (fine : Fine e) (m : Matcher) (p : Pattern) (at₀ : ℕ) (ks : List Matcher) (fit : fits p m at₀ [] ≡ ok ks) (wide : Widthsᵖ p) (closed : Closed p)
    (means : (pc : ℕ) → pc ≤ instrs p m → Means e.matcher e.vars (line_at e pc) (get_or e.to pc 0) (program m p pc))
    (after : (pc : ℕ) → instrs p m < pc → get_or e.op pc 0 ≡ 0) where
  same_turns : (n : ℕ) {k : Engine (places e.dialect e.form e.words g)} {K : Machine}
      → Same (places e.dialect e.form e.words g) (program m p) (point_at m p) (program_follows m p at₀ ks fit wide closed) k K
      → Same (places e.dialect e.form e.words g) (program m p) (point_at m p) (program_follows m p at₀ ks fit wide closed) (turns (places e.dialect e.form e.words g) (program m p) n k)
      (times e.dialect e.form n K)
  unfolding turns times
  same_turns zero q = q
  same_turns (suc n) q = same_turns n (drive.same_turn (places e.dialect e.form e.words g) (program m p) (point_at m p) (program_follows m p at₀ ks fit wide closed) q)

  verdict_is : (q : Run) → (q.state.live ≡ 0) ⊎ ((q.state.live ≡ 1) ⊎ (q.state.live ≡ 3))
      → verdict (places e.dialect e.form e.words g) (engine_of e.dialect e.form e.words g q).full (engine_of e.dialect e.form e.words g q).conf ≡ answer_of q.state.live
  unfolding engine_of standing answer_of verdict when
  verdict_is q (inl h) = rw h
  verdict_is q (inr (inl h)) = rw h
  verdict_is q (inr (inr h)) = rw h

  -- A state stands, and others wait: whatever the room holds, the run is valid, and its tables stand for these.
  pub record Going (size : ℕ) (x : State) (t : Tables) (b : List Binding) (s : paper.State) (ss : List paper.State) : Type 0 where
    pub live_is : x.live ≡ 1
    pub valid : (room : List ℤ) → length room ≡ size → Valid e (run x t b room)
    pub rep : Rep (places e.dialect e.form e.words g) (program m p) (point_at m p) (some (conf_of e.dialect e.form e.words g x t b)) (s ∷ ss)

  -- What a run holds: it has ended, or it goes on.
  pub data Stood (size : ℕ) (x : State) (t : Tables) (b : List Binding) (h : Held) : Type 0 where
    over : (x.live ≡ 1 → ⊥) → h ≡ ended (numbers_of x) → Stood size x t b h
    goes_on_lem : (s : paper.State) (ss : List paper.State) → h ≡ going (terms_of e) s ss x.rows x.steps x.words → Going size x t b s ss → Stood size x t b h

  module _ (size : ℕ) (x : State) (t : Tables) (b : List Binding) (s : paper.State) (ss : List paper.State) (w : Going size x t b s ss) (room : List ℤ) (l : length room ≡ size) where
    abbrev r : Run
    r = run x t b room

    abbrev k₀ : Machine
    k₀ = machine (s ∷ ss) (length room - x.words) x.rows x.steps (take x.words room) false

    same₀ : Same (places e.dialect e.form e.words g) (program m p) (point_at m p) (program_follows m p at₀ ks fit wide closed) (engine_of e.dialect e.form e.words g r) k₀
    unfolding engine_of standing when
    same₀ = rw w.live_is (running w.rep)

    stands₀ : Stands e g fine m p at₀ ks fit wide closed means after room r
    stands₀ = record {
      valid = w.valid room l;
      phase = inr (inl w.live_is);
      kept = record { long = refl; after = refl };
      machine = k₀;
      same = same₀;
    }

    -- After n more turns.
    module _ (n : ℕ) where
      abbrev r₁ : Run
      r₁ = run_of e n r

      abbrev k₁ : Machine
      k₁ = times e.dialect e.form n k₀

      stands₁ : Stands e g fine m p at₀ ks fit wide closed means after room r₁
      stands₁ = run_stands e g fine m p at₀ ks fit wide closed means after n room r stands₀

      same₁ : Same (places e.dialect e.form e.words g) (program m p) (point_at m p) (program_follows m p at₀ ks fit wide closed) (engine_of e.dialect e.form e.words g r₁) k₁
      same₁ = subst (λ k. Same (places e.dialect e.form e.words g) (program m p) (point_at m p) (program_follows m p at₀ ks fit wide closed) k k₁)
          (sym (run_is e g fine m p at₀ ks fit wide closed means after n room r stands₀)) (same_turns n same₀)

      after₁ : After x.rows x.steps (take x.words room) (paper.run_in e.dialect e.form n (s ∷ ss) (length room - x.words)) (remaining (terms_of e) n (s ∷ ss) (length room - x.words)) k₁
      after₁ = goes (terms_of e) n (s ∷ ss) (length room - x.words) x.rows x.steps (take x.words room)

      told₁ : reports (places e.dialect e.form e.words g) (engine_of e.dialect e.form e.words g r₁) ≡ machines.told k₁
      told₁ = same_result (places e.dialect e.form e.words g) (program m p) (point_at m p) (program_follows m p at₀ ks fit wide closed) same₁

      abbrev new : List ℤ
      new = (paper.run_in e.dialect e.form n (s ∷ ss) (length room - x.words)).written

      rows₁ : r₁.state.rows ≡ x.rows + (paper.run_in e.dialect e.form n (s ∷ ss) (length room - x.words)).rows
      unfolding reports machines.told engine_of
      rows₁ = ap (λ (q : paper.Run). q.rows) told₁ ∙ after₁.rows_are

      steps₁ : r₁.state.steps ≡ x.steps + (paper.run_in e.dialect e.form n (s ∷ ss) (length room - x.words)).steps
      unfolding reports machines.told engine_of
      steps₁ = ap (λ (q : paper.Run). q.steps) told₁ ∙ after₁.steps_are

      written₁ : take r₁.state.words r₁.room ≡ take x.words room ++ new
      unfolding reports machines.told engine_of
      written₁ = ap (λ (q : paper.Run). q.written) told₁ ∙ after₁.words_are

      words₁ : r₁.state.words ≡ x.words + length new
      words₁ =
          sym (length-take-le r₁.state.words r₁.room stands₁.valid.room) ∙ ap length written₁ ∙ length-append (take x.words room) new
          ∙ ap (λ (i : ℕ). i + length new) (length-take-le x.words room (w.valid room l).room)

      room₁ : r₁.room ≡ written_at x.words new room
      unfolding written_at
      room₁ =
          sym (take-append-drop r₁.state.words r₁.room)
          ∙ ap₂ (λ a c. a ++ c) written₁ (stands₁.kept.after ∙ ap (λ i. drop i room) words₁)
          ∙ append_assoc (take x.words room) new (drop (x.words + length new) room)

      answer₁ : answer_of r₁.state.live ≡ (paper.run_in e.dialect e.form n (s ∷ ss) (length room - x.words)).answer
      unfolding reports machines.told
      answer₁ = sym (verdict_is r₁ stands₁.phase) ∙ ap (λ (q : paper.Run). q.answer) told₁ ∙ after₁.answer

      numbers₁ : numbers_of r₁.state ≡ since x.rows x.steps x.words (paper.run_in e.dialect e.form n (s ∷ ss) (length room - x.words))
      unfolding numbers_of since
      numbers₁ i = record { answer = answer₁ i; place = 0; rows = rows₁ i; steps = steps₁ i; words = words₁ i; cause = 0 }

      abbrev rest : List paper.State
      rest = remaining (terms_of e) n (s ∷ ss) (length room - x.words)

      full₁ : (engine_of e.dialect e.form e.words g r₁).full ≡ k₁.full
      full₁ = same_full (places e.dialect e.form e.words g) (program m p) (point_at m p) same₁

      rep₁ : (engine_of e.dialect e.form e.words g r₁).full ≡ false → Rep (places e.dialect e.form e.words g) (program m p) (point_at m p) (engine_of e.dialect e.form e.words g r₁).conf rest
      rep₁ f = subst (λ q. Rep (places e.dialect e.form e.words g) (program m p) (point_at m p) (engine_of e.dialect e.form e.words g r₁).conf q) (after₁.waits (sym full₁ ∙ f))
          (same_waiting (places e.dialect e.form e.words g) (program m p) (point_at m p) (program_follows m p at₀ ks fit wide closed) same₁ f)

      none_left : r₁.state.live ≡ 0 → rest ≡ []
      unfolding engine_of standing when
      none_left h = rep_none (places e.dialect e.form e.words g) (program m p) (point_at m p) (rep₁ (rw h)) (rw h)

      full_left : r₁.state.live ≡ 3 → rest ≡ []
      unfolding engine_of
      full_left h = after₁.none (sym full₁ ∙ rw h)

      again : (v : Valid e r₁) (other : List ℤ) → length other ≡ size → Valid e (run r₁.state r₁.tables r₁.binds other)
      again v other q = record {
        place = v.place;
        held = v.held;
        frames = v.frames;
        waits = v.waits;
        binds = v.binds;
        room = let a = v.room in let c = stands₁.kept.long in omega arith;
        counts = v.counts;
        long = v.long;
      }

      held₁ : Stood size r₁.state r₁.tables r₁.binds (holding (terms_of e) (numbers_of r₁.state) rest)
      unfolding holding numbers_of
      held₁ = ⊎_elim
          (λ h. over (λ z. omega arith) (ap (holding (terms_of e) (numbers_of r₁.state)) (none_left h)))
          (⊎_elim
          (λ h.
          let q = rep_some (places e.dialect e.form e.words g) (program m p) (point_at m p) (rep₁ (not_full h)) (conf_of e.dialect e.form e.words g r₁.state r₁.tables r₁.binds) (stood h) in
          goes_on_lem q.0 q.1 (ap (holding (terms_of e) (numbers_of r₁.state)) q.2)
          (record {
            live_is = h;
            valid = again stands₁.valid;
            rep = subst (λ y. Rep (places e.dialect e.form e.words g) (program m p) (point_at m p) (some (conf_of e.dialect e.form e.words g r₁.state r₁.tables r₁.binds)) y) q.2
                (subst (λ y. Rep (places e.dialect e.form e.words g) (program m p) (point_at m p) y rest) (stood h) (rep₁ (not_full h)));
          }))
          (λ h. over (λ z. omega arith) (ap (holding (terms_of e) (numbers_of r₁.state)) (full_left h))))
          stands₁.phase
        where
          not_full : r₁.state.live ≡ 1 → (engine_of e.dialect e.form e.words g r₁).full ≡ false
          not_full h = unfold engine_of in rw h

          stood : r₁.state.live ≡ 1 → (engine_of e.dialect e.form e.words g r₁).conf ≡ some (conf_of e.dialect e.form e.words g r₁.state r₁.tables r₁.binds)
          stood h = unfold engine_of standing when in rw h

  -- An advance by n steps: what it tells, what it leaves in the room, and what is held then.
  module _ (n size : ℕ) (x : State) (t : Tables) (b : List Binding) (room : List ℤ) (l : length room ≡ size) where
    abbrev next : Run
    next = run_of e (allowed n x.steps) (run x t b room)

    tells : (h : Held) → Stood size x t b h → numbers_of next.state ≡ told n size h
    unfolding told
    tells h (over f q) = ap (λ (y : Run). numbers_of y.state) (run_over e (allowed n x.steps) (run x t b room) f) ∙ ap (told n size) (sym q)
    tells h (goes_on_lem s ss q w) = numbers₁ size x t b s ss w room l (allowed n x.steps)
        ∙ ap (λ (i : ℕ). since x.rows x.steps x.words (paper.run_in e.dialect e.form (allowed n x.steps) (s ∷ ss) (i - x.words))) l ∙ ap (told n size) (sym q)

    pub advance_told : (h : Held) → Stood size x t b h → numbers_of next.state ≡ told n size h
    advance_told = tells

    pub advance_room : (h : Held) → Stood size x t b h → next.room ≡ room_after n size h room
    unfolding room_after
    advance_room h (over f q) = ap (λ (y : Run). y.room) (run_over e (allowed n x.steps) (run x t b room) f) ∙ ap (λ y. room_after n size y room) (sym q)
    advance_room h (goes_on_lem s ss q w) = room₁ size x t b s ss w room l (allowed n x.steps)
        ∙ ap (λ (i : ℕ). written_at x.words (paper.run_in e.dialect e.form (allowed n x.steps) (s ∷ ss) (i - x.words)).written room) l ∙ ap (λ y. room_after n size y room) (sym q)

    pub advance_held : (h : Held) → Stood size x t b h → Stood size next.state next.tables next.binds (held_after n size h)
    unfolding held_after
    advance_held h (over f q) =
        subst (λ (y : Run). Stood size y.state y.tables y.binds (held_after n size h)) (sym (run_over e (allowed n x.steps) (run x t b room) f))
        (over f (ap (held_after n size) q))
    advance_held h (goes_on_lem s ss q w) =
        subst (λ y. Stood size next.state next.tables next.binds y)
        (ap₂ (λ k i. holding (terms_of e) k (remaining (terms_of e) (allowed n x.steps) (s ∷ ss) (i - x.words)))
        (tells h (goes_on_lem s ss q w) ∙ ap (told n size) q) l ∙ ap (held_after n size) (sym q))
        (held₁ size x t b s ss w room l (allowed n x.steps))

  -- A run before its first state, whatever its tables and bindings hold.
  module _ (v : Value) (read : read_target e.words ≡ ok v) (fit-value : fits_value m v 0 ≡ ok tt) (size : ℕ) (t : Tables) (b : List Binding)
      (valid : (room : List ℤ) → length room ≡ size → Valid e (run (opening 0 (whole_at e.words 0)) t b room)) where
    pub begins : Stood size (opening 0 (whole_at e.words 0)) t b (going (terms_of e) (start m p v) [] 0 0 0)
    unfolding opening fresh conf_of machines.opened
    begins = goes_on_lem (start m p v) [] refl (record {
      live_is = refl;
      valid = valid;
      rep = same_waiting (places e.dialect e.form e.words g) (program m p) (point_at m p) (program_follows m p at₀ ks fit wide closed)
          (fresh_same (places e.dialect e.form e.words g) m p v (binding 0 (whole_at e.words 0)) (target_is e.words v read m fit-value) at₀ ks fit wide closed
          (slots_of e.dialect e.form e.words g t) (binds_of e.dialect e.form e.words g b) size) refl;
    })
