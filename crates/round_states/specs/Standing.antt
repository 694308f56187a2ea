-- A list of states of a round as numbers: what stands in the slots, what is kept of it in a table of entries, and that it stands again when it is taken out.
use Rattle.std.specs.Prelude.{ℕ, zero, suc, ◌+◌, ◌-◌, ◌*◌, ◌≤◌, ◌<◌, ◌≡◌, ◌⊎◌, Bool, true, false, List, [], ◌∷◌, length, ltb, ℤ}
use native.Mathlib.Omega.{arith}
use Rattle.std.proofs.Math.Path.{refl, sym, ap, ap₂}
use Rattle.std.proofs.Common.{◌∙◌, subst, inl, inr, ⊎_elim, ltb-true, ltb-false}
use Rattle.std.proofs.Math.Option.{Option, none, some}
use Rattle.std.proofs.Math.ListN.{get_or}
use Rattle.rules.specs.Search as paper
use Rattle.round_rules.specs.Rounds.{Branch}
use Rattle.words.specs.Words.{entries}
use Rattle.program_rules.specs.Points.{Instr, Point}
use Rattle.program_rules.specs.Points as point
use Rattle.program_rules.specs.Length.{instrs}
use Rattle.search_machine.specs.Held.{Data}
use Rattle.search_machine.specs.Engine.{Slot, Conf, next_choice}
use Rattle.search_machine.specs.Rep.{At, Chain, shut, Rep, live}
use Rattle.search_machine.specs.Operations.{binding}
use Rattle.value_places.specs.Held.{Held}
use Rattle.value_rows.specs.Row.{Bound, nothing}
use Rattle.value_rows.specs.declared.Binding.{Binding}
use Rattle.tables.specs.Slot.{slot_count, Tables, tables, view_of, by_line, put_frame}
use Rattle.tables.specs.Section.{section}
use Rattle.tables.specs.SlotLaws.{line_at, long_line}
use Rattle.tables.specs.declared.slot.Held as kept
use Rattle.search_choice.specs.Choices.{Picks, Frame}
use Rattle.search_step.specs.declared.State.{State}
use Rattle.search.specs.Run.{Env, Run, run}
use Rattle.search.specs.Valid.{Fine, Long, Open, Waits, Valid}
use Rattle.search.specs.Meaning.{slots_of, binds_of, conf_of}
use Rattle.round_states.specs.Ruled.{Ruled, Own, few, owned, owning}
use Rattle.round_states.specs.Kept.{Opens, Seconds, chain_kept, at_kept, none_chain}
use Rattle.round_states.specs.Kept as same
use Rattle.round_states.specs.Branches.{Shallow, outside, alone_rep}
use Rattle.round_states.specs.Taking.{D, code, points}

-- ---- Slots by their lines.

module _ (e : Env) (fine : Fine e) (slots : List ℕ) (long : 5 * slot_count ≤ length slots) where
  pub at_line : (c i : ℕ) → c ≤ 4 → i < entries → get_or (by_line e.arg (section slot_count c slots)) i 0 ≡ get_or slots (c * slot_count + get_or e.arg i 0) 0
  at_line c i h l = sym (line_at e.arg slots i l (fine.slot i) long c h)

  pub view_long : Long (view_of e.arg slots)
  unfolding view_of
  view_long = record {
    ats = long_line 0 e.arg slots (omega arith) long;
    wholes = long_line 1 e.arg slots (omega arith) long;
    lefts = long_line 2 e.arg slots (omega arith) long;
    lows = long_line 3 e.arg slots (omega arith) long;
    backs = long_line 4 e.arg slots (omega arith) long;
  }

module _ (e : Env) (R : Ruled e) where
  -- Nothing that waits lies outside the target.
  pub record Clean (slots : List ℕ) (b : List Binding) : Type 0 where
    pub long : 5 * slot_count ≤ length slots
    pub waits : (i : ℕ) → i < entries → Held e.words (get_or (view_of e.arg slots).ats i 0) (get_or (view_of e.arg slots).backs i 0)
    pub binds : Bound e.words b 16

  -- A state stands, and others wait in the open frame, if there is one.
  pub record Standing (x : State) (slots : List ℕ) (b : List Binding) (br : Branch) : Type 0 where
    pub clean : Clean slots b
    pub live_is : x.live ≡ 1
    pub place : x.pc < entries
    pub held : Held e.words x.at x.marks
    pub frames : Open e.op e.words x.top (view_of e.arg slots)
    pub rep : Rep (D e R) (code e R) (points e R) (some (conf_of e.dialect e.form e.words R.target_is x (view_of e.arg slots) b)) (br.first ∷ br.others)
    pub shallow : Shallow (D e R) (code e R) (points e R) (conf_of e.dialect e.form e.words R.target_is x (view_of e.arg slots) b)

  -- It can be taken up.
  pub standing_valid : {x : State} {slots : List ℕ} {b : List Binding} {br : Branch} → Standing x slots b br → (room : List ℤ) → x.words ≤ length room → x.rows ≤ x.steps
      → Valid e (run x (view_of e.arg slots) b room)
  standing_valid {x} {slots} {b} s room w c = record {
    place = s.place;
    held = s.held;
    frames = s.frames;
    waits = record { held = λ j h z. s.clean.waits j h };
    binds = s.clean.binds;
    room = w;
    counts = c;
    long = view_long e R.fine slots s.clean.long;
  }

  abbrev pub entry_of : ℕ → ℕ → kept.Held
  entry_of at m = record { at = at; marks = m }

  -- The numbers of slots: each line's is among them.
  pub record Used (used : ℕ) : Type 0 where
    pub lines : (i : ℕ) → i < entries → get_or e.arg i 0 < used
    pub variables : 16 ≤ used
    pub most : used ≤ slot_count

  -- T holds what a list of states leaves in the table: entries 0 to 2 its first state and the open frame, then the bindings and the slots.
  pub record Kept (used : ℕ) (T : ℕ → kept.Held) (br : Branch) : Type 0 where
    pub x : State
    pub slots : List ℕ
    pub b : List Binding
    pub stands : Standing x slots b br
    pub first : T 0 ≡ entry_of x.at x.marks
    pub top : (T 1).at ≡ x.top
    pub pc : (T 2).at ≡ x.pc
    pub whole : (j : ℕ) → x.top ≡ suc j → (T 1).marks ≡ get_or (view_of e.arg slots).wholes j 0
    pub left : (j : ℕ) → x.top ≡ suc j → (T 2).marks ≡ get_or (view_of e.arg slots).lefts j 0
    pub binds : (v : ℕ) → v < e.vars → T (3 + v) ≡ entry_of (get_or b v nothing).at (get_or b v nothing).marks
    pub waits : (i : ℕ) → i < entries → 16 ≤ get_or e.arg i 0 → T (3 + get_or e.arg i 0) ≡ entry_of (get_or slots (get_or e.arg i 0) 0) (get_or slots (4 * slot_count + get_or e.arg i 0) 0)

  -- What was kept is taken out, over slots and bindings that held something else.
  pub record Loaded (used : ℕ) (T : ℕ → kept.Held) (slots₀ slots : List ℕ) (b₀ b : List Binding) : Type 0 where
    pub long : length slots ≡ length slots₀
    pub ats : (j : ℕ) → 16 ≤ j → j < used → get_or slots j 0 ≡ (T (3 + j)).at
    pub backs : (j : ℕ) → 16 ≤ j → j < used → get_or slots (4 * slot_count + j) 0 ≡ (T (3 + j)).marks
    pub lows : (j : ℕ) → j < used → get_or slots (3 * slot_count + j) 0 ≡ 0
    pub old_ats : (j : ℕ) → j < 16 → get_or slots j 0 ≡ get_or slots₀ j 0
    pub old_backs : (j : ℕ) → j < 16 → get_or slots (4 * slot_count + j) 0 ≡ get_or slots₀ (4 * slot_count + j) 0
    pub binds : (v : ℕ) → v < e.vars → get_or b v nothing ≡ record { at = (T (3 + v)).at; marks = (T (3 + v)).marks }
    pub old_binds : (v : ℕ) → e.vars ≤ v → get_or b v nothing ≡ get_or b₀ v nothing
    pub many : length b ≡ 16

  module _ (used : ℕ) (U : Used used) (T : ℕ → kept.Held) (br : Branch) (K : Kept used T br) (slots₀ slots : List ℕ) (b₀ b : List Binding) (C : Clean slots₀ b₀) (L : Loaded used T slots₀ slots b₀ b) where
    long₁ : 5 * slot_count ≤ length slots
    long₁ = let a = L.long in let c = C.long in omega arith

    abbrev arg : ℕ → ℕ
    arg i = get_or e.arg i 0

    -- The values that wait at lines that have slots of their own are those that were kept.
    pub at_own : (i : ℕ) → i < entries → 16 ≤ arg i → get_or (view_of e.arg slots).ats i 0 ≡ get_or (view_of e.arg K.slots).ats i 0
    unfolding view_of
    at_own i l h =
        let u = U.lines i l in
        let z : 0 * slot_count + arg i ≡ arg i = omega arith in
        at_line e R.fine slots long₁ 0 i (omega arith) l ∙ ap (λ k. get_or slots k 0) z ∙ L.ats (arg i) h u ∙ ap (λ (q : kept.Held). q.at) (K.waits i l h)
        ∙ sym (at_line e R.fine K.slots K.stands.clean.long 0 i (omega arith) l ∙ ap (λ k. get_or K.slots k 0) z)

    back_own : (i : ℕ) → i < entries → 16 ≤ arg i → get_or (view_of e.arg slots).backs i 0 ≡ get_or (view_of e.arg K.slots).backs i 0
    unfolding view_of
    back_own i l h =
        let u = U.lines i l in
        at_line e R.fine slots long₁ 4 i (omega arith) l ∙ L.backs (arg i) h u ∙ ap (λ (q : kept.Held). q.marks) (K.waits i l h)
        ∙ sym (at_line e R.fine K.slots K.stands.clean.long 4 i (omega arith) l)

    at_old : (i : ℕ) → i < entries → arg i < 16 → get_or (view_of e.arg slots).ats i 0 ≡ get_or (view_of e.arg slots₀).ats i 0
    unfolding view_of
    at_old i l h =
        let z : 0 * slot_count + arg i ≡ arg i = omega arith in
        at_line e R.fine slots long₁ 0 i (omega arith) l ∙ ap (λ k. get_or slots k 0) z ∙ L.old_ats (arg i) h
        ∙ sym (at_line e R.fine slots₀ C.long 0 i (omega arith) l ∙ ap (λ k. get_or slots₀ k 0) z)

    back_old : (i : ℕ) → i < entries → arg i < 16 → get_or (view_of e.arg slots).backs i 0 ≡ get_or (view_of e.arg slots₀).backs i 0
    unfolding view_of
    back_old i l h =
        at_line e R.fine slots long₁ 4 i (omega arith) l ∙ L.old_backs (arg i) h ∙ sym (at_line e R.fine slots₀ C.long 4 i (omega arith) l)

    pub low_none : (i : ℕ) → i < entries → get_or (view_of e.arg slots).lows i 0 ≡ 0
    unfolding view_of
    low_none i l = at_line e R.fine slots long₁ 3 i (omega arith) l ∙ L.lows (arg i) (U.lines i l)

    pub loaded_clean : Clean slots b
    loaded_clean = record {
      long = long₁;
      waits = λ i l. go i l (ltb (arg i) 16) (ltb-true _ _) (ltb-false _ _);
      binds = record {
        most = C.binds.most;
        long = L.many;
        are = λ v h. bind v h (ltb v e.vars) (ltb-true _ _) (ltb-false _ _);
      };
    }
      where
        go : (i : ℕ) → i < entries → (q : Bool) → (q ≡ true → arg i < 16) → (q ≡ false → 16 ≤ arg i)
            → Held e.words (get_or (view_of e.arg slots).ats i 0) (get_or (view_of e.arg slots).backs i 0)
        go i l true f g = rw (at_old i l (f refl), back_old i l (f refl)) (C.waits i l)
        go i l false f g = rw (at_own i l (g refl), back_own i l (g refl)) (K.stands.clean.waits i l)

        bind : (v : ℕ) → v < 16 → (q : Bool) → (q ≡ true → v < e.vars) → (q ≡ false → e.vars ≤ v) → Held e.words (get_or b v nothing).at (get_or b v nothing).marks
        bind v h true f g = rw (L.binds v (f refl), K.binds v (f refl)) (K.stands.clean.binds.are v h)
        bind v h false f g = rw (L.old_binds v (g refl)) (C.binds.are v h)

    pub seconds : (n : ℕ) → n ≤ entries → Seconds (D e R) (Own e) (slots_of e.dialect e.form e.words R.target_is (view_of e.arg K.slots)) (slots_of e.dialect e.form e.words R.target_is (view_of e.arg slots)) n
    unfolding slots_of Own
    seconds n h i l o = ap₂ binding (sym (at_own i (omega arith) o)) (sym (back_own i (omega arith) o))

    pub binds_same : (v : ℕ) → v < e.vars → binds_of e.dialect e.form e.words R.target_is K.b v ≡ binds_of e.dialect e.form e.words R.target_is b v
    unfolding binds_of
    binds_same v h = sym (L.binds v h ∙ ap (λ (q : kept.Held). binding q.at q.marks) (K.binds v h))

    -- The first state alone.
    module _ (rows steps words : ℕ) where
      abbrev pub first_alone : State
      first_alone = record { pc = K.x.pc; at = K.x.at; marks = K.x.marks; top = 0; live = 1; rows = rows; steps = steps; words = words }

      out : point.inside (points e R K.x.pc) ≡ 0
      unfolding conf_of
      out = outside (D e R) (code e R) (points e R) K.stands.rep K.stands.shallow

      alone_again : Rep (D e R) (code e R) (points e R) (some (conf_of e.dialect e.form e.words R.target_is first_alone (view_of e.arg slots) b)) (br.first ∷ [])
      unfolding conf_of
      alone_again = go K.stands.rep
        where
          go : Rep (D e R) (code e R) (points e R) (some (conf_of e.dialect e.form e.words R.target_is K.x (view_of e.arg K.slots) K.b)) (br.first ∷ br.others)
              → Rep (D e R) (code e R) (points e R) (some (conf_of e.dialect e.form e.words R.target_is first_alone (view_of e.arg slots) b)) (br.first ∷ [])
          go (live l a ch) = live {c = conf_of e.dialect e.form e.words R.target_is first_alone (view_of e.arg slots) b} {s = br.first} {ss = []} (omega arith)
              (at_kept (D e R) (Own e) (code e R) (points e R) (owned e R) (owning e R).sides e.vars (few e R) refl (seconds K.x.pc (let p = K.stands.place in omega arith)) binds_same a)
              (rw out shut)

      pub first_stands : Standing first_alone slots b (record { first = br.first; others = [] })
      first_stands = record {
        clean = loaded_clean;
        live_is = refl;
        place = K.stands.place;
        held = K.stands.held;
        frames = record {
          last = record { frame = λ n. absurd (n refl) };
          below = λ i h. rw (low_none i h) (record { frame = λ n. absurd (n refl) });
        };
        rep = alone_again;
        shallow = unfold conf_of in record { frame = λ j h. absurd (omega arith) };
      }
