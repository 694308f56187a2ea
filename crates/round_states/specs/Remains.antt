-- The remainder of a list of states: with its frame open again the next choice is taken, and what is left of the list stands.
use Prim.Native.Nat.{ℕ, zero, suc, ◌+◌, ◌-◌, ◌*◌, ◌≤◌, ◌<◌}
use native.Mathlib.Omega.{arith}
use Rattle.std.specs.Prelude.{◌≡◌, ◌⊎◌, Bool, true, false, List, [], ◌∷◌, length, set, eqb, ltb, ℤ}
use Rattle.std.proofs.Math.Path.{refl, sym, ap, ap₂, subst}
use Rattle.std.proofs.Common.{◌∙◌, inl, inr, get_or-set_same, get_or-set_other, ltb-true, ltb-false}
use Rattle.std.proofs.Math.Logic.{⊎_elim}
use Rattle.std.proofs.Math.Option.{Option, none, some}
use Rattle.std.proofs.Math.ListN.{get_or, length-set}
use Rattle.std.proofs.Math.Seq.{set-get_or}
use Rattle.rules.specs.Search as paper
use Rattle.round_rules.specs.Rounds.{Branch}
use Rattle.words.specs.Words.{entries}
use Rattle.program_rules.specs.Points.{Instr, Point}
use Rattle.program_rules.specs.Length.{instrs}
use Rattle.program_rules.specs.Meaning.{Means}
use Rattle.search_machine.specs.Engine.{Slot, Conf, next_choice}
use Rattle.search_machine.specs.Rep.{Chain, Rep, live}
use Rattle.search_machine.specs.Sim.{choice_rep}
use Rattle.search_machine.specs.Operations.{binding}
use Rattle.value_places.specs.Held.{Held}
use Rattle.value_rows.specs.declared.Binding.{Binding}
use Rattle.tables.specs.Slot.{slot_count, Tables, tables, view_of, put_frame}
use Rattle.tables.specs.SlotLaws.{long_list}
use Rattle.tables.specs.declared.slot.Held as kept
use Rattle.tables.specs.declared.slot.Frame as frames
use Rattle.search_choice.specs.Choices.{Picks, PicksIf, Frame, Named, pick_of, settle_of}
use Rattle.search_atom.specs.Leaves.{when}
use Rattle.search_step.specs.declared.State.{State}
use Rattle.search_step.specs.Steps.{Turned, turned}
use Rattle.search.specs.Run.{Env, Run, run, line_at, after_turn, settled}
use Rattle.search.specs.Valid.{Fine, Long, Open, Waits, Valid}
use Rattle.search.specs.Meaning.{slots_of, binds_of, conf_of, standing}
use Rattle.search.proofs.Frames.{by_place}
use Rattle.search.proofs.Turns.{Divided, pick_is, stands}
use Rattle.search.proofs.Settles.{settle_keeps}
use Rattle.search.proofs.Counts.{pick_chose}
use Rattle.round_states.specs.Ruled.{Ruled, Own, means, ends_after, few, owned, owning}
use Rattle.round_states.specs.Kept.{Opens, opens_split, opens_choice, chain_kept}
use Rattle.round_states.specs.Kept as same
use Rattle.round_states.specs.Branches.{Shallow, Shallows, rest_shallow}
use Rattle.round_states.specs.Nots.{chain_some}
use Rattle.round_states.specs.Taking.{D, code, points}
use Rattle.round_states.specs.Standing.{view_long, Clean, Standing, Used, Kept, Loaded, at_own, low_none, loaded_clean, seconds, binds_same}

module _ (e : Env) (R : Ruled e) (used : ℕ) (U : Used e R used) (T : ℕ → kept.Held) (br : Branch) (K : Kept e R used T br) (slots₀ slots : List ℕ) (b₀ b : List Binding)
    (C : Clean e R slots₀ b₀) (L : Loaded e R used T slots₀ slots b₀ b) (j : ℕ) (top : K.x.top ≡ suc j) where
  abbrev t₁ : Tables
  t₁ = view_of e.arg slots

  abbrev t₂ : Tables
  t₂ = put_frame j (record { at = get_or t₁.ats j 0; whole = (T 1).marks; left = (T 2).marks }) 0 t₁

  abbrev tk : Tables
  tk = view_of e.arg K.slots

  clean : Clean e R slots b
  clean = loaded_clean e R used U T br K slots₀ slots b₀ b C L

  long₁ : Long t₁
  long₁ = view_long e R.fine slots clean.long

  opens : Opens (code e R j)
  unfolding conf_of
  opens = (K.stands.shallow.frame j top).0

  own : Own e j
  own = go (code e R j) refl opens
    where
      go : (i : Instr) → code e R j ≡ i → Opens i → Own e j
      go i h (opens_split {k}) = (owning e R).splits j k h
      go i h (opens_choice {to}) = (owning e R).sides j to h

  below : suc j ≤ K.x.pc
  below = go K.stands.rep
    where
      go : Rep (D e R) (code e R) (points e R) (some (conf_of e.dialect e.form e.words R.target_is K.x (view_of e.arg K.slots) K.b)) (br.first ∷ br.others) → suc j ≤ K.x.pc
      go (live l a ch) = unfold conf_of in omega (arith, l, top)

  place_j : j < entries
  place_j = let a = below in let c = K.stands.place in omega arith

  -- The frame's number is as it was kept, and no other frame is open.
  at_j : get_or t₁.ats j 0 ≡ get_or tk.ats j 0
  unfolding Own
  at_j = at_own e R used U T br K slots₀ slots b₀ b C L j place_j own

  whole_j : get_or (set t₁.wholes j (T 1).marks) j 0 ≡ get_or tk.wholes j 0
  whole_j = get_or-set_same t₁.wholes j (T 1).marks 0 (let a = place_j in omega (arith, long₁.wholes)) ∙ K.whole j top

  left_j : get_or (set t₁.lefts j (T 2).marks) j 0 ≡ get_or tk.lefts j 0
  left_j = get_or-set_same t₁.lefts j (T 2).marks 0 (let a = place_j in omega (arith, long₁.lefts)) ∙ K.left j top

  low₂ : (i : ℕ) → i < entries → get_or (set t₁.lows j 0) i 0 ≡ 0
  low₂ i h = by_place (get_or (set t₁.lows j 0) i 0 ≡ 0) j i
      (λ q. rw (q, get_or-set_same t₁.lows j 0 0 (let a = place_j in omega (arith, long₁.lows))))
      (λ q. get_or-set_other t₁.lows j i 0 0 q ∙ low_none e R used U T br K slots₀ slots b₀ b C L i h)

  frame_j : Frame (get_or e.op j 0) e.words j (get_or t₁.ats j 0) (get_or (set t₁.wholes j (T 1).marks) j 0) (get_or (set t₁.lefts j (T 2).marks) j 0)
  frame_j =
      let q : suc j - 1 ≡ j = omega arith in
      let f : Picks e.op e.words (suc j) tk.ats tk.wholes tk.lefts = rw top at K.stands.frames.last in
      let h : Frame (get_or e.op j 0) e.words j (get_or tk.ats j 0) (get_or tk.wholes j 0) (get_or tk.lefts j 0) = rw q at (f.frame (λ z. omega arith)) in
      rw (at_j, whole_j, left_j) h

  module _ (rows steps words : ℕ) where
    -- Before the next choice is taken.
    abbrev pub before : State
    before = record { pc = K.x.pc; at = K.x.at; marks = K.x.marks; top = suc j; live = 2; rows = rows; steps = steps; words = words }

    pub picks : Picks e.op e.words (suc j) t₂.ats t₂.wholes t₂.lefts
    unfolding put_frame
    picks = let q : suc j - 1 ≡ j = omega arith in record { frame = λ z. rw (q, set-get_or t₁.ats j 0) frame_j }

    pub before_valid : (room : List ℤ) → words ≤ length room → rows ≤ steps → Valid e (run before t₂ b room)
    unfolding put_frame
    before_valid room w c = record {
      place = K.stands.place;
      held = K.stands.held;
      frames = record { last = picks; below = λ i h. rw (low₂ i h) (record { frame = λ n. absurd (n refl) }) };
      waits = record { held = λ i h z. rw (set-get_or t₁.ats j 0) (clean.waits i h) };
      binds = clean.binds;
      room = w;
      counts = c;
      long = record {
        ats = length-set t₁.ats j _ ∙ long₁.ats;
        wholes = length-set t₁.wholes j _ ∙ long₁.wholes;
        lefts = length-set t₁.lefts j _ ∙ long₁.lefts;
        lows = length-set t₁.lows j _ ∙ long₁.lows;
        backs = long₁.backs;
      };
    }

    abbrev c₂ : Conf (D e R)
    c₂ = conf_of e.dialect e.form e.words R.target_is before t₂ b

    frame_same : (i : ℕ) → suc j ≡ suc i → same.Frame (D e R) (Own e) (code e R) (points e R) (slots_of e.dialect e.form e.words R.target_is tk) (slots_of e.dialect e.form e.words R.target_is t₂) i
    unfolding slots_of put_frame conf_of
    frame_same i h = let q : i ≡ j = omega arith in rw q (record {
      opens = opens;
      held = ap₂ binding (sym at_j ∙ ap (λ l. get_or l j 0) (sym (set-get_or t₁.ats j 0))) (sym whole_j);
      rem = sym left_j;
      alone = (K.stands.shallow.frame j top).1;
      still = low₂ j place_j;
    })

    seconds₂ : same.Seconds (D e R) (Own e) (slots_of e.dialect e.form e.words R.target_is tk) (slots_of e.dialect e.form e.words R.target_is t₂) (suc j)
    unfolding slots_of put_frame
    seconds₂ i h o =
        seconds e R used U T br K slots₀ slots b₀ b C L (suc j) (let a = place_j in omega arith) i h o
        ∙ ap (λ l. binding (get_or l i 0) (get_or t₁.backs i 0)) (sym (set-get_or t₁.ats j 0))

    rest_rep : Rep (D e R) (code e R) (points e R) (next_choice (D e R) (code e R) (suc j) c₂) br.others × ((o : paper.State) × (rest : List paper.State) × (br.others ≡ o ∷ rest))
    rest_rep = go K.stands.rep
      where
        go : Rep (D e R) (code e R) (points e R) (some (conf_of e.dialect e.form e.words R.target_is K.x (view_of e.arg K.slots) K.b)) (br.first ∷ br.others)
            → Rep (D e R) (code e R) (points e R) (next_choice (D e R) (code e R) (suc j) c₂) br.others × ((o : paper.State) × (rest : List paper.State) × (br.others ≡ o ∷ rest))
        go (live l a ch) = unfold conf_of in (
          choice_rep (D e R) (code e R) (points e R) c₂
              (chain_kept (D e R) (Own e) (code e R) (points e R) (owned e R) (owning e R).sides e.vars (few e R) frame_same seconds₂ (binds_same e R used U T br K slots₀ slots b₀ b C L) (rw top at ch)),
          chain_some (D e R) (code e R) (points e R) ch (λ z. omega arith),
        )

    divided : Divided e R.target_is (code e R)
    divided i h = go (ltb (instrs R.rule.pattern R.rule.matcher) i) (ltb-true _ _) (ltb-false _ _)
      where
        go : (q : Bool) → (q ≡ true → instrs R.rule.pattern R.rule.matcher < i) → (q ≡ false → i ≤ instrs R.rule.pattern R.rule.matcher)
            → Means e.matcher e.vars (line_at e i) (get_or e.to i 0) (code e R i)
        go true f g = let z = ends_after e R i (f refl) in absurd (omega arith)
        go false f g = means e R i (g refl)

    shallow₂ : Shallows (D e R) (code e R) (points e R) (next_choice (D e R) (code e R) (suc j) c₂)
    unfolding conf_of slots_of put_frame
    shallow₂ = rest_shallow (D e R) (code e R) (points e R) c₂ (record { frame = λ i h. let q : i ≡ j = omega arith in rw q (opens, low₂ j place_j) })

    -- After it: what is left of the list stands.
    module _ (z : State) (slots₃ : List ℕ) (is : turned z (view_of e.arg slots₃) ≡ settle_of e.op e.from e.to e.words before t₂) (room : List ℤ) (w : words ≤ length room) (c : rows ≤ steps) where
      picked : turned z (view_of e.arg slots₃) ≡ pick_of e.op e.from e.to e.words before t₂
      unfolding settle_of when
      picked = is

      stood₃ : next_choice (D e R) (code e R) (suc j) c₂ ≡ standing e.dialect e.form e.words R.target_is z (view_of e.arg slots₃) b
      unfolding stands
      stood₃ = pick_is e R.target_is before t₂ b (before_valid room w c).long (code e R) (suc j) refl divided picks
          ∙ ap (λ (u : Turned). standing e.dialect e.form e.words R.target_is u.state u.tables b) (sym picked)

      valid₃ : Valid e (run z (view_of e.arg slots₃) b room)
      unfolding settled when after_turn
      valid₃ = subst (λ (u : Turned). Valid e (run u.state u.tables b room)) (sym picked) (settle_keeps e R.fine R.target_is (run before t₂ b room) (before_valid room w c))

      one_or_none : (z.live ≡ 0) ⊎ (z.live ≡ 1)
      one_or_none = subst (λ (u : Turned). (u.state.live ≡ 0) ⊎ (u.state.live ≡ 1)) (sym picked) (pick_chose e.op e.from e.to e.words before t₂).live

      abbrev c₃ : Conf (D e R)
      c₃ = conf_of e.dialect e.form e.words R.target_is z (view_of e.arg slots₃) b

      -- Which of the two: some state is left.
      some_live : (o : paper.State) (rest : List paper.State) → Rep (D e R) (code e R) (points e R) (standing e.dialect e.form e.words R.target_is z (view_of e.arg slots₃) b) (o ∷ rest) → z.live ≡ 1
      unfolding standing when
      some_live o rest r = ⊎_elim (λ h. absurd (none_left (subst (λ n. Rep (D e R) (code e R) (points e R) (when (eqb n 0) none (some c₃)) (o ∷ rest)) h r))) (λ h. h) one_or_none
        where
          none_left : Rep (D e R) (code e R) (points e R) none (o ∷ rest) → ⊥
          none_left = elim [ ]

      live_conf : z.live ≡ 1 → standing e.dialect e.form e.words R.target_is z (view_of e.arg slots₃) b ≡ some c₃
      unfolding standing when
      live_conf h = rw h

      pub rest_stands : (o : paper.State) × (rest : List paper.State) × (br.others ≡ o ∷ rest) × Standing e R z slots₃ b (record { first = o; others = rest })
      unfolding Shallows
      rest_stands =
          let q = rest_rep in
          let o = q.1.0 in
          let rest = q.1.1 in
          let r = subst (λ k. Rep (D e R) (code e R) (points e R) k (o ∷ rest)) stood₃ (subst (λ k. Rep (D e R) (code e R) (points e R) (next_choice (D e R) (code e R) (suc j) c₂) k) q.1.2 q.0) in
          let one = some_live o rest r in (
            o,
            rest,
            q.1.2,
            record {
              clean = record {
                long = long_list e.arg slots₃ valid₃.long.backs;
                waits = λ i h. valid₃.waits.held i h (λ y u v. omega arith);
                binds = valid₃.binds;
              };
              live_is = one;
              place = valid₃.place;
              held = valid₃.held;
              frames = valid₃.frames;
              rep = subst (λ k. Rep (D e R) (code e R) (points e R) k (o ∷ rest)) (live_conf one) r;
              shallow = subst (Shallows (D e R) (code e R) (points e R)) (stood₃ ∙ live_conf one) shallow₂;
            },
          )
