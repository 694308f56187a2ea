-- What has come of a state that was taken up: its row did not fit, the budget ended inside a not, nothing follows, or a list of states stands.
use Prim.Native.Nat.{ℕ, zero, suc, ◌+◌, ◌-◌, ◌*◌, ◌≤◌, ◌<◌}
use native.Mathlib.Omega.{arith}
use Rattle.std.proofs.Math.Path.{◌≡◌, refl, ap, subst}
use Rattle.std.proofs.Common.{sym, ap₂, ◌∙◌, inl, inr, ⊎_elim, drop-drop}
use Rattle.std.specs.Prelude.{◌⊎◌, Bool, true, false, length, get_or, take, drop, eqb, ℤ}
use Rattle.std.proofs.Math.Option.{Option, none, some}
use mathlib.Core.List.{List, [], ◌∷◌, ◌++◌, map}
use Rattle.rules.specs.Search as paper
use Rattle.rules.specs.Search.{stopped}
use Rattle.round_rules.specs.Rounds.{Branch, searching, on_first, unmarked, spent, left, inside, past, take_up}
use Rattle.program_rules.specs.Points.{deny, resume}
use Rattle.program_rules.specs.Points as point
use Rattle.search_machine.specs.Engine.{Conf}
use Rattle.search_machine.specs.Rep.{Rep, over_all, live}
use Rattle.search_machine.specs.Whole.{place_bound}
use Rattle.value_rows.specs.declared.Binding.{Binding}
use Rattle.tables.specs.Slot.{Tables, view_of}
use Rattle.tables.specs.SlotLaws.{long_list}
use Rattle.search_atom.specs.Leaves.{when}
use Rattle.search_step.specs.declared.State.{State}
use Rattle.search.specs.Run.{Env, Run, run, line_at, take_of, run_of}
use Rattle.search.proofs.Counts.{takes_is, settled_is, run_more}
use Rattle.search.specs.Valid.{Valid}
use Rattle.search.specs.Meaning.{conf_of, standing}
use Rattle.search.proofs.Whole as whole
use Rattle.round_states.specs.Ruled.{Ruled, means, ends_after, follows}
use Rattle.round_states.specs.Branches.{Shallow, Shallows, outside, plain_rep}
use Rattle.round_states.specs.Nots.{behind, past_over, inside_over, inside_spent, inside_left, inside_open, not_step}
use Rattle.round_states.specs.Taking.{Far, on, D, code, points, stood, stands_kept, one_step}
use Rattle.round_states.specs.Up.{Took, inner_took, first_took, not_took, next_shallow, sixteen}
use Rattle.round_states.specs.Standing.{Clean, Standing, standing_valid}

module _ (e : Env) (R : Ruled e) where
  -- Nothing that waits lies outside, whatever a run that is valid stands for.
  pub valid_clean : (x : State) (slots : List ℕ) (b : List Binding) (room : List ℤ) → Valid e (run x (view_of e.arg slots) b room) → (x.live ≡ 2 → ⊥) → Clean e R slots b
  valid_clean x slots b room v n = record { long = long_list e.arg slots v.long.backs; waits = λ i h. v.waits.held i h (λ y u k. n y); binds = v.binds }

  abbrev pub Next : Type 0
  Next = ℕ → List paper.State → ℕ → paper.Run

  -- While the search inside a not may go on: L are its states, and the budget's rest is n.
  pub record Going (F : paper.Run) (budget : ℕ) (next : Next) (base : List ℤ) (x : State) (slots : List ℕ) (b : List Binding) (room : List ℤ) : Type 0 where
    pub states : List paper.State
    pub took : Took e R F (budget - x.steps) next states (run x (view_of e.arg slots) b room)
    pub deep : behind states ≡ true
    pub valid : Valid e (run x (view_of e.arg slots) b room)
    pub phase : (x.live ≡ 0) ⊎ ((x.live ≡ 1) ⊎ (x.live ≡ 3))
    pub most : x.steps ≤ budget
    pub kept : whole.Kept base (run x (view_of e.arg slots) b room)

  -- What has come of it.
  pub record Outcome (F : paper.Run) (budget : ℕ) (next : Next) (base : List ℤ) (ended : Bool) (x : State) (slots : List ℕ) (b : List Binding) (room : List ℤ) : Type 0 where
    pub clean : Clean e R slots b
    pub words : x.words ≤ length room
    pub counts : x.rows ≤ x.steps
    pub most : x.steps ≤ budget
    pub kept : whole.Kept base (run x (view_of e.arg slots) b room)
    pub phase : (x.live ≡ 0) ⊎ ((x.live ≡ 1) ⊎ (x.live ≡ 3))
    pub over : ended ≡ true → Far F x room (stopped 7 0) × (x.steps ≡ budget)
    pub full : ended ≡ false → x.live ≡ 3 → Far F x room (stopped 8 0)
    pub none : ended ≡ false → x.live ≡ 0 → Far F x room (next (budget - x.steps) [] (length room - x.words))
    pub some : ended ≡ false → x.live ≡ 1 → (br : Branch) × Far F x room (next (budget - x.steps) (br.first ∷ br.others) (length room - x.words)) × Standing e R x slots b br

  -- ---- The search inside is over, or there was none.

  module _ (F : paper.Run) (n : ℕ) (next : Next) (L : List paper.State) (x : State) (slots : List ℕ) (b : List Binding) (room : List ℤ) (valid : Valid e (run x (view_of e.arg slots) b room))
      (t : Took e R F n next L (run x (view_of e.arg slots) b room)) (out : searching L ≡ false) (shallow : Shallows (D e R) (code e R) (points e R) (stood e R x (view_of e.arg slots) b)) where
    far_next : Far F x room (next n (map unmarked L) (length room - x.words))
    unfolding Far
    far_next = t.far ∙ ap (on x.rows x.steps (take x.words room))
        (ap (λ i. past n i (length room - x.words) next) (inside_over e.dialect n L out) ∙ past_over n (map unmarked L) (length room - x.words) next)

    plain : Rep (D e R) (code e R) (points e R) (stood e R x (view_of e.arg slots) b) (map unmarked L)
    plain = (plain_rep (D e R) (code e R) (points e R) t.stands shallow).0

    rep_none : {o : Option (Conf (D e R))} {ss : List paper.State} → Rep (D e R) (code e R) (points e R) o ss → o ≡ none → ss ≡ []
    rep_none over_all h = refl
    rep_none (live l a ch) h = let z : ◌≡◌ {A = ℕ} 0 1 = cc in absurd (omega arith)

    pub then_none : x.live ≡ 0 → Far F x room (next n [] (length room - x.words))
    unfolding standing when
    then_none h = subst (λ ss. Far F x room (next n ss (length room - x.words))) (rep_none plain (rw h)) far_next

    abbrev c : Conf (D e R)
    c = conf_of e.dialect e.form e.words R.target_is x (view_of e.arg slots) b

    is_some : x.live ≡ 1 → stood e R x (view_of e.arg slots) b ≡ some c
    unfolding standing when
    is_some h = rw h

    rep_some : {ss : List paper.State} → Rep (D e R) (code e R) (points e R) (some c) ss → (o : paper.State) × (rest : List paper.State) × (ss ≡ o ∷ rest)
    rep_some (live {s = s} {ss = ss} l a ch) = (s, ss, refl)

    pub then_some : x.live ≡ 1 → (br : Branch) × Far F x room (next n (br.first ∷ br.others) (length room - x.words)) × Standing e R x slots b br
    unfolding Shallows
    then_some h =
        let p = subst (λ o. Rep (D e R) (code e R) (points e R) o (map unmarked L)) (is_some h) plain in
        let q = rep_some p in (
          record { first = q.0; others = q.1 },
          subst (λ ss. Far F x room (next n ss (length room - x.words))) q.2 far_next,
          record {
            clean = valid_clean x slots b room valid (λ z. omega arith);
            live_is = h;
            place = valid.place;
            held = valid.held;
            frames = valid.frames;
            rep = subst (Rep (D e R) (code e R) (points e R) (some c)) q.2 p;
            shallow = subst (Shallows (D e R) (code e R) (points e R)) (is_some h) shallow;
          },
        )

  -- An outcome where nothing goes on inside.
  pub settled_outcome : (F : paper.Run) (budget : ℕ) (next : Next) (base : List ℤ) (L : List paper.State) (x : State) (slots : List ℕ) (b : List Binding) (room : List ℤ)
      → Valid e (run x (view_of e.arg slots) b room) → Took e R F (budget - x.steps) next L (run x (view_of e.arg slots) b room) → searching L ≡ false
      → Shallows (D e R) (code e R) (points e R) (stood e R x (view_of e.arg slots) b) → (x.live ≡ 0) ⊎ ((x.live ≡ 1) ⊎ (x.live ≡ 3)) → x.steps ≤ budget
      → whole.Kept base (run x (view_of e.arg slots) b room) → Outcome F budget next base false x slots b room
  settled_outcome F budget next base L x slots b room v t o h p m k = record {
    clean = valid_clean x slots b room v (λ z. ⊎_elim (λ y. omega arith) (⊎_elim (λ y. omega arith) (λ y. omega arith)) p);
    words = v.room;
    counts = v.counts;
    most = m;
    kept = k;
    phase = p;
    over = λ z. let y : ◌≡◌ {A = ℕ} 0 1 = cc in absurd (omega arith);
    full = λ z y. absurd (t.going y);
    none = λ z y. then_none F (budget - x.steps) next L x slots b room v t o h y;
    some = λ z y. then_some F (budget - x.steps) next L x slots b room v t o h y;
  }

  -- The search inside a not, at the head of its loop.
  module _ (F : paper.Run) (budget : ℕ) (next : Next) (base : List ℤ) (x : State) (slots : List ℕ) (b : List Binding) (room : List ℤ) (g : Going F budget next base x slots b room) where
    abbrev c₀ : Conf (D e R)
    c₀ = conf_of e.dialect e.form e.words R.target_is x (view_of e.arg slots) b

    one_conf : x.live ≡ 1 → stood e R x (view_of e.arg slots) b ≡ some c₀
    unfolding standing when
    one_conf h = rw h

    none_shallow : x.live ≡ 0 → Shallows (D e R) (code e R) (points e R) (stood e R x (view_of e.arg slots) b)
    unfolding standing when Shallows
    none_shallow h = rw h tt

    -- No state is left.
    pub left_none : x.live ≡ 0 → Outcome F budget next base false x slots b room
    unfolding standing when searching
    left_none h = settled_outcome F budget next base g.states x slots b room g.valid g.took (rw (no_state g.took.stands (rw h))) (none_shallow h) g.phase g.most g.kept
      where
        no_state : {o : Option (Conf (D e R))} {ss : List paper.State} → Rep (D e R) (code e R) (points e R) o ss → o ≡ none → ss ≡ []
        no_state over_all z = refl
        no_state (live l a ch) z = let y : ◌≡◌ {A = ℕ} 0 1 = cc in absurd (omega arith)

    rep₁ : x.live ≡ 1 → Rep (D e R) (code e R) (points e R) (some c₀) g.states
    rep₁ h = subst (λ o. Rep (D e R) (code e R) (points e R) o g.states) (one_conf h) g.took.stands

    -- It has been left.
    pub left_some : x.live ≡ 1 → x.top ≡ 0 → Outcome F budget next base false x slots b room
    left_some h z =
        settled_outcome F budget next base g.states x slots b room g.valid g.took (unfold conf_of in inside_left (D e R) (code e R) (points e R) (rep₁ h) z) shallow₁ g.phase g.most g.kept
      where
        shallow₁ : Shallows (D e R) (code e R) (points e R) (stood e R x (view_of e.arg slots) b)
        shallow₁ = subst (Shallows (D e R) (code e R) (points e R)) (sym (one_conf h)) (unfold Shallows conf_of in record { frame = λ j y. absurd (omega arith) })

    -- The budget ends inside.
    pub left_spent : x.live ≡ 1 → (x.top ≡ 0 → ⊥) → budget ≤ x.steps → Outcome F budget next base true x slots b room
    unfolding Far past conf_of
    left_spent h z m =
        let q : budget - x.steps ≡ 0 = omega arith in
        record {
          clean = valid_clean x slots b room g.valid (λ y. omega arith);
          words = g.valid.room;
          counts = g.valid.counts;
          most = g.most;
          kept = g.kept;
          phase = g.phase;
          over = λ y. (
            subst (λ k. Far F x room (past k (inside e.dialect k g.states) (length room - x.words) next)) q g.took.far
                ∙ ap (λ i. on x.rows x.steps (take x.words room) (past 0 i (length room - x.words) next)) (inside_spent e.dialect g.states (inside_open (D e R) (code e R) (points e R) (rep₁ h) g.deep z)),
            (let a = g.most in omega arith),
          );
          full = λ y. let w : ◌≡◌ {A = ℕ} 0 1 = cc in absurd (omega arith);
          none = λ y. let w : ◌≡◌ {A = ℕ} 0 1 = cc in absurd (omega arith);
          some = λ y. let w : ◌≡◌ {A = ℕ} 0 1 = cc in absurd (omega arith);
        }

    -- One step of it.
    pub goes_next : x.live ≡ 1 → (x.top ≡ 0 → ⊥) → x.steps < budget → (x' : State) (slots' : List ℕ) (b' : List Binding) (room' : List ℤ)
        → run x' (view_of e.arg slots') b' room' ≡ run_of e 1 (run x (view_of e.arg slots) b room) → Going F budget next base x' slots' b' room'
    goes_next h z m x' slots' b' room' q =
        let k : budget - x.steps ≡ suc (budget - suc x.steps) = omega arith in
        let t = inner_took e R x (view_of e.arg slots) b room g.valid h g.states (rep₁ h) g.deep z F (budget - suc x.steps) next
        (subst (λ i. Far F x room (past i (inside e.dialect i g.states) (length room - x.words) next)) k g.took.far) in
        let s = rep_cons (rep₁ h) in
        let w = stands_kept e R x (view_of e.arg slots) b room g.valid h s.0 s.1 (subst (Rep (D e R) (code e R) (points e R) (some c₀)) s.2 (rep₁ h)) base g.kept in
        let a = one_step e R x (view_of e.arg slots) b room g.valid h s.0 s.1 (subst (Rep (D e R) (code e R) (points e R) (some c₀)) s.2 (rep₁ h)) in
        let y : x'.steps ≡ suc x.steps = ap (λ (u : Run). u.state.steps) q ∙ a in
        let n : budget - suc x.steps ≡ budget - x'.steps = omega arith in
        record {
          states = on_first e.dialect g.states;
          took = subst (λ i. Took e R F i next (on_first e.dialect g.states) (run x' (view_of e.arg slots') b' room')) n (subst (Took e R F (budget - suc x.steps) next (on_first e.dialect g.states)) (sym q) t.0);
          deep = t.1;
          valid = subst (Valid e) (sym q) w.valid;
          phase = subst (λ (u : Run). (u.state.live ≡ 0) ⊎ ((u.state.live ≡ 1) ⊎ (u.state.live ≡ 3))) (sym q) w.phase;
          most = omega arith;
          kept = subst (whole.Kept base) (sym q) w.kept;
        }
      where
        rep_cons : {ss : List paper.State} → Rep (D e R) (code e R) (points e R) (some c₀) ss → (o : paper.State) × (rest : List paper.State) × (ss ≡ o ∷ rest)
        rep_cons (live {s = s} {ss = ss} l a ch) = (s, ss, refl)

  -- ---- The first step of a state that stands alone.

  module _ (F : paper.Run) (budget : ℕ) (next : Next) (base : List ℤ) (x : State) (slots : List ℕ) (b : List Binding) (room : List ℤ) (s : paper.State)
      (st : Standing e R x slots b (record { first = s; others = [] })) (top : x.top ≡ 0) (words : x.words ≤ length room) (counts : x.rows ≤ x.steps) (m : x.steps < budget)
      (k : whole.Kept base (run x (view_of e.arg slots) b room)) (far : Far F x room (take_up e.dialect e.form (budget - suc x.steps) s (length room - x.words) next))
      (x' : State) (slots' : List ℕ) (b' : List Binding) (room' : List ℤ) (q : run x' (view_of e.arg slots') b' room' ≡ run_of e 1 (run x (view_of e.arg slots) b room)) where
    valid₀ : Valid e (run x (view_of e.arg slots) b room)
    valid₀ = standing_valid e R st room words counts

    out₀ : point.inside (points e R x.pc) ≡ 0
    unfolding conf_of
    out₀ = outside (D e R) (code e R) (points e R) st.rep st.shallow

    w₁ : whole.Stands e R.target_is R.fine R.rule.matcher R.rule.pattern 0 R.kinds R.fit R.wide R.closed (means e R) (ends_after e R) base (run_of e 1 (run x (view_of e.arg slots) b room))
    w₁ = stands_kept e R x (view_of e.arg slots) b room valid₀ st.live_is s [] st.rep base k

    steps₁ : x'.steps ≡ suc x.steps
    steps₁ = ap (λ (u : Run). u.state.steps) q ∙ one_step e R x (view_of e.arg slots) b room valid₀ st.live_is s [] st.rep

    budget₁ : budget - suc x.steps ≡ budget - x'.steps
    budget₁ = let a = steps₁ in omega arith

    valid₁ : Valid e (run x' (view_of e.arg slots') b' room')
    valid₁ = subst (Valid e) (sym q) w₁.valid

    phase₁ : (x'.live ≡ 0) ⊎ ((x'.live ≡ 1) ⊎ (x'.live ≡ 3))
    phase₁ = subst (λ (u : Run). (u.state.live ≡ 0) ⊎ ((u.state.live ≡ 1) ⊎ (u.state.live ≡ 3))) (sym q) w₁.phase

    kept₁ : whole.Kept base (run x' (view_of e.arg slots') b' room')
    kept₁ = subst (whole.Kept base) (sym q) w₁.kept

    most₁ : x'.steps ≤ budget
    most₁ = let a = steps₁ in omega arith

    took₁ : ((x'.live ≡ 3) × Far F x' room' (stopped 8 0)) ⊎ Took e R F (budget - x'.steps) next (resume e.dialect s []) (run x' (view_of e.arg slots') b' room')
    took₁ = ⊎_elim
        (λ y. inl (subst (λ (u : Run). (u.state.live ≡ 3) × Far F u.state u.room (stopped 8 0)) (sym q) y))
        (λ y. inr (subst (λ i. Took e R F i next (resume e.dialect s []) (run x' (view_of e.arg slots') b' room')) budget₁ (subst (Took e R F (budget - suc x.steps) next (resume e.dialect s [])) (sym q) y)))
        (first_took e R x (view_of e.arg slots) b room valid₀ st.live_is F (budget - suc x.steps) next s st.rep out₀ far)

    pub first_outcome : (get_or e.op x.pc 0 ≡ 16 → ⊥) → Outcome F budget next base false x' slots' b' room'
    first_outcome n = ⊎_elim full some₁ took₁
      where
        full : (x'.live ≡ 3) × Far F x' room' (stopped 8 0) → Outcome F budget next base false x' slots' b' room'
        full y = record {
          clean = valid_clean x' slots' b' room' valid₁ (λ z. let a = y.0 in omega arith);
          words = valid₁.room;
          counts = valid₁.counts;
          most = most₁;
          kept = kept₁;
          phase = phase₁;
          over = λ z. let w : ◌≡◌ {A = ℕ} 0 1 = cc in absurd (omega arith);
          full = λ z h. y.1;
          none = λ z h. let a = y.0 in absurd (omega arith);
          some = λ z h. let a = y.0 in absurd (omega arith);
        }

        some₁ : Took e R F (budget - x'.steps) next (resume e.dialect s []) (run x' (view_of e.arg slots') b' room') → Outcome F budget next base false x' slots' b' room'
        some₁ t =
            let h = subst (λ (u : Run). Shallows (D e R) (code e R) (points e R) (stood e R u.state u.tables u.binds)) (sym q)
            (next_shallow e R x (view_of e.arg slots) b room valid₀ st.live_is s [] st.rep top n (λ z. t.going (ap (λ (u : Run). u.state.live) q ∙ z)) out₀) in
            settled_outcome F budget next base (resume e.dialect s []) x' slots' b' room' valid₁ t (plain_rep (D e R) (code e R) (points e R) t.stands h).1 h phase₁ most₁ kept₁

    denied : get_or e.op x.pc 0 ≡ 16 → (i : ℕ) × (to : ℕ) × (code e R x.pc ≡ deny i to)
    unfolding conf_of line_at
    denied n = let l = (place_bound (D e R) R.rule.matcher R.rule.pattern st.rep).0 in sixteen (means e R x.pc l) n

    pub first_going : get_or e.op x.pc 0 ≡ 16 → Going F budget next base x' slots' b' room'
    unfolding conf_of
    first_going n =
        let d = denied n in
        let t = not_took e R x (view_of e.arg slots) b room valid₀ st.live_is F (budget - suc x.steps) next s st.rep out₀ d.0 d.1 d.2 far in
        record {
          states = resume e.dialect s [];
          took = subst (λ i. Took e R F i next (resume e.dialect s []) (run x' (view_of e.arg slots') b' room')) budget₁ (subst (Took e R F (budget - suc x.steps) next (resume e.dialect s [])) (sym q) t);
          deep = not_step (D e R) (code e R) (points e R) (follows e R) st.rep d.0 d.1 d.2;
          valid = valid₁;
          phase = phase₁;
          most = most₁;
          kept = kept₁;
        }

  -- A step of a search inside a not is one step.
  pub steps_next : {F : paper.Run} {budget : ℕ} {next : Next} {base : List ℤ} {x : State} {slots : List ℕ} {b : List Binding} {room : List ℤ} → Going F budget next base x slots b room → x.live ≡ 1
      → (x' : State) (slots' : List ℕ) (b' : List Binding) (room' : List ℤ) → run x' (view_of e.arg slots') b' room' ≡ run_of e 1 (run x (view_of e.arg slots) b room) → x'.steps ≡ suc x.steps
  unfolding run_of
  steps_next {x = x} {slots = slots} {b = b} {room = room} g h x' slots' b' room' q =
      let r = run x (view_of e.arg slots) b room in
      let a = (takes_is e r g.valid.room).steps in
      let c = (settled_is e (take_of e r)).steps in
      let m = ap (λ (u : Run). u.state.steps) (q ∙ run_more e 0 r h) in
      omega arith
