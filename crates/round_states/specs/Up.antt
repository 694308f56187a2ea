-- A state is taken up: the run so far, what follows, and the search inside a not.
use Rattle.std.specs.Prelude.{ℕ, zero, suc, ◌+◌, ◌-◌, ◌≤◌, ◌<◌, ◌⊎◌, Bool, get_or, take, leb, ℤ}
use Rattle.std.proofs.Common.{arith, sym, ap₂, ◌∙◌, ⊎_elim}
use Rattle.std.proofs.Math.Path.{◌≡◌, refl, ap, subst}
use Rattle.std.proofs.Math.Logic.{inl, inr}
use Rattle.std.proofs.Math.Bool.{true, false}
use Rattle.std.proofs.Math.Option.{Option, none, some}
use mathlib.Core.List.{List, [], ◌∷◌, ◌++◌, map, append-nil}
use Rattle.std.proofs.Math.ListN.{length}
use borrow.Author.Tests.{ne_eqb}
use Rattle.rules.specs.Rows.{row}
use Rattle.rules.specs.Search as paper
use Rattle.rules.specs.Forms.{Matcher, Pattern}
use Rattle.rules.specs.Origins.{Valueᵒ, Bindings}
use Rattle.rules.specs.Search.{Atom, atom, end_of_not, state, after_in, leave_not, stopped, step, row_step}
use Rattle.round_rules.specs.Rounds.{searching, on_first, unmarked, spent, left, one_more, inside, past, take_up}
use Rattle.program_rules.specs.Points.{Instr, strip, keep, other, close, drop, bind, test, split, apart, choice, deny, cut_at, end, Point, resume}
use Rattle.program_rules.specs.Points as point
use Rattle.program_rules.specs.Meaning.{Means, means_end, means_strip, means_drop, means_bind, means_constant, means_integer, means_value, means_nil, means_list, means_multiset, means_join, means_tuple, means_keep, means_choice, means_deny, means_cut, means_other, means_close}
use Rattle.tables.specs.declared.line.Line.{Line}
use Rattle.search_machine.specs.Held.{Data}
use Rattle.search_machine.specs.Machine.{Machine, passing, writing, filling, step_on, once}
use Rattle.search_machine.specs.Engine.{Conf, exec, settle}
use Rattle.search_machine.specs.Drive.{Engine, row_from, passed, wrote, filled, row_done, result, advance, turn, turns}
use Rattle.search_machine.specs.Rep.{Rep, live}
use Rattle.search_machine.specs.Whole.{place_bound}
use Rattle.value_rows.specs.declared.Binding.{Binding}
use Rattle.tables.specs.Slot.{Tables}
use Rattle.search_atom.specs.Leaves.{when}
use Rattle.search_step.specs.declared.State.{State}
use Rattle.search.specs.Run.{Env, Run, run, line_at, run_of}
use Rattle.search.specs.Valid.{Valid}
use Rattle.search.specs.Meaning.{conf_of, standing, engine_of}
use Rattle.search.proofs.Whole.{run_is}
use Rattle.round_states.specs.Ruled.{Ruled, means, ends_after, follows, by_line_lem}
use Rattle.round_states.specs.Branches.{Shallows, outside, plain_rep, step_shallow, cut_inside, end_inside}
use Rattle.round_states.specs.Nots.{behind, past_more, past_over, inside_over, inside_spent, inside_more, inside_open, inside_left, inside_step, not_step, not_row, no_row}
use Rattle.round_states.specs.Taking.{on, on_step_lem, on_row, on_full, Far, D, code, points, stood, stands₀, pass, write, fill, Passed, Wrote, Filled}

-- ---- The configuration after a step.

module _ (D : Data) where
  row_conf : (b : Bool) (k : Engine D) (ws : List ℤ) (o : Option (Conf D))
      → (elim b as (λ _. Engine D) [ true ↦ wrote D k ws o | false ↦ filled D k ]).full ≡ false → (elim b as (λ _. Engine D) [ true ↦ wrote D k ws o | false ↦ filled D k ]).conf ≡ o
  unfolding wrote filled
  row_conf true k ws o h = refl
  row_conf false k ws o h = let z : ◌≡◌ {A = ℕ} 0 1 = cc in absurd (omega arith)

  result_conf : (k : Engine D) (i : Instr) (b : ℕ → D.Held) (o : Option (Conf D)) → (result D k i b o).full ≡ false → (result D k i b o).conf ≡ o
  unfolding result passed row_done
  result_conf k strip b o h = refl
  result_conf k (drop n to) b o h = refl
  result_conf k (bind i n to) b o h = refl
  result_conf k (test t n to) b o h = refl
  result_conf k (split d) b o h = refl
  result_conf k (apart n) b o h = refl
  result_conf k keep b o h = refl
  result_conf k (choice to) b o h = refl
  result_conf k (deny n to) b o h = refl
  result_conf k (cut_at j) b o h = refl
  result_conf k other b o h = refl
  result_conf k close b o h = refl
  result_conf k (end n) b o h = row_conf (leb (length (row_from D b 0 n)) k.left) k (row_from D b 0 n) o h

  module _ (code : ℕ → Instr) where
    turn_is : (k : Engine D) (c : Conf D) → k.full ≡ false → k.conf ≡ some c → turn D code k ≡ result D k (code c.pc) c.binds (settle D code (exec D (code c.pc) c))
    unfolding turn advance
    turn_is k c f g = ap (λ z. elim z as (λ _. Engine D) [ true ↦ k | false ↦ advance D code k k.conf ]) f ∙ ap (advance D code k) g

    turn_conf : (k : Engine D) (c : Conf D) → k.full ≡ false → k.conf ≡ some c → (turn D code k).full ≡ false → (turn D code k).conf ≡ settle D code (exec D (code c.pc) c)
    turn_conf k c f g h =
        let e = turn_is k c f g in
        ap (λ (z : Engine D). z.conf) e ∙ result_conf k (code c.pc) c.binds (settle D code (exec D (code c.pc) c)) (sym (ap (λ (z : Engine D). z.full) e) ∙ h)

-- An instruction whose line has the number 16 is a not's.
pub sixteen : {ms : List ℤ} {vars to : ℕ} {l : Line} {i : Instr} → Means ms vars l to i → l.op ≡ 16 → (n : ℕ) × (to' : ℕ) × (i ≡ deny n to')
sixteen (means_end x) h = absurd (omega arith)
sixteen (means_strip x) h = absurd (omega arith)
sixteen (means_drop x) h = absurd (omega arith)
sixteen (means_bind x) h = absurd (omega arith)
sixteen (means_constant x) h = absurd (omega arith)
sixteen (means_integer x) h = absurd (omega arith)
sixteen (means_value m x y z) h = absurd (omega arith)
sixteen (means_nil m x) h = absurd (omega arith)
sixteen (means_list m x) h = absurd (omega arith)
sixteen (means_multiset m x a) h = absurd (omega arith)
sixteen (means_join m x) h = absurd (omega arith)
sixteen (means_tuple n x y) h = absurd (omega arith)
sixteen (means_keep x) h = absurd (omega arith)
sixteen (means_choice x) h = absurd (omega arith)
sixteen {to = to} {l = l} (means_deny x) h = (l.from, to, refl)
sixteen (means_cut x) h = absurd (omega arith)
sixteen (means_other x) h = absurd (omega arith)
sixteen (means_close x) h = absurd (omega arith)

module _ (e : Env) (R : Ruled e) where
  -- After a state was taken up and some of the search inside it, if any: L are the states of that search, or those that follow, with the budget n.
  pub record Took (F : paper.Run) (n : ℕ) (next : ℕ → List paper.State → ℕ → paper.Run) (L : List paper.State) (q : Run) : Type 0 where
    pub far : Far F q.state q.room (past n (inside e.dialect n L) (length q.room - q.state.words) next)
    pub going : q.state.live ≡ 3 → ⊥
    pub stands : Rep (D e R) (code e R) (points e R) (stood e R q.state q.tables q.binds) L

  module _ (x : State) (t : Tables) (b : List Binding) (room : List ℤ) (valid : Valid e (run x t b room)) (one : x.live ≡ 1) where
    abbrev c : Conf (D e R)
    c = conf_of e.dialect e.form e.words R.target_is x t b

    abbrev pub r₁ : Run
    r₁ = run_of e 1 (run x t b room)

    module _ (s : paper.State) (ss : List paper.State) (rep : Rep (D e R) (code e R) (points e R) (some c) (s ∷ ss)) where
      engine₁ : engine_of e.dialect e.form e.words R.target_is r₁ ≡ turn (D e R) (code e R) (engine_of e.dialect e.form e.words R.target_is (run x t b room))
      unfolding turns
      engine₁ = run_is e R.target_is R.fine R.rule.matcher R.rule.pattern 0 R.kinds R.fit R.wide R.closed (means e R) (ends_after e R) 1 room (run x t b room) (stands₀ e R x t b room valid one s ss rep)

      full₀ : (engine_of e.dialect e.form e.words R.target_is (run x t b room)).full ≡ false
      unfolding engine_of
      full₀ = rw one

      conf₀ : (engine_of e.dialect e.form e.words R.target_is (run x t b room)).conf ≡ some c
      unfolding engine_of standing when
      conf₀ = rw one

      full₁ : (r₁.state.live ≡ 3 → ⊥) → (engine_of e.dialect e.form e.words R.target_is r₁).full ≡ false
      unfolding engine_of
      full₁ h = ne_eqb r₁.state.live 3 h

      next_conf : (r₁.state.live ≡ 3 → ⊥) → stood e R r₁.state r₁.tables r₁.binds ≡ settle (D e R) (code e R) (exec (D e R) (code e R x.pc) c)
      unfolding engine_of conf_of
      next_conf h =
          ap (λ (z : Engine (D e R)). z.conf) engine₁
          ∙ turn_conf (D e R) (code e R) (engine_of e.dialect e.form e.words R.target_is (run x t b room)) c full₀ conf₀ (sym (ap (λ (z : Engine (D e R)). z.full) engine₁) ∙ full₁ h)

      -- Where a state stands that is no not's, at most one frame is open then.
      pub next_shallow : x.top ≡ 0 → (get_or e.op x.pc 0 ≡ 16 → ⊥) → (r₁.state.live ≡ 3 → ⊥) → point.inside (points e R x.pc) ≡ 0
          → Shallows (D e R) (code e R) (points e R) (stood e R r₁.state r₁.tables r₁.binds)
      unfolding conf_of line_at
      next_shallow z n h o =
          subst (Shallows (D e R) (code e R) (points e R)) (sym (next_conf h))
          (step_shallow (D e R) (code e R) (points e R) c (code e R x.pc) refl z
          (λ i to q. by_line_lem e R ⊥ x.pc (deny i to) q (λ k y. let w : ◌≡◌ {A = ℕ} 0 1 = cc in omega arith) (is_not i to))
          (λ j q. let y = cut_inside j (follows e R x.pc) q in omega arith))
        where
          is_not : (i to : ℕ) → Means e.matcher e.vars (line_at e x.pc) (get_or e.to x.pc 0) (deny i to) → ⊥
          is_not i to (means_deny y) = n y

      -- One step of a search inside a not.
      module _ (F : paper.Run) (n : ℕ) (next : ℕ → List paper.State → ℕ → paper.Run)
          (far : Far F x room (past (suc n) (inside e.dialect (suc n) (s ∷ ss)) (length room - x.words) next)) (deep : searching (s ∷ ss) ≡ true) where
        stepped : Far F x room (step (past n (inside e.dialect n (on_first e.dialect (s ∷ ss))) (length room - x.words) next))
        unfolding Far
        stepped = far ∙ ap (on x.rows x.steps (take x.words room))
            (ap (λ i. past (suc n) i (length room - x.words) next) (inside_more e.dialect n (s ∷ ss) deep) ∙ past_more n (inside e.dialect n (on_first e.dialect (s ∷ ss))) (length room - x.words) next)

        passed_took : (L : List paper.State) → L ≡ on_first e.dialect (s ∷ ss) → Passed e R x t b room valid one s ss rep L → Took F n next L r₁
        unfolding Far
        passed_took L q p = record {
          far = rw (p.rows, p.steps, p.words, p.free, q) (stepped ∙ on_step_lem x.rows x.steps (take x.words room) _);
          going = p.going;
          stands = p.stands;
        }

  module _ (x : State) (t : Tables) (b : List Binding) (room : List ℤ) (valid : Valid e (run x t b room)) (one : x.live ≡ 1) where
    abbrev c₀ : Conf (D e R)
    c₀ = conf_of e.dialect e.form e.words R.target_is x t b

    inner_by : (s : paper.State) (ss : List paper.State) (rep : Rep (D e R) (code e R) (points e R) (some c₀) (s ∷ ss)) (F : paper.Run) (n : ℕ) (next : ℕ → List paper.State → ℕ → paper.Run)
        → Far F x room (past (suc n) (inside e.dialect (suc n) (s ∷ ss)) (length room - x.words) next) → searching (s ∷ ss) ≡ true
        → Took F n next (on_first e.dialect (s ∷ ss)) (run_of e 1 (run x t b room))
    unfolding once step_on on_first
    inner_by (state g [] f) ss rep F n next far deep = absurd (no_row (D e R) (code e R) (points e R) rep deep)
    inner_by (state g (end_of_not ∷ older) f) ss rep F n next far deep =
        passed_took x t b room valid one (state g (end_of_not ∷ older) f) ss rep F n next far deep (leave_not ss) refl (pass e R x t b room valid one (state g (end_of_not ∷ older) f) ss rep (leave_not ss) refl)
    inner_by (state g (atom p m v ∷ older) f) ss rep F n next far deep =
        passed_took x t b room valid one (state g (atom p m v ∷ older) f) ss rep F n next far deep (after_in e.dialect p m v older f ++ ss) refl
        (pass e R x t b room valid one (state g (atom p m v ∷ older) f) ss rep (after_in e.dialect p m v older f ++ ss) refl)

    -- A search inside a not goes on by one step.
    pub inner_took : (L : List paper.State) → Rep (D e R) (code e R) (points e R) (some c₀) L → behind L ≡ true → (x.top ≡ 0 → ⊥)
        → (F : paper.Run) (n : ℕ) (next : ℕ → List paper.State → ℕ → paper.Run) → Far F x room (past (suc n) (inside e.dialect (suc n) L) (length room - x.words) next)
        → Took F n next (on_first e.dialect L) (run_of e 1 (run x t b room)) × (behind (on_first e.dialect L) ≡ true)
    unfolding conf_of
    inner_took L rep h z F n next far =
        let q = rep_some rep in (
          subst (λ K. Took F n next (on_first e.dialect K) (run_of e 1 (run x t b room))) (sym q.2)
              (inner_by q.0 q.1 (subst (Rep (D e R) (code e R) (points e R) (some c₀)) q.2 rep) F n next
              (subst (λ K. Far F x room (past (suc n) (inside e.dialect (suc n) K) (length room - x.words) next)) q.2 far)
              (subst (λ K. searching K ≡ true) q.2 (inside_open (D e R) (code e R) (points e R) rep h z))),
          (inside_step (D e R) (code e R) (points e R) (follows e R) rep h z).1,
        )
      where
        rep_some : {K : List paper.State} → Rep (D e R) (code e R) (points e R) (some c₀) K → (s : paper.State) × (ss : List paper.State) × (K ≡ s ∷ ss)
        rep_some (live {s = s} {ss = ss} l a ch) = (s, ss, refl)

    -- A state that stands alone is taken up: its row does not fit; or what follows stands, and the search inside a not.
    module _ (F : paper.Run) (n : ℕ) (next : ℕ → List paper.State → ℕ → paper.Run) where
      abbrev q₁ : Run
      q₁ = run_of e 1 (run x t b room)

      row_took : (s : paper.State) (rep : Rep (D e R) (code e R) (points e R) (some c₀) (s ∷ [])) (ws : List ℤ) (fits : Bool)
          → once e.dialect e.form (record { waiting = s ∷ []; left = length room - x.words; rows = x.rows; steps = x.steps; written = take x.words room; full = false })
          ≡ elim fits as (λ _. Machine) [
            | true ↦ writing (record { waiting = s ∷ []; left = length room - x.words; rows = x.rows; steps = x.steps; written = take x.words room; full = false }) ws []
            | false ↦ filling (record { waiting = s ∷ []; left = length room - x.words; rows = x.rows; steps = x.steps; written = take x.words room; full = false }) []
          ]
          → Far F x room (elim fits as (λ _. paper.Run) [ true ↦ row_step ws (next n [] (length room - x.words - length ws)) | false ↦ stopped 8 1 ])
          → ((q₁.state.live ≡ 3) × Far F q₁.state q₁.room (stopped 8 0)) ⊎ Took F n next [] q₁
      unfolding Far searching
      row_took s rep ws true k far =
          let p = write e R x t b room valid one s [] rep ws [] k in
          inr (record {
            far = rw (p.rows, p.steps, p.words, p.free, inside_over e.dialect n [] refl, past_over n [] (length room - x.words - length ws) next)
                (far ∙ on_row x.rows x.steps (take x.words room) ws _);
            going = p.going;
            stands = p.stands;
          })
      row_took s rep ws false k far =
          let p = fill e R x t b room valid one s [] rep [] k in
          inl (p.full, rw (p.rows, p.steps, p.words) (far ∙ on_full x.rows x.steps (take x.words room) 8))

      atom_took : (g : Bool) (p : Pattern) (m : Matcher) (v : Valueᵒ) (older : List Atom) (f : Bindings) → Rep (D e R) (code e R) (points e R) (some c₀) (state g (atom p m v ∷ older) f ∷ [])
          → Far F x room (take_up e.dialect e.form n (state g (atom p m v ∷ older) f) (length room - x.words) next) → Took F n next (resume e.dialect (state g (atom p m v ∷ older) f) []) q₁
      unfolding take_up resume once step_on Far
      atom_took g p m v older f rep far =
          let L = after_in e.dialect p m v older f ++ [] in
          let q = pass e R x t b room valid one (state g (atom p m v ∷ older) f) [] rep L refl in
          let z : L ≡ after_in e.dialect p m v older f = append-nil (after_in e.dialect p m v older f) in
          record {
            far = rw (q.rows, q.steps, q.words, q.free, z) (far ∙ on_step_lem x.rows x.steps (take x.words room) _);
            going = q.going;
            stands = q.stands;
          }

      -- A not is taken up: what is inside stands.
      pub not_took : (s : paper.State) → Rep (D e R) (code e R) (points e R) (some c₀) (s ∷ []) → point.inside (points e R x.pc) ≡ 0 → (i to : ℕ) → code e R x.pc ≡ deny i to
          → Far F x room (take_up e.dialect e.form n s (length room - x.words) next) → Took F n next (resume e.dialect s []) q₁
      unfolding conf_of
      not_took (state g [] f) rep o i to d far = absurd (not_row (D e R) (code e R) (points e R) (follows e R) rep i to d)
      not_took (state g (end_of_not ∷ older) f) rep o i to d far = absurd (no_cut rep)
        where
          no_cut : Rep (D e R) (code e R) (points e R) (some c₀) (state g (end_of_not ∷ older) f ∷ []) → ⊥
          no_cut (live l a ch) = end_inside (D e R) a o
      not_took (state g (atom p m v ∷ older) f) rep o i to d far = atom_took g p m v older f rep far

      pub first_took : (s : paper.State) → Rep (D e R) (code e R) (points e R) (some c₀) (s ∷ []) → point.inside (points e R x.pc) ≡ 0
          → Far F x room (take_up e.dialect e.form n s (length room - x.words) next)
          → ((q₁.state.live ≡ 3) × Far F q₁.state q₁.room (stopped 8 0)) ⊎ Took F n next (resume e.dialect s []) q₁
      unfolding take_up resume once step_on conf_of Far
      first_took (state g [] f) rep o far = row_took (state g [] f) rep (row e.form f) (leb (length (row e.form f)) (length room - x.words)) refl far
      first_took (state g (end_of_not ∷ older) f) rep o far = absurd (no_cut rep)
        where
          no_cut : Rep (D e R) (code e R) (points e R) (some c₀) (state g (end_of_not ∷ older) f ∷ []) → ⊥
          no_cut (live l a ch) = end_inside (D e R) a o
      first_took (state g (atom p m v ∷ older) f) rep o far = inr (atom_took g p m v older f rep far)
