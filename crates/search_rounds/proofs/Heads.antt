-- The needs of taking up a first state, as the code asks for them.
use Prim.Native.Nat.{ℕ, zero, suc, ◌+◌, ◌-◌, ◌*◌, ◌^◌, ◌≤◌, ◌<◌}
use native.Mathlib.Omega.{arith}
use borrow.Author.Rules.{rules}
use mathlib.Core.Path.{◌≡◌, refl, sym, ap, ap₂, ◌∙◌, subst}
use mathlib.Core.Logic.{◌⊎◌, inl, inr, ⊎_elim}
use mathlib.Core.Bool.{Bool, true, false}
use mathlib.Core.List.{List, [], ◌∷◌}
use lib.ListN.{length, get_or, take}
use lib.IntN.{ℤ}
use Rattle.rules.specs.Search as paper
use Rattle.rules.specs.Search.{stopped}
use Rattle.round_rules.specs.Rounds.{Branch, take_up}
use Rattle.words.specs.Words.{entries}
use Rattle.tables.specs.Slot.{view_of}
use Rattle.tables.specs.declared.slot.Held.{Held}
use Rattle.value_rows.specs.declared.Binding.{Binding}
use Rattle.search_step.specs.declared.State.{State}
use Rattle.search.specs.Run.{Env, Run, run, run_of}
use Rattle.search.specs.Valid.{Fine, Valid}
use Rattle.search.proofs.Whole as whole
use Rattle.round_table.specs.Entries.{entry_at}
use Rattle.round_lists.specs.Taken.{TakenOut}
use Rattle.round_states.specs.Ruled.{Ruled}
use Rattle.round_states.specs.Standing.{Clean, Standing, Used, Kept, Loaded, standing_valid, first_stands}
use Rattle.round_states.specs.Table.{nth, loaded_is}
use Rattle.round_states.specs.Taking.{Far, on}
use Rattle.round_states.specs.Outcomes.{Next, Going, Outcome, left_none, left_some, left_spent, goes_next, first_outcome, first_going, steps_next}
use Rattle.search_rounds.specs.Firsts.{alone_in, Inside, LeftBy, Firsts, TookBy}
use Rattle.search_rounds.proofs.Laws.{entry_0, entry_2}

pub alone_is : (ws : List ℤ) (r : ℕ) (x : State) (a c : Held) → a ≡ entry_at ws (r * 275) → c ≡ entry_at ws (r * 275 + 2)
    → ◌≡◌ {A = State} (record { pc = c.at; at = a.at; marks = a.marks; top = 0; live = 1; rows = x.rows; steps = x.steps; words = x.words }) (alone_in ws r x)
unfolding alone_in
alone_is ws r x a c p s i =
    let z : r * 275 ≡ 275 * r = omega arith in
    record {
      pc = (ap (λ (y : Held). y.at) (s ∙ ap (λ k. entry_at ws (k + 2)) z)) i;
      at = (ap (λ (y : Held). y.at) (p ∙ ap (entry_at ws) z)) i;
      marks = (ap (λ (y : Held). y.marks) (p ∙ ap (entry_at ws) z)) i;
      top = 0;
      live = 1;
      rows = x.rows;
      steps = x.steps;
      words = x.words;
    }

-- ---- The search inside a not.

-- From the state at which it is entered to the one that stands now.
unfoldable pub GoneTo : (e : Env) (budget : ℕ) → State → List ℕ → List Binding → List ℤ → State → List ℕ → List Binding → List ℤ → Type 0
GoneTo e budget x₀ slots₀ b₀ room₀ x slots b room =
    (R : Ruled e) (F : paper.Run) (next : Next e R) (base : List ℤ) → Going e R F budget next base x₀ slots₀ b₀ room₀ → Going e R F budget next base x slots b room

pub gone_none : (e : Env) (budget : ℕ) (x : State) (slots : List ℕ) (b : List Binding) (room : List ℤ) → GoneTo e budget x slots b room x slots b room
unfolding GoneTo
gone_none e budget x slots b room R F next base g = g

module _ {e : Env} {budget : ℕ} {x₀ : State} {slots₀ : List ℕ} {b₀ : List Binding} {room₀ : List ℤ} (I : Inside e budget x₀ slots₀ b₀ room₀)
    (x : State) (slots : List ℕ) (b : List Binding) (room : List ℤ) (G : GoneTo e budget x₀ slots₀ b₀ room₀ x slots b room) where
  now_going : Going e I.ruled I.run budget I.next I.base x slots b room
  unfolding GoneTo
  now_going = G I.ruled I.run I.next I.base I.going

  pub gone_valid : Valid e (run x (view_of e.arg slots) b room)
  gone_valid = now_going.valid

  pub gone_long : length room ≡ length room₀
  gone_long = now_going.kept.long ∙ sym I.going.kept.long

  pub gone_steps : budget < 2 ^ 63 → x.steps + 1 < 2 ^ 64
  gone_steps h = let m = now_going.most in omega arith

  pub gone_left : x.live ≡ 1 → x.top ≡ 0 → LeftBy e budget x₀ slots₀ b₀ room₀ false x slots b room
  unfolding GoneTo LeftBy
  gone_left h z R F next base g = left_some e R F budget next base x slots b room (G R F next base g) h z

  pub gone_spent : x.live ≡ 1 → (x.top ≡ 0 → ⊥) → budget ≤ x.steps → LeftBy e budget x₀ slots₀ b₀ room₀ true x slots b room
  unfolding GoneTo LeftBy
  gone_spent h z m R F next base g = left_spent e R F budget next base x slots b room (G R F next base g) h z m

  pub gone_over : (x.live ≡ 1 → ⊥) → LeftBy e budget x₀ slots₀ b₀ room₀ false x slots b room
  unfolding GoneTo LeftBy
  gone_over n R F next base g =
      let q = G R F next base g in
      ⊎_elim (λ h. left_none e R F budget next base x slots b room q h) (⊎_elim (λ h. absurd (n h)) (λ h. absurd (q.took.going h))) q.phase

  pub gone_next : x.live ≡ 1 → (x.top ≡ 0 → ⊥) → x.steps < budget → (x' : State) (slots' : List ℕ) (b' : List Binding) (room' : List ℤ)
      → run x' (view_of e.arg slots') b' room' ≡ run_of e 1 (run x (view_of e.arg slots) b room) → GoneTo e budget x₀ slots₀ b₀ room₀ x' slots' b' room'
  unfolding GoneTo
  gone_next h z m x' slots' b' room' q R F next base g = goes_next e R F budget next base x slots b room (G R F next base g) h z m x' slots' b' room' q

  pub gone_less : x.live ≡ 1 → (x.top ≡ 0 → ⊥) → x.steps < budget → (x' : State) (slots' : List ℕ) (b' : List Binding) (room' : List ℤ)
      → run x' (view_of e.arg slots') b' room' ≡ run_of e 1 (run x (view_of e.arg slots) b room) → budget - x'.steps < budget - x.steps
  gone_less h z m x' slots' b' room' q = let a = steps_next e I.ruled now_going h x' slots' b' room' q in omega arith

pub one_budget : (n : ℕ) → n + 1 - n ≡ 1
one_budget n = omega arith

pub once_is : (e : Env) (n : ℕ) (q r : Run) → q ≡ run_of e (n + 1 - n) r → q ≡ run_of e 1 r
once_is e n q r h = h ∙ ap (λ i. run_of e i r) (one_budget n)

-- ---- The first state of a list.

module _ (e : Env) (R : Ruled e) (used : ℕ) (U : Used e R used) (ws : List ℤ) (r : ℕ) (x : State) (br : Branch) (K : Kept e R used (nth e R ws r) br)
    (slots₀ slots₁ : List ℕ) (b₀ b : List Binding) (C : Clean e R slots₀ b₀) (T : TakenOut ws r e.vars used slots₀ slots₁ b₀ b) where
  alone_stands : Standing e R (alone_in ws r x) slots₁ b (record { first = br.first; others = [] })
  alone_stands = subst (λ (v : State). Standing e R v slots₁ b (record { first = br.first; others = [] })) same
      (first_stands e R used U (nth e R ws r) br K slots₀ slots₁ b₀ b C (loaded_is e R used ws r slots₀ slots₁ b₀ b C T) x.rows x.steps x.words)
    where
      same : record { pc = K.x.pc; at = K.x.at; marks = K.x.marks; top = 0; live = 1; rows = x.rows; steps = x.steps; words = x.words } ≡ alone_in ws r x
      same i =
          unfold alone_in in
          let z : 275 * r + 0 ≡ 275 * r = omega arith in
          record {
            pc = sym K.pc i;
            at = (ap (λ (y : Held). y.at) (sym K.first ∙ ap (entry_at ws) z)) i;
            marks = (ap (λ (y : Held). y.marks) (sym K.first ∙ ap (entry_at ws) z)) i;
            top = 0;
            live = 1;
            rows = x.rows;
            steps = x.steps;
            words = x.words;
          }

  module _ (budget : ℕ) (room₀ : List ℤ) (words : x.words ≤ length room₀) (counts : x.rows ≤ x.steps) (m : x.steps < budget) (F : paper.Run) (next : Next e R) (base : List ℤ)
      (k : whole.Kept base (run x (view_of e.arg slots₀) b₀ room₀)) (far : Far F x room₀ (take_up e.dialect e.form (budget - suc x.steps) br.first (length room₀ - x.words) next))
      (x' : State) (slots' : List ℕ) (b' : List Binding) (room' : List ℤ)
      (q : run x' (view_of e.arg slots') b' room' ≡ run_of e 1 (run (alone_in ws r x) (view_of e.arg slots₁) b room₀)) where
    alone_outcome : (get_or e.op (alone_in ws r x).pc 0 ≡ 16 → ⊥) → Outcome e R F budget next base false x' slots' b' room'
    unfolding alone_in Far
    alone_outcome n = first_outcome e R F budget next base (alone_in ws r x) slots₁ b room₀ br.first alone_stands refl words counts m (record { long = k.long; after = k.after }) far x' slots' b' room' q n

    alone_going : get_or e.op (alone_in ws r x).pc 0 ≡ 16 → Going e R F budget next base x' slots' b' room'
    unfolding alone_in Far
    alone_going n = first_going e R F budget next base (alone_in ws r x) slots₁ b room₀ br.first alone_stands refl words counts m (record { long = k.long; after = k.after }) far x' slots' b' room' q n

module _ {e : Env} {used : ℕ} {ws : List ℤ} {r budget : ℕ} {x : State} {slots₀ : List ℕ} {b₀ : List Binding} {room₀ : List ℤ} (P : Firsts e used ws r budget x slots₀ b₀ room₀)
    {slots₁ : List ℕ} {b : List Binding} (T : TakenOut ws r e.vars used slots₀ slots₁ b₀ b) {y : State} (q : y ≡ alone_in ws r x) where
  stands_y : Standing e P.ruled y slots₁ b (record { first = P.br.first; others = [] })
  stands_y = rw q (alone_stands e P.ruled used P.uses ws r x P.br P.kept slots₀ slots₁ b₀ b P.clean T)

  pub first_place : y.pc < entries
  first_place = stands_y.place

  pub first_valid : Valid e (run y (view_of e.arg slots₁) b room₀)
  unfolding alone_in
  first_valid = standing_valid e P.ruled stands_y room₀ (rw q P.words) (rw q P.counts)

  pub first_steps : budget < 2 ^ 63 → y.steps + 1 < 2 ^ 64
  unfolding alone_in
  first_steps h = rw q (let m = P.steps in omega arith)

  module _ (x' : State) (slots' : List ℕ) (b' : List Binding) (room' : List ℤ) (p : run x' (view_of e.arg slots') b' room' ≡ run_of e 1 (run y (view_of e.arg slots₁) b room₀)) where
    at_alone : run x' (view_of e.arg slots') b' room' ≡ run_of e 1 (run (alone_in ws r x) (view_of e.arg slots₁) b room₀)
    at_alone = p ∙ ap (λ (v : State). run_of e 1 (run v (view_of e.arg slots₁) b room₀)) q

    pub first_inside : get_or e.op y.pc 0 ≡ 16 → Inside e budget x' slots' b' room'
    unfolding Far
    first_inside n =
        let next : Next e P.ruled = λ i ss free. stopped 0 0 in
        record {
          ruled = P.ruled;
          run = on x.rows x.steps (take x.words room₀) (take_up e.dialect e.form (budget - suc x.steps) P.br.first (length room₀ - x.words) next);
          next = next;
          base = room₀;
          going = alone_going e P.ruled used P.uses ws r x P.br P.kept slots₀ slots₁ b₀ b P.clean T budget room₀ P.words P.counts P.steps
              (on x.rows x.steps (take x.words room₀) (take_up e.dialect e.form (budget - suc x.steps) P.br.first (length room₀ - x.words) next)) next room₀
              (record { long = refl; after = refl }) refl x' slots' b' room' at_alone (ap (λ (v : State). get_or e.op v.pc 0) (sym q) ∙ n);
        }

    pub first_left : get_or e.op y.pc 0 ≡ 16 → (spent : Bool) (x'' : State) (slots'' : List ℕ) (b'' : List Binding) (room'' : List ℤ)
        → LeftBy e budget x' slots' b' room' spent x'' slots'' b'' room'' → TookBy e used ws r budget x slots₀ b₀ room₀ spent x'' slots'' b'' room''
    unfolding LeftBy TookBy
    first_left n spent x'' slots'' b'' room'' l R U br K C F next base k far =
        l R F next base (alone_going e R used U ws r x br K slots₀ slots₁ b₀ b C T budget room₀ P.words P.counts P.steps F next base k far x' slots' b' room' at_alone
        (ap (λ (v : State). get_or e.op v.pc 0) (sym q) ∙ n))

    pub first_plain : (get_or e.op y.pc 0 ≡ 16 → ⊥) → TookBy e used ws r budget x slots₀ b₀ room₀ false x' slots' b' room'
    unfolding TookBy
    first_plain n R U br K C F next base k far =
        alone_outcome e R used U ws r x br K slots₀ slots₁ b₀ b C T budget room₀ P.words P.counts P.steps F next base k far x' slots' b' room' at_alone
        (λ z. n (ap (λ (v : State). get_or e.op v.pc 0) q ∙ z))

pub ruleset own_rules = (rules, alone_is, entry_0, entry_2, gone_none, arith)
