-- The needs of the search by rounds, as the code asks for them.
use Prim.Native.Nat.{ℕ, zero, suc, ◌+◌, ◌-◌, ◌*◌, ◌≤◌, ◌<◌}
use native.Mathlib.Omega.{arith}
use borrow.Author.Rules.{rules}
use mathlib.Core.Path.{◌≡◌, refl, sym, ap, ap₂, ◌∙◌, subst}
use mathlib.Core.List.{List, [], ◌∷◌}
use lib.ListN.{length, get_or, replicate, length-replicate}
use lib.IntN.{ℤ, pos}
use Rattle.rules.specs.Search as paper
use Rattle.round_rules.specs.Rounds.{Branch}
use Rattle.words.specs.Words.{entries}
use Rattle.tables.specs.Slot.{Tables, view_of, Slotted, Alone}
use Rattle.tables.specs.SlotLaws.{long_list}
use Rattle.tables.specs.declared.slot.Held.{Held}
use Rattle.value_rows.specs.declared.Binding.{Binding}
use Rattle.search_step.specs.declared.State.{State}
use Rattle.search_step.specs.Steps.{turned}
use Rattle.search_choice.specs.Choices.{Named, Picks, PicksIf, settle_of}
use Rattle.search.specs.Run.{Env}
use Rattle.search.specs.Valid.{Fine}
use Rattle.search.proofs.Laws.{fine_named}
use Rattle.round_table.specs.Entries.{entry_at}
use Rattle.round_lists.specs.Lists.{Framed, Stored}
use Rattle.round_lists.specs.Taken.{TakenOut, reopened}
use Rattle.round_states.specs.Ruled.{Ruled}
use Rattle.round_states.specs.Standing.{Clean, Standing, Used, Kept, Loaded, loaded_clean, view_long}
use Rattle.round_states.specs.Remains.{before, picks, rest_stands}
use Rattle.round_states.specs.Table.{nth, kept_is, framed, loaded_is}
use Rattle.search_rounds.specs.Remaining.{head_in, Listed, Remained}

pub head_is : (ws : List ℤ) (r : ℕ) (x : State) (a b c : Held) → a ≡ entry_at ws (r * 275) → b ≡ entry_at ws (r * 275 + 1) → c ≡ entry_at ws (r * 275 + 2)
    → ◌≡◌ {A = State} (record { pc = c.at; at = a.at; marks = a.marks; top = b.at; live = 2; rows = x.rows; steps = x.steps; words = x.words }) (head_in ws r x)
unfolding head_in
head_is ws r x a b c p q s i =
    let z : r * 275 ≡ 275 * r = omega arith in
    record {
      pc = (ap (λ (y : Held). y.at) (s ∙ ap (λ k. entry_at ws (k + 2)) z)) i;
      at = (ap (λ (y : Held). y.at) (p ∙ ap (entry_at ws) z)) i;
      marks = (ap (λ (y : Held). y.marks) (p ∙ ap (entry_at ws) z)) i;
      top = (ap (λ (y : Held). y.at) (q ∙ ap (λ k. entry_at ws (k + 1)) z)) i;
      live = 2;
      rows = x.rows;
      steps = x.steps;
      words = x.words;
    }

pub entry_0 : (r n : ℕ) → 825 * r + 825 ≤ n → 3 * (r * 275) + 2 < n
entry_0 r n h = omega arith

pub entry_1 : (r n : ℕ) → 825 * r + 825 ≤ n → 3 * (r * 275 + 1) + 2 < n
entry_1 r n h = omega arith

pub entry_2 : (r n : ℕ) → 825 * r + 825 ≤ n → 3 * (r * 275 + 2) + 2 < n
entry_2 r n h = omega arith

-- ---- The remainder of a list.

module _ (e : Env) (R : Ruled e) (used : ℕ) (U : Used e R used) (ws : List ℤ) (r : ℕ) (x : State) (br : Branch) (K : Kept e R used (nth e R ws r) br) (opened : (entry_at ws (275 * r + 1)).at ≡ 0 → ⊥)
    (slots₀ slots₁ : List ℕ) (b₀ b : List Binding) (C : Clean e R slots₀ b₀) (T : TakenOut ws r e.vars used slots₀ slots₁ b₀ b) where
  abbrev j : ℕ
  j = (entry_at ws (275 * r + 1)).at - 1

  top_is : K.x.top ≡ suc j
  top_is = let a = K.top in omega arith

  loaded : Loaded e R used (nth e R ws r) slots₀ slots₁ b₀ b
  loaded = loaded_is e R used ws r slots₀ slots₁ b₀ b C T

  clean₁ : Clean e R slots₁ b
  clean₁ = loaded_clean e R used U (nth e R ws r) br K slots₀ slots₁ b₀ b C loaded

  place_j : j < entries
  place_j = let f = K.stands.frames.last.frame (λ z. omega (arith, top_is)) in let a = f.place in omega (arith, top_is)

  opens_j : (7 < get_or e.op j 0) × (get_or e.op j 0 < 17)
  opens_j =
      let f = K.stands.frames.last.frame (λ z. omega (arith, top_is)) in
      let q : K.x.top - 1 ≡ j = omega (arith, top_is) in
      (rw q at f.splits, rw q at f.chooses)

  pub open_slotted : Slotted e.arg slots₁ j
  open_slotted = record { place = place_j; slot = R.fine.slot j; long = (view_long e R.fine slots₁ clean₁.long).backs }

  pub open_alone : Alone e.arg j
  open_alone = R.fine.alone j place_j opens_j.0 opens_j.1

  -- The head as it is read is the state before the choice.
  head_before : head_in ws r x ≡ before e R used U (nth e R ws r) br K slots₀ slots₁ b₀ b C loaded j top_is x.rows x.steps x.words
  unfolding head_in
  head_before i =
      let z : 275 * r + 0 ≡ 275 * r = omega arith in
      record {
        pc = K.pc i;
        at = (ap (λ (y : Held). y.at) (sym (ap (entry_at ws) z) ∙ K.first)) i;
        marks = (ap (λ (y : Held). y.marks) (sym (ap (entry_at ws) z) ∙ K.first)) i;
        top = (K.top ∙ top_is) i;
        live = 2;
        rows = x.rows;
        steps = x.steps;
        words = x.words;
      }

  module _ (slots₂ : List ℕ) (again : view_of e.arg slots₂ ≡ reopened j (entry_at ws (275 * r + 1)) (entry_at ws (275 * r + 2)) (view_of e.arg slots₁)) where
    abbrev t₂ : Tables
    t₂ = reopened j (entry_at ws (275 * r + 1)) (entry_at ws (275 * r + 2)) (view_of e.arg slots₁)

    pub open_named : Named e.op e.from e.arg slots₂
    unfolding reopened
    open_named = fine_named e R.fine slots₂ (ap (λ (t : Tables). length t.backs) again ∙ (view_long e R.fine slots₁ clean₁.long).backs)

    pub open_picks : PicksIf (head_in ws r x).live e.op e.words (head_in ws r x).top (view_of e.arg slots₂).ats (view_of e.arg slots₂).wholes (view_of e.arg slots₂).lefts
    unfolding reopened head_in
    open_picks = record {
      picks = λ z. subst (λ (t : Tables). Picks e.op e.words (entry_at ws (275 * r + 1)).at t.ats t.wholes t.lefts) (sym again)
          (subst (λ n. Picks e.op e.words n t₂.ats t₂.wholes t₂.lefts) (sym (K.top ∙ top_is)) (picks e R used U (nth e R ws r) br K slots₀ slots₁ b₀ b C loaded j top_is x.rows x.steps x.words));
    }

    module _ (z : State) (slots₃ : List ℕ) (is : turned z (view_of e.arg slots₃) ≡ settle_of e.op e.from e.to e.words (head_in ws r x) (view_of e.arg slots₂)) (c : x.rows ≤ x.steps) where
      pub rest_left : (o : paper.State) × (rest : List paper.State) × (br.others ≡ o ∷ rest) × Standing e R z slots₃ b (record { first = o; others = rest })
      unfolding reopened
      rest_left = rest_stands e R used U (nth e R ws r) br K slots₀ slots₁ b₀ b C loaded j top_is x.rows x.steps x.words z slots₃
          (is ∙ ap₂ (settle_of e.op e.from e.to e.words) head_before again) (replicate x.words (pos 0)) (omega (arith, length-replicate x.words (pos 0))) c

      pub rest_framed : Framed e.arg slots₃ z.top
      rest_framed = framed e R rest_left.3

      module _ (new : List ℤ) (to : ℕ) (S : Stored ws new to e.vars used z (view_of e.arg slots₃) slots₃ b) where
        pub rest_kept : (o : paper.State) × (rest : List paper.State) × (br.others ≡ o ∷ rest) × Kept e R used (nth e R new to) (record { first = o; others = rest })
        rest_kept = let q = rest_left in (q.0, q.1, q.2, kept_is e R used U z slots₃ b (record { first = q.0; others = q.1 }) q.3 ws new to S)

-- As the code has it: the list is one that the table holds.
module _ {e : Env} {used : ℕ} {ws : List ℤ} {r to : ℕ} {x : State} {slots₀ : List ℕ} {b₀ : List Binding} (L : Listed e used ws r to x slots₀ b₀) where
  pub list_there : 825 * r + 825 ≤ length ws
  list_there = let a = L.apart in let b = L.there in omega arith

  module _ {slots₁ : List ℕ} {b : List Binding} (T : TakenOut ws r e.vars used slots₀ slots₁ b₀ b) {y : State} (q : y ≡ head_in ws r x) where
    pub list_top : 1 ≤ y.top
    unfolding head_in
    list_top = let z = L.opened in rw q (some_one (entry_at ws (275 * r + 1)).at z)
      where
        some_one : (n : ℕ) → (n ≡ 0 → ⊥) → 1 ≤ n
        some_one n z = omega arith

    pub list_slotted : Slotted e.arg slots₁ (y.top - 1)
    unfolding head_in
    list_slotted = rw q (open_slotted e L.ruled used L.uses ws r x L.br L.kept L.opened slots₀ slots₁ b₀ b L.clean T)

    pub list_alone : Alone e.arg (y.top - 1)
    unfolding head_in
    list_alone = rw q (open_alone e L.ruled used L.uses ws r x L.br L.kept L.opened slots₀ slots₁ b₀ b L.clean T)

    module _ (slots₂ : List ℕ) (again : view_of e.arg slots₂ ≡ reopened (y.top - 1) (entry_at ws (275 * r + 1)) (entry_at ws (275 * r + 2)) (view_of e.arg slots₁)) where
      again_is : view_of e.arg slots₂ ≡ reopened ((entry_at ws (275 * r + 1)).at - 1) (entry_at ws (275 * r + 1)) (entry_at ws (275 * r + 2)) (view_of e.arg slots₁)
      unfolding head_in
      again_is = again ∙ ap (λ (v : State). reopened (v.top - 1) (entry_at ws (275 * r + 1)) (entry_at ws (275 * r + 2)) (view_of e.arg slots₁)) q

      pub list_named : Named e.op e.from e.arg slots₂
      list_named = open_named e L.ruled used L.uses ws r x L.br L.kept L.opened slots₀ slots₁ b₀ b L.clean T slots₂ again_is

      pub list_picks : PicksIf y.live e.op e.words y.top (view_of e.arg slots₂).ats (view_of e.arg slots₂).wholes (view_of e.arg slots₂).lefts
      list_picks = rw q (open_picks e L.ruled used L.uses ws r x L.br L.kept L.opened slots₀ slots₁ b₀ b L.clean T slots₂ again_is)

      module _ (z : State) (slots₃ : List ℕ) (is : turned z (view_of e.arg slots₃) ≡ settle_of e.op e.from e.to e.words y (view_of e.arg slots₂)) where
        settled_is : turned z (view_of e.arg slots₃) ≡ settle_of e.op e.from e.to e.words (head_in ws r x) (view_of e.arg slots₂)
        settled_is = is ∙ ap (λ (v : State). settle_of e.op e.from e.to e.words v (view_of e.arg slots₂)) q

        pub list_framed : Framed e.arg slots₃ z.top
        list_framed = rest_framed e L.ruled used L.uses ws r x L.br L.kept L.opened slots₀ slots₁ b₀ b L.clean T slots₂ again_is z slots₃ settled_is L.counts

        pub remained : {new : List ℤ} → Stored ws new to e.vars used z (view_of e.arg slots₃) slots₃ b → Remained e used ws new r to slots₀ slots₃ b₀ b
        remained {new} S = record {
          long = S.long;
          below = S.below;
          above = S.above;
          clean = λ R U br K C. (rest_left e R used U ws r x br K L.opened slots₀ slots₁ b₀ b C T slots₂ again_is z slots₃ settled_is L.counts).3.clean;
          rest = λ R U br K C. rest_kept e R used U ws r x br K L.opened slots₀ slots₁ b₀ b C T slots₂ again_is z slots₃ settled_is L.counts new to S;
        }

pub ruleset own_rules = (rules, head_is, entry_0, entry_1, entry_2, arith)
