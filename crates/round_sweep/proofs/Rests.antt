-- What is left of a list, as the code asks for it.
use Prim.Native.Nat.{ℕ, suc, ◌+◌, ◌*◌, ◌≤◌, ◌<◌}
use native.Mathlib.Omega.{arith}
use mathlib.Core.Path.{◌≡◌, refl, sym, ap, ◌∙◌, subst}
use mathlib.Core.Option.{some}
use mathlib.Core.List.{List, [], ◌∷◌}
use lib.ListN.{length}
use lib.IntN.{ℤ}
use Rattle.rules.specs.Search as paper
use Rattle.round_rules.specs.Rounds.{Branch, branch}
use Rattle.tables.specs.Slot.{view_of}
use Rattle.tables.specs.declared.slot.Held.{Held}
use Rattle.value_rows.specs.declared.Binding.{Binding}
use Rattle.search_machine.specs.Rep.{Rep, live}
use Rattle.search_atom.specs.Leaves.{when}
use Rattle.search_step.specs.declared.State.{State}
use Rattle.search.specs.Run.{Env}
use Rattle.search.specs.Meaning.{conf_of}
use Rattle.round_table.specs.Entries.{entry_at}
use Rattle.round_states.specs.Ruled.{Ruled}
use Rattle.round_states.specs.Standing.{Standing, Used, Kept}
use Rattle.round_states.specs.Counts.{choices_in, others_count}
use Rattle.round_states.specs.Nots.{chain_some}
use Rattle.round_states.specs.Table.{nth, Lists}
use Rattle.round_states.specs.Taking.{D, code, points}
use Rattle.search_rounds.specs.Remaining.{Listed, Remained}
use Rattle.round_sweep.specs.Rests.{Rests, Rested}

-- ---- Something is left of a list exactly where a frame is open.

module _ (e : Env) (R : Ruled e) {x : State} {slots : List ℕ} {b : List Binding} {br : Branch} (s : Standing e R x slots b br) where
  pub others_none : x.top ≡ 0 → br.others ≡ []
  unfolding choices_in when
  others_none z = empty br.others (sym (others_count e R x slots b br s) ∙ rw z)
    where
      empty : (ss : List paper.State) → length ss ≡ 0 → ss ≡ []
      empty [] h = refl
      empty (s ∷ ss) h = absurd (omega arith)

  pub others_some : (x.top ≡ 0 → ⊥) → (o : paper.State) × (rest : List paper.State) × (br.others ≡ o ∷ rest)
  unfolding conf_of
  others_some n = go s.rep
    where
      go : Rep (D e R) (code e R) (points e R) (some (conf_of e.dialect e.form e.words R.target_is x (view_of e.arg slots) b)) (br.first ∷ br.others)
          → (o : paper.State) × (rest : List paper.State) × (br.others ≡ o ∷ rest)
      go (live l a ch) = chain_some (D e R) (code e R) (points e R) ch n

-- ---- As the code has it.

module _ {e : Env} {used : ℕ} {ws : List ℤ} {i to : ℕ} {x : State} {slots₀ : List ℕ} {b₀ : List Binding} (P : Rests e used ws i to x slots₀ b₀) (h : Held) (q : h ≡ entry_at ws (i * 275 + 1)) where
  here : h.at ≡ (entry_at ws (275 * i + 1)).at
  here = let z : i * 275 + 1 ≡ 275 * i + 1 = omega arith in ap (λ (y : Held). y.at) (q ∙ ap (entry_at ws) z)

  pub rest_none : h.at ≡ 0 → Rested e used ws ws i to 0 slots₀ slots₀ b₀ b₀
  rest_none z = record {
    long = refl;
    below = λ k l. refl;
    few = omega arith;
    clean = λ R U br K C. C;
    count = λ R U br K. subst (λ ss. 0 ≡ length (branch ss)) (sym (none R br K)) (unfold branch in refl);
    lists = λ R U br K C. subst (λ ss. Lists e R used U ws to (branch ss)) (sym (none R br K)) (unfold Lists branch in tt);
  }
    where
      none : (R : Ruled e) (br : Branch) → Kept e R used (nth e R ws i) br → br.others ≡ []
      none R br K = others_none e R K.stands (sym K.top ∙ sym here ∙ z)

  module _ (n : h.at ≡ 0 → ⊥) where
    some_left : (R : Ruled e) (br : Branch) → Kept e R used (nth e R ws i) br → (o : paper.State) × (rest : List paper.State) × (br.others ≡ o ∷ rest)
    some_left R br K = others_some e R K.stands (λ z. n (here ∙ K.top ∙ z))

    pub rest_listed : Listed e used ws i to x slots₀ b₀
    rest_listed = record {
      ruled = P.ruled;
      uses = P.uses;
      br = P.br;
      kept = P.kept;
      opened = λ z. n (here ∙ z);
      clean = P.clean;
      apart = P.apart;
      there = P.there (λ z. let s = some_left P.ruled P.br P.kept in let y = ap length (sym z ∙ s.2) in omega arith);
      counts = P.counts;
    }

    pub rest_some : (new : List ℤ) (slots : List ℕ) (b : List Binding) → Remained e used ws new i to slots₀ slots b₀ b → Rested e used ws new i to 1 slots₀ slots b₀ b
    rest_some new slots b r = record {
      long = r.long;
      below = r.below;
      few = omega arith;
      clean = r.clean;
      count = λ R U br K. subst (λ ss. 1 ≡ length (branch ss)) (sym (some_left R br K).2) (unfold branch in refl);
      lists = λ R U br K C. let s = r.rest R U br K C in subst (λ ss. Lists e R used U new to (branch ss)) (sym s.2) (unfold Lists branch in (s.3, tt));
    }
