-- What is left of a list of the table that gives up its first state.
use Rattle.std.specs.Prelude.{ℕ, ◌+◌, ◌*◌, ◌≤◌, ◌<◌, ◌≡◌, List, [], length, ℤ}
use Rattle.round_rules.specs.Rounds.{Branch, branch}
use Rattle.value_rows.specs.declared.Binding.{Binding}
use Rattle.search_step.specs.declared.State.{State}
use Rattle.search.specs.Run.{Env}
use Rattle.round_table.specs.Entries.{entry_at}
use Rattle.round_states.specs.Ruled.{Ruled}
use Rattle.round_states.specs.Standing.{Clean, Used, Kept}
use Rattle.round_states.specs.Table.{nth, Lists}

-- The i-th list of the table stands for br, and where something is left of it there is a place for that.
pub record Rests (e : Env) (used : ℕ) (ws : List ℤ) (i to : ℕ) (x : State) (slots : List ℕ) (b : List Binding) : Type 0 where
  pub ruled : Ruled e
  pub uses : Used e ruled used
  pub br : Branch
  pub kept : Kept e ruled used (nth e ruled ws i) br
  pub clean : Clean e ruled slots b
  pub apart : i < to
  pub here : 825 * i + 825 ≤ length ws
  pub there : (br.others ≡ [] → ⊥) → 825 * to + 825 ≤ length ws
  pub counts : x.rows ≤ x.steps

-- For every list that the i-th stood for: `more` lists are kept for its remainder, one or none, and no list before them changes.
pub record Rested (e : Env) (used : ℕ) (old new : List ℤ) (i to more : ℕ) (slots₀ slots : List ℕ) (b₀ b : List Binding) : Type 0 where
  pub long : length new ≡ length old
  pub below : (k : ℕ) → k < 275 * to → entry_at new k ≡ entry_at old k
  pub few : more ≤ 1
  pub clean : (R : Ruled e) → Used e R used → (br : Branch) → Kept e R used (nth e R old i) br → Clean e R slots₀ b₀ → Clean e R slots b
  pub count : (R : Ruled e) → Used e R used → (br : Branch) → Kept e R used (nth e R old i) br → more ≡ length (branch br.others)
  pub lists : (R : Ruled e) (U : Used e R used) (br : Branch) → Kept e R used (nth e R old i) br → Clean e R slots₀ b₀ → Lists e R used U new to (branch br.others)
