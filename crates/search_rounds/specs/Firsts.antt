-- The first state of a list of the table, taken up.
use Rattle.std.specs.Prelude.{ℕ, suc, ◌+◌, ◌-◌, ◌*◌, ◌≤◌, ◌<◌, ◌≡◌, Bool, List, length, ℤ}
use Rattle.rules.specs.Search as paper
use Rattle.round_rules.specs.Rounds.{Branch, take_up}
use Rattle.tables.specs.Slot.{view_of}
use Rattle.value_rows.specs.declared.Binding.{Binding}
use Rattle.search_step.specs.declared.State.{State}
use Rattle.search.specs.Run.{Env, run}
use Rattle.search.proofs.Whole as whole
use Rattle.round_table.specs.Entries.{entry_at}
use Rattle.round_states.specs.Ruled.{Ruled}
use Rattle.round_states.specs.Standing.{Clean, Used, Kept}
use Rattle.round_states.specs.Table.{nth}
use Rattle.round_states.specs.Taking.{Far}
use Rattle.round_states.specs.Outcomes.{Next, Going, Outcome}

-- The first state of the r-th list, alone.
unfoldable pub alone_in : List ℤ → ℕ → State → State
alone_in ws r x = record {
  pc = (entry_at ws (275 * r + 2)).at;
  at = (entry_at ws (275 * r)).at;
  marks = (entry_at ws (275 * r)).marks;
  top = 0;
  live = 1;
  rows = x.rows;
  steps = x.steps;
  words = x.words;
}

-- A search inside a not that may go on.
pub record Inside (e : Env) (budget : ℕ) (x : State) (slots : List ℕ) (b : List Binding) (room : List ℤ) : Type 0 where
  pub ruled : Ruled e
  pub run : paper.Run
  pub next : Next e ruled
  pub base : List ℤ
  pub going : Going e ruled run budget next base x slots b room

-- Whatever run it is part of: what has come of it.
unfoldable pub LeftBy : (e : Env) (budget : ℕ) → State → List ℕ → List Binding → List ℤ → Bool → State → List ℕ → List Binding → List ℤ → Type 0
LeftBy e budget x₀ slots₀ b₀ room₀ spent x slots b room =
    (R : Ruled e) (F : paper.Run) (next : Next e R) (base : List ℤ) → Going e R F budget next base x₀ slots₀ b₀ room₀ → Outcome e R F budget next base spent x slots b room

-- The r-th list of the table stands for br, and its first state can be taken up.
pub record Firsts (e : Env) (used : ℕ) (ws : List ℤ) (r budget : ℕ) (x : State) (slots : List ℕ) (b : List Binding) (room : List ℤ) : Type 0 where
  pub ruled : Ruled e
  pub uses : Used e ruled used
  pub br : Branch
  pub kept : Kept e ruled used (nth e ruled ws r) br
  pub clean : Clean e ruled slots b
  pub there : 825 * r + 825 ≤ length ws
  pub words : x.words ≤ length room
  pub counts : x.rows ≤ x.steps
  pub steps : x.steps < budget

-- Whatever list it stood for and whatever run it is part of: what has come of it.
unfoldable pub TookBy : (e : Env) (used : ℕ) → List ℤ → (r budget : ℕ) → State → List ℕ → List Binding → List ℤ → Bool → State → List ℕ → List Binding → List ℤ → Type 0
TookBy e used ws r budget x₀ slots₀ b₀ room₀ spent x slots b room =
    (R : Ruled e) → Used e R used → (br : Branch) → Kept e R used (nth e R ws r) br → Clean e R slots₀ b₀ → (F : paper.Run) (next : Next e R) (base : List ℤ)
    → whole.Kept base (run x₀ (view_of e.arg slots₀) b₀ room₀) → Far F x₀ room₀ (take_up e.dialect e.form (budget - suc x₀.steps) br.first (length room₀ - x₀.words) next)
    → Outcome e R F budget next base spent x slots b room
