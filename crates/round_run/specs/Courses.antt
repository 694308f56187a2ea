-- Rounds, from what the run begins with to what has come of it, whatever run they are part of.
use Rattle.std.specs.Prelude.{ℕ, ◌≤◌, ◌<◌, ◌≡◌, Some, None, List, length, ℤ}
use Rattle.rules.specs.Search as paper
use Rattle.rules.specs.Search.{stopped}
use Rattle.tables.specs.Slot.{view_of}
use Rattle.value_rows.specs.declared.Binding.{Binding}
use Rattle.search_step.specs.declared.State.{State}
use Rattle.search.specs.Run.{Env, run}
use Rattle.search.specs.Stops.{number_of}
use Rattle.search.specs.declared.stop.Stop.{Stop}
use Rattle.search.proofs.Whole as whole
use Rattle.round_states.specs.Ruled.{Ruled}
use Rattle.round_states.specs.Standing.{Clean, Used}
use Rattle.round_states.specs.Taking.{Far}
use Rattle.round_states.specs.Rounding.{Rounding}
use Rattle.round_run.specs.declared.rounds.Round.{Round}

-- The rule and the target, the whole run, the states that the table may hold, and the room as it was lent.
pub record Journey (e : Env) (used : ℕ) : Type 0 where
  pub ruled : Ruled e
  pub uses : Used e ruled used
  pub whole : paper.Run
  pub limit : ℕ
  pub base : List ℤ

unfoldable pub halted_at : State → List Binding → (by : Stop) → Round
halted_at x b by = record { state = x; binds = b; many = 0; waiting = 0; stop = Some by }

-- Between two rounds, or the run has ended.
pub record Onward (e : Env) (used : ℕ) (J : Journey e used) (budget : ℕ) (r : Round) (ws : List ℤ) (slots : List ℕ) (room : List ℤ) : Type 0 where
  pub clean : Clean e J.ruled slots r.binds
  pub words : r.state.words ≤ length room
  pub counts : r.state.rows ≤ r.state.steps
  pub most : r.state.steps ≤ budget
  pub kept : whole.Kept J.base (run r.state (view_of e.arg slots) r.binds room)
  pub rounds : ℕ
  pub goes : r.stop ≡ None → Rounding e J.ruled used J.uses J.whole rounds J.limit budget ws r.many r.waiting r.state room
  pub stops : (r.stop ≡ None → ⊥) → Far J.whole r.state room (stopped (number_of r.stop) 0)

-- ---- One round.

pub record Begins (e : Env) (used budget : ℕ) (r : Round) (ws : List ℤ) (slots : List ℕ) (room : List ℤ) : Type 0 where
  pub journey : Journey e used
  pub onward : Onward e used journey budget r ws slots room
  pub going : r.stop ≡ None
  pub some : r.many ≡ 0 → ⊥
  pub steps : r.state.steps < budget
  pub waits : r.waiting ≤ journey.limit
  pub small : journey.limit ≤ 256

pub record Rounded (e : Env) (used budget : ℕ) (r₀ : Round) (ws₀ : List ℤ) (slots₀ : List ℕ) (room₀ : List ℤ) (r : Round) (ws : List ℤ) (slots : List ℕ) (room : List ℤ) : Type 0 where
  pub long : length ws ≡ length ws₀
  pub later : r.stop ≡ None → r₀.state.steps < r.state.steps
  pub onward : (J : Journey e used) → Onward e used J budget r₀ ws₀ slots₀ room₀ → r₀.waiting ≤ J.limit → Onward e used J budget r ws slots room

-- ---- All rounds.

pub record Starts (e : Env) (used budget limit : ℕ) (r : Round) (ws : List ℤ) (slots : List ℕ) (room : List ℤ) : Type 0 where
  pub journey : Journey e used
  pub onward : Onward e used journey budget r ws slots room
  pub limited : journey.limit ≡ limit
  pub small : limit ≤ 256
  pub going : r.stop ≡ None

-- The run has ended, with this answer.
pub record Ended (e : Env) (used : ℕ) (J : Journey e used) (r : Round) (slots : List ℕ) (room : List ℤ) : Type 0 where
  pub words : r.state.words ≤ length room
  pub kept : whole.Kept J.base (run r.state (view_of e.arg slots) r.binds room)
  pub far : Far J.whole r.state room (stopped (number_of r.stop) 0)

pub record Arrived (e : Env) (used budget limit : ℕ) (r₀ : Round) (ws₀ : List ℤ) (slots₀ : List ℕ) (room₀ : List ℤ) (r : Round) (ws : List ℤ) (slots : List ℕ) (room : List ℤ) : Type 0 where
  pub long : length ws ≡ length ws₀
  pub ended : (J : Journey e used) → J.limit ≡ limit → Onward e used J budget r₀ ws₀ slots₀ room₀ → Ended e used J r slots room
