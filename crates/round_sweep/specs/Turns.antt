-- A round, list after list: from what it begins with to what has come of it, whatever run it is part of.
use Rattle.std.specs.Prelude.{ℕ, suc, ◌+◌, ◌-◌, ◌*◌, ◌≤◌, ◌<◌, ◌≡◌, Bool, Some, None, List, [], ◌∷◌, length, ℤ}
use Rattle.rules.specs.Search as paper
use Rattle.rules.specs.Search.{stopped}
use Rattle.round_rules.specs.Rounds.{Branch}
use Rattle.tables.specs.Slot.{view_of}
use Rattle.value_rows.specs.declared.Binding.{Binding}
use Rattle.search_step.specs.declared.State.{State}
use Rattle.search.specs.Run.{Env, run}
use Rattle.search.specs.Stops.{number_of}
use Rattle.search.specs.declared.stop.Stop.{Stop}
use Rattle.search.proofs.Whole as whole
use Rattle.round_table.specs.Entries.{entry_at}
use Rattle.round_states.specs.Ruled.{Ruled}
use Rattle.round_states.specs.Standing.{Clean, Used, Kept}
use Rattle.round_states.specs.Table.{nth}
use Rattle.round_states.specs.Taking.{Far}
use Rattle.round_states.specs.Outcomes.{Next, Outcome}
use Rattle.round_states.specs.Sweeps.{Sweeping}
use Rattle.search_rounds.specs.declared.first.Taken.{Taken}
use Rattle.round_sweep.specs.declared.turn.Sweep.{Sweep}

-- The run that a round is part of: the rule and the target, the whole run, the rounds that may come after, the states that the table may hold, the room as it
-- was lent, and the steps before the round.
pub record Course (e : Env) (used : ℕ) : Type 0 where
  pub ruled : Ruled e
  pub uses : Used e ruled used
  pub whole : paper.Run
  pub rounds : ℕ
  pub limit : ℕ
  pub base : List ℤ
  pub before : ℕ

-- The run has ended.
unfoldable pub stopped_at : State → List Binding → (by : Stop) → Sweep
stopped_at x b by = record { state = x; binds = b; fresh = 0; left = 0; waiting = 0; stop = Some by }

-- i lists of a round are done, or the run has ended.
pub record Swept (e : Env) (used : ℕ) (C : Course e used) (budget many i : ℕ) (w : Sweep) (ws : List ℤ) (slots : List ℕ) (room : List ℤ) : Type 0 where
  pub clean : Clean e C.ruled slots w.binds
  pub words : w.state.words ≤ length room
  pub counts : w.state.rows ≤ w.state.steps
  pub most : w.state.steps ≤ budget
  pub kept : whole.Kept C.base (run w.state (view_of e.arg slots) w.binds room)
  pub few : w.waiting ≤ C.limit + 65 * i
  pub later : w.stop ≡ None → C.before + i ≤ w.state.steps
  pub goes : w.stop ≡ None → Sweeping e C.ruled used C.uses C.whole C.rounds C.limit budget many ws i w.fresh w.left w.waiting w.state room
  pub stops : (w.stop ≡ None → ⊥) → Far C.whole w.state room (stopped (number_of w.stop) 0)

-- ---- What follows from the first state of a list.

-- The first state of the i-th list has been taken up, and its remainder is kept: what comes of it goes on to the next list.
pub record Midway (e : Env) (used : ℕ) (C : Course e used) (budget many i fresh left wait : ℕ) (t : Taken) (ws : List ℤ) (slots : List ℕ) (room : List ℤ) : Type 0 where
  pub next : Next e C.ruled
  pub outcome : Outcome e C.ruled C.whole budget next C.base t.spent t.state slots t.binds room
  pub place : 825 * fresh + 825 ≤ length ws
  pub early : fresh ≤ i
  pub few : wait ≤ C.limit + 65 * i
  pub one : 1 ≤ wait
  pub later : C.before + suc i ≤ t.state.steps
  pub none : Far C.whole t.state room (next (budget - t.state.steps) [] (length room - t.state.words))
      → Sweeping e C.ruled used C.uses C.whole C.rounds C.limit budget many ws (suc i) fresh left (wait - 1) t.state room
  pub some : (br : Branch) → Far C.whole t.state room (next (budget - t.state.steps) (br.first ∷ br.others) (length room - t.state.words))
      → (new : List ℤ) → length new ≡ length ws → ((k : ℕ) → k < 275 * fresh → entry_at new k ≡ entry_at ws k) → ((k : ℕ) → 275 * fresh + 275 ≤ k → entry_at new k ≡ entry_at ws k)
      → Kept e C.ruled used (nth e C.ruled new fresh) br
      → Sweeping e C.ruled used C.uses C.whole C.rounds C.limit budget many new (suc i) (suc fresh) left (wait + length br.others) t.state room

pub record Following (e : Env) (used : ℕ) (t : Taken) (fresh left wait : ℕ) (ws : List ℤ) (slots : List ℕ) : Type 0 where
  pub course : Course e used
  pub budget : ℕ
  pub many : ℕ
  pub i : ℕ
  pub room : List ℤ
  pub mid : Midway e used course budget many i fresh left wait t ws slots room
  pub small : course.limit ≤ 256
  pub index : i ≤ 256

pub record Followed (e : Env) (used : ℕ) (t : Taken) (fresh left wait : ℕ) (old new : List ℤ) (slots : List ℕ) (w : Sweep) : Type 0 where
  pub long : length new ≡ length old
  pub swept : (C : Course e used) (budget many i : ℕ) (room : List ℤ) → Midway e used C budget many i fresh left wait t old slots room → Swept e used C budget many (suc i) w new slots room

-- ---- One list.

pub record Turning (e : Env) (used budget many i : ℕ) (w : Sweep) (ws : List ℤ) (slots : List ℕ) (room : List ℤ) : Type 0 where
  pub course : Course e used
  pub swept : Swept e used course budget many i w ws slots room
  pub going : w.stop ≡ None
  pub small : course.limit ≤ 256
  pub inside : i < many
  pub most : many ≤ 256

-- Its first state has been taken up, and `more` lists are kept for its remainder, one or none.
pub record GivenUp (e : Env) (used budget many i : ℕ) (w : Sweep) (ws₀ : List ℤ) (slots₀ : List ℕ) (room₀ : List ℤ) (t : Taken) (more : ℕ) (ws : List ℤ) (slots : List ℕ) (room : List ℤ) : Type 0 where
  pub long : length ws ≡ length ws₀
  pub few : more ≤ 1
  pub midway : (C : Course e used) → Swept e used C budget many i w ws₀ slots₀ room₀ → Midway e used C budget many i w.fresh (w.left + more) w.waiting t ws slots room

pub record Turned (e : Env) (used budget many i : ℕ) (w₀ : Sweep) (ws₀ : List ℤ) (slots₀ : List ℕ) (room₀ : List ℤ) (w : Sweep) (ws : List ℤ) (slots : List ℕ) (room : List ℤ) : Type 0 where
  pub long : length ws ≡ length ws₀
  pub swept : (C : Course e used) → Swept e used C budget many i w₀ ws₀ slots₀ room₀ → Swept e used C budget many (suc i) w ws slots room

-- ---- All lists.

pub record Sweeps (e : Env) (used budget many : ℕ) (w : Sweep) (ws : List ℤ) (slots : List ℕ) (room : List ℤ) : Type 0 where
  pub course : Course e used
  pub swept : Swept e used course budget many 0 w ws slots room
  pub small : course.limit ≤ 256
  pub most : many ≤ 256

pub record SweptBy (e : Env) (used budget many : ℕ) (w₀ : Sweep) (ws₀ : List ℤ) (slots₀ : List ℕ) (room₀ : List ℤ) (w : Sweep) (ws : List ℤ) (slots : List ℕ) (room : List ℤ) : Type 0 where
  pub long : length ws ≡ length ws₀
  pub swept : (C : Course e used) → Swept e used C budget many 0 w₀ ws₀ slots₀ room₀ → Swept e used C budget many many w ws slots room
