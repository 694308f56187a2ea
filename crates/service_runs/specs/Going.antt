-- An advance of a run in which a state stands.
use Rattle.std.specs.Prelude.{ℕ, ◌≡◌, Option, Some, None, List, length, ℤ}
use Rattle.program_rules.specs.Lines.{lines_of, laid}
use Rattle.program_rules.specs.Slots.{numbered}
use Rattle.program_rules.specs.Link.{ops_in, bindings_in, linked_in}
use Rattle.tables.specs.Line.{Columns, columns_of, no_lines}
use Rattle.tables.specs.Slot.{view_of}
use Rattle.value_rows.specs.declared.Binding.{Binding}
use Rattle.search_step.specs.declared.State.{State}
use Rattle.services.specs.Picks.{form_in, dialect_in}
use Rattle.search.specs.declared.Progress.{Progress}
use Rattle.search.specs.Run.{Env, env_with, Run, run, run_of}
use Rattle.search.specs.Valid.{Valid}
use Rattle.run_rules.specs.Lent.{Terms, allowed}
use Rattle.service_runs.specs.declared.going.Picks.{Picks}

-- What the opening was told.
abbrev pub terms_by : Picks → Terms
terms_by k = record { form = form_in k.form; dialect = dialect_in k.dialect }

-- From the run r, by n steps: the run that is left, or none. A run that is valid is sound, and goes on.
pub record Tries (e : Env) (n : ℕ) (r : Run) (next : Option Progress) (slots' : List ℕ) (room' : List ℤ) : Type 0 where
  pub went : (p : Progress) → next ≡ Some p → run p.state (view_of e.arg slots') p.binds room' ≡ run_of e n r
  pub kept : next ≡ None → Valid e r → ⊥

-- The slots of a run that is not sound, and the room, stay as they were.
pub record Still (next : Option Progress) (slots slots' : List ℕ) (room room' : List ℤ) : Type 0 where
  pub slots_stay : next ≡ None → slots' ≡ slots
  pub room_stays : next ≡ None → room' ≡ room

-- The lines of a rule, laid where there was none, and what does not change in a run over them.
unfoldable pub lines_in : (ms ps : List ℤ) → Columns
unfolding columns_of numbered
lines_in ms ps = linked_in (length (lines_of ms ps)) (numbered (length (lines_of ms ps)) (laid 0 (lines_of ms ps) (columns_of no_lines)))

unfoldable pub env_in : Terms → (ms ps ts : List ℤ) → Env
unfolding lines_in
env_in t ms ps ts = env_with t.dialect (lines_in ms ps) ms ts (bindings_in (ops_in (lines_in ms ps).op 0 (length (lines_of ms ps)))) t.form

-- The run that the numbers are, over the slots of a rule's lines.
unfoldable pub run_in : (ms ps : List ℤ) → State → (slots : List ℕ) → List Binding → (room : List ℤ) → Run
unfolding lines_in
run_in ms ps x slots b room = run x (view_of (lines_in ms ps).arg slots) b room

-- By a portion of n steps.
pub record Carries (t : Terms) (ms ps ts : List ℤ) (n : ℕ) (x : State) (slots : List ℕ) (b : List Binding) (room : List ℤ) (next : Option Progress) (slots' : List ℕ) (room' : List ℤ) : Type 0 where
  pub tries : Tries (env_in t ms ps ts) (allowed n x.steps) (run_in ms ps x slots b room) next slots' room'
  pub still : Still next slots slots' room room'
