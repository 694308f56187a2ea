-- Document 01, section 4, the run on numbers and lists as the code goes about it: the next choice is taken wherever no state stands, and states are
-- taken up while the budget lasts.
use Rattle.std.specs.Prelude.{ℕ, zero, suc, ◌+◌, ◌-◌, Bool, false, List, length, get_or, set, eqb, ltb, ℤ, pos}
use Rattle.rules.specs.Dialects.{Dialect, every_place, first_places}
use Rattle.rules.specs.Rows.{Form, row}
use Rattle.rules.specs.Services.{Matched}
use Rattle.value_places.specs.Held.{put}
use Rattle.value_rows.specs.Row.{bound, nothing}
use Rattle.value_equality.specs.Equality.{equal_at, is_sum}
use Rattle.value_firsts.specs.Firsts.{firsts_at}
use Rattle.value_rows.specs.declared.Binding.{Binding}
use Rattle.tables.specs.declared.line.Line.{Line}
use Rattle.tables.specs.Line.{Columns}
use Rattle.program_rules.specs.Lines.{line}
use Rattle.search_step.specs.declared.State.{State}
use Rattle.search_atom.specs.Leaves.{when}
use Rattle.tables.specs.Slot.{Tables}
use Rattle.search_step.specs.Steps.{Turned, counted, dropped}
use Rattle.search.specs.Plain.{step_of}
use Rattle.search_choice.specs.Choices.{pick_of}

-- What does not change: the dialect, the program, the matcher's words, the target's words, how many variables there are, the form of a row.
pub record Env : Type 0 where
  pub dialect : Dialect
  pub op : List ℕ
  pub from : List ℕ
  pub to : List ℕ
  pub arg : List ℕ
  pub mat : List ℕ
  pub con : List ℤ
  pub matcher : List ℤ
  pub words : List ℤ
  pub vars : ℕ
  pub form : Form

abbrev pub env : Dialect → (op from to arg mat : List ℕ) → (con matcher words : List ℤ) → (vars : ℕ) → Form → Env
env dialect op from to arg mat con mt s n form = record { dialect = dialect; op = op; from = from; to = to; arg = arg; mat = mat; con = con; matcher = mt; words = s; vars = n; form = form }

-- The program as the table of lines has it.
abbrev pub env_with : Dialect → Columns → (matcher words : List ℤ) → (vars : ℕ) → Form → Env
env_with dialect t mt s n form = env dialect t.op t.from t.to t.arg t.mat t.con mt s n form

-- Dialect 1.
abbrev pub env_of : Columns → (matcher words : List ℤ) → (vars : ℕ) → Form → Env
env_of t mt s n form = env_with every_place t mt s n form

pub record Run : Type 0 where
  pub state : State
  pub tables : Tables
  pub binds : List Binding
  pub room : List ℤ

abbrev pub run : State → Tables → List Binding → List ℤ → Run
run x t b room = record { state = x; tables = t; binds = b; room = room }

-- Whether a state is taken up: one stands, and the budget is not used up.
unfoldable pub goes_on : State → (budget : ℕ) → Bool
unfolding when
goes_on x n = when (eqb x.live 1) (ltb x.steps n) false

-- The value of its first atom.
unfoldable pub value_of : State → Binding
value_of x = record { at = x.at; marks = x.marks }

-- ---- The row of a state with no atom left: a row that does not fit is not begun.

unfoldable pub filled : State → State
filled x = record { pc = x.pc; at = x.at; marks = x.marks; top = x.top; live = 3; rows = x.rows; steps = x.steps + 1; words = x.words }

unfoldable pub wrote_to : State → (end : ℕ) → State
wrote_to x n = record { pc = x.pc; at = x.at; marks = x.marks; top = x.top; live = 2; rows = x.rows + 1; steps = x.steps + 1; words = n }

unfoldable pub wrote : State → ℕ → State
wrote x n = record { pc = x.pc; at = x.at; marks = x.marks; top = x.top; live = 2; rows = x.rows + 1; steps = x.steps + 1; words = x.words + n }

pub record Ended : Type 0 where
  pub state : State
  pub room : List ℤ

abbrev pub ended : State → List ℤ → Ended
ended x room = record { state = x; room = room }

unfoldable pub end_by : List ℤ → State → List ℤ → Ended
unfolding when filled wrote
end_by ws x room = when (ltb (length room - x.words) (length ws)) (ended (filled x) room) (ended (wrote x (length ws)) (put room x.words ws))

unfoldable pub end_of : Form → List ℤ → ℕ → State → List Binding → List ℤ → Ended
unfolding end_by
end_of form s n x b room = end_by (row form (bound s b n)) x room

-- ---- What tag 3 asks: 5 under integer, 6 under another matcher.

unfoldable pub ask_of : ℕ → List ℤ → ℕ → ℤ → List ℤ → Binding → ℕ → ℕ → Bool
unfolding when
ask_of o mt i c s g at m =
    when (eqb o 5) (is_sum s g.at c at) (when (eqb o 6) (equal_at mt i s g.at g.marks at m) false)

-- ---- The places that a cons under a multiset, 9, chooses from: the element matcher stands after the multiset's tag.

unfoldable pub choices_in : Dialect → (o : ℕ) → List ℤ → (i : ℕ) → List ℤ → (at m : ℕ) → ℕ
unfolding when firsts_at
choices_in every_place o mt i s at m = m
choices_in first_places o mt i s at m = when (eqb o 9) (when (ltb i (length mt)) (firsts_at mt (i + 1) s at m) m) m

-- ---- One state taken up.

-- The program's line at a place.
unfoldable pub line_at : Env → ℕ → Line
line_at e pc = line (get_or e.op pc 0) (get_or e.from pc 0) (get_or e.arg pc 0) (get_or e.mat pc 0) (get_or e.con pc (pos 0))

unfoldable pub bound_at : Env → ℕ → List Binding → Binding
bound_at e pc b = get_or b (get_or e.arg pc 0) nothing

unfoldable pub asked : Env → Run → Bool
unfolding ask_of bound_at
asked e r =
    ask_of (get_or e.op r.state.pc 0) e.matcher (get_or e.mat r.state.pc 0) (get_or e.con r.state.pc (pos 0)) e.words
    (bound_at e r.state.pc r.binds) r.state.at r.state.marks

unfoldable pub choices_of : Env → Run → ℕ
unfolding choices_in
choices_of e r = choices_in e.dialect (get_or e.op r.state.pc 0) e.matcher (get_or e.mat r.state.pc 0) e.words r.state.at r.state.marks

-- After a step; after the row.
unfoldable pub after_turn : Turned → List Binding → List ℤ → Run
after_turn u b room = run u.state u.tables b room

unfoldable pub after_end : Ended → Tables → List Binding → Run
after_end u t b = run u.state t b u.room

unfoldable pub take_end : Env → Run → Run
unfolding end_of after_end
take_end e r = after_end (end_of e.form e.words e.vars r.state r.binds r.room) r.tables r.binds

unfoldable pub take_bind : Env → Run → Run
take_bind e r =
    run (dropped e.from e.to r.tables.ats r.tables.backs (counted r.state)) r.tables
    (set r.binds (get_or e.arg r.state.pc 0) (record { at = r.state.at; marks = r.state.marks })) r.room

unfoldable pub take_step : Env → Run → Run
unfolding asked choices_of after_turn
take_step e r = after_turn (step_of e.op e.from e.to e.con e.words (asked e r) (choices_of e r) r.state r.tables) r.binds r.room

unfoldable pub take_of : Env → Run → Run
unfolding when take_end take_bind take_step
take_of e r = when (eqb (get_or e.op r.state.pc 0) 0) (take_end e r) (when (eqb (get_or e.op r.state.pc 0) 3) (take_bind e r) (take_step e r))

-- ---- The run.

unfoldable pub settled : Env → Run → Run
unfolding when after_turn
settled e r = when (eqb r.state.live 2) (after_turn (pick_of e.op e.from e.to e.words r.state r.tables) r.binds r.room) r

unfoldable pub run_of : Env → ℕ → Run → Run
unfolding when settled take_of
run_of e zero r = r
run_of e (suc n) r = when (eqb r.state.live 1) (run_of e n (settled e (take_of e r))) r

-- ---- Before the first step, and what is told after the last.

unfoldable pub opening : (at marks : ℕ) → State
opening at m = record { pc = 0; at = at; marks = m; top = 0; live = 1; rows = 0; steps = 0; words = 0 }

-- The answers of section 3 by `live`: 8 full, 0 done, else 7 budget.
unfoldable pub answer_of : (live : ℕ) → ℕ
unfolding when
answer_of n = when (eqb n 3) 8 (when (eqb n 0) 0 7)

-- Told with the room as it is left; a run has no place and no cause.
unfoldable pub matched : (answer rows steps words : ℕ) → List ℤ → Matched
matched answer rows steps words room = record { answer = answer; place = 0; rows = rows; steps = steps; words = words; cause = 0; room = room }

unfoldable pub told : Run → Matched
unfolding matched answer_of
told r = matched (answer_of r.state.live) r.state.rows r.state.steps r.state.words r.room
