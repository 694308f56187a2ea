-- What keeps a run safe: a table of facts about each entry by itself. A step keeps it, so no run reads or writes outside its tables, whatever it stands for.
use Rattle.std.specs.Prelude.{ℕ, suc, ◌+◌, ◌-◌, ◌^◌, ◌≤◌, ◌<◌, ◌≡◌, List, length, get_or, ℤ}
use Rattle.words.specs.Words.{entries}
use Rattle.value_places.specs.Places.{Target}
use Rattle.value_places.specs.Tables.{Placed}
use Rattle.value_places.specs.Held.{Held}
use Rattle.value_rows.specs.Row.{Bound}
use Rattle.value_rows.specs.declared.Binding.{Binding}
use Rattle.search_step.specs.declared.State.{State}
use Rattle.tables.specs.Slot.{slot_count, Tables, Alone}
use Rattle.search_choice.specs.Choices.{Picks}
use Rattle.search.specs.Run.{Env, Run}

-- The program: the lines that it names, its slots and its variables are in range, and its last line is an end. A tuple's parts wait at its own line and at
-- those after it that are reserved, where no choice is made; and the program goes on after them. A line where a value waits has a slot of its own.
pub record Fine (e : Env) : Type 0 where
  pub last : get_or e.op (entries - 1) 0 ≡ 0
  pub slots : (i : ℕ) → i < entries → get_or e.from i 0 < entries
  pub places : (i : ℕ) → i < entries → get_or e.to i 0 < entries
  pub numbers : (i : ℕ) → i < entries → 1 < get_or e.op i 0 → get_or e.op i 0 < 8 → get_or e.arg i 0 < 16
  pub few : e.vars ≤ 16
  pub parts : (i : ℕ) → i < entries → 10 < get_or e.op i 0 → get_or e.op i 0 < 14 → i + (get_or e.op i 0 - 10) < entries
  pub reserved : (i k : ℕ) → 0 < k → 11 + k ≤ get_or e.op i 0 → get_or e.op i 0 ≤ 13 → get_or e.op (i + k) 0 ≡ 1
  pub constants : (i : ℕ) → i < entries → i < length e.con
  pub slot : (i : ℕ) → get_or e.arg i 0 < slot_count
  pub alone : (i : ℕ) → i < entries → 7 < get_or e.op i 0 → get_or e.op i 0 < 17 → Alone e.arg i
  pub each : (i : ℕ) → i < entries → 10 < get_or e.op i 0 → get_or e.op i 0 < 14 → (k : ℕ) → k < get_or e.op i 0 - 10 → Alone e.arg (i + k)

-- The tables have a slot for each instruction.
pub record Long (t : Tables) : Type 0 where
  pub ats : length t.ats ≡ entries
  pub wholes : length t.wholes ≡ entries
  pub lefts : length t.lefts ≡ entries
  pub lows : length t.lows ≡ entries
  pub backs : length t.backs ≡ entries

-- The last open frame, and the one that each slot has below it, are frames from which a choice can be taken.
pub record Open (op : List ℕ) (s : List ℤ) (top : ℕ) (t : Tables) : Type 0 where
  pub last : Picks op s top t.ats t.wholes t.lefts
  pub below : (i : ℕ) → i < entries → Picks op s (get_or t.lows i 0) t.ats t.wholes t.lefts

-- What waits in a slot is held. While the next choice is to be taken, the last open frame's slot is about to be written, if it is a cons or a join.
pub record Waits (op : List ℕ) (s : List ℤ) (live top : ℕ) (t : Tables) : Type 0 where
  pub held : (j : ℕ) → j < entries → (live ≡ 2 → top ≡ suc j → get_or op j 0 < 11 → ⊥) → Held s (get_or t.ats j 0) (get_or t.backs j 0)

pub record Valid (e : Env) (r : Run) : Type 0 where
  pub place : r.state.pc < entries
  pub held : Held e.words r.state.at r.state.marks
  pub frames : Open e.op e.words r.state.top r.tables
  pub waits : Waits e.op e.words r.state.live r.state.top r.tables
  pub binds : Bound e.words r.binds 16
  pub room : r.state.words ≤ length r.room
  pub counts : r.state.rows ≤ r.state.steps
  pub long : Long r.tables

-- ---- What the code asks at each place.

-- The target, and the table of its places.
pub record Given (s : List ℤ) (places : List ℕ) : Type 0 where
  pub target : Target s
  pub placed : Placed s places

-- A row: its values are held, and the counts can be raised.
pub record Rows (s : List ℤ) (b : List Binding) (n : ℕ) (x : State) (room : List ℤ) : Type 0 where
  pub bound : Bound s b n
  pub steps : x.steps + 1 < 2 ^ 64
  pub rows : x.rows + 1 < 2 ^ 64
  pub words : x.words ≤ length room
