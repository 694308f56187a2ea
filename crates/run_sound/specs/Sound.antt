-- What makes a run that the game lends sound: facts about each number by itself, of a run in which a state stands. They are those that keep a search safe.
use Rattle.std.specs.Prelude.{ℕ, ◌+◌, ◌-◌, ◌≤◌, ◌<◌, ◌≡◌, List, length, get_or, ℤ}
use Rattle.words.specs.Words.{entries}
use Rattle.tables.specs.Slot.{slot_count, Tables, view_of}
use Rattle.value_places.specs.Held.{Held}
use Rattle.value_rows.specs.Row.{Bound}
use Rattle.value_rows.specs.declared.Binding.{Binding}
use Rattle.search_step.specs.declared.State.{State}
use Rattle.search_choice.specs.Choices.{Picks}

-- Every line's slot is there.
pub record Numbered (arg slots : List ℕ) : Type 0 where
  pub slot : (j : ℕ) → get_or arg j 0 < slot_count
  pub long : length (view_of arg slots).backs ≡ entries

-- The first end is the last line of a program, and those after it have one slot between them.
pub record Closes (op arg : List ℕ) : Type 0 where
  pub last : get_or op (entries - 1) 0 ≡ 0
  pub after : (i j : ℕ) → get_or op i 0 ≡ 0 → i < j → get_or arg j 0 ≡ 0

-- What waits at a line is held, and the frame below it is one from which a choice can be taken.
pub record Line (op : List ℕ) (s : List ℤ) (t : Tables) (j : ℕ) : Type 0 where
  pub held : Held s (get_or t.ats j 0) (get_or t.backs j 0)
  pub below : Picks op s (get_or t.lows j 0) t.ats t.wholes t.lefts

pub record Lined (op : List ℕ) (s : List ℤ) (t : Tables) : Type 0 where
  pub each : (j : ℕ) → j < entries → Line op s t j

pub record Sound (op : List ℕ) (s : List ℤ) (t : Tables) (x : State) (b : List Binding) (size : ℕ) : Type 0 where
  pub place : x.pc < entries
  pub held : Held s x.at x.marks
  pub last : Picks op s x.top t.ats t.wholes t.lefts
  pub room : x.words ≤ size
  pub counts : x.rows ≤ x.steps
  pub binds : Bound s b 16
  pub lines : Lined op s t
