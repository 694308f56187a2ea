-- The first pass on its way through the words: what comes of it, and the bounds that its numbers keep.
use Rattle.std.specs.Prelude.{ℕ, ◌+◌, ◌≤◌, ◌≡◌, List, length, get_or, drop, ℤ}
use Rattle.tables.specs.declared.line.Line.{Line}
use Rattle.tables.specs.Line.{Columns}
use Rattle.program_rules.specs.Lines.{lines_from, laid}
use Rattle.program_rules.specs.Stack.{Stack, waiting_at}
use Rattle.program_rules.specs.Bounds.{few}
use Rattle.program.specs.declared.lay.Cursor.{Cursor}

-- How far the pass is: the cursor, and how many parts wait.
pub record Progress : Type 0 where
  pub at : ℕ
  pub pc : ℕ
  pub depth : ℕ
  pub i : ℕ

abbrev pub cursor : (at pc depth i : ℕ) → Progress
cursor at pc d i = record { at = at; pc = pc; depth = d; i = i }

-- A table, and how many lines are in it.
pub record Outcome : Type 0 where
  pub table : Columns
  pub lines : ℕ

-- What comes of lines that are laid from a place on.
unfoldable pub laying : (pc : ℕ) → List Line → Columns → Outcome
laying pc ls t = record { table = laid pc ls t; lines = pc + length ls }

-- The lines that are still to come.
unfoldable pub ahead : (ms ps : List ℤ) (under slots behind : List ℕ) → Progress → List Line
ahead ms ps u s b c = lines_from ms 0 c.i (waiting_at u s b c.depth) c.pc (drop c.at ps)

-- What comes of the pass: they are laid too.
unfoldable pub outcome : (ms ps : List ℤ) (under slots behind : List ℕ) → Progress → Columns → Outcome
outcome ms ps u s b c t = laying c.pc (ahead ms ps u s b c) t

-- No more parts wait than words were passed; the entry 0 is no part's; no slot, with those of the parts behind it in its tuple, is past the next line.
pub record Within (under slots behind : List ℕ) (c : Progress) : Type 0 where
  pub deep : c.depth ≤ c.at
  pub bottom : get_or slots 0 0 ≡ 0
  pub floor : get_or behind 0 0 ≡ 0
  pub sums : (j : ℕ) → get_or slots j 0 + few (get_or behind j 0) ≤ c.pc
  pub long : length under ≡ 257
  pub wide : length slots ≡ 257
  pub tall : length behind ≡ 257

-- The same of the stack and the cursor as the code has them.
abbrev pub Waits : Stack → Cursor → Type 0
Waits t c = Within t.under t.slots t.behind (cursor c.at c.pc t.depth c.i)

abbrev pub outcome_of : (ms ps : List ℤ) → Stack → Cursor → Columns → Outcome
outcome_of ms ps t c = outcome ms ps t.under t.slots t.behind (cursor c.at c.pc t.depth c.i)
