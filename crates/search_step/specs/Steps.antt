-- Document 01, section 4, on numbers and lists as the code goes about it: a step.
use Rattle.std.specs.Prelude.{ℕ, ◌+◌, ◌-◌, ◌^◌, ◌<◌, ◌≡◌, Bool, List, length, get_or, set, eqb, ltb, ℤ, pos}
use Rattle.std.specs.Int.Count.{count_trailing_zeros}
use Rattle.words.specs.Words.{entries}
use Rattle.words.specs.Marks.{clear}
use Rattle.tables.specs.Slot.{slot_count, Tables, tables, view_of, Alone}
use Rattle.value_places.specs.Places.{Tag, element_at}
use Rattle.value_places.specs.Held.{Held, whole_at}
use Rattle.search_atom.specs.Leaves.{when, passes_of, opens_of, none_of, stored, is_wide, part_marks}
use Rattle.search_step.specs.declared.State.{State}

pub record Turned : Type 0 where
  pub state : State
  pub tables : Tables

abbrev pub turned : State → Tables → Turned
turned x t = record { state = x; tables = t }

-- ---- States.

unfoldable pub counted : State → State
counted x = record { pc = x.pc; at = x.at; marks = x.marks; top = x.top; live = x.live; rows = x.rows; steps = x.steps + 1; words = x.words }

-- A state stands at pc, on a held value.
unfoldable pub moved : State → ℕ → ℕ → ℕ → State
moved x pc at m = record { pc = pc; at = at; marks = m; top = x.top; live = 1; rows = x.rows; steps = x.steps; words = x.words }

unfoldable pub lived : State → ℕ → State
lived x n = record { pc = x.pc; at = x.at; marks = x.marks; top = x.top; live = n; rows = x.rows; steps = x.steps; words = x.words }

unfoldable pub topped : State → ℕ → State
topped x n = record { pc = x.pc; at = x.at; marks = x.marks; top = n; live = x.live; rows = x.rows; steps = x.steps; words = x.words }

-- The atom is dropped: the next one in prefix order, whose value waits in a slot.
unfoldable pub dropped : (from to ats backs : List ℕ) → State → State
unfolding moved
dropped from to ats backs x = moved x (get_or to x.pc 0) (get_or ats (get_or from x.pc 0) 0) (get_or backs (get_or from x.pc 0) 0)

-- A frame is opened at pc, with the choices c.
unfoldable pub pushed : State → State
pushed x = record { pc = x.pc; at = x.at; marks = x.marks; top = x.pc + 1; live = 2; rows = x.rows; steps = x.steps; words = x.words }

unfoldable pub pushed_in : ℕ → State → Tables → Tables
pushed_in c x t =
    tables (set t.ats x.pc x.at) (set t.wholes x.pc x.marks) (set t.lefts x.pc c) (set t.lows x.pc x.top) t.backs

-- ---- A step.

unfoldable pub split_of : ℕ → State → Tables → Turned
unfolding when pushed pushed_in lived opens_of none_of
split_of o x t = when (none_of o x.marks) (turned (lived x 2) t) (turned (pushed x) (pushed_in (opens_of o x.marks) x t))

-- A list's cons: its one choice is taken at once.
unfoldable pub head_in : State → Tables → Tables
head_in x t =
    tables (set t.ats x.pc x.at) (set t.wholes x.pc x.marks) (set t.lefts x.pc (2 ^ count_trailing_zeros 64 x.marks))
    (set t.lows x.pc x.top) (set t.backs x.pc (clear (count_trailing_zeros 64 x.marks) x.marks))

unfoldable pub head_by : List ℤ → (place : ℕ) → State → Tables → Turned
unfolding moved head_in
head_by s e x t = turned (moved x (x.pc + 1) e (whole_at s e)) (head_in x t)

unfoldable pub head_of : List ℤ → State → Tables → Turned
unfolding when lived head_by
head_of s x t = when (eqb x.marks 0) (turned (lived x 2) t) (head_by s (element_at s x.at (count_trailing_zeros 64 x.marks)) x t)

-- The first part is next, after the places that are reserved; the others wait in the slots from pc on.
unfoldable pub apart_at : List ℤ → ℕ → State → State
unfolding when is_wide moved lived part_marks
apart_at s n x = when (is_wide s x.at n) (moved x (x.pc + n) (element_at s x.at 0) (part_marks s x.at 0)) (lived x 2)

unfoldable pub apart_ats : List ℤ → ℕ → State → List ℕ → List ℕ
unfolding when is_wide stored
apart_ats s n x ats = when (is_wide s x.at n) (stored (element_at s x.at) x.pc 1 n ats) ats

unfoldable pub apart_backs : List ℤ → ℕ → State → List ℕ → List ℕ
unfolding when is_wide stored part_marks
apart_backs s n x backs = when (is_wide s x.at n) (stored (part_marks s x.at) x.pc 1 n backs) backs

unfoldable pub apart_of : List ℤ → ℕ → State → Tables → Turned
unfolding apart_at apart_ats apart_backs
apart_of s n x t = turned (apart_at s n x) (tables (apart_ats s n x t.ats) t.wholes t.lefts t.lows (apart_backs s n x t.backs))

-- And: the value waits at pc for the second part; the first is next, on the same value.
unfoldable pub kept_at : State → State
unfolding moved
kept_at x = moved x (x.pc + 1) x.at x.marks

unfoldable pub kept_in : State → Tables → Tables
kept_in x t = tables (set t.ats x.pc x.at) t.wholes t.lefts t.lows (set t.backs x.pc x.marks)

-- Or, not: a frame is opened at pc, with the value; what is inside is next, on the same value.
unfoldable pub framed_at : State → State
framed_at x = record { pc = x.pc + 1; at = x.at; marks = x.marks; top = x.pc + 1; live = 1; rows = x.rows; steps = x.steps; words = x.words }

unfoldable pub framed_in : State → Tables → Tables
framed_in x t = tables (set t.ats x.pc x.at) t.wholes t.lefts (set t.lows x.pc x.top) (set t.backs x.pc x.marks)

-- The search inside a not has a row: the not's frame, at the place `from`, and those above it are no longer open, and no state stands.
unfoldable pub cut_to : (from lows : List ℕ) → State → State
cut_to from lows x =
    record { pc = x.pc; at = x.at; marks = x.marks; top = get_or lows (get_or from x.pc 0) 0; live = 2; rows = x.rows; steps = x.steps; words = x.words }

-- 14 and, 15 or, 16 not, 17 the end of the search inside a not; 18 and 19, within an or, where no state stands.
unfoldable pub sides_of : (o : ℕ) → (from : List ℕ) → State → Tables → Turned
unfolding when kept_at kept_in framed_at framed_in cut_to lived
sides_of o from x t =
    when (eqb o 14) (turned (kept_at x) (kept_in x t))
    (when (ltb o 17) (turned (framed_at x) (framed_in x t)) (when (eqb o 17) (turned (cut_to from t.lows x) t) (turned (lived x 2) t)))

-- 11 to 13: a tuple of two to four parts, of which one to three wait.
unfoldable pub divide_of : List ℤ → (o : ℕ) → (from : List ℕ) → State → Tables → Turned
unfolding when apart_of sides_of head_of split_of
divide_of s o from x t =
    when (ltb 10 o) (when (ltb o 14) (apart_of s (o - 10) x t) (sides_of o from x t)) (when (eqb o 8) (head_of s x t) (split_of o x t))

unfoldable pub step_by : (o : ℕ) → (from to : List ℕ) → List ℤ → List ℤ → Bool → State → Tables → Turned
unfolding when moved divide_of passes_of dropped lived
step_by o from to con s q x t =
    when (eqb o 1) (turned (moved x (x.pc + 1) x.at x.marks) t)
    (when (ltb 7 o) (divide_of s o from x t)
    (when (passes_of o q s x.at x.marks (get_or con x.pc (pos 0))) (turned (dropped from to t.ats t.backs x) t) (turned (lived x 2) t)))

unfoldable pub step_of : (op from to : List ℕ) → List ℤ → List ℤ → Bool → State → Tables → Turned
unfolding step_by counted
step_of op from to con s q x t = step_by (get_or op x.pc 0) from to con s q (counted x) t

-- ---- What a step asks.

-- The slots of the line at pc, whose instruction is o: a line that divides has one of its own, a tuple's parts that wait have one each.
pub record Owns (o : ℕ) (arg slots : List ℕ) (pc : ℕ) : Type 0 where
  pub slot : (j : ℕ) → get_or arg j 0 < slot_count
  pub long : length (view_of arg slots).backs ≡ entries
  pub alone : 7 < o → o < 17 → Alone arg pc
  pub fits : 10 < o → o < 14 → pc + (o - 10) < entries
  pub parts : 10 < o → o < 14 → (k : ℕ) → k < o - 10 → Alone arg (pc + k)

-- The line is there, and that of the next value; the step can be counted; the value's tag has a word after it.
pub record Steps (s : List ℤ) (op from arg : List ℕ) (con : List ℤ) (slots : List ℕ) (x : State) : Type 0 where
  pub place : x.pc < entries
  pub constant : x.pc < length con
  pub next : get_or from x.pc 0 < entries
  pub held : Held s x.at x.marks
  pub word : x.at + 1 < length s
  pub count : x.steps + 1 < 2 ^ 64
  pub owns : Owns (get_or op x.pc 0) arg slots x.pc

-- The same of an instruction o that divides, of a tuple's, and of and, or, not.
pub record Divides (s : List ℤ) (o : ℕ) (from arg slots : List ℕ) (x : State) : Type 0 where
  pub above : 7 < o
  pub place : x.pc < entries
  pub next : get_or from x.pc 0 < entries
  pub held : Held s x.at x.marks
  pub owns : Owns o arg slots x.pc

pub record Aparts (s : List ℤ) (o : ℕ) (arg slots : List ℕ) (x : State) : Type 0 where
  pub tuple : 10 < o
  pub few : o < 14
  pub tag : Tag s x.at
  pub owns : Owns o arg slots x.pc

pub record Sides (o : ℕ) (from arg slots : List ℕ) (x : State) : Type 0 where
  pub above : 13 < o
  pub place : x.pc < entries
  pub next : get_or from x.pc 0 < entries
  pub owns : Owns o arg slots x.pc
