-- The slots as one list of numbers, and as a run sees them: a slot for each line of the program.
use Rattle.std.specs.Prelude.{ℕ, zero, suc, ◌+◌, ◌*◌, ◌<◌, ◌≡◌, List, [], ◌∷◌, length, get_or, set, replicate}
use Rattle.words.specs.Words.{entries}
use Rattle.tables.specs.Section.{section}
use Rattle.tables.specs.declared.slot.Held.{Held}
use Rattle.tables.specs.declared.slot.Frame.{Frame}

abbrev pub slot_count : ℕ
slot_count = 272

-- The slots, an entry for each line: the place of the value divided there and its marks, the choices left, the open frame before it
-- (0: none, j + 1: at j), and the marks that wait for the second part.
pub record Tables : Type 0 where
  pub ats : List ℕ
  pub wholes : List ℕ
  pub lefts : List ℕ
  pub lows : List ℕ
  pub backs : List ℕ

abbrev pub tables : List ℕ → List ℕ → List ℕ → List ℕ → List ℕ → Tables
tables a w c l b = record { ats = a; wholes = w; lefts = c; lows = l; backs = b }

-- ---- The sections of the list, in that order; each has an entry for each slot.

unfoldable pub listed : (n : ℕ) → (ℕ → ℕ) → List ℕ
listed zero f = []
listed (suc n) f = f 0 ∷ listed n (λ j. f (suc j))

-- A section by lines: the number of a line is that of its slot. It has an entry for each line if the section has all of its slots.
unfoldable pub by_line : (arg slots : List ℕ) → List ℕ
unfolding listed
by_line arg t = listed (length t + 378) (λ j. get_or t (get_or arg j 0) 0)

unfoldable pub view_of : (arg slots : List ℕ) → Tables
unfolding section by_line
view_of arg t = tables (by_line arg (section slot_count 0 t)) (by_line arg (section slot_count 1 t)) (by_line arg (section slot_count 2 t)) (by_line arg (section slot_count 3 t)) (by_line arg (section slot_count 4 t))

-- Before the first step.
abbrev pub no_slots : List ℕ
no_slots = replicate (5 * slot_count) 0

-- ---- What a read and a write ask: the line has a slot that is there; and no other line has it.

pub record Slotted (arg slots : List ℕ) (pc : ℕ) : Type 0 where
  pub place : pc < entries
  pub slot : get_or arg pc 0 < slot_count
  pub long : length (view_of arg slots).backs ≡ entries

pub record Alone (arg : List ℕ) (pc : ℕ) : Type 0 where
  pub only : (j : ℕ) → get_or arg j 0 ≡ get_or arg pc 0 → j ≡ pc

-- ---- The slot of a line: the value that waits there; the frame.

unfoldable pub held_in : Tables → ℕ → Held
held_in t pc = record { at = get_or t.ats pc 0; marks = get_or t.backs pc 0 }

unfoldable pub frame_in : Tables → ℕ → Frame
frame_in t pc = record { at = get_or t.ats pc 0; whole = get_or t.wholes pc 0; left = get_or t.lefts pc 0 }

unfoldable pub put_held : ℕ → Held → Tables → Tables
put_held pc h t = tables (set t.ats pc h.at) t.wholes t.lefts t.lows (set t.backs pc h.marks)

unfoldable pub put_frame : ℕ → Frame → (low : ℕ) → Tables → Tables
put_frame pc f n t = tables (set t.ats pc f.at) (set t.wholes pc f.whole) (set t.lefts pc f.left) (set t.lows pc n) t.backs

unfoldable pub put_side : ℕ → Held → (low : ℕ) → Tables → Tables
put_side pc h n t = tables (set t.ats pc h.at) t.wholes t.lefts (set t.lows pc n) (set t.backs pc h.marks)

unfoldable pub put_left : ℕ → ℕ → Tables → Tables
put_left pc c t = tables t.ats t.wholes (set t.lefts pc c) t.lows t.backs

unfoldable pub put_back : ℕ → ℕ → Tables → Tables
put_back pc b t = tables t.ats t.wholes t.lefts t.lows (set t.backs pc b)
