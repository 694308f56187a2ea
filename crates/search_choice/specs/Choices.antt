-- Document 01, section 4, on numbers and lists as the code goes about it: the next choice of the last open frame.
use Rattle.std.specs.Prelude.{ℕ, ◌+◌, ◌-◌, ◌^◌, ◌≤◌, ◌<◌, ◌≡◌, List, length, get_or, set, eqb, ltb, ℤ}
use Rattle.std.specs.Int.Count.{count_trailing_zeros}
use Rattle.words.specs.Words.{entries}
use Rattle.words.specs.Marks.{clear}
use Rattle.tables.specs.Slot.{slot_count, Tables, tables, view_of, Alone}
use Rattle.value_places.specs.Places.{Tag, marks_at, element_at}
use Rattle.value_places.specs.Held.{Held, whole_at}
use Rattle.search_atom.specs.Leaves.{when, now_left, longer_of, slot_by}
use Rattle.search_step.specs.declared.State.{State}
use Rattle.search_step.specs.Steps.{Turned, turned, moved, lived, topped}

unfoldable pub top_left : ℕ → ℕ → List ℕ → State → State
unfolding when topped
top_left more j lows x = when (eqb more 0) (topped x (get_or lows j 0)) x

unfoldable pub join_by : ℕ → ℕ → ℕ → State → Tables → Turned
unfolding moved top_left now_left longer_of
join_by j c b x t =
    turned (top_left (longer_of c b) j t.lows (moved x (j + 1) (get_or t.ats j 0) c))
    (tables t.ats t.wholes (now_left (longer_of c b) j t.lefts) t.lows (set t.backs j b))

unfoldable pub join_of : ℕ → State → Tables → Turned
unfolding join_by
join_of j x t = join_by j (get_or t.lefts j 0) (get_or t.wholes j 0 - get_or t.lefts j 0) x t

unfoldable pub cons_by : List ℤ → ℕ → ℕ → ℕ → State → Tables → Turned
unfolding moved top_left now_left
cons_by s j k e x t =
    turned (top_left (clear k (get_or t.lefts j 0)) j t.lows (moved x (j + 1) e (whole_at s e)))
    (tables t.ats t.wholes (now_left (clear k (get_or t.lefts j 0)) j t.lefts) t.lows (set t.backs j (clear k (get_or t.wholes j 0))))

unfoldable pub cons_of : List ℤ → ℕ → State → Tables → Turned
unfolding cons_by
cons_of s j x t =
    cons_by s j (count_trailing_zeros 64 (get_or t.lefts j 0)) (element_at s (get_or t.ats j 0) (count_trailing_zeros 64 (get_or t.lefts j 0))) x t

-- The frame of an or or a not at j is no longer open: the second side, on the or's own value; or what follows the not, on the value that waits for it.
unfoldable pub resumed_by : (j i : ℕ) → (to ats lows backs : List ℕ) → State → State
resumed_by j i to ats lows backs x =
    record { pc = get_or to j 0; at = get_or ats i 0; marks = get_or backs i 0; top = get_or lows j 0; live = 1; rows = x.rows; steps = x.steps; words = x.words }

unfoldable pub resumed_at : (o j : ℕ) → (from to ats lows backs : List ℕ) → State → State
unfolding slot_by resumed_by
resumed_at o j from to ats lows backs x = resumed_by j (slot_by o j from) to ats lows backs x

unfoldable pub resume_of : (o j : ℕ) → (from to : List ℕ) → State → Tables → Turned
unfolding resumed_at
resume_of o j from to x t = turned (resumed_at o j from to t.ats t.lows t.backs x) t

unfoldable pub choice_of : (o j : ℕ) → (from to : List ℕ) → List ℤ → State → Tables → Turned
unfolding when join_of resume_of cons_of
choice_of o j from to s x t = when (ltb 9 o) (when (eqb o 10) (join_of j x t) (resume_of o j from to x t)) (cons_of s j x t)

unfoldable pub pick_of : (op from to : List ℕ) → List ℤ → State → Tables → Turned
unfolding when lived choice_of
pick_of op from to s x t = when (eqb x.top 0) (turned (lived x 0) t) (choice_of (get_or op (x.top - 1) 0) (x.top - 1) from to s x t)

-- The next choice is taken where no state stands.
unfoldable pub settle_of : (op from to : List ℕ) → List ℤ → State → Tables → Turned
unfolding when pick_of
settle_of op from to s x t = when (eqb x.live 2) (pick_of op from to s x t) (turned x t)

-- ---- What it asks.

-- The front of the join at j is within its marks.
pub record Joins (wholes lefts : List ℕ) (j : ℕ) : Type 0 where
  pub place : j < entries
  pub within : get_or lefts j 0 ≤ get_or wholes j 0
  pub word : get_or wholes j 0 < 2 ^ 64

-- The cons at j has a choice left, and each choice is an element that there is.
pub record Conses (s : List ℤ) (ats lefts : List ℕ) (j : ℕ) : Type 0 where
  pub place : j < entries
  pub tag : Tag s (get_or ats j 0)
  pub some : 0 < get_or lefts j 0
  pub there : get_or lefts j 0 < 2 ^ marks_at s (get_or ats j 0)

-- Every line that a line names is there, and every slot; a line that divides has a slot of its own.
pub record Named (op from arg slots : List ℕ) : Type 0 where
  pub there : (i : ℕ) → i < entries → get_or from i 0 < entries
  pub slot : (j : ℕ) → get_or arg j 0 < slot_count
  pub alone : (i : ℕ) → i < entries → 7 < get_or op i 0 → get_or op i 0 < 17 → Alone arg i
  pub long : length (view_of arg slots).backs ≡ entries

-- A frame at j from which the next choice can be taken: its instruction o is a cons or a join, it holds (at, m), and the choices left are c; or it is an
-- or or a not, whose value waits.
pub record Frame (o : ℕ) (s : List ℤ) (j at m c : ℕ) : Type 0 where
  pub place : j < entries
  pub splits : 7 < o
  pub chooses : o < 17
  pub whole : 10 < o → 14 < o
  pub held : o < 11 → Held s at m
  pub within : o ≡ 10 → c ≤ m
  pub some : o < 10 → 0 < c
  pub there : o < 10 → c < 2 ^ marks_at s at

-- The last open frame, if there is one.
pub record Picks (op : List ℕ) (s : List ℤ) (top : ℕ) (ats wholes lefts : List ℕ) : Type 0 where
  pub frame : (top ≡ 0 → ⊥) → Frame (get_or op (top - 1) 0) s (top - 1) (get_or ats (top - 1) 0) (get_or wholes (top - 1) 0) (get_or lefts (top - 1) 0)

pub record PicksIf (live : ℕ) (op : List ℕ) (s : List ℤ) (top : ℕ) (ats wholes lefts : List ℕ) : Type 0 where
  pub picks : live ≡ 2 → Picks op s top ats wholes lefts
