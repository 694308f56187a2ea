-- Choices of a multiset's cons that fail at the integer which its first part asks for, passed over: the lowest first, each for a step, never the last.
use Rattle.std.specs.Prelude.{ℕ, ◌+◌, ◌-◌, ◌<◌, ◌≤◌, ◌≡◌, Bool, false, List, length, get_or, ℤ, pos}
use Rattle.std.specs.Int.Count.{count_trailing_zeros}
use Rattle.words.specs.Words.{entries}
use Rattle.words.specs.Marks.{clear}
use Rattle.value_places.specs.Places.{element_at}
use Rattle.value_places.specs.Held.{Held}
use Rattle.value_equality.specs.Equality.{is_sum}
use Rattle.tables.specs.Slot.{Tables, put_left}
use Rattle.search_step.specs.declared.State.{State}

-- The choices but the lowest.
unfoldable pub later : ℕ → ℕ
later c = clear (count_trailing_zeros 64 c) c

-- Whether the lowest choice of the collection at an index is the integer at g, plus z.
unfoldable pub is_lowest : List ℤ → (at g : ℕ) → ℤ → (left : ℕ) → Bool
unfolding is_sum
is_lowest s at g z left = is_sum s g z (element_at s at (count_trailing_zeros 64 left))

pub data Passed (s : List ℤ) (at g : ℕ) (z : ℤ) (first begun : ℕ) : (left steps : ℕ) → Type 0 where
  stays : Passed s at g z first begun first begun
  over : (left steps : ℕ) → Passed s at g z first begun left steps → 0 < later left → is_lowest s at g z left ≡ false
      → Passed s at g z first begun (later left) (steps + 1)

-- A state with so many steps taken.
unfoldable pub timed : State → (steps : ℕ) → State
timed x n = record { pc = x.pc; at = x.at; marks = x.marks; top = x.top; live = x.live; rows = x.rows; steps = n; words = x.words }

-- The frame before line `top`, of which only what is left to choose from is written.
pub record Over (s con : List ℤ) (g budget top begun : ℕ) (t : Tables) (steps : ℕ) (t' : Tables) : Type 0 where
  pub left : ℕ
  pub passed : Passed s (get_or t.ats (top - 1) 0) g (get_or con top (pos 0)) (get_or t.lefts (top - 1) 0) begun left steps
  pub within : steps ≤ budget
  pub tables : t' ≡ put_left (top - 1) left t

-- ---- What they ask: the choices left are elements that there are; so is the integer; and the line of the first part.

pub record Seeks (s con : List ℤ) (g budget top begun : ℕ) (t : Tables) : Type 0 where
  pub some : 0 < top
  pub place : top < entries
  pub constant : top < length con
  pub number : g + 1 < length s
  pub steps : begun ≤ budget
  pub held : Held s (get_or t.ats (top - 1) 0) (get_or t.lefts (top - 1) 0)
  pub choice : 0 < get_or t.lefts (top - 1) 0
