-- Choices of a multiset's cons that are pairs, passed over: the lowest first, each for its steps, never the last.
use Rattle.std.specs.Prelude.{ℕ, ◌+◌, ◌-◌, ◌<◌, ◌≤◌, ◌≡◌, Bool, Option, Some, None, List, length, get_or, eqb, ℤ}
use Rattle.std.specs.Int.Count.{count_trailing_zeros}
use Rattle.words.specs.Words.{entries}
use Rattle.value_places.specs.Places.{element_at}
use Rattle.value_places.specs.Held as values
use Rattle.value_equality.specs.Equality.{is_sum}
use Rattle.tables.specs.declared.slot.Held.{Held}
use Rattle.tables.specs.Slot.{Tables, held_in, put_held, put_left}
use Rattle.search_atom.specs.Leaves.{when, is_wide, part_held}
use Rattle.search_seek.specs.Passed.{later}
use Rattle.search_seek.specs.declared.pairs.Sum.{Sum}
use Rattle.search_seek.specs.declared.pairs.Wanted.{Wanted}

-- Whether part k of the value at an index is the integer that is asked for.
unfoldable pub is_part : List ℤ → Sum → (e k : ℕ) → Bool
unfolding is_sum
is_part s w e k = is_sum s w.at w.plus (element_at s e k)

-- The steps of a value that fails: two if it does at the first part of a pair, three if it does at the second, where that is asked for. 0: it does not fail, or
-- is no pair.
unfoldable pub second_cost : List ℤ → Option Sum → (e : ℕ) → ℕ
unfolding when is_part
second_cost s None e = 0
second_cost s (Some q) e = when (is_part s q e 1) 0 3

unfoldable pub cost_of : List ℤ → Wanted → (e : ℕ) → ℕ
unfolding when is_wide is_part second_cost
cost_of s w e = when (is_wide s e 1) (when (is_part s w.first e 0) (second_cost s w.second e) 2) 0

-- The lowest choice of the collection at an index.
unfoldable pub lowest_in : List ℤ → (at left : ℕ) → ℕ
lowest_in s at left = element_at s at (count_trailing_zeros 64 left)

-- last: the last choice passed over; 0 where none is.
pub data PassedPairs (s : List ℤ) (at : ℕ) (w : Wanted) (first begun : ℕ) : (left steps last : ℕ) → Type 0 where
  stays : PassedPairs s at w first begun first begun 0
  over : (left steps last : ℕ) → PassedPairs s at w first begun left steps last → 0 < later left → 0 < cost_of s w (lowest_in s at left)
      → PassedPairs s at w first begun (later left) (steps + cost_of s w (lowest_in s at left)) (lowest_in s at left)

-- What waits at the pair's line: the second part of the last pair passed over; where none is, what waited there.
unfoldable pub waiting : List ℤ → (last : ℕ) → Held → Held
unfolding when part_held
waiting s last h = when (eqb last 0) h (part_held s last 1)

-- The frame before line `top`, of which only what is left to choose from is written, and the slot of that line.
pub record OverPairs (s : List ℤ) (w : Wanted) (budget top begun : ℕ) (t : Tables) (steps : ℕ) (t' : Tables) : Type 0 where
  pub left : ℕ
  pub last : ℕ
  pub passed : PassedPairs s (get_or t.ats (top - 1) 0) w (get_or t.lefts (top - 1) 0) begun left steps last
  pub within : steps ≤ budget
  pub tables : t' ≡ put_left (top - 1) left (put_held top (waiting s last (held_in t top)) t)

-- ---- What they ask: the integers that are asked for are there; and the choices left are elements that there are.

pub record Integers (s : List ℤ) (w : Wanted) : Type 0 where
  pub first : w.first.at + 1 < length s
  pub second : (q : Sum) → w.second ≡ Some q → q.at + 1 < length s

pub record SeeksPairs (s : List ℤ) (w : Wanted) (budget top begun : ℕ) (t : Tables) : Type 0 where
  pub some : 0 < top
  pub place : top < entries
  pub integers : Integers s w
  pub steps : begun ≤ budget
  pub held : values.Held s (get_or t.ats (top - 1) 0) (get_or t.lefts (top - 1) 0)
  pub choice : 0 < get_or t.lefts (top - 1) 0
