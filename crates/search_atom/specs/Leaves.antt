-- Document 01, section 4, on numbers: an atom's test, the choices of a cons or a join, the parts of a tuple.
use Rattle.std.specs.Prelude.{ℕ, zero, suc, ◌+◌, ◌^◌, ◌<◌, ◌≤◌, ◌≡◌, Bool, true, false, List, length, get_or, set, eqb, ℤ, pos}
use Rattle.std.specs.Int.Count.{count_trailing_zeros}
use Rattle.rules.specs.Numbers.{same}
use Rattle.value_places.specs.Places.{count_at, element_at}
use Rattle.value_places.specs.Held.{whole_at}
use Rattle.words.specs.Words.{entries}
use Rattle.tables.specs.declared.slot.Held.{Held}
use Rattle.tables.specs.Slot.{slot_count, Tables, tables, view_of, Alone}

-- One or the other.
unfoldable pub when : {A : Type 0} → Bool → A → A → A
when true x y = x
when false x y = y

-- Whether the atom's test holds: 4 a constant, 5 and 6 a value (asked before, q), 7 nil.
unfoldable pub passes_of : ℕ → Bool → List ℤ → ℕ → ℕ → ℤ → Bool
unfolding when
passes_of o q s at m z = when (eqb o 4) (same (get_or s (at + 1) (pos 0)) z) (when (eqb o 5) q (when (eqb o 6) q (when (eqb o 7) (eqb m 0) true)))

-- The choices that a frame is opened with: 8 list cons, 9 multiset cons, 10 join. A choice of a cons is a place, one of a join a front.
unfoldable pub opens_of : ℕ → ℕ → ℕ
unfolding when
opens_of o m = when (eqb o 10) 0 (when (eqb o 8) (2 ^ count_trailing_zeros 64 m) m)

unfoldable pub none_of : ℕ → ℕ → Bool
unfolding when
none_of o m = when (eqb o 10) false (eqb m 0)

-- Entries written one after the other: f i and those after it, n of them, from the entry j on.
unfoldable pub stored : (ℕ → ℕ) → (j i n : ℕ) → List ℕ → List ℕ
stored f j i zero l = l
stored f j i (suc n) l = stored f (j + 1) (i + 1) n (set l j (f i))

-- A tuple, n of whose parts wait: whether the value has n + 1 parts, and the marks of part i.
unfoldable pub is_wide : List ℤ → (at n : ℕ) → Bool
unfolding count_at
is_wide s at n = eqb (count_at s at) (n + 1)

unfoldable pub part_marks : List ℤ → (at i : ℕ) → ℕ
unfolding element_at whole_at
part_marks s at i = whole_at s (element_at s at i)

unfoldable pub part_held : List ℤ → (at i : ℕ) → Held
unfolding part_marks
part_held s at i = record { at = element_at s at i; marks = part_marks s at i }

-- The n parts after the first wait at the lines from one on.
unfoldable pub parts_in : List ℤ → (at from n : ℕ) → Tables → Tables
unfolding stored part_marks
parts_in s at j n t = tables (stored (element_at s at) j 1 n t.ats) t.wholes t.lefts t.lows (stored (part_marks s at) j 1 n t.backs)

-- Those lines have slots of their own.
pub record Parts (arg slots : List ℕ) (from n : ℕ) : Type 0 where
  pub fits : from + n ≤ entries
  pub slot : (j : ℕ) → get_or arg j 0 < slot_count
  pub alone : (k : ℕ) → k < n → Alone arg (from + k)
  pub long : length (view_of arg slots).backs ≡ entries

-- What is left to choose from at j: with nothing left the frame is no longer open.
unfoldable pub top_by : ℕ → ℕ → List ℕ → ℕ → ℕ
unfolding when
top_by more j lows top = when (eqb more 0) (get_or lows j 0) top

unfoldable pub now_left : ℕ → ℕ → List ℕ → List ℕ
unfolding when
now_left more j lefts = when (eqb more 0) lefts (set lefts j more)

unfoldable pub left_in : (more j : ℕ) → Tables → Tables
unfolding now_left
left_in more j t = tables t.ats t.wholes (now_left more j t.lefts) t.lows t.backs

-- The next longer front; 0 where the back is empty.
unfoldable pub longer_of : ℕ → ℕ → ℕ
unfolding when
longer_of c b = when (eqb b 0) 0 (c + 2 ^ count_trailing_zeros 64 b)

-- The slot of the value with which a frame's choice goes on.
unfoldable pub slot_by : (o j : ℕ) → (from : List ℕ) → ℕ
unfolding when
slot_by o j from = when (eqb o 15) j (get_or from j 0)
