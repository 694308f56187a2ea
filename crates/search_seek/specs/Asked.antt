-- The lines by which a multiset's cons asks for an integer.
use Rattle.std.specs.Prelude.{ℕ, ◌+◌, ◌-◌, ◌<◌, ◌≡◌, Bool, true, false, not, Option, Some, None, List, length, get_or, eqb, ltb, ℤ, pos}
use Rattle.words.specs.Words.{entries}
use Rattle.tables.specs.Slot.{view_of, Slotted, Alone}
use Rattle.search_atom.specs.Leaves.{when, Parts}
use Rattle.search_step.specs.declared.State.{State}
use Rattle.search_seek.specs.Passed.{Seeks}
use Rattle.search_seek.specs.declared.asked.Asking.{Asking}
use Rattle.search_seek.specs.declared.pairs.Sum.{Sum}
use Rattle.search_seek.specs.declared.pairs.Wanted.{Wanted}

-- No state stands and the last open frame is a multiset's cons (9); its first part is tag 3 under integer (5), or a pair (11) whose first part is.
unfoldable pub part_of : (op : List ℕ) → (top : ℕ) → ℕ
unfolding when
part_of op top = when (eqb (get_or op top 0) 5) top (when (eqb (get_or op top 0) 11) (when (eqb (get_or op (top + 1) 0) 5) (top + 1) 0) 0)

unfoldable pub first_of : (op : List ℕ) → State → ℕ
unfolding when part_of
first_of op x = when (eqb x.live 2) (when (eqb x.top 0) 0 (when (eqb (get_or op (x.top - 1) 0) 9) (part_of op x.top) 0)) 0

-- After line i, of a pair's first part, what waits at the pair's line is asked for by tag 3 under integer, too.
unfoldable pub second_of : (op from to : List ℕ) → (top i : ℕ) → ℕ
unfolding when
second_of op from to top i = when (ltb top i) (when (eqb (get_or from i 0) top) (when (eqb (get_or op (get_or to i 0) 0) 5) (get_or to i 0) i) i) i

unfoldable pub asked_of : (op from to : List ℕ) → State → Asking
unfolding first_of second_of
asked_of op from to x = record { part = x.top; first = first_of op x; second = second_of op from to x.top (first_of op x) }

-- What the lines ask for, with the integers at g and at h.
unfoldable pub sum_of : (con : List ℤ) → (i at : ℕ) → Sum
sum_of con i at = record { at = at; plus = get_or con i (pos 0) }

unfoldable pub sum_if : (con : List ℤ) → (i at : ℕ) → (asked : Bool) → Option Sum
unfolding sum_of
sum_if con i at true = Some (sum_of con i at)
sum_if con i at false = None

unfoldable pub wanted_by : (con : List ℤ) → Asking → (g h : ℕ) → (both : Bool) → Wanted
unfolding sum_of sum_if
wanted_by con a g h both = record { first = sum_of con a.first g; second = sum_if con a.second h both }

unfoldable pub wanted_of : (con : List ℤ) → Asking → (g h : ℕ) → Wanted
unfolding wanted_by
wanted_of con a g h = wanted_by con a g h (not (eqb a.first a.second))

-- ---- What they ask.

-- Where the next choice is to be taken, the line of the last open frame is there; so are the lines that lines name; the last line is an end.
pub record Opens (op to : List ℕ) (x : State) : Type 0 where
  pub place : x.live ≡ 2 → (x.top ≡ 0 → ⊥) → x.top - 1 < entries
  pub places : (i : ℕ) → i < entries → get_or to i 0 < entries
  pub last : get_or op (entries - 1) 0 ≡ 0

-- The choices left are elements that there are; so are the integers; and the lines. What waits at a pair's line has a slot of its own.
pub record Seeking (s con : List ℤ) (arg slots : List ℕ) (a : Asking) (g h budget begun : ℕ) : Type 0 where
  pub seeks : Seeks s con g budget a.part begun (view_of arg slots)
  pub slotted : Slotted arg slots (a.part - 1)
  pub alone : Alone arg (a.part - 1)
  pub first : (a.first < entries) × (a.first < length con)
  pub second : (a.second < entries) × (a.second < length con)
  pub other : h + 1 < length s
  pub parts : (a.first ≡ a.part → ⊥) → Parts arg slots a.part 1
