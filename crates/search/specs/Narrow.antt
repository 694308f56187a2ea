-- Document 02, No. 13, as the code goes about it: a cons under a multiset opens its frame with every place; in dialect 2 the frame is then left with the first
-- places.
use Rattle.std.specs.Prelude.{ℕ, ◌+◌, ◌-◌, ◌^◌, ◌<◌, ◌≤◌, ◌≡◌, List, length, get_or, eqb, ltb, ℤ}
use Rattle.rules.specs.Dialects.{Dialect, every_place, first_places}
use Rattle.value_places.specs.Held.{Held}
use Rattle.value_firsts.specs.Firsts.{firsts_at, Lower}
use Rattle.tables.specs.Slot.{Tables, put_left, view_of, Slotted, Alone}
use Rattle.search_atom.specs.Leaves.{when}
use Rattle.search_step.specs.declared.State.{State}

-- i: the index of the multiset's tag in the matcher's words.
unfoldable pub narrowed : Dialect → List ℤ → (i : ℕ) → List ℤ → State → Tables → Tables
unfolding when firsts_at put_left
narrowed every_place mt i s x t = t
narrowed first_places mt i s x t = when (eqb x.marks 0) t (when (ltb i (length mt)) (put_left (x.top - 1) (firsts_at mt (i + 1) s x.at x.marks) t) t)

-- What is known of the target itself, at the index 0, by the matcher after the rule's own tag.
unfoldable pub fresh_at : (i at fresh : ℕ) → ℕ
unfolding when
fresh_at i at f = when (eqb i 0) (when (eqb at 0) f 0) 0

-- The last open frame is that of the state's value, and every place is left.
pub record Opened (arg : List ℕ) (s : List ℤ) (slots : List ℕ) (x : State) : Type 0 where
  pub some : 0 < x.top
  pub slotted : Slotted arg slots (x.top - 1)
  pub alone : Alone arg (x.top - 1)
  pub place : get_or (view_of arg slots).ats (x.top - 1) 0 ≡ x.at
  pub held : Held s x.at x.marks
  pub left : get_or (view_of arg slots).lefts (x.top - 1) 0 ≡ x.marks

-- Where the matcher has a word at the multiset's index, the marks m above the marks `stop` are left in the last open frame, and the first places among them
-- fit in their stead.
pub record Above (mt : List ℤ) (mat arg : List ℕ) (s : List ℤ) (slots : List ℕ) (top m stop : ℕ) : Type 0 where
  pub some : 0 < top
  pub slotted : Slotted arg slots (top - 1)
  pub alone : Alone arg (top - 1)
  pub held : Held s (get_or (view_of arg slots).ats (top - 1) 0) m
  pub lower : Lower m stop
  pub within : get_or mat (top - 1) 0 < length mt → m - stop ≤ get_or (view_of arg slots).lefts (top - 1) 0
  pub fits : get_or mat (top - 1) 0 < length mt → get_or (view_of arg slots).lefts (top - 1) 0 + firsts_at mt (get_or mat (top - 1) 0 + 1) s (get_or (view_of arg slots).ats (top - 1) 0) m
      < 2 ^ 64 + (firsts_at mt (get_or mat (top - 1) 0 + 1) s (get_or (view_of arg slots).ats (top - 1) 0) stop + (m - stop))

-- They have given way to those, where the matcher has a word at i.
pub record Replaced (mt : List ℤ) (i : ℕ) (s : List ℤ) (j m stop : ℕ) (t u : Tables) : Type 0 where
  pub left : ℕ
  pub is : u ≡ when (ltb i (length mt)) (put_left j left t) t
  pub sum : i < length mt → left + (firsts_at mt (i + 1) s (get_or t.ats j 0) stop + (m - stop)) ≡ get_or t.lefts j 0 + firsts_at mt (i + 1) s (get_or t.ats j 0) m
