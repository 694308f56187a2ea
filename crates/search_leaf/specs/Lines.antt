-- The lines of a leaf: behind the line at which the first part is tested or bound only a wildcard for the rest is left.
use Rattle.std.specs.Prelude.{ℕ, ◌+◌, ◌-◌, ◌<◌, ◌≡◌, ◌⊎◌, List, get_or}
use Rattle.words.specs.Words.{entries}
use Rattle.tables.specs.Slot.{Slotted}
use Rattle.search_step.specs.declared.State.{State}

-- The first part, which starts at a line, is tested at line i (5), or is a wildcard or a variable under integer (1, then 2 or 3).
pub record Tested (op : List ℕ) (top i : ℕ) : Type 0 where
  pub place : i < entries
  pub kind : ((i ≡ top) × (get_or op i 0 ≡ 5)) ⊎ ((get_or op top 0 ≡ 1) × (i ≡ top + 1) × ((get_or op i 0 ≡ 2) ⊎ (get_or op i 0 ≡ 3)))

-- Behind line i: a wildcard under something (1, then 2), then the end.
pub record Last (op to : List ℕ) (i : ℕ) : Type 0 where
  pub same : get_or op (get_or to i 0) 0 ≡ 1
  pub drop : get_or op (get_or to i 0 + 1) 0 ≡ 2
  pub end : get_or op (get_or to (get_or to i 0 + 1) 0) 0 ≡ 0

-- The next choice is that of a multiset's cons (9) that is a leaf.
pub record Leafs (op to : List ℕ) (x : State) (i : ℕ) : Type 0 where
  pub live : x.live ≡ 2
  pub some : x.top ≡ 0 → ⊥
  pub cons : get_or op (x.top - 1) 0 ≡ 9
  pub tested : Tested op x.top i
  pub last : Last op to i

-- ---- What they ask: the lines that are named are there, and the last line is an end.

pub record Ends (op to : List ℕ) : Type 0 where
  pub last : get_or op (entries - 1) 0 ≡ 0
  pub places : (i : ℕ) → i < entries → get_or to i 0 < entries

pub record Looks (op to arg slots : List ℕ) (x : State) : Type 0 where
  pub ends : Ends op to
  pub frame : x.live ≡ 2 → (x.top ≡ 0 → ⊥) → Slotted arg slots (x.top - 1)
