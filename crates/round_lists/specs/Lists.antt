-- What is kept of a list of states in the entries of the table: entry 0 the value of its first state, 1 and 2 its place and the open frame, then the bindings and the slots.
use Rattle.std.specs.Prelude.{ℕ, zero, suc, ◌+◌, ◌-◌, ◌*◌, ◌≤◌, ◌<◌, ◌≡◌, List, length, get_or, ℤ}
use Rattle.tables.specs.declared.slot.Held.{Held}
use Rattle.tables.specs.Slot.{Tables, Slotted}
use Rattle.value_rows.specs.Row.{nothing}
use Rattle.value_rows.specs.declared.Binding.{Binding}
use Rattle.search_step.specs.declared.State.{State}
use Rattle.round_table.specs.Entries.{entry_at, cut}
use Rattle.round_table.specs.Waiting.{waiting_in}

abbrev pub entry : ℕ → ℕ → Held
entry at m = record { at = at; marks = m }

unfoldable pub waits_as : List ℕ → ℕ → Held
unfolding waiting_in cut
waits_as slots j = cut (waiting_in slots j)

unfoldable pub binds_as : List Binding → ℕ → Held
unfolding cut
binds_as b v = cut (entry (get_or b v nothing).at (get_or b v nothing).marks)

-- The open frame, if there is one, has a slot.
pub record Framed (arg slots : List ℕ) (top : ℕ) : Type 0 where
  pub slotted : (top ≡ 0 → ⊥) → Slotted arg slots (top - 1)

pub record Headed (old new : List ℤ) (base : ℕ) (x : State) (whole left : ℕ) : Type 0 where
  pub long : length new ≡ length old
  pub first : entry_at new base ≡ cut (entry x.at x.marks)
  pub top : entry_at new (base + 1) ≡ cut (entry x.top whole)
  pub pc : entry_at new (base + 2) ≡ cut (entry x.pc left)
  pub below : (k : ℕ) → k < base → entry_at new k ≡ entry_at old k
  pub above : (k : ℕ) → base + 3 ≤ k → entry_at new k ≡ entry_at old k

-- The same with the open frame as the slots have it.
pub record Topped (old new : List ℤ) (base : ℕ) (x : State) (t : Tables) : Type 0 where
  pub long : length new ≡ length old
  pub first : entry_at new base ≡ cut (entry x.at x.marks)
  pub top : (entry_at new (base + 1)).at ≡ (cut (entry x.top 0)).at
  pub pc : (entry_at new (base + 2)).at ≡ (cut (entry x.pc 0)).at
  pub whole : (j : ℕ) → x.top ≡ suc j → (entry_at new (base + 1)).marks ≡ get_or t.wholes j 0
  pub left : (j : ℕ) → x.top ≡ suc j → (entry_at new (base + 2)).marks ≡ get_or t.lefts j 0
  pub below : (k : ℕ) → k < base → entry_at new k ≡ entry_at old k
  pub above : (k : ℕ) → base + 3 ≤ k → entry_at new k ≡ entry_at old k

-- The r-th list is kept, and no other changes.
pub record Stored (old new : List ℤ) (r n used : ℕ) (x : State) (t : Tables) (slots : List ℕ) (b : List Binding) : Type 0 where
  pub long : length new ≡ length old
  pub first : entry_at new (275 * r) ≡ cut (entry x.at x.marks)
  pub top : (entry_at new (275 * r + 1)).at ≡ (cut (entry x.top 0)).at
  pub pc : (entry_at new (275 * r + 2)).at ≡ (cut (entry x.pc 0)).at
  pub whole : (j : ℕ) → x.top ≡ suc j → (entry_at new (275 * r + 1)).marks ≡ get_or t.wholes j 0
  pub left : (j : ℕ) → x.top ≡ suc j → (entry_at new (275 * r + 2)).marks ≡ get_or t.lefts j 0
  pub binds : (v : ℕ) → v < n → entry_at new (275 * r + (3 + v)) ≡ binds_as b v
  pub waits : (j : ℕ) → 16 ≤ j → j < used → entry_at new (275 * r + (3 + j)) ≡ waits_as slots j
  pub below : (k : ℕ) → k < 275 * r → entry_at new k ≡ entry_at old k
  pub above : (k : ℕ) → 275 * r + 275 ≤ k → entry_at new k ≡ entry_at old k
