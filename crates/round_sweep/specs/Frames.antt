-- The open frame of a state that stands, as a count of its choices asks for it.
use Rattle.std.specs.Prelude.{ℕ, ◌-◌, ◌≤◌, ◌≡◌, List, get_or}
use Rattle.tables.specs.Slot.{view_of, Slotted}

pub record Framing (op arg slots : List ℕ) (top : ℕ) : Type 0 where
  pub slotted : (top ≡ 0 → ⊥) → Slotted arg slots (top - 1)
  pub within : (top ≡ 0 → ⊥) → get_or op (top - 1) 0 ≡ 10 → get_or (view_of arg slots).lefts (top - 1) 0 ≤ get_or (view_of arg slots).wholes (top - 1) 0
