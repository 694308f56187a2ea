-- The values that wait, by the numbers of their slots: a place in the first section of the slots, marks in the last.
use Rattle.std.specs.Prelude.{ℕ, ◌+◌, List, get_or, set}
use Rattle.tables.specs.declared.slot.Held.{Held}

unfoldable pub waiting_in : List ℕ → ℕ → Held
waiting_in t j = record { at = get_or t j 0; marks = get_or t (1088 + j) 0 }

unfoldable pub put_waiting : List ℕ → ℕ → Held → List ℕ
put_waiting t j h = set (set t j h.at) (1088 + j) h.marks
