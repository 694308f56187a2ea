-- What is taken out of the table, over slots and bindings that held something else.
use Rattle.std.specs.Prelude.{ℕ, suc, ◌+◌, ◌*◌, ◌≤◌, ◌<◌, ◌≡◌, List, length, get_or, ℤ}
use Rattle.tables.specs.declared.slot.Held.{Held}
use Rattle.tables.specs.Slot.{Tables, put_frame}
use Rattle.value_rows.specs.Row.{nothing}
use Rattle.value_rows.specs.declared.Binding.{Binding}
use Rattle.round_table.specs.Entries.{entry_at}

-- The values of the slots from 16 on wait; those of the others are as they were.
pub record Waited (ws : List ℤ) (base used : ℕ) (old new : List ℕ) : Type 0 where
  pub long : length new ≡ length old
  pub ats : (j : ℕ) → 16 ≤ j → j < used → get_or new j 0 ≡ (entry_at ws (base + 3 + j)).at
  pub backs : (j : ℕ) → 16 ≤ j → j < used → get_or new (1088 + j) 0 ≡ (entry_at ws (base + 3 + j)).marks
  pub old_ats : (j : ℕ) → j < 16 → get_or new j 0 ≡ get_or old j 0
  pub old_backs : (j : ℕ) → j < 16 → get_or new (1088 + j) 0 ≡ get_or old (1088 + j) 0
  pub lows : (j : ℕ) → j < 272 → get_or new (816 + j) 0 ≡ get_or old (816 + j) 0

-- No frame is below that of any slot.
pub record Shut (used : ℕ) (old new : List ℕ) : Type 0 where
  pub long : length new ≡ length old
  pub lows : (j : ℕ) → j < used → get_or new (816 + j) 0 ≡ 0
  pub ats : (j : ℕ) → j < 272 → get_or new j 0 ≡ get_or old j 0
  pub backs : (j : ℕ) → get_or new (1088 + j) 0 ≡ get_or old (1088 + j) 0

pub record Rebound (ws : List ℤ) (base n : ℕ) (old new : List Binding) : Type 0 where
  pub long : length new ≡ length old
  pub binds : (v : ℕ) → v < n → get_or new v nothing ≡ record { at = (entry_at ws (base + 3 + v)).at; marks = (entry_at ws (base + 3 + v)).marks }
  pub old_binds : (v : ℕ) → n ≤ v → get_or new v nothing ≡ get_or old v nothing

-- The r-th list of the table.
pub record TakenOut (ws : List ℤ) (r n used : ℕ) (slots₀ slots : List ℕ) (b₀ b : List Binding) : Type 0 where
  pub long : length slots ≡ length slots₀
  pub ats : (j : ℕ) → 16 ≤ j → j < used → get_or slots j 0 ≡ (entry_at ws (275 * r + (3 + j))).at
  pub backs : (j : ℕ) → 16 ≤ j → j < used → get_or slots (1088 + j) 0 ≡ (entry_at ws (275 * r + (3 + j))).marks
  pub lows : (j : ℕ) → j < used → get_or slots (816 + j) 0 ≡ 0
  pub old_ats : (j : ℕ) → j < 16 → get_or slots j 0 ≡ get_or slots₀ j 0
  pub old_backs : (j : ℕ) → j < 16 → get_or slots (1088 + j) 0 ≡ get_or slots₀ (1088 + j) 0
  pub binds : (v : ℕ) → v < n → get_or b v nothing ≡ record { at = (entry_at ws (275 * r + (3 + v))).at; marks = (entry_at ws (275 * r + (3 + v))).marks }
  pub old_binds : (v : ℕ) → n ≤ v → get_or b v nothing ≡ get_or b₀ v nothing
  pub many : length b ≡ length b₀

-- A frame is open again, and none is below it.
unfoldable pub reopened : ℕ → Held → Held → Tables → Tables
unfolding put_frame
reopened pc one two t = put_frame pc (record { at = get_or t.ats pc 0; whole = one.marks; left = two.marks }) 0 t
