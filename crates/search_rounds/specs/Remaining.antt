-- A list of the table that an open frame is left of, and its remainder.
use Rattle.std.specs.Prelude.{ℕ, suc, ◌+◌, ◌*◌, ◌≤◌, ◌<◌, ◌≡◌, List, [], ◌∷◌, length, ℤ}
use Rattle.rules.specs.Search as paper
use Rattle.round_rules.specs.Rounds.{Branch}
use Rattle.value_rows.specs.declared.Binding.{Binding}
use Rattle.search_step.specs.declared.State.{State}
use Rattle.search.specs.Run.{Env}
use Rattle.round_table.specs.Entries.{entry_at}
use Rattle.round_states.specs.Ruled.{Ruled}
use Rattle.round_states.specs.Standing.{Clean, Used, Kept}
use Rattle.round_states.specs.Table.{nth}

-- The head of the r-th list, before the next choice of its frame is taken.
unfoldable pub head_in : List ℤ → ℕ → State → State
head_in ws r x = record {
  pc = (entry_at ws (275 * r + 2)).at;
  at = (entry_at ws (275 * r)).at;
  marks = (entry_at ws (275 * r)).marks;
  top = (entry_at ws (275 * r + 1)).at;
  live = 2;
  rows = x.rows;
  steps = x.steps;
  words = x.words;
}

-- The r-th list of the table stands for br, a frame of it is open, and the table has another place for its remainder.
pub record Listed (e : Env) (used : ℕ) (ws : List ℤ) (r to : ℕ) (x : State) (slots : List ℕ) (b : List Binding) : Type 0 where
  pub ruled : Ruled e
  pub uses : Used e ruled used
  pub br : Branch
  pub kept : Kept e ruled used (nth e ruled ws r) br
  pub opened : (entry_at ws (275 * r + 1)).at ≡ 0 → ⊥
  pub clean : Clean e ruled slots b
  pub apart : r < to
  pub there : 825 * to + 825 ≤ length ws
  pub counts : x.rows ≤ x.steps

-- For every list that the r-th stood for: its remainder is kept, and no other list changes.
pub record Remained (e : Env) (used : ℕ) (old new : List ℤ) (r to : ℕ) (slots₀ slots : List ℕ) (b₀ b : List Binding) : Type 0 where
  pub long : length new ≡ length old
  pub below : (k : ℕ) → k < 275 * to → entry_at new k ≡ entry_at old k
  pub above : (k : ℕ) → 275 * to + 275 ≤ k → entry_at new k ≡ entry_at old k
  pub clean : (R : Ruled e) → Used e R used → (br : Branch) → Kept e R used (nth e R old r) br → Clean e R slots₀ b₀ → Clean e R slots b
  pub rest : (R : Ruled e) → Used e R used → (br : Branch) → Kept e R used (nth e R old r) br → Clean e R slots₀ b₀
      → (o : paper.State) × (rest : List paper.State) × (br.others ≡ o ∷ rest) × Kept e R used (nth e R new to) (record { first = o; others = rest })
