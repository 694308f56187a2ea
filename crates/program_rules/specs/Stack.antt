-- The parts that wait, in three arrays up to a depth, and what lies there when the part on top waits no longer.
use Rattle.std.specs.Prelude.{ℕ, zero, suc, ◌+◌, ◌-◌, cond, List, [], ◌∷◌, get_or, set, eqb, ltb, ℤ}
use Rattle.matchers.specs.Places.{matcher_end}
use Rattle.tables.specs.declared.line.Line.{Line}
use Rattle.program_rules.specs.Lines.{Waiting, waits, close_line}

-- One array for each number of a part that waits; the entry 0 is no part's.
pub record Stack : Type 0 where
  pub under : List ℕ
  pub slots : List ℕ
  pub behind : List ℕ
  pub depth : ℕ

abbrev pub stack : List ℕ → List ℕ → List ℕ → ℕ → Stack
stack u s b d = record { under = u; slots = s; behind = b; depth = d }

unfoldable pub waiting_at : (under slots behind : List ℕ) (depth : ℕ) → List Waiting
waiting_at u s b zero = []
waiting_at u s b (suc d) = waits (get_or u (suc d) 0) (get_or s (suc d) 0) (get_or b (suc d) 0) ∷ waiting_at u s b d

-- The part behind it in its tuple, whose matcher and slot are the next; the end of the or whose second side it is; where there is none, what lies below.
unfoldable pub popped : (ms : List ℤ) → Stack → Stack
unfolding matcher_end
popped ms t =
    cond (eqb (get_or t.behind t.depth 0) 0)
    (stack t.under t.slots t.behind (t.depth - 1))
    (cond (eqb (get_or t.behind t.depth 0) 3)
    (stack t.under t.slots (set t.behind t.depth 4) t.depth)
    (stack (set t.under t.depth (matcher_end ms (get_or t.under t.depth 0))) (set t.slots t.depth (get_or t.slots t.depth 0 + 1)) (set t.behind t.depth (get_or t.behind t.depth 0 - 1)) t.depth))

-- The lines of the ends on top.
unfoldable pub close_lines : (slots behind : List ℕ) (depth : ℕ) → List Line
unfolding close_line
close_lines s b zero = []
close_lines s b (suc d) = cond (ltb 3 (get_or b (suc d) 0)) (close_line (get_or b (suc d) 0) (get_or s (suc d) 0) ∷ close_lines s b d) []
