-- What a run with a budget and a room gives: it takes up the states in their order until none remains, the budget is used up or a row does not fit.
use Prim.Native.Nat.{ℕ, suc, ◌+◌, ◌≤◌, ◌<◌}
use Rattle.std.specs.Prelude.{◌≡◌, take, ℤ}
use mathlib.Core.List.{List, ◌∷◌, ◌++◌, flat_map}
use Rattle.std.proofs.Math.ListN.{length}
use Rattle.rules.specs.Origins.{Bindings}
use Rattle.rules.specs.Rows.{Form, row}
use Rattle.rules.specs.Search.{Run}
use Rattle.promises.specs.Trace.{Taken, found}
use Rattle.promises.specs.Solve.{founds}

-- Everything here is of rows in one form.
module _ (form : Form) where
  -- The words of the rows that some states give.
  unfoldable pub rows_of : List Taken → List ℤ
  unfolding founds flat_map row
  rows_of ts = flat_map (row form) (founds ts)

  -- The answer, the steps, and the rows of the states us.
  unfoldable pub report : ℕ → ℕ → List Taken → Run
  unfolding founds rows_of
  report a n us = record { answer = a; rows = length (founds us); steps = n; written = rows_of us }

  -- Among the first n states there is one whose row does not fit in the `free` words that the room has; those before it are `before`.
  pub record Full (n free : ℕ) (ts : List Taken) : Type 0 where
    pub before : List Taken
    pub bound : Bindings
    pub after : List Taken
    pub is : ts ≡ before ++ (found bound ∷ after)
    pub reached : length before < n
    pub fit : length (rows_of before) ≤ free
    pub over : free < length (rows_of before) + length (row form bound)

  -- A run by the budget n over the states ts, in the order in which they are taken up, ends in one of three ways.
  pub data Outcome (n free : ℕ) (ts : List Taken) (r : Run) : Type 0 where
    -- All states are taken up, and all rows fit.
    done : length ts ≤ n → length (rows_of ts) ≤ free → r ≡ report 0 (length ts) ts → Outcome n free ts r
    -- The first n states are taken up, their rows fit, and states remain.
    spent : n < length ts → length (rows_of (take n ts)) ≤ free → r ≡ report 7 n (take n ts) → Outcome n free ts r
    -- States are taken up until one whose row does not fit; that one is counted as a step.
    full : (f : Full n free ts) → r ≡ report 8 (suc (length f.before)) f.before → Outcome n free ts r
