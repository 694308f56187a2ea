-- A run by rounds, at every budget, with every room and table.
use Prim.Native.Nat.{ℕ, ◌≤◌, ◌<◌}
use Rattle.std.specs.Prelude.{◌≡◌}
use mathlib.Core.List.{List}
use Rattle.std.proofs.Math.ListN.{length}
use Rattle.rules.specs.Dialects.{Dialect}
use Rattle.rules.specs.Rows.{Form}
use Rattle.rules.specs.Search.{Run}
use Rattle.promises.specs.Trace.{Taken, walk}
use Rattle.promises.specs.Budget.{rows_of, report}
use Rattle.round_rules.specs.Rounds.{Branch, waiting}
use Rattle.round_promises.specs.Order.{later, first_rounds}

-- Everything here is of rows in one form.
module _ (dialect : Dialect) (form : Form) where
  -- After some rounds, each of which begins with at most `limit` waiting states, the next would begin with more; the budget is not used up by what they take
  -- up, and the rows of that fit in the room.
  pub record Overfull (limit n free : ℕ) (bs : List Branch) : Type 0 where
    pub rounds : ℕ
    pub before : (j : ℕ) → j < rounds → waiting (later dialect j bs) ≤ limit
    pub over : limit < waiting (later dialect rounds bs)
    pub reached : length (first_rounds dialect rounds bs) < n
    pub fit : length (rows_of form (first_rounds dialect rounds bs)) ≤ free

  -- A run by rounds over the lists bs, with an order ts of all rounds: it walks along that order, or the table stops it.
  pub data ByRounds (limit n free : ℕ) (bs : List Branch) (ts : List Taken) (r : Run) : Type 0 where
    walks : (Overfull limit n free bs → ⊥) → r ≡ walk form n ts free → ByRounds limit n free bs ts r
    table : (o : Overfull limit n free bs) → r ≡ report form 21 (length (first_rounds dialect o.rounds bs)) (first_rounds dialect o.rounds bs) → ByRounds limit n free bs ts r
