-- What stops a run, by its number and by how the run stands.
use Rattle.std.specs.Prelude.{ℕ, Option, Some, None, eqb}
use Rattle.std.proofs.Math.Bool.{cond}
use Rattle.search.specs.declared.stop.Stop.{Stop}
use Rattle.search.specs.declared.stop.Stop.TheVariants.{Budget, Room, Table}

-- The answers of section 3, 0 where nothing stops it; 21 of document 02, No. 10.
abbrev pub number_of : Option Stop → ℕ
number_of None = 0
number_of (Some Budget) = 7
number_of (Some Room) = 8
number_of (Some Table) = 21

-- By `live`: full, done, else the budget.
unfoldable pub stop_of : (live : ℕ) → Option Stop
stop_of n = cond (eqb n 3) (Some Room) (cond (eqb n 0) None (Some Budget))
