-- The dialect of a rule, as the code is told it.
use Rattle.std.specs.Prelude.{Bool, true, false}
use Rattle.rules.specs.Dialects.{Dialect, every_place, first_places}

-- By whether a cons under a multiset takes first places only.
unfoldable pub dialect_by : Bool → Dialect
dialect_by true = first_places
dialect_by false = every_place
