use Prim.Native.Nat.{◌≤◌, ◌+◌, ◌*◌}
use lib.ListN.{drop}
use Rattle.rules.specs.Forms.{count}
use Rattle.tables.specs.Place.{sections_of, Whole}
use Rattle.value_places.specs.Places.{forest}
use Rattle.value_places.specs.Tables.{EndsFrom, PlacesFrom}
use Rattle.value_places.proofs.places.places_of.Given as goal

-- The last part: each place written is that of a value; the values that stand one after the other behind the pairs have none yet, nor have those before them.
abbrev pub invariant-loop-pair : goal.invariant-loop-pair
invariant-loop-pair l = Whole (sections_of l.places) × EndsFrom l.units.words.now (sections_of l.places).ends (2 * l.pair) × PlacesFrom l.units.words.now (sections_of l.places) (2 * l.pair) l.used × (l.used + count (forest (drop (2 * l.pair) l.units.words.now)) + l.pair ≤ 512)
