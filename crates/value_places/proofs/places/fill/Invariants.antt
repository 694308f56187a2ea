use Prim.Native.Nat.{◌≤◌, ◌+◌, ◌-◌}
use mathlib.Core.Path.{◌≡◌}
use Rattle.tables.specs.Place.{sections_of, Whole}
use Rattle.value_places.specs.Places.{Standing, hops}
use Rattle.value_places.specs.Tables.{Filled}
use Rattle.value_places.proofs.places.fill.Given as goal

abbrev pub invariant-loop-o : goal.invariant-loop-o
invariant-loop-o l = (l.from ≤ l.o) × (l.o ≤ l.from + l.n) × Standing l.units.words.now (l.from + l.n - l.o) l.e × (l.e ≡ hops l.units.words.now (l.o - l.from) l.at) × Whole (sections_of l.places) × Filled l.units.words.now l.at (l.o - l.from) l.from (sections_of l.initial.places) (sections_of l.places)
