use mathlib.Core.Path.{◌≡◌}
use Rattle.value_equality.specs.Equality.{first_integer}
use Rattle.value_equality.specs.Levels.{Marks}
use Rattle.value_equality.proofs.first_integer.Given as goal

abbrev pub invariant-loop-k : goal.invariant-loop-k
invariant-loop-k l = (first_integer l.units.words.now l.e l.b l.y ≡ first_integer l.units.words.now l.e l.b l.k-iterator.left) × Marks l.units.words.now l.b l.k-iterator.left
