use mathlib.Core.Path.{◌≡◌}
use Rattle.value_equality.specs.Equality.{integers_paired}
use Rattle.value_equality.specs.Levels.{Both}
use Rattle.value_equality.proofs.paired_integers.Given as goal

abbrev pub invariant-loop-j : goal.invariant-loop-j
invariant-loop-j l = (integers_paired l.units.words.now l.a l.am l.b l.bm ≡ integers_paired l.units.words.now l.a l.j-iterator.left l.b l.y) × Both l.units.words.now l.a l.j-iterator.left l.b l.y
