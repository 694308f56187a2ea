use Rattle.value_equality.specs.Levels.{level_of, comes_to}
use Rattle.value_equality.proofs.Table.{Going, to_go}
use Rattle.value_equality.proofs.compared.Given as goal

abbrev pub invariant-loop-yes : goal.invariant-loop-yes
invariant-loop-yes l = Going l.mt l.units.words.now (comes_to l.mt l.units.words.now (level_of l.kind l.at l.a l.x l.b l.y)) l.levels l.depth l.l

abbrev pub decreases-loop-yes : goal.decreases-loop-yes
decreases-loop-yes l = to_go l.units.words.now l.levels l.depth l.l
