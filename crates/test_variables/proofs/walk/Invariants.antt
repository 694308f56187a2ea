use Rattle.test_variables.proofs.Steps.{Stands}
use Rattle.test_variables.proofs.walk.Given as goal

abbrev pub invariant-loop-at : goal.invariant-loop-at
invariant-loop-at l = Stands l.ps l.at l.skip l.next l.inside
