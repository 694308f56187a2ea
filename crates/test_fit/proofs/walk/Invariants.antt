use Rattle.test_fit.proofs.Steps.{Going}
use Rattle.test_fit.proofs.walk.Given as goal

abbrev pub invariant-loop-at : goal.invariant-loop-at
invariant-loop-at l = Going l.firsts l.ms l.ps l.w l.at
