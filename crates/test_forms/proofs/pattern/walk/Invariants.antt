use Rattle.test_forms.proofs.pattern.Steps.{Stands}
use Rattle.test_forms.proofs.pattern.walk.Given as goal

abbrev pub invariant-loop-at : goal.invariant-loop-at
invariant-loop-at l = Stands l.ps l.at l.skip l.need
