use Rattle.run_sound.proofs.Tests.{BoundTo}
use Rattle.run_sound.proofs.held.are_bound.Given as goal

abbrev pub invariant-loop-x : goal.invariant-loop-x
invariant-loop-x l = BoundTo l.s l.x-items l.x-index
