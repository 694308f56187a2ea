use Rattle.test_fit.proofs.Steps.{Stored}
use Rattle.test_fit.proofs.waiting.Waiting.push_members.Given as goal

abbrev pub invariant-loop-left : goal.invariant-loop-left
invariant-loop-left l = Stored l.ms l.fn.self l.self l.i l.k l.left l.e
