use Rattle.book.proofs.testing.Walking.{Walked}
use Rattle.book.proofs.testing.test.Given as goal

abbrev pub invariant-loop-block : goal.invariant-loop-block
invariant-loop-block l = Walked l.book l.used l.n l.block
