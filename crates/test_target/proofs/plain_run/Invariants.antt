use lib.ListN.{length}
use Rattle.test_target.specs.Targets.{plain_at, plain_run}
use Rattle.test_target.proofs.Runs.{Passed}
use Rattle.test_target.proofs.plain_run.Given as goal

abbrev pub invariant-loop-i : goal.invariant-loop-i
invariant-loop-i l = Passed (plain_at l.ts) 2 (length l.ts) (plain_run l.ts l.n l.at) l.m l.at l.i
