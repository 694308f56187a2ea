use lib.ListN.{length}
use Rattle.test_target.proofs.Runs.{Passed}
use Rattle.test_unfit.specs.Unfit.{plain_pair, pair_run}
use Rattle.test_unfit.proofs.pair_run.Given as goal

abbrev pub invariant-loop-i : goal.invariant-loop-i
invariant-loop-i l = Passed (plain_pair l.ts) 6 (length l.ts) (pair_run l.ts l.n l.at) l.m l.at l.i
