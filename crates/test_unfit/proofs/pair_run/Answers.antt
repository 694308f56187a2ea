use Rattle.test_unfit.proofs.Runs.{pair_run_rules}
use Rattle.test_unfit.proofs.pair_run.Goals as goal

pub loop-i-init : goal.loop-i-init
loop-i-init c = search pair_run_rules

pub loop-i-preserved : goal.loop-i-preserved
loop-i-preserved c = search pair_run_rules
