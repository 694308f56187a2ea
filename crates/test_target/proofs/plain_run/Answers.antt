use Rattle.test_target.proofs.Runs.{run_rules}
use Rattle.test_target.proofs.plain_run.Goals as goal

pub loop-i-init : goal.loop-i-init
loop-i-init c = search run_rules

pub loop-i-preserved : goal.loop-i-preserved
loop-i-preserved c = search run_rules
