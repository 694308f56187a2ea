use Rattle.round_table.proofs.Laws.{own_rules}
use Rattle.round_table.proofs.copy.Goals as goal

pub loop-k-preserved : goal.loop-k-preserved
loop-k-preserved c = search own_rules
