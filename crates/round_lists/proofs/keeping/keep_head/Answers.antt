use Rattle.round_lists.proofs.Laws.{own_rules}
use Rattle.round_lists.proofs.keeping.keep_head.Goals as goal

pub returns : goal.returns
returns c = search own_rules
