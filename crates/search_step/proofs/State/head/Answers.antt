use Rattle.search_step.specs.Steps.{moved, lived}
use Rattle.search_step.proofs.Laws.{head_rules}
use Rattle.search_step.proofs.State.head.Goals as goal

pub whole-requires : goal.whole-requires
unfolding moved lived
whole-requires c = search head_rules
