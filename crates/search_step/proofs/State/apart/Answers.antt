use Rattle.search_step.specs.Steps.{moved, lived}
use Rattle.search_step.proofs.Laws.{apart_rules}
use Rattle.search_step.proofs.State.apart.Goals as goal

pub whole-requires : goal.whole-requires
unfolding moved lived
whole-requires c = search apart_rules
