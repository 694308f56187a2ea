use Rattle.search_step.specs.Steps.{counted, moved, lived}
use Rattle.search_step.proofs.Laws.{step_rules}
use Rattle.search_step.proofs.State.step.Goals as goal

pub returns-then-o-gt-NIL : goal.returns-then-o-gt-NIL
unfolding counted moved lived
returns-then-o-gt-NIL c = search step_rules
