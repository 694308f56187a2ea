use Rattle.search_step.specs.Steps.{counted, lived}
use Rattle.search.specs.Run.{filled}
use Rattle.search.proofs.taking.filled.Goals as goal

pub returns : goal.returns
unfolding counted lived filled
returns c = c.ended.ensures
