use Rattle.search_step.specs.Steps.{counted, lived}
use Rattle.search.specs.Run.{wrote_to}
use Rattle.search.proofs.taking.wrote.Goals as goal

pub returns : goal.returns
unfolding counted lived wrote_to
returns c = c.ended.ensures
