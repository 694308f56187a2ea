use mathlib.Core.Path.{refl}
use Rattle.search_step.specs.Steps.{counted, lived}
use Rattle.search.proofs.taking.ended.Goals as goal

pub returns : goal.returns
unfolding counted lived
returns c = refl
