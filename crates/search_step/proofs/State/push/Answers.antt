use mathlib.Core.Path.{refl}
use Rattle.search_step.specs.Steps.{pushed}
use Rattle.search_step.proofs.Laws.{push_rules}
use Rattle.search_step.proofs.State.push.Goals as goal

pub returns : goal.returns
unfolding pushed
returns c = record { value = refl; slots = search push_rules }
