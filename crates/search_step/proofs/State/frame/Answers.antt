use mathlib.Core.Path.{refl}
use Rattle.search_step.specs.Steps.{framed_at}
use Rattle.search_step.proofs.Laws.{both_rules}
use Rattle.search_step.proofs.State.frame.Goals as goal

pub returns : goal.returns
unfolding framed_at
returns c = record { value = refl; slots = search both_rules }
