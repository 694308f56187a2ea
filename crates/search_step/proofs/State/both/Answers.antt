use mathlib.Core.Path.{refl}
use Rattle.search_step.specs.Steps.{kept_at, moved}
use Rattle.search_step.proofs.Laws.{both_rules}
use Rattle.search_step.proofs.State.both.Goals as goal

pub returns : goal.returns
unfolding kept_at moved
returns c = record { value = refl; slots = search both_rules }
