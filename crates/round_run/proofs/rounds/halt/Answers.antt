use mathlib.Core.Path.{refl}
use Rattle.round_run.specs.Courses.{halted_at}
use Rattle.round_run.proofs.rounds.halt.Goals as goal

pub returns : goal.returns
unfolding halted_at
returns c = refl
