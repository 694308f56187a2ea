use mathlib.Core.Path.{refl}
use Rattle.round_sweep.specs.Turns.{stopped_at}
use Rattle.round_sweep.proofs.turn.stop.Goals as goal

pub returns : goal.returns
unfolding stopped_at
returns c = refl
