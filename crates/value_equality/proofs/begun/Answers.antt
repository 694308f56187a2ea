use mathlib.Core.Path.{refl}
use Rattle.value_equality.specs.Levels.{level_of}
use Rattle.value_equality.proofs.begun.Goals as goal

pub returns : goal.returns
unfolding level_of
returns c = refl
