use mathlib.Core.Path.{refl}
use Rattle.search.specs.Run.{value_of}
use Rattle.search.proofs.asking.value_of.Goals as goal

pub returns : goal.returns
unfolding value_of
returns c = refl
