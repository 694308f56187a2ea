use mathlib.Core.Path.{refl, ap}
use Rattle.search.specs.Run.{opening}
use Rattle.search.specs.Searched.{unbound}
use Rattle.search.proofs.open.Goals as goal

pub returns : goal.returns
unfolding opening unbound
returns c = record { state = ap (opening 0) c.whole.ensures; binds = refl }
