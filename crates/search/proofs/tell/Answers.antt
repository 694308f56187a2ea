use mathlib.Core.Path.{refl}
use Rattle.search.proofs.Laws.{report_is}
use Rattle.search.proofs.tell.Goals as goal

pub returns : goal.returns
returns c = report_is _ _ c.stop_of.ensures refl refl refl
