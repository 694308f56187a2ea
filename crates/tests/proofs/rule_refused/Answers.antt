use mathlib.Core.Path.{refl}
use Rattle.tests.proofs.Laws.{in_every}
use Rattle.tests.proofs.rule_refused.Goals as goal

pub returns : goal.returns
returns c = in_every _ _ _ _ c.rule_refused_in.ensures refl
