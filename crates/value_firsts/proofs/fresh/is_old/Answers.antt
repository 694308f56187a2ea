-- `value_firsts::fresh::is_old` meets its contract: it says no only where none of the integers tried is equal.
use Rattle.value_firsts.proofs.Freshly.{not_so}
use Rattle.value_firsts.proofs.fresh.is_old.Goals as goal

pub returns : goal.returns
returns c = λ z. not_so z
