-- `value_firsts::fresh::is_old_integer` meets its contract: none of those tried is equal.
use Rattle.value_firsts.proofs.Freshly.{number_rules}
use Rattle.value_firsts.proofs.fresh.is_old_integer.Goals as goal

pub returns : goal.returns
returns c = λ z. search number_rules

pub same_integers-requires : goal.same_integers-requires
same_integers-requires c = search number_rules
