use Rattle.value_equality.proofs.Integers.{integer_rules}
use Rattle.value_equality.proofs.asked_integers.Goals as goal

pub same_integers-requires : goal.same_integers-requires
same_integers-requires c = search integer_rules
