use Rattle.value_equality.proofs.Integers.{paired_rules}
use Rattle.value_equality.proofs.paired_integers.Goals as goal

pub first_integer-k-requires : goal.first_integer-k-requires
first_integer-k-requires c = let h = c.in-Some.ensures.steps in record { placed = search paired_rules; tag = search paired_rules; marks = search paired_rules }
