use Rattle.value_equality.proofs.Asking.{equal_rules}
use Rattle.value_equality.proofs.equal.Goals as goal

pub compared-requires : goal.compared-requires
compared-requires c = record { placed = search equal_rules; tag_a = search equal_rules; opened = search equal_rules }

pub compared-requires-2 : goal.compared-requires-2
compared-requires-2 c = record { placed = search equal_rules; tag_a = search equal_rules; opened = search equal_rules }
