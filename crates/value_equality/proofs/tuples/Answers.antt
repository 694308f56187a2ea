use Rattle.value_equality.proofs.Parts.{tuples_rules}
use Rattle.value_equality.proofs.tuples.Goals as goal

pub returns-then-n-m : goal.returns-then-n-m
returns-then-n-m c = search tuples_rules

pub returns-then-n-w : goal.returns-then-n-w
returns-then-n-w c = search tuples_rules

pub returns : goal.returns
returns c = search tuples_rules
