use Rattle.program_lay.proofs.Laws.{leaf_rules}
use Rattle.program_lay.proofs.leaf.Goals as goal

pub leaf_line-requires : goal.leaf_line-requires
leaf_line-requires c = search leaf_rules

pub overflow_add-result : goal.overflow_add-result
overflow_add-result c = search leaf_rules
