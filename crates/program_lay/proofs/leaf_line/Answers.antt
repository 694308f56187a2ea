use Rattle.program_lay.proofs.Laws.{leaf_rules}
use Rattle.program_lay.proofs.leaf_line.Goals as goal

pub con_of-c-requires : goal.con_of-c-requires
con_of-c-requires c = search leaf_rules
