use Rattle.program.proofs.Both.{both_rules}
use Rattle.program.proofs.compile.Goals as goal

pub number-requires : goal.number-requires
number-requires c = search both_rules

pub link-requires : goal.link-requires
link-requires c = search both_rules
