use Rattle.program_lay.proofs.Laws.{ends_rules}
use Rattle.program_lay.proofs.ends.other.Goals as goal

pub returns-then-n-eq-OTHER_SIDE : goal.returns-then-n-eq-OTHER_SIDE
returns-then-n-eq-OTHER_SIDE c = search ends_rules

pub returns : goal.returns
returns c = search ends_rules
