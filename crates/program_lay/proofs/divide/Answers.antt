use Rattle.program_lay.proofs.Laws.{divide_rules}
use Rattle.program_lay.proofs.divide.Goals as goal

pub returns-clause-lines : goal.returns-clause-lines
returns-clause-lines c = search divide_rules
