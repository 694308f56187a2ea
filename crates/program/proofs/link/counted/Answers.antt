use Rattle.program.proofs.link.Pass.{count_rules}
use Rattle.program.proofs.link.counted.Goals as goal

pub returns-then-o-eq-BIND : goal.returns-then-o-eq-BIND
returns-then-o-eq-BIND c = search count_rules

pub returns-else-o-eq-BIND : goal.returns-else-o-eq-BIND
returns-else-o-eq-BIND c = search count_rules
