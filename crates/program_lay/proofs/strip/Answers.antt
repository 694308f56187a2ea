use Rattle.program_lay.proofs.Laws.{leaf_rules}
use Rattle.program_lay.proofs.strip.Goals as goal

pub returns-then-k-eq0 : goal.returns-then-k-eq0
returns-then-k-eq0 c = search leaf_rules

pub returns-then-o-lt-CONSTANT : goal.returns-then-o-lt-CONSTANT
returns-then-o-lt-CONSTANT c = search leaf_rules

pub returns : goal.returns
returns c = search leaf_rules
