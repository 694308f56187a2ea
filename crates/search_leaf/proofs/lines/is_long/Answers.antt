use Rattle.search_leaf.proofs.Ends.{no_answer}
use Rattle.search_leaf.proofs.lines.is_long.Goals as goal

pub returns-then-m-eq0 : goal.returns-then-m-eq0
returns-then-m-eq0 c = no_answer
