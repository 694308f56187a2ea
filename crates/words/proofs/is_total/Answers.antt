use Rattle.words.proofs.Sums.{total_rules}
use Rattle.words.proofs.is_total.Goals as goal

pub returns : goal.returns
returns c = search total_rules
