use Rattle.std.proofs.Common.{rules}
use Rattle.notation_write.proofs.Laws.{node_at}
use Rattle.notation_write.proofs.node_of.Goals as goal

pub returns : goal.returns
returns c = search (node_at, rules)
