use Rattle.tables.specs.Line.{columns_of}
use Rattle.search_seek.proofs.Lines.{second_there}
use Rattle.search_seek.proofs.asked.second_at.Goals as goal

pub from_at-f-requires : goal.from_at-f-requires
from_at-f-requires c = (c.requires c.if-i-top.false).0

pub to_at-k-requires : goal.to_at-k-requires
to_at-k-requires c = (c.requires c.if-i-top.false).0

pub op_at-o-requires : goal.op_at-o-requires
op_at-o-requires c = second_there (columns_of c.args.lines.now).to _ _ _ c.requires c.if-i-top.false c.to_at-k.ensures
