use Rattle.search_seek.proofs.Lines.{second_line}
use Rattle.search_seek.proofs.asked.asked_at.Goals as goal

pub second_at-requires : goal.second_at-requires
second_at-requires c = second_line _ _ _ _ c.requires c.first_at-i.ensures
