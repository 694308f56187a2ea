use Rattle.search_step.specs.Steps.{moved, topped}
use Rattle.search_choice.proofs.Laws.{long_back, join_is, join_rules}
use Rattle.search_choice.proofs.join.Goals as goal

pub leave-requires : goal.leave-requires
unfolding moved topped
leave-requires c = record { slotted = long_back _ _ _ _ _ c.requires.slotted c.put_back.ensures; alone = search join_rules }

pub returns : goal.returns
unfolding moved topped
returns c = join_is _ _ _ _ _ _ _ _ c.frame_at-f.ensures c.put_back.ensures c.longer_front-more.ensures c.leave.ensures.value c.leave.ensures.slots
