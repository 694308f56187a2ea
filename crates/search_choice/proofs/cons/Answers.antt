use Rattle.search_step.specs.Steps.{moved, topped}
use Rattle.search_choice.proofs.Laws.{long_back, cons_is, cons_rules}
use Rattle.search_choice.proofs.cons.Goals as goal

pub leave-requires : goal.leave-requires
unfolding moved topped
leave-requires c = record { slotted = long_back _ _ _ _ _ c.requires.slotted c.put_back.ensures; alone = search cons_rules }

pub returns : goal.returns
unfolding moved topped
returns c = cons_is _ _ _ _ _ _ _ _ _ _ _ _ _ c.frame_at-f.ensures c.lowest-k.ensures c.element-e.ensures c.whole-a.ensures c.without-b.ensures
    c.put_back.ensures c.rest-more.ensures c.leave.ensures.value c.leave.ensures.slots

pub element-e-requires : goal.element-e-requires
unfolding moved topped
element-e-requires c = search cons_rules

pub whole-a-requires : goal.whole-a-requires
unfolding moved topped
whole-a-requires c = search cons_rules
