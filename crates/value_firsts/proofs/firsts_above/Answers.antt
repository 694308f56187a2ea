-- `value_firsts::firsts_above` meets its contract: what is kept, and the first places of what is left.
use Rattle.value_firsts.proofs.Laws.{above_rules}
use Rattle.value_firsts.proofs.firsts_above.Goals as goal

pub overflow_sub-left : goal.overflow_sub-left
overflow_sub-left c = search above_rules

pub is_seen-seen-requires : goal.is_seen-seen-requires
is_seen-seen-requires c = record { placed = search above_rules; held = search above_rules; element = (search above_rules, search above_rules, search above_rules); fresh = search above_rules }

pub kept-out-requires : goal.kept-out-requires
kept-out-requires c = search above_rules

pub loop-left-preserved : goal.loop-left-preserved
loop-left-preserved c = (search above_rules, search above_rules, search above_rules, search above_rules)
