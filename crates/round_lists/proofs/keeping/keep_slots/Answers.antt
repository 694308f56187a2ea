use Prim.Native.Nat.{◌-◌}
use Rattle.round_lists.proofs.Laws.{own_rules}
use Rattle.round_lists.proofs.keeping.keep_slots.Goals as goal

pub loop-j-preserved : goal.loop-j-preserved
loop-j-preserved c = search own_rules
