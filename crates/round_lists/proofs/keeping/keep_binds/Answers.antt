use Prim.Native.Nat.{◌-◌}
use Rattle.round_lists.proofs.Laws.{own_rules}
use Rattle.round_lists.proofs.keeping.keep_binds.Goals as goal

pub loop-v-preserved : goal.loop-v-preserved
loop-v-preserved c = search own_rules
