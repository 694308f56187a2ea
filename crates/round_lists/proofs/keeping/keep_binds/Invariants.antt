use Prim.Native.Nat.{◌-◌}
use Rattle.round_lists.specs.Lists.{binds_as}
use Rattle.round_lists.proofs.Laws.{Saving}
use Rattle.round_lists.proofs.keeping.keep_binds.Given as goal

abbrev pub invariant-loop-v : goal.invariant-loop-v
invariant-loop-v l = Saving l.initial.table l.table l.base 0 l.n (binds_as l.b) l.v
