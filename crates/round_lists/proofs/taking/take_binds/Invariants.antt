use Prim.Native.Nat.{◌-◌}
use Rattle.round_lists.proofs.Outs.{Rebinding}
use Rattle.round_lists.proofs.taking.take_binds.Given as goal

abbrev pub invariant-loop-v : goal.invariant-loop-v
invariant-loop-v l = Rebinding l.table l.base l.n l.initial.b l.b l.v
