use Prim.Native.Nat.{◌-◌}
use Rattle.round_sweep.proofs.Pulls.{Pulling}
use Rattle.round_sweep.proofs.pull.pull.Given as goal

abbrev pub invariant-loop-k : goal.invariant-loop-k
invariant-loop-k l = Pulling l.initial.table l.table l.many l.fresh l.left l.used l.k
