use Prim.Native.Nat.{◌-◌}
use Rattle.round_lists.proofs.Outs.{Waiting}
use Rattle.round_lists.proofs.taking.take_slots.Given as goal

abbrev pub invariant-loop-j : goal.invariant-loop-j
invariant-loop-j l = Waiting l.table l.base l.fn.used.slots l.initial.slots l.slots l.j
