use Prim.Native.Nat.{◌-◌}
use Rattle.round_lists.proofs.Outs.{Shutting}
use Rattle.round_lists.proofs.taking.shut_slots.Given as goal

abbrev pub invariant-loop-j : goal.invariant-loop-j
invariant-loop-j l = Shutting l.fn.used.slots l.initial.slots l.slots l.j
