use Prim.Native.Nat.{◌-◌}
use Rattle.round_lists.specs.Lists.{waits_as}
use Rattle.round_lists.proofs.Laws.{Saving}
use Rattle.round_lists.proofs.keeping.keep_slots.Given as goal

abbrev pub invariant-loop-j : goal.invariant-loop-j
invariant-loop-j l = Saving l.initial.table l.table l.base 16 l.fn.used.slots (waits_as l.slots) l.j
