use Prim.Native.Nat.{◌-◌}
use Rattle.tables.specs.Line.{columns_of}
use Rattle.program_lay.proofs.Laws.{Reserving}
use Rattle.program_lay.proofs.reserve.Given as goal

abbrev pub invariant-loop-q : goal.invariant-loop-q
invariant-loop-q l = Reserving l.e l.pc (columns_of l.initial.lines) (columns_of l.lines) l.q (l.end - l.q)
