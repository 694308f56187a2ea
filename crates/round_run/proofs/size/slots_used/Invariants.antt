use Rattle.tables.specs.Line.{columns_of}
use Rattle.round_run.specs.Sizes.{Numbered}
use Rattle.round_run.proofs.size.slots_used.Given as goal

abbrev pub invariant-loop-pc : goal.invariant-loop-pc
invariant-loop-pc l = Numbered (columns_of l.lines).arg l.pc l.u
