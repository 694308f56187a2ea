use Rattle.tables.specs.Line.{columns_of}
use Rattle.program_parts.specs.Parts.{stack_of}
use Rattle.program_lay.proofs.Closing.{Ending}
use Rattle.program_lay.proofs.ends.close.Given as goal

abbrev pub invariant-loop-end : goal.invariant-loop-end
invariant-loop-end l = Ending (stack_of l.initial.parts) (stack_of l.parts) l.pc l.q (columns_of l.initial.lines) (columns_of l.lines)

abbrev pub decreases-loop-end : goal.decreases-loop-end
decreases-loop-end l = l.parts.depth
