use Rattle.tables.specs.Line.{columns_of}
use Rattle.program.proofs.Numbering.{Numbering}
use Rattle.program.proofs.number.number.Given as goal

abbrev pub invariant-loop-pc : goal.invariant-loop-pc
invariant-loop-pc l = Numbering l.last (columns_of l.initial.lines) (columns_of l.lines) l.next l.left l.pc
