use Prim.Native.Nat.{suc}
use mathlib.Core.List.{[]}
use Rattle.tables.specs.Line.{columns_of}
use Rattle.program_rules.specs.Link.{ops_in, bindings_in, linked_in}
use Rattle.program.proofs.link.Loops.{Passing}
use Rattle.program.proofs.link.link.Given as goal

abbrev pub invariant-loop-pc : goal.invariant-loop-pc
invariant-loop-pc l = Passing (bindings_in (ops_in (columns_of l.initial.lines).op 0 (suc l.last))) (linked_in (suc l.last) (columns_of l.initial.lines)) (columns_of l.lines) [] l.n l.pc l.pc
