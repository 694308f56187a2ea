use Prim.Native.Nat.{◌+◌}
use Rattle.tables.specs.Line.{columns_of}
use Rattle.program_rules.specs.Link.{ops_in, bindings_in, linked_in}
use Rattle.program_rules.specs.Pile.{kept_at}
use Rattle.program.proofs.link.Pass.{Held}
use Rattle.program.proofs.link.Loops.{Passing}
use Rattle.program.proofs.link.link_kept.Given as goal

abbrev pub invariant-loop-pc : goal.invariant-loop-pc
invariant-loop-pc l = Passing (l.vars + bindings_in (ops_in (columns_of l.initial.lines).op 0 l.end)) (linked_in l.end (columns_of l.initial.lines)) (columns_of l.lines) (kept_at l.kept.places l.kept.depth) l.n l.pc l.land
    × Held l.kept.places l.kept.depth l.pc
