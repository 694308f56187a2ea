use Prim.Native.Nat.{◌-◌}
use lib.ListN.{length}
use Rattle.tables.specs.Line.{columns_of}
use Rattle.program_parts.specs.Parts.{unders, slots, behinds}
use Rattle.program.specs.Pass.{cursor}
use Rattle.program.proofs.Turns.{Passing}
use Rattle.program.proofs.lay.lay.Given as goal

abbrev pub invariant-loop-c : goal.invariant-loop-c
invariant-loop-c l = Passing l.m.words.now l.p.words.now (columns_of l.initial.lines) (unders l.parts.waiting) (slots l.parts.waiting) (behinds l.parts.waiting) (cursor l.c.at l.c.pc l.parts.depth l.c.i) (columns_of l.lines)

abbrev pub decreases-loop-c : goal.decreases-loop-c
decreases-loop-c l = length l.p.words.now - l.c.at
