use Prim.Native.Nat.{◌-◌}
use Rattle.words.specs.Words.{entries}
use Rattle.tables.specs.Line.{columns_of}
use Rattle.tables.specs.Slot.{view_of}
use Rattle.run_sound.proofs.Runs.{LinedTo}
use Rattle.run_sound.proofs.lines.are_lines.Given as goal

abbrev pub invariant-loop-j : goal.invariant-loop-j
invariant-loop-j l = LinedTo (columns_of l.lines).op l.s (view_of (columns_of l.lines).arg l.slots) l.j

abbrev pub decreases-loop-j : goal.decreases-loop-j
decreases-loop-j l = entries - l.j
