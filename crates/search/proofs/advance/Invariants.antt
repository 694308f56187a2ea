use Prim.Native.Nat.{◌-◌}
use Rattle.tables.specs.Line.{columns_of}
use Rattle.tables.specs.Slot.{view_of}
use Rattle.search.specs.Run.{run, run_of}
use Rattle.search.specs.Told.{env_by}
use Rattle.search.proofs.Laws.{Here}
use Rattle.search.proofs.advance.Given as goal

abbrev pub invariant-loop-terms : goal.invariant-loop-terms
invariant-loop-terms l = Here (env_by (columns_of l.lines) l.mt l.units.words.now l.terms) (run_of (env_by (columns_of l.lines) l.mt l.units.words.now l.terms) (l.terms.budget - l.initial.x.steps) (run l.initial.x (view_of (columns_of l.lines).arg l.initial.slots) l.initial.b l.initial.room)) l.terms.budget l.initial.room
    (run l.x (view_of (columns_of l.lines).arg l.slots) l.b l.room)

abbrev pub decreases-loop-terms : goal.decreases-loop-terms
decreases-loop-terms l = l.terms.budget - l.x.steps
