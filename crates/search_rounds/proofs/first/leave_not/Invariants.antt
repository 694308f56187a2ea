use Prim.Native.Nat.{◌-◌}
use Rattle.tables.specs.Line.{columns_of}
use Rattle.search.specs.Told.{env_by}
use Rattle.search_rounds.proofs.Heads.{GoneTo}
use Rattle.search_rounds.proofs.first.leave_not.Given as goal

abbrev pub invariant-loop-x : goal.invariant-loop-x
invariant-loop-x l = GoneTo (env_by (columns_of l.lines) l.mt l.units.words.now l.terms) l.terms.budget l.initial.x l.initial.slots l.initial.b l.initial.room l.x l.slots l.b l.room

abbrev pub decreases-loop-x : goal.decreases-loop-x
decreases-loop-x l = l.terms.budget - l.x.steps
