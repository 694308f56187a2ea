use Prim.Native.Nat.{◌-◌}
use Rattle.tables.specs.Line.{columns_of}
use Rattle.search.specs.Told.{env_by}
use Rattle.round_run.proofs.Courses.{Gone}
use Rattle.round_run.proofs.rounds.rounds.Given as goal

abbrev pub invariant-loop-r : goal.invariant-loop-r
invariant-loop-r l = Gone (env_by (columns_of l.lines) l.mt l.units.words.now l.terms) l.used.slots l.terms.budget l.limit l.initial.r l.initial.table l.initial.slots l.initial.room l.r l.table l.slots l.room

abbrev pub decreases-loop-r : goal.decreases-loop-r
decreases-loop-r l = l.terms.budget - l.r.state.steps
