use Prim.Native.Nat.{◌-◌}
use Rattle.tables.specs.Line.{columns_of}
use Rattle.search.specs.Told.{env_by}
use Rattle.round_sweep.proofs.Turns.{SweptTo}
use Rattle.round_sweep.proofs.sweep.sweep.Given as goal

abbrev pub invariant-loop-i : goal.invariant-loop-i
invariant-loop-i l = SweptTo (env_by (columns_of l.lines) l.mt l.units.words.now l.terms) l.used.slots l.terms.budget l.many l.initial.w l.initial.table l.initial.slots l.initial.room l.i l.w l.table l.slots l.room
