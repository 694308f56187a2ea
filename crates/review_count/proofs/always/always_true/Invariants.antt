use Prim.Native.Nat.{◌-◌, ◌≤◌}
use mathlib.Core.Path.{◌≡◌}
use Rattle.words.specs.Words.{entries}
use Rattle.tables.specs.Line.{columns_of}
use Rattle.review_count.specs.Scan.{none_from}
use Rattle.review_count.proofs.always.always_true.Given as goal

abbrev pub invariant-loop-pc : goal.invariant-loop-pc
invariant-loop-pc l = (none_from (columns_of l.lines).op 0 entries ≡ none_from (columns_of l.lines).op l.pc (entries - l.pc)) × (l.pc ≤ entries)

abbrev pub decreases-loop-pc : goal.decreases-loop-pc
decreases-loop-pc l = entries - l.pc
