use Prim.Native.Nat.{◌-◌}
use mathlib.Core.Path.{◌≡◌}
use Rattle.test_target.specs.Targets.{valued_from, in_line}
use Rattle.test_target.proofs.+read_value.Given as goal

abbrev pub decreases-read_value : goal.decreases-read_value
decreases-read_value l = l.depth

abbrev pub invariant-loop-member : goal.invariant-loop-member
invariant-loop-member l = valued_from l.ts l.depth l.at ≡ in_line (valued_from l.ts (l.depth - 1)) (l.n - l._member) l.e
