use Prim.Native.Nat.{◌-◌}
use mathlib.Core.Path.{◌≡◌}
use Rattle.test_unfit.specs.Unfit.{next_member, in_each, fit_from}
use Rattle.test_unfit.proofs.+fit_end.Given as goal

abbrev pub decreases-fit_end : goal.decreases-fit_end
decreases-fit_end l = l.depth

abbrev pub invariant-loop-member : goal.invariant-loop-member
invariant-loop-member l = fit_from l.ts l.ms l.depth l.i l.at ≡ in_each (fit_from l.ts l.ms (l.depth - 1)) (next_member l.ms l.k) (l.n - l._member) l.j l.e
