use Prim.Native.Nat.{◌-◌}
use mathlib.Core.Path.{◌≡◌}
use Rattle.test_forms.specs.Ends.{in_row}
use Rattle.test_forms.specs.Matchers.{matcher_from}
use Rattle.test_forms.proofs.matcher.+matcher_end.Given as goal

abbrev pub decreases-matcher_end : goal.decreases-matcher_end
decreases-matcher_end l = l.left

abbrev pub invariant-loop : goal.invariant-loop
invariant-loop l = matcher_from l.ms l.left l.at ≡ in_row (matcher_from l.ms (l.left - 1)) (l.n - l.counter) l.end
