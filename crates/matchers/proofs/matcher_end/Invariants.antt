use Prim.Native.Nat.{◌≤◌, ◌+◌, ◌-◌, ◌*◌}
use mathlib.Core.Path.{◌≡◌}
use lib.ListN.{length, drop}
use Rattle.matchers.specs.Places.{spans, matcher_end}
use Rattle.matchers.proofs.matcher_end.Given as goal

abbrev pub invariant-loop-at : goal.invariant-loop-at
invariant-loop-at l = (matcher_end l.ms l.i ≡ l.at + spans (drop l.at l.ms) l.left) × (l.left ≤ 4 * l.at + 1)

abbrev pub decreases-loop-at : goal.decreases-loop-at
decreases-loop-at l = length l.ms - l.at
