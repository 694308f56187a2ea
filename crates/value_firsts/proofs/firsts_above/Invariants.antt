use mathlib.Core.Path.{◌≡◌}
use Prim.Native.Nat.{◌+◌, ◌≤◌}
use Rattle.value_places.specs.Held.{Held}
use Rattle.value_firsts.specs.Firsts.{firsts_at, Lower}
use Rattle.value_firsts.proofs.firsts_above.Given as goal

abbrev pub invariant-loop-left : goal.invariant-loop-left
invariant-loop-left l = (firsts_at l.mt l.i l.units.words.now l.at l.span.marks ≡ l.out + firsts_at l.mt l.i l.units.words.now l.at l.left) × Held l.units.words.now l.at l.left × (l.out + l.left ≤ l.span.marks) × Lower l.left l.span.stop

abbrev pub decreases-loop-left : goal.decreases-loop-left
decreases-loop-left l = l.left
