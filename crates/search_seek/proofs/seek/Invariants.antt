use Prim.Native.Nat.{◌<◌, ◌≤◌}
use mathlib.Core.Path.{◌≡◌}
use lib.Count.{count_trailing_zeros}
use Rattle.words.specs.Marks.{clear}
use Rattle.value_places.specs.Held.{Held}
use Rattle.search_seek.specs.Passed.{Passed}
use Rattle.search_seek.proofs.seek.Given as goal

abbrev pub invariant-loop-more : goal.invariant-loop-more
invariant-loop-more l = Passed l.units.words.now l.at l.g l.c l.initial.left l.initial.steps l.left l.steps × Held l.units.words.now l.at l.left × (0 < l.left) × (l.more ≡ clear (count_trailing_zeros 64 l.left) l.left) × (l.steps ≤ l.budget)

abbrev pub decreases-loop-more : goal.decreases-loop-more
decreases-loop-more l = l.left
