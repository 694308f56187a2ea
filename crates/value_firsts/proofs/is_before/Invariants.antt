use mathlib.Core.Path.{◌≡◌}
use Rattle.value_places.specs.Held.{Held}
use Rattle.value_firsts.specs.Firsts.{before_at}
use Rattle.value_firsts.proofs.is_before.Given as goal

abbrev pub invariant-loop-j : goal.invariant-loop-j
invariant-loop-j l = (before_at l.mt l.i l.units.words.now l.at l.m l.k ≡ before_at l.mt l.i l.units.words.now l.at l.j-iterator.left l.k) × Held l.units.words.now l.at l.j-iterator.left
