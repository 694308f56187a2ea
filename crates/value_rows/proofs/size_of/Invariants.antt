use Prim.Native.Nat.{◌≤◌, ◌+◌}
use mathlib.Core.Path.{◌≡◌}
use Rattle.rules.specs.Forms.{size}
use Rattle.value_places.specs.Held.{Held, held_at, size_left}
use Rattle.value_rows.proofs.size_of.Given as goal

abbrev pub invariant-loop-k : goal.invariant-loop-k
invariant-loop-k l = (size (held_at l.units.words.now l.at l.m) ≡ l.n + size_left l.units.words.now l.at l.k-iterator.left) × Held l.units.words.now l.at l.k-iterator.left × (size (held_at l.units.words.now l.at l.m) ≤ 1024)
