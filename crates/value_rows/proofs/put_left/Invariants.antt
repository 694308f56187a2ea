use Prim.Native.Nat.{◌≤◌, ◌+◌}
use mathlib.Core.Path.{◌≡◌}
use lib.ListN.{length}
use Rattle.value_places.specs.Held.{Held, size_left, words_left, put}
use Rattle.value_rows.proofs.put_left.Given as goal

abbrev pub invariant-loop-k : goal.invariant-loop-k
invariant-loop-k l = (l.from + size_left l.units.words.now l.at l.m ≡ l.o + size_left l.units.words.now l.at l.k-iterator.left) × Held l.units.words.now l.at l.k-iterator.left × (length l.room ≡ length l.initial.room) × (l.from + size_left l.units.words.now l.at l.m ≤ length l.room) × (put l.initial.room l.from (words_left l.units.words.now l.at l.m) ≡ put l.room l.o (words_left l.units.words.now l.at l.k-iterator.left))
