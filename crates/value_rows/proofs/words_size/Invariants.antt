use Prim.Native.Nat.{◌≤◌, ◌+◌, ◌*◌}
use mathlib.Core.Path.{◌≡◌}
use lib.ListN.{length}
use Rattle.rules.specs.Rows.{as_words, row}
use Rattle.value_rows.specs.Row.{bound, bound_from, Bound}
use Rattle.value_rows.proofs.words_size.Given as goal

abbrev pub invariant-loop-v : goal.invariant-loop-v
invariant-loop-v l = Bound l.units.words.now l.b l.n × (length (row as_words (bound l.units.words.now l.b l.n)) ≡ l.size + length (row as_words (bound_from l.units.words.now l.b l.v l.n))) × (l.size ≤ l.v * 1024)
