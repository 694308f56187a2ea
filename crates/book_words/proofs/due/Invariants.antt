use Prim.Native.Nat.{◌+◌, ◌*◌, ◌≤◌}
use mathlib.Core.Path.{◌≡◌}
use Rattle.book_rules.specs.Sums.{placed}
use Rattle.book_words.specs.Halves.{words_of}
use Rattle.book_words.proofs.Reading.{left}
use Rattle.book_words.proofs.due.Given as goal

abbrev pub invariant-loop-i : goal.invariant-loop-i
invariant-loop-i l = record {
  whole : l.sum + left l.block l.i ≡ placed 1 254 (words_of l.block);
  small : l.sum ≤ 16645890 * l.i;
}
