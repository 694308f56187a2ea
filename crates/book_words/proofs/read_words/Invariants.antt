use Prim.Native.Nat.{◌*◌}
use mathlib.Core.Path.{◌≡◌}
use lib.Seq.{sets}
use Rattle.book_rules.specs.Blocks.{joined}
use Rattle.book_rules.specs.Bytes.{words_from}
use Rattle.book_words.proofs.Reading.{joined_from}
use Rattle.book_words.proofs.read_words.Given as goal

abbrev pub invariant-loop-i : goal.invariant-loop-i
invariant-loop-i l = sets l.initial.out 0 (joined l.n (words_from l.s l.at (2 * l.n))) ≡ sets l.out l.i (joined_from l.s l.at l.n l.i)
