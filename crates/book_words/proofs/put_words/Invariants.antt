use Prim.Native.Nat.{◌+◌, ◌*◌}
use mathlib.Core.Path.{◌≡◌}
use lib.ListN.{drop}
use lib.Seq.{sets}
use Rattle.book_rules.specs.Blocks.{split}
use Rattle.book_rules.specs.Bytes.{bytes_of}
use Rattle.book_words.proofs.put_words.Given as goal

abbrev pub invariant-loop-i : goal.invariant-loop-i
invariant-loop-i l = sets l.initial.s l.at (bytes_of (split l.words)) ≡ sets l.s (l.at + 4 * l.i) (bytes_of (split (drop l.i l.words)))
