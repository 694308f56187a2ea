-- The words of the pieces so far stand at the start of the table.
use Rattle.std.proofs.Common.{◌≡◌, length}
use Rattle.text_ask.proofs.line.Laws.{Reading}
use Rattle.text_ask.proofs.line.words_of.Given as goal

abbrev pub invariant-loop-piece : goal.invariant-loop-piece
invariant-loop-piece l = record { counted : l.count ≡ length l.yielded; reading : Reading l.text l.count l.out }
