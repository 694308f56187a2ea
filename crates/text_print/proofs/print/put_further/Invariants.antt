-- What is written, and what is still to write, is the text of the numbers.
use Rattle.std.proofs.Common.{◌+◌, ◌-◌, ◌*◌, ◌≤◌, length, map, drop}
use Rattle.text_print.specs.Decimal.{further_of}
use Rattle.text_print.proofs.Written.{Left}
use Rattle.text_print.proofs.print.put_further.Given as goal

abbrev pub invariant-loop-number : goal.invariant-loop-number
invariant-loop-number g l = record {
  left : Left l.initial.out l.at (further_of (map g.N.Number.number l.numbers)) l.out l.end (further_of (map g.N.Number.number (drop l.number-index l.numbers)));
  room : l.end + 22 * (length l.numbers - l.number-index) + 1 ≤ length l.out;
}
