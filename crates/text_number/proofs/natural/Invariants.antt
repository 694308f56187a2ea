-- What was read is a number, and the digits that are left go on from it.
use Rattle.std.proofs.Common.{◌≡◌, ◌<◌, ◌^◌, drop}
use Rattle.text_number.specs.Decimal.{digits}
use Rattle.text_number.proofs.natural.Given as goal

abbrev pub invariant-loop-byte : goal.invariant-loop-byte
invariant-loop-byte l = record {
  read : digits 0 l.text ≡ digits l.number (drop l.byte-index l.text);
  below : l.number < 10 ^ l.byte-index;
}
