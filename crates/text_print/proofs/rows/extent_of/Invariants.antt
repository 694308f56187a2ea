-- The words that were passed, and those of the values that are left, are those of all.
use Rattle.std.proofs.Common.{◌≡◌, ◌+◌, ◌-◌, ◌*◌, ◌≤◌, length}
use Rattle.text_print.specs.Rows.{extent}
use Rattle.text_print.proofs.rows.extent_of.Given as goal

abbrev pub invariant-loop-rest : goal.invariant-loop-rest
invariant-loop-rest l = record {
  passed : extent l.values l.ws + length l.rest ≡ length l.ws + extent l.left l.rest;
  within : length l.rest ≤ length l.ws;
  fits : l.left ≤ 4294967295 + (length l.ws - length l.rest) * 4294967296;
}

abbrev pub decreases-loop-rest : goal.decreases-loop-rest
decreases-loop-rest l = length l.rest
