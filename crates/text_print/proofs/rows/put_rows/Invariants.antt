-- The rows that were printed, and those that are left.
use Rattle.std.proofs.Common.{◌-◌}
use Rattle.text_print.proofs.rows.Laws.{Rows}
use Rattle.text_print.proofs.rows.put_rows.Given as goal

abbrev pub invariant-loop-done : goal.invariant-loop-done
invariant-loop-done l = Rows l.values l.rows l.ws l.initial.out l.initial.at l.out l.at (l.rows - l.done) l.rest
