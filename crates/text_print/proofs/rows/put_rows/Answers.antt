-- A row is printed and left behind; a row with no words is the first of the empty lines.
use Rattle.std.proofs.Common.{arith, ◌≡◌, ◌-◌, ◌+◌}
use Rattle.text_print.proofs.rows.Laws.{rows_done, rows_empty, rows_turn}
use Rattle.text_print.proofs.rows.put_rows.Goals as goal

pub returns-then-is_empty : goal.returns-then-is_empty
returns-then-is_empty c = rows_empty c.loop-done.invariant _ c.extent_of.ensures.value (omega arith) _ c.split_at.ensures.front_len c.if-is_empty.ensures

pub loop-done-preserved : goal.loop-done-preserved
loop-done-preserved c =
    let less : c.args.rows - c.loop-done.done - 1 ≡ c.args.rows - (c.loop-done.done + 1) = omega arith in
    rw (← less)
    (rows_turn c.loop-done.invariant _ c.extent_of.ensures.value (omega arith) _ _ c.split_at.ensures.front c.split_at.ensures.back c.split_at.ensures.front_len c.split_at.ensures.back_len c.if-is_empty.ensures _ _ c.put_line-at.ensures (omega arith))

pub returns : goal.returns
returns c = rows_done c.loop-done.invariant (omega arith)
