-- Each number goes behind a space.
use Rattle.std.proofs.Common.{arith}
use Rattle.text_print.proofs.Written.{left_all}
use Rattle.text_print.proofs.print.Laws.{next_in, next_room, next_left, none_left}
use Rattle.text_print.proofs.print.put_further.Goals as goal

pub loop-number-init : goal.loop-number-init
loop-number-init g c = record { left = left_all _ _ _; room = omega arith }

pub put-end-requires : goal.put-end-requires
put-end-requires g c = next_in g.N.Number.number _ _ _ _ _ _ c.loop-number.invariant.left c.loop-number.invariant.room c.loop-number-test.true _ c.number-item.is

pub loop-number-preserved : goal.loop-number-preserved
loop-number-preserved g c = record {
  left = next_left g.N.Number.number _ _ _ _ _ _ c.loop-number.invariant.left c.loop-number.invariant.room c.loop-number-test.true _ c.number-item.is _ _ c.put-end.ensures;
  room = next_room g.N.Number.number _ _ _ _ _ _ c.loop-number.invariant.left c.loop-number.invariant.room c.loop-number-test.true _ c.number-item.is _ _ c.put-end.ensures;
}

pub returns : goal.returns
returns g c = none_left g.N.Number.number _ _ _ _ _ _ c.loop-number.invariant.left c.loop-number.invariant.room (omega arith)
