-- `host_numbers::put_numbers` meets its contract: number after number.
use Rattle.std.proofs.Common.{◌∙◌, arith}
use Rattle.host_numbers.proofs.Laws.{begins, more, ends}
use Rattle.host_numbers.proofs.put_numbers.Goals as goal

pub loop-i-init : goal.loop-i-init
loop-i-init c = begins c.args.numbers.now c.args.out.now

pub loop-i-preserved : goal.loop-i-preserved
loop-i-preserved c = more _ _ _ c.loop-i.i _ _ c.loop-i-test.true c.loop-i.invariant (omega arith) (c.copy_from_slice.ensures.after ∙ c.to_le_bytes.ensures)

pub returns : goal.returns
returns c = ends _ _ _ _ (omega arith) c.loop-i.invariant
