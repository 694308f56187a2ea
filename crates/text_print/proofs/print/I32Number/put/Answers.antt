-- A negative number has a minus before the digits of its magnitude.
use Rattle.text_print.proofs.print.Laws.{minus_is, plus_is, minus_in, rest_in, wrote_minus}
use Rattle.text_print.proofs.print.I32Number.put.Goals as goal

pub bounds-out-at : goal.bounds-out-at
bounds-out-at c = minus_in _ _ _ _ (minus_is _ c.ranges.self _ _ c.from-magnitude.ensures c.unsigned_abs.ensures.value c.if-self-lt0.true) c.requires

pub put_decimal-requires : goal.put_decimal-requires
put_decimal-requires c = rest_in _ _ _ _ (minus_is _ c.ranges.self _ _ c.from-magnitude.ensures c.unsigned_abs.ensures.value c.if-self-lt0.true) c.requires

pub put_decimal-requires-else-self-lt0 : goal.put_decimal-requires-else-self-lt0
put_decimal-requires-else-self-lt0 c = rw (plus_is _ c.ranges.self _ _ c.from-magnitude.ensures c.unsigned_abs.ensures.value c.if-self-lt0.false) at c.requires

pub returns-then-self-lt0 : goal.returns-then-self-lt0
returns-then-self-lt0 c = wrote_minus _ _ _ _ (minus_is _ c.ranges.self _ _ c.from-magnitude.ensures c.unsigned_abs.ensures.value c.if-self-lt0.true) _ _ c.put_decimal.ensures

pub returns-else-self-lt0 : goal.returns-else-self-lt0
returns-else-self-lt0 c = rw (plus_is _ c.ranges.self _ _ c.from-magnitude.ensures c.unsigned_abs.ensures.value c.if-self-lt0.false) c.put_decimal-else-self-lt0.ensures
