use Rattle.test_target.proofs.Steps.{ret_other}
use Rattle.test_target.proofs.+read_value.Goals as goal

pub returns-then-t-gt-TUPLE : goal.returns-then-t-gt-TUPLE
returns-then-t-gt-TUPLE t c = ret_other c.args.ts.now c.args.at c.tag_at-t.result c.args.depth c.tag_at-t.ensures c.if-t-gt-TUPLE.true c.fault_at.result c.fault_at.ensures
