use Rattle.value_rows.proofs.Row.{left_rules}
use Rattle.value_rows.proofs.put_left.Goals as goal

pub element-e-requires : goal.element-e-requires
element-e-requires c = let h = c.in-Some.ensures.steps in search left_rules

pub put_whole-o-requires : goal.put_whole-o-requires
put_whole-o-requires c = let h = c.in-Some.ensures.steps in search left_rules

pub loop-k-preserved : goal.loop-k-preserved
loop-k-preserved c = let h = c.in-Some.ensures.steps in search left_rules

pub returns : goal.returns
returns c = let h = c.in-None.ensures.steps in search left_rules
