-- `value_firsts::is_before` meets its contract: what is left to try decides.
use Rattle.value_firsts.proofs.Laws.{before_rules}
use Rattle.value_firsts.proofs.is_before.Goals as goal

pub element-f-requires : goal.element-f-requires
element-f-requires c = let h = c.in-Some.ensures.steps in search before_rules

pub same_values-requires : goal.same_values-requires
same_values-requires c = let h = c.in-Some.ensures.steps in search before_rules

pub loop-j-preserved : goal.loop-j-preserved
loop-j-preserved c = let h = c.in-Some.ensures.steps in search before_rules
