use Rattle.value_equality.proofs.Integers.{first_rules}
use Rattle.value_equality.proofs.first_integer.Goals as goal

pub element-f-requires : goal.element-f-requires
element-f-requires c = let h = c.in-Some.ensures.steps in search first_rules

pub same_integers-requires : goal.same_integers-requires
same_integers-requires c = let h = c.in-Some.ensures.steps in search first_rules

pub loop-k-preserved : goal.loop-k-preserved
loop-k-preserved c = let h = c.in-Some.ensures.steps in search first_rules
