use Rattle.value_rows.proofs.Row.{size_rules}
use Rattle.value_rows.proofs.size_of.Goals as goal

pub element-e-requires : goal.element-e-requires
element-e-requires c = let h = c.in-Some.ensures.steps in search size_rules

pub end_at-end-requires : goal.end_at-end-requires
end_at-end-requires c = let h = c.in-Some.ensures.steps in search size_rules

pub overflow_add-n : goal.overflow_add-n
overflow_add-n c = let h = c.in-Some.ensures.steps in search size_rules

pub loop-k-preserved : goal.loop-k-preserved
loop-k-preserved c = let h = c.in-Some.ensures.steps in search size_rules

pub returns : goal.returns
returns c = let h = c.in-None.ensures.steps in search size_rules
