use Rattle.review_count.proofs.count.Sums.{own_rules}
use Rattle.review_count.proofs.count.tallied.Goals as goal

pub loop-pc-init : goal.loop-pc-init
loop-pc-init c = search own_rules

pub loop-pc-preserved-then-skip-gt0 : goal.loop-pc-preserved-then-skip-gt0
loop-pc-preserved-then-skip-gt0 c = search own_rules

pub overflow_add-total : goal.overflow_add-total
overflow_add-total c = search own_rules

pub returns-then-total-gt-LARGEST_COUNT : goal.returns-then-total-gt-LARGEST_COUNT
returns-then-total-gt-LARGEST_COUNT c = search own_rules

pub returns-then-o-eq-END : goal.returns-then-o-eq-END
returns-then-o-eq-END c = search own_rules

pub loop-pc-preserved : goal.loop-pc-preserved
loop-pc-preserved c = search own_rules

pub returns : goal.returns
returns c = search own_rules
