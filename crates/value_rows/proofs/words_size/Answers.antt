use Rattle.value_rows.proofs.Row.{sum_rules}
use Rattle.value_rows.proofs.words_size.Goals as goal

pub overflow_add-size : goal.overflow_add-size
overflow_add-size c = search sum_rules

pub loop-v-preserved : goal.loop-v-preserved
loop-v-preserved c = search sum_rules

pub returns : goal.returns
returns c = search sum_rules
