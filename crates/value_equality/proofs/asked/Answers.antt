use Rattle.value_equality.proofs.Asking.{asked_rules, asked_opens}
use Rattle.value_equality.proofs.asked.Goals as goal

pub returns : goal.returns
returns c = search (asked_rules, asked_opens)

pub whole-x-requires : goal.whole-x-requires
whole-x-requires c = search asked_rules

pub whole-y-requires : goal.whole-y-requires
whole-y-requires c = search asked_rules

pub opened-requires : goal.opened-requires
opened-requires c = search asked_rules
