-- The proof of the cycle of calls {matcher_end}: the levels left fall at each call.
use Rattle.test_forms.proofs.matcher.Steps.{own_rules}
use Rattle.test_forms.proofs.matcher.+matcher_end.Goals as goal

pub overflow_add-result-in-0 : goal.overflow_add-result-in-0
overflow_add-result-in-0 t c = search own_rules

pub overflow_add-at-in-2 : goal.overflow_add-at-in-2
overflow_add-at-in-2 t c = search own_rules

pub returns-in-0 : goal.returns-in-0
returns-in-0 t c = search own_rules

pub returns-in-2 : goal.returns-in-2
returns-in-2 t c = search own_rules

pub returns-in_default : goal.returns-in_default
returns-in_default t c = search own_rules

pub returns-in_default-2 : goal.returns-in_default-2
returns-in_default-2 t c = search own_rules

pub returns-in_default-3 : goal.returns-in_default-3
returns-in_default-3 t c = search own_rules

pub overflow_add-at : goal.overflow_add-at
overflow_add-at t c = search own_rules

pub overflow_add-result : goal.overflow_add-result
overflow_add-result t c = search own_rules

pub returns-then-not-between : goal.returns-then-not-between
returns-then-not-between t c = search own_rules

pub overflow_add-end : goal.overflow_add-end
overflow_add-end t c = search own_rules

pub loop-init : goal.loop-init
loop-init t c = search own_rules

pub returns-in_err-end-in-4 : goal.returns-in_err-end-in-4
returns-in_err-end-in-4 t c = search own_rules

pub loop-preserved : goal.loop-preserved
loop-preserved t c = search (own_rules, c.in_ok-end-in-4.was)

pub returns-after-loop : goal.returns-after-loop
returns-after-loop t c = search own_rules
