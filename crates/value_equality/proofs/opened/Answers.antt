use Rattle.value_equality.proofs.ByTag.{opened_rules}
use Rattle.value_equality.proofs.opened.Goals as goal

pub returns-then-k-eq0 : goal.returns-then-k-eq0
returns-then-k-eq0 c = search opened_rules

pub returns-then-k-gt4 : goal.returns-then-k-gt4
returns-then-k-gt4 c = search opened_rules

pub number_at-ta-requires : goal.number_at-ta-requires
number_at-ta-requires c = search opened_rules

pub number_at-tb-requires : goal.number_at-tb-requires
number_at-tb-requires c = search opened_rules

pub returns-then-ta-ne0 : goal.returns-then-ta-ne0
returns-then-ta-ne0 c = search opened_rules

pub returns-then-tb-ne0 : goal.returns-then-tb-ne0
returns-then-tb-ne0 c = search opened_rules

pub same_number-same-requires : goal.same_number-same-requires
same_number-same-requires c = search opened_rules

pub returns-then-k-eq1 : goal.returns-then-k-eq1
returns-then-k-eq1 c = search opened_rules

pub returns-then-ta-ne2 : goal.returns-then-ta-ne2
returns-then-ta-ne2 c = search opened_rules

pub returns-then-tb-ne2 : goal.returns-then-tb-ne2
returns-then-tb-ne2 c = search opened_rules

pub returns-then-ta-ne1 : goal.returns-then-ta-ne1
returns-then-ta-ne1 c = search opened_rules

pub returns-then-tb-ne1 : goal.returns-then-tb-ne1
returns-then-tb-ne1 c = search opened_rules

pub returns : goal.returns
returns c = search opened_rules
