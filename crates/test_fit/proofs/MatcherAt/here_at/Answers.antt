use Rattle.test_fit.proofs.Tags.{own_rules}
use Rattle.test_fit.proofs.MatcherAt.here_at.Goals as goal

pub returns-in_err-operands : goal.returns-in_err-operands
returns-in_err-operands c = rw c.from_residual.ensures (search (own_rules, c.in_err-operands.was))

pub returns-then-not-taken : goal.returns-then-not-taken
returns-then-not-taken c = search own_rules

pub first_part-requires : goal.first_part-requires
first_part-requires c = search own_rules

pub tuple-requires : goal.tuple-requires
tuple-requires c = search own_rules

pub returns-in-1 : goal.returns-in-1
returns-in-1 c = search own_rules

pub returns-in-3 : goal.returns-in-3
returns-in-3 c = search own_rules

pub returns-in-0 : goal.returns-in-0
returns-in-0 c = search own_rules

pub returns-in-1-parts : goal.returns-in-1-parts
returns-in-1-parts c = search own_rules

pub returns-in_default-parts : goal.returns-in_default-parts
returns-in_default-parts c = search own_rules

pub returns-then-taken : goal.returns-then-taken
returns-then-taken c = search own_rules

pub returns-else-taken : goal.returns-else-taken
returns-else-taken c = search own_rules
