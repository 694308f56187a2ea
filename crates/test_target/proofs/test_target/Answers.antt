use Rattle.test_target.proofs.Steps.{whole_rules}
use Rattle.test_target.proofs.test_target.Goals as goal

pub returns-then-end-ts : goal.returns-then-end-ts
returns-then-end-ts c = search (whole_rules, c.in_ok-end.was)

pub returns : goal.returns
returns c = search (whole_rules, c.in_ok-end.was)
