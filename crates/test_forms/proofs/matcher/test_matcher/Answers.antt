use Rattle.test_forms.proofs.matcher.Steps.{whole_rules}
use Rattle.test_forms.proofs.matcher.test_matcher.Goals as goal

pub returns-then-ms-gt-MATCHER_WORDS : goal.returns-then-ms-gt-MATCHER_WORDS
returns-then-ms-gt-MATCHER_WORDS c = search whole_rules

pub returns-in_err-end : goal.returns-in_err-end
returns-in_err-end c = search whole_rules

pub returns-then-end-ms : goal.returns-then-end-ms
returns-then-end-ms c = search whole_rules

pub returns-else-end-ms : goal.returns-else-end-ms
returns-else-end-ms c = search (whole_rules, c.in_ok-end.was)
