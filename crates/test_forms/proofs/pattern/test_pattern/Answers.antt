use Rattle.test_forms.proofs.pattern.Steps.{whole_rules}
use Rattle.test_forms.proofs.pattern.test_pattern.Goals as goal

pub returns-then-ps-gt-PATTERN_WORDS : goal.returns-then-ps-gt-PATTERN_WORDS
returns-then-ps-gt-PATTERN_WORDS c = search whole_rules

pub walk-requires : goal.walk-requires
walk-requires c = search whole_rules

pub returns : goal.returns
returns c = search whole_rules
