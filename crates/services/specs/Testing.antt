-- The tests 1 to 6 of a service that runs a rule, in the rules' order: the rule's in the dialect, and then the target's under its matcher.
use Rattle.std.specs.Prelude.{ℕ, List, Result, Err, ℤ}
use Rattle.rules.specs.Dialects.{Dialect}
use Rattle.rules.specs.Services.{Judged, accepted, refused, Rule, rule_in, target_of}
use Rattle.tests.specs.Judgements.{Numbers, target_judgement}

unfoldable pub target_tested : (ts : List ℤ) → Judged Rule → Result (Unit {0}) Numbers
unfolding target_judgement target_of
target_tested ts (refused a i) = Err (record { answer = a; place = i; cause = 0 })
target_tested ts (accepted r) = target_judgement ts (target_of r.matcher ts)

unfoldable pub tested_in : Dialect → (ms ps ts : List ℤ) → Result (Unit {0}) Numbers
unfolding target_tested rule_in
tested_in dialect ms ps ts = target_tested ts (rule_in dialect ms ps)
