-- `services::testing::tested` meets its contract: the rule's tests, then the target's.
use mathlib.Core.Path.{ap, ◌∙◌}
use Rattle.std.proofs.lemmas.Result.{err_from_is_err_and}
use Rattle.rules.specs.Services.{rule_in}
use Rattle.tests.specs.Judgements.{judgement}
use Rattle.services.proofs.Outcome.{rule_whole, rule_failed, target_told}
use Rattle.services.proofs.testing.tested.Goals as goal

pub returns-in_err-rule_refused_in : goal.returns-in_err-rule_refused_in
returns-in_err-rule_refused_in c =
    let e = c.rule_refused_in.ensures ∙ ap (λ d. judgement (rule_in d c.args.words.matcher.now c.args.words.pattern.now)) c.takes_firsts.ensures in
    let p = err_from_is_err_and c.from_residual.result c.from_residual.ensures.1 in
    rw (p.1, p.2) (rule_failed _ _ _ _ e _ _ c.in_err-rule_refused_in.was)

pub target_refused-requires : goal.target_refused-requires
target_refused-requires c = rule_whole _ _ _ _ c.rule_refused_in.ensures _ c.in_ok-rule_refused_in.was

pub returns : goal.returns
returns c =
    let e = c.rule_refused_in.ensures ∙ ap (λ d. judgement (rule_in d c.args.words.matcher.now c.args.words.pattern.now)) c.takes_firsts.ensures in
    target_told _ _ _ _ e _ _ c.in_ok-rule_refused_in.was _ c.target_refused.ensures
