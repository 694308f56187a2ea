-- `services::review::review_in` meets its contract: the tests 1 to 4 of the dialect, then 11, 9 and 10.
use mathlib.Core.Path.{ap, ◌∙◌}
use mir.Syntax.{w32}
use mir.Facts.{to_z-of_z}
use Rattle.std.proofs.lemmas.Result.{err_from_is_err_and}
use Rattle.rules.specs.Services.{rule_in, review_of}
use Rattle.tests.specs.Judgements.{judgement}
use Rattle.services.specs.Picks.{dialect_in}
use Rattle.services.specs.Reviews.{reviewed_by}
use Rattle.services.proofs.Rules.{refused_given, refused_rows, also_sound, also_given, also_rows}
use Rattle.services.proofs.review.review_in.Goals as goal

pub returns-in_err-rule_refused_in : goal.returns-in_err-rule_refused_in
unfolding review_of reviewed_by
returns-in_err-rule_refused_in c =
    let e = c.rule_refused_in.ensures ∙ ap (λ d. judgement (rule_in d c.args.matcher.now c.args.pattern.now)) c.takes_firsts.ensures in
    let p = err_from_is_err_and c.from_residual.result c.from_residual.ensures.1 in
    record {
      result_value = rw p.1 (refused_given _ _ e _ c.in_err-rule_refused_in.was c.args.cap _ p.2);
      rows_value = rw p.1 (refused_rows _ _ e _ c.in_err-rule_refused_in.was c.args.cap p.0);
    }

pub of_rule-requires : goal.of_rule-requires
of_rule-requires c = also_sound _ _ _ _ c.rule_refused_in.ensures _ c.in_ok-rule_refused_in.was

pub returns : goal.returns
unfolding review_of
returns c =
    let e = c.rule_refused_in.ensures ∙ ap (λ d. judgement (rule_in d c.args.matcher.now c.args.pattern.now)) c.takes_firsts.ensures in
    let k = to_z-of_z {w = w32} c.ranges.cap in
    record {
      result_value = also_given (dialect_in c.args.dialect) c.args.matcher.now c.args.pattern.now _ e _ c.in_ok-rule_refused_in.was _ c.args.cap _ c.of_rule.ensures.result_value k;
      rows_value = also_rows (dialect_in c.args.dialect) c.args.matcher.now c.args.pattern.now _ e _ c.in_ok-rule_refused_in.was _ c.args.cap _ c.of_rule.ensures.rows_value k;
    }
