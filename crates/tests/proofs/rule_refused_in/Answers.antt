use mathlib.Core.Path.{◌∙◌, ap}
use borrow.Author.Rules.{rules}
use Rattle.std.specs.Prelude.{Err}
use Rattle.std.proofs.lemmas.Result.{err_from_is_err_and}
use Rattle.tests.specs.declared.Refusal.TheVariants.{Matcher, Pattern, Variable, Misfit}
use Rattle.tests.proofs.Laws.{is_mapped, went_on, refused_by, judged_by, ret_matcher, ret_pattern, ret_variable, ret_misfit, ret_rule}
use Rattle.tests.proofs.rule_refused_in.Goals as goal

pub returns-in_err-map_err : goal.returns-in_err-map_err
returns-in_err-map_err c =
    let p = err_from_is_err_and c.from_residual.result c.from_residual.ensures.1 in
    refused_by Matcher c.test_matcher.result c.map_err.result (is_mapped Matcher c.test_matcher.result c.map_err.result _ c.map_err.ensures.cases (λ e r h. search rules)) _ (ret_matcher c.args.firsts c.args.ms.now c.args.ps.now _ c.test_matcher.ensures)
    _ c.in_err-map_err.was _ (p.1 ∙ ap Err p.2)

pub returns-in_err-map_err-2 : goal.returns-in_err-map_err-2
returns-in_err-map_err-2 c =
    let p = err_from_is_err_and c.from_residual-in_err-map_err-2.result c.from_residual-in_err-map_err-2.ensures.1 in
    let m = went_on Matcher c.test_matcher.result c.map_err.result (is_mapped Matcher c.test_matcher.result c.map_err.result _ c.map_err.ensures.cases (λ e r h. search rules)) _ c.in_ok-map_err.was in
    refused_by Pattern c.test_pattern.result c.map_err-2.result (is_mapped Pattern c.test_pattern.result c.map_err-2.result _ c.map_err-2.ensures.cases (λ e r h. search rules)) _
    (ret_pattern c.args.firsts c.args.ms.now c.args.ps.now _ c.test_matcher.ensures _ m _ c.test_pattern.ensures) _ c.in_err-map_err-2.was _ (p.1 ∙ ap Err p.2)

pub returns-in_err-_variables : goal.returns-in_err-_variables
returns-in_err-_variables c =
    let p = err_from_is_err_and c.from_residual-in_err-_variables.result c.from_residual-in_err-_variables.ensures.1 in
    let m = went_on Matcher c.test_matcher.result c.map_err.result (is_mapped Matcher c.test_matcher.result c.map_err.result _ c.map_err.ensures.cases (λ e r h. search rules)) _ c.in_ok-map_err.was in
    let k = went_on Pattern c.test_pattern.result c.map_err-2.result (is_mapped Pattern c.test_pattern.result c.map_err-2.result _ c.map_err-2.ensures.cases (λ e r h. search rules)) _ c.in_ok-map_err-2.was in
    refused_by Variable c.walk.result c.map_err-3.result (is_mapped Variable c.walk.result c.map_err-3.result _ c.map_err-3.ensures.cases (λ e r h. search rules)) _
    (ret_variable c.args.firsts c.args.ms.now c.args.ps.now _ c.test_matcher.ensures _ m _ c.test_pattern.ensures _ k _ c.walk.ensures)
    _ c.in_err-_variables.was _ (p.1 ∙ ap Err p.2)

pub returns : goal.returns
returns c =
    let m = went_on Matcher c.test_matcher.result c.map_err.result (is_mapped Matcher c.test_matcher.result c.map_err.result _ c.map_err.ensures.cases (λ e r h. search rules)) _ c.in_ok-map_err.was in
    let k = went_on Pattern c.test_pattern.result c.map_err-2.result (is_mapped Pattern c.test_pattern.result c.map_err-2.result _ c.map_err-2.ensures.cases (λ e r h. search rules)) _ c.in_ok-map_err-2.was in
    let v = went_on Variable c.walk.result c.map_err-3.result (is_mapped Variable c.walk.result c.map_err-3.result _ c.map_err-3.ensures.cases (λ e r h. search rules)) _ c.in_ok-_variables.was in
    judged_by Misfit c.walk-2.result c.map_err-4.result (is_mapped Misfit c.walk-2.result c.map_err-4.result _ c.map_err-4.ensures.cases (λ e r h. search rules)) _
    (ret_misfit c.args.firsts c.args.ms.now c.args.ps.now _ c.test_matcher.ensures _ m _ c.test_pattern.ensures _ k _ c.walk.ensures _ v _ c.walk-2.ensures)
    (ret_rule c.args.firsts c.args.ms.now c.args.ps.now _ c.test_matcher.ensures _ m _ c.test_pattern.ensures _ k _ c.walk.ensures _ v _ c.walk-2.ensures)
