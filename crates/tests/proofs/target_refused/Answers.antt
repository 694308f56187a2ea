use mathlib.Core.Path.{◌∙◌, ap}
use borrow.Author.Rules.{rules}
use Rattle.std.specs.Prelude.{Err}
use Rattle.std.proofs.lemmas.Result.{err_from_is_err_and}
use Rattle.tests.specs.declared.Refusal.TheVariants.{Target, Unfit}
use Rattle.tests.proofs.Laws.{is_mapped, went_on, refused_by, ret_target, ret_unfit, ret_fit, ret_at_once}
use Rattle.tests.proofs.target_refused.Goals as goal

pub returns-then-fits_all : goal.returns-then-fits_all
returns-then-fits_all c = ret_at_once _ _ c.requires _ c.fits_all.ensures c.if-fits_all.true

pub returns-in_err-map_err : goal.returns-in_err-map_err
returns-in_err-map_err c =
    let p = err_from_is_err_and c.from_residual.result c.from_residual.ensures.1 in
    refused_by Target c.test_target.result c.map_err.result (is_mapped Target c.test_target.result c.map_err.result _ c.map_err.ensures.cases (λ e r h. search rules)) _ (ret_target _ _ c.requires _ c.test_target.ensures)
    _ c.in_err-map_err.was _ (p.1 ∙ ap Err p.2)

pub returns-in_err-_end : goal.returns-in_err-_end
returns-in_err-_end c =
    let p = err_from_is_err_and c.from_residual-in_err-_end.result c.from_residual-in_err-_end.ensures.1 in
    let t = went_on Target c.test_target.result c.map_err.result (is_mapped Target c.test_target.result c.map_err.result _ c.map_err.ensures.cases (λ e r h. search rules)) _ c.in_ok-map_err.was in
    refused_by Unfit c.fit_end.result c.map_err-2.result (is_mapped Unfit c.fit_end.result c.map_err-2.result _ c.map_err-2.ensures.cases (λ e r h. search rules)) _
    (ret_unfit _ _ c.requires _ c.test_target.ensures _ t _ c.fit_end.ensures) _ c.in_err-_end.was _ (p.1 ∙ ap Err p.2)

pub returns : goal.returns
returns c =
    let t = went_on Target c.test_target.result c.map_err.result (is_mapped Target c.test_target.result c.map_err.result _ c.map_err.ensures.cases (λ e r h. search rules)) _ c.in_ok-map_err.was in
    let e = went_on Unfit c.fit_end.result c.map_err-2.result (is_mapped Unfit c.fit_end.result c.map_err-2.result _ c.map_err-2.ensures.cases (λ e r h. search rules)) _ c.in_ok-_end.was in
    ret_fit _ _ c.requires _ c.test_target.ensures _ t _ c.fit_end.ensures _ e
