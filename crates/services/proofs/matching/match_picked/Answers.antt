-- `services::matching::match_picked` meets its contract: the form, the dialect, then match in them.
use Rattle.std.proofs.lemmas.Result.{err_from_is_err_and}
use Rattle.services.proofs.Matches.{no_form, no_dialect, picked}
use Rattle.services.proofs.matching.match_picked.Goals as goal

pub returns-in_err-form : goal.returns-in_err-form
returns-in_err-form c =
    let p = err_from_is_err_and c.from_residual.result c.from_residual.ensures.1 in
    rw p.1 (no_form _ _ _ _ _ _ _ _ c.in_err-form.ensures _ p.2)

pub returns-in_err-dialect : goal.returns-in_err-dialect
returns-in_err-dialect c =
    let p = err_from_is_err_and c.from_residual-in_err-dialect.result c.from_residual-in_err-dialect.ensures.1 in
    rw p.1 (no_dialect _ _ _ _ _ _ _ _ c.in_ok-form.ensures _ c.in_err-dialect.ensures _ p.2)

pub returns : goal.returns
returns c = picked _ _ _ _ _ _ _ _ c.in_ok-form.ensures _ c.in_ok-dialect.ensures _ c.match_in.ensures
