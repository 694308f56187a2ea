-- `service_runs::opening::judged` meets its contract: the form, the dialect, then the tests.
use Rattle.std.proofs.lemmas.Result.{err_from_is_err_and}
use Rattle.service_runs.proofs.First.{no_form, no_dialect, test_declines, taken}
use Rattle.service_runs.proofs.opening.judged.Goals as goal

pub returns-in_err-_form : goal.returns-in_err-_form
returns-in_err-_form c =
    let p = err_from_is_err_and c.from_residual.result c.from_residual.ensures.1 in
    rw p.1 (no_form _ _ _ _ _ _ c.in_err-_form.ensures _ p.2)

pub returns-in_err-dialect : goal.returns-in_err-dialect
returns-in_err-dialect c =
    let p = err_from_is_err_and c.from_residual-in_err-dialect.result c.from_residual-in_err-dialect.ensures.1 in
    rw p.1 (no_dialect _ _ _ _ _ _ c.in_ok-_form.ensures _ c.in_err-dialect.ensures _ p.2)

pub returns-in_err-tested : goal.returns-in_err-tested
returns-in_err-tested c =
    let p = err_from_is_err_and c.from_residual-in_err-tested.result c.from_residual-in_err-tested.ensures.1 in
    rw p.1 (test_declines _ _ _ _ _ _ c.in_ok-_form.ensures _ c.in_ok-dialect.ensures _ c.tested.ensures _ c.in_err-tested.was _ p.2)

pub returns : goal.returns
returns c = taken _ _ _ _ _ _ c.in_ok-_form.ensures _ c.in_ok-dialect.ensures _ c.tested.ensures _ c.in_ok-tested.was
