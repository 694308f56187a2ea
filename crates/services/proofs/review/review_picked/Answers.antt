-- `services::review::review_picked` meets its contract: the dialect, then review in it.
use mir.Syntax.{w32}
use mir.Facts.{to_z-of_z}
use Rattle.std.proofs.lemmas.Result.{err_from_is_err_and}
use Rattle.services.proofs.Rules.{picked, rows_are_picked, none_picked, no_rows_picked}
use Rattle.services.proofs.review.review_picked.Goals as goal

pub returns-in_err-dialect : goal.returns-in_err-dialect
returns-in_err-dialect c =
    let p = err_from_is_err_and c.from_residual.result c.from_residual.ensures.1 in
    record {
      result_value = rw p.1 (none_picked _ _ _ _ _ c.in_err-dialect.ensures _ p.2);
      rows_value = rw p.1 (no_rows_picked _ _ _ _ _ c.in_err-dialect.ensures _ p.2);
    }

pub returns : goal.returns
returns c =
    let k = to_z-of_z {w = w32} c.ranges.cap in
    record {
      result_value = picked _ _ _ _ _ c.in_ok-dialect.ensures _ k _ c.review_in.ensures.result_value;
      rows_value = rows_are_picked _ _ _ _ _ c.in_ok-dialect.ensures _ k _ c.review_in.ensures.rows_value;
    }
