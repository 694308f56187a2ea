-- `book::totals::total` meets its contract: refused as the book is, else the live rules counted.
use Rattle.std.proofs.Common.{refl}
use Rattle.std.proofs.lemmas.Result.{err_from_is_err_and}
use Rattle.book.proofs.Blocks.{refused}
use Rattle.book.proofs.totals.Counting.{total_refused, total_fits, total_good}
use Rattle.book.proofs.totals.total.Goals as goal

pub returns-in_err-test : goal.returns-in_err-test
returns-in_err-test c = let p = err_from_is_err_and c.from_residual.result c.from_residual.ensures.1 in rw (p.1, p.2) (total_refused _ _ _ _ c.in_err-test.ensures (refused _))

pub first_blocks-requires : goal.first_blocks-requires
first_blocks-requires c = total_fits _ _ _ _ c.in_ok-test.ensures refl

pub returns : goal.returns
returns c = total_good _ _ _ _ c.in_ok-test.ensures _ refl (rw c.first_blocks.ensures at c.live.ensures)
