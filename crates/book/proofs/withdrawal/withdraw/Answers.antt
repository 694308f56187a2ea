-- `book::withdrawal::withdraw` meets its contract: refused as the book is, not live, or the block found written empty.
use Rattle.std.proofs.Common.{refl}
use Rattle.std.proofs.lemmas.Result.{err_from_is_err_and}
use Rattle.book.proofs.Blocks.{refused, refusal_is}
use Rattle.book.proofs.lookup.Rules.{read_room}
use Rattle.book.proofs.withdrawal.Changes.{withdraw_refused, withdraw_none, withdraw_fits, withdraw_small, withdraw_found}
use Rattle.book.proofs.withdrawal.withdraw.Goals as goal

pub returns-in_err-test : goal.returns-in_err-test
returns-in_err-test c =
    let p = err_from_is_err_and c.from_residual.result c.from_residual.ensures.1 in
    rw (p.1, p.2) (withdraw_refused _ (λ i. (c.slice_known-1.given i).fits) _ _ _ _ c.in_err-test.ensures (refused _))

pub first_blocks-requires : goal.first_blocks-requires
first_blocks-requires c = read_room _ _ _ _ c.in_ok-test.ensures refl

pub returns-in_err-block : goal.returns-in_err-block
returns-in_err-block c =
    let p = err_from_is_err_and c.from_residual-in_err-block.result c.from_residual-in_err-block.ensures.1 in
    rw (p.1, p.2, refusal_is _ _ _ c.in_err-block.ensures.ok_part c.in_err-block.ensures.value)
    (withdraw_none _ (λ i. (c.slice_known-1.given i).fits) _ _ _ _ c.in_ok-test.ensures refl _ (rw c.first_blocks.ensures at c.live_at.ensures) c.in_err-block.ensures.ok_part)

pub block_of-requires : goal.block_of-requires
block_of-requires c = withdraw_fits _ (λ i. (c.slice_known-1.given i).fits) _ _ _ _ c.in_ok-test.ensures refl _ (rw c.first_blocks.ensures at c.live_at.ensures) _ c.in_ok-block.ensures.ok_part

pub overflow_cast-block : goal.overflow_cast-block
overflow_cast-block c = record { fits = withdraw_small _ (λ i. (c.slice_known-1.given i).fits) _ _ _ _ c.in_ok-test.ensures refl _ (rw c.first_blocks.ensures at c.live_at.ensures) _ c.in_ok-block.ensures.ok_part }

pub put_block-requires : goal.put_block-requires
put_block-requires c = withdraw_fits _ (λ i. (c.slice_known-1.given i).fits) _ _ _ _ c.in_ok-test.ensures refl _ (rw c.first_blocks.ensures at c.live_at.ensures) _ c.in_ok-block.ensures.ok_part

pub returns : goal.returns
returns c = withdraw_found _ (λ i. (c.slice_known-1.given i).fits) _ _ _ _ c.in_ok-test.ensures refl _ (rw c.first_blocks.ensures at c.live_at.ensures) _ c.in_ok-block.ensures.ok_part _ (rw (c.empty_block.ensures, c.block_of.ensures) at c.put_block.ensures)
