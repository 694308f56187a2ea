-- `book::adding::add` meets its contract: refused as the book is, by itself, for want of a block, or the block written.
use Rattle.std.proofs.Common.{refl, arith}
use Rattle.std.proofs.lemmas.Result.{err_from_is_err_and}
use Rattle.book.proofs.Blocks.{refused, refusal_is}
use Rattle.book.proofs.lookup.Rules.{read_room}
use Rattle.book.proofs.adding.Adds.{add_refused, add_own, add_full, add_fits, add_small, add_short, add_dialect, add_written}
use Rattle.book.proofs.adding.add.Goals as goal

pub returns-in_err-test : goal.returns-in_err-test
returns-in_err-test c =
    let p = err_from_is_err_and c.from_residual.result c.from_residual.ensures.1 in
    rw (p.1, p.2) (add_refused _ (λ i. (c.slice_known-1.given i).fits) _ _ _ _ c.in_err-test.ensures (refused _))

pub first_blocks-requires : goal.first_blocks-requires
first_blocks-requires c = read_room _ _ _ _ c.in_ok-test.ensures refl

pub slot-requires : goal.slot-requires
slot-requires c = read_room _ _ _ _ c.in_ok-test.ensures refl

pub returns-in_err-own_refusal : goal.returns-in_err-own_refusal
returns-in_err-own_refusal c =
    let p = err_from_is_err_and c.from_residual-in_err-own_refusal.result c.from_residual-in_err-own_refusal.ensures.1 in
    rw (p.1, p.2) (add_own _ (λ i. (c.slice_known-1.given i).fits) _ _ _ _ c.in_ok-test.ensures refl _ (rw c.first_blocks.ensures at c.in_err-own_refusal.ensures) (refused _))

pub returns-in_err-block : goal.returns-in_err-block
returns-in_err-block c =
    let p = err_from_is_err_and c.from_residual-in_err-block.result c.from_residual-in_err-block.ensures.1 in
    rw (p.1, p.2, refusal_is _ _ _ c.in_err-block.ensures.ok_part c.in_err-block.ensures.value)
    (add_full _ (λ i. (c.slice_known-1.given i).fits) _ _ _ _ c.in_ok-test.ensures refl _ (rw c.first_blocks.ensures at c.in_ok-own_refusal.ensures) refl _ c.slot.ensures c.in_err-block.ensures.ok_part)

pub overflow_cast-block : goal.overflow_cast-block
overflow_cast-block c = record { fits = add_small _ (λ i. (c.slice_known-1.given i).fits) _ _ _ _ c.in_ok-test.ensures refl _ (rw c.first_blocks.ensures at c.in_ok-own_refusal.ensures) refl _ c.slot.ensures _ c.in_ok-block.ensures.ok_part }

pub write_block-requires : goal.write_block-requires
write_block-requires c = record {
  at_most_longest = add_short _ (λ i. (c.slice_known-1.given i).fits) _ _ _ _ c.in_ok-test.ensures refl _ (rw c.first_blocks.ensures at c.in_ok-own_refusal.ensures) refl _ c.slot.ensures _ c.in_ok-block.ensures.ok_part;
  some_dialect = add_dialect _ (λ i. (c.slice_known-1.given i).fits) _ _ _ _ c.in_ok-test.ensures refl _ (rw c.first_blocks.ensures at c.in_ok-own_refusal.ensures) refl _ c.slot.ensures _ c.in_ok-block.ensures.ok_part;
}

pub put_block-requires : goal.put_block-requires
put_block-requires c = add_fits _ (λ i. (c.slice_known-1.given i).fits) _ _ _ _ c.in_ok-test.ensures refl _ (rw c.first_blocks.ensures at c.in_ok-own_refusal.ensures) refl _ c.slot.ensures _ c.in_ok-block.ensures.ok_part

pub overflow_add-block : goal.overflow_add-block
overflow_add-block c = let h = add_fits _ (λ i. (c.slice_known-1.given i).fits) _ _ _ _ c.in_ok-test.ensures refl _ (rw c.first_blocks.ensures at c.in_ok-own_refusal.ensures) refl _ c.slot.ensures _ c.in_ok-block.ensures.ok_part in omega arith

pub returns : goal.returns
returns c = add_written _ (λ i. (c.slice_known-1.given i).fits) _ _ _ _ c.in_ok-test.ensures refl _ (rw c.first_blocks.ensures at c.in_ok-own_refusal.ensures) refl _ c.slot.ensures _ c.in_ok-block.ensures.ok_part _ _ (λ i. (c.type_inv.book i).fits) c.max.ensures (rw c.write_block.ensures at c.put_block.ensures)
