-- `book::testing::block_fault` meets its contract: its own faults, then a badge live twice.
use Rattle.std.proofs.Common.{refl}
use Rattle.std.proofs.lemmas.Result.{err_from_is_err_and}
use Rattle.book.proofs.Blocks.{refused}
use Rattle.book.proofs.testing.Walking.{own_told, twice_told, good_told}
use Rattle.book.proofs.testing.block_fault.Goals as goal

pub returns-in_err-own_fault : goal.returns-in_err-own_fault
returns-in_err-own_fault c = let p = err_from_is_err_and c.from_residual.result c.from_residual.ensures.1 in rw (p.1, p.2) (own_told _ _ _ (rw c.block_of-own.ensures at c.in_err-own_fault.ensures) (refused _))

pub returns-then-is_taken : goal.returns-then-is_taken
returns-then-is_taken c = twice_told _ _ 0 (rw c.block_of-own.ensures at c.in_ok-own_fault.ensures) refl _ _ (rw c.block_of-own.ensures at c.badge_of.ensures) (rw c.first_blocks.ensures at c.is_taken.ensures) c.if-is_taken.true

pub returns : goal.returns
returns c = good_told _ _ 0 (rw c.block_of-own.ensures at c.in_ok-own_fault.ensures) refl _ _ (rw c.block_of-own.ensures at c.badge_of.ensures) (rw c.first_blocks.ensures at c.is_taken.ensures) c.if-is_taken.false
