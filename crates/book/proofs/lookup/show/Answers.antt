-- `book::lookup::show` meets its contract: test after test, and then the rule.
use Rattle.std.proofs.Common.{refl}
use Rattle.std.proofs.lemmas.Result.{err_from_is_err_and}
use Rattle.book.proofs.lookup.Rules.{show_missing, show_refused, show_withdrawn, show_live, show_found}
use Rattle.book.proofs.lookup.show.Goals as goal

pub returns-then-book-number : goal.returns-then-book-number
returns-then-book-number c = show_missing _ _ _ _ c.if-book-number.true refl

pub returns-in_err-own_fault : goal.returns-in_err-own_fault
returns-in_err-own_fault c = let p = err_from_is_err_and c.from_residual.result c.from_residual.ensures.1 in rw (p.1, p.2) (show_refused _ _ c.if-book-number.false _ (rw c.block_of-block.ensures at c.in_err-own_fault.ensures) _ _ refl)

pub returns-then-badge-eq-NO_BADGE : goal.returns-then-badge-eq-NO_BADGE
returns-then-badge-eq-NO_BADGE c = show_withdrawn _ _ c.if-book-number.false 0 (rw c.block_of-block.ensures at c.in_ok-own_fault.ensures) refl _ (rw c.block_of-block.ensures at c.badge_of-badge.ensures) _ c.if-badge-eq-NO_BADGE.true

pub read_block-head-requires-clause-live : goal.read_block-head-requires-clause-live
read_block-head-requires-clause-live c = rw c.block_of-block.ensures (show_live _ _ c.if-book-number.false 0 (rw c.block_of-block.ensures at c.in_ok-own_fault.ensures) refl _ (rw c.block_of-block.ensures at c.badge_of-badge.ensures) c.if-badge-eq-NO_BADGE.false)

pub returns : goal.returns
returns c = show_found _ _ c.if-book-number.false 0 (rw c.block_of-block.ensures at c.in_ok-own_fault.ensures) refl _ (rw c.block_of-block.ensures at c.badge_of-badge.ensures) c.if-badge-eq-NO_BADGE.false _ _ _ (rw c.block_of-block.ensures at c.read_block-head.ensures)
