-- `book::lookup::read` meets its contract: refused as the book is, none, or the rule of the block found.
use Rattle.std.proofs.Common.{refl}
use Rattle.std.proofs.lemmas.Result.{err_from_is_err_and}
use Rattle.book.proofs.lookup.Rules.{read_refused, read_none, read_fits, read_live, read_found, read_room}
use Rattle.book.proofs.lookup.read.Goals as goal

pub returns-in_err-test : goal.returns-in_err-test
returns-in_err-test c = let p = err_from_is_err_and c.from_residual.result c.from_residual.ensures.1 in rw (p.1, p.2) (read_refused _ _ _ _ _ c.in_err-test.ensures _ _ refl)

pub first_blocks-requires : goal.first_blocks-requires
first_blocks-requires c = read_room _ _ _ _ c.in_ok-test.ensures refl

pub block_of-requires : goal.block_of-requires
block_of-requires c = read_fits _ _ _ _ _ c.in_ok-test.ensures refl _ (rw c.first_blocks.ensures at c.live_at.ensures) _ c.in-Some.is

pub read_block-requires : goal.read_block-requires
read_block-requires c = record {
  room = c.requires;
  live = rw c.block_of.ensures (read_live _ _ _ _ _ c.in_ok-test.ensures refl _ (rw c.first_blocks.ensures at c.live_at.ensures) _ c.in-Some.is);
}

pub returns-in-Some : goal.returns-in-Some
returns-in-Some c = read_found _ _ _ _ _ c.in_ok-test.ensures refl _ (rw c.first_blocks.ensures at c.live_at.ensures) _ c.in-Some.is _ _ _ (rw c.block_of.ensures at c.read_block.ensures)

pub returns-in-None : goal.returns-in-None
returns-in-None c = read_none _ _ _ _ _ c.in_ok-test.ensures refl _ (rw c.first_blocks.ensures at c.live_at.ensures) _ c.in-None.is
