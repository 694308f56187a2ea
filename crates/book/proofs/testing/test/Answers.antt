-- `book::testing::test` meets its contract: block by block.
use Rattle.std.proofs.Common.{refl, arith}
use Rattle.book.proofs.Blocks.{refused}
use Rattle.book.proofs.testing.Walking.{walk_begins, walk_ends, walk_turn, walk_missing, walk_good}
use Rattle.book.proofs.testing.test.Goals as goal

pub loop-block-init : goal.loop-block-init
loop-block-init c = walk_begins _ _ _ (omega arith)

pub returns-in-Err : goal.returns-in-Err
returns-in-Err c = walk_ends _ _ _ _ c.loop-block.invariant _ c.loop-block-test.true c.in-Err.ensures (refused _)

pub loop-block-preserved : goal.loop-block-preserved
loop-block-preserved c = walk_turn _ _ _ _ c.loop-block.invariant 0 c.loop-block-test.true c.in_default.ensures refl

pub returns-then-blocks-used : goal.returns-then-blocks-used
returns-then-blocks-used c = walk_missing _ _ _ _ c.loop-block.invariant c.loop-block-test.false _ refl c.if-blocks-used.true

pub returns : goal.returns
returns c = walk_good _ _ _ _ c.loop-block.invariant c.loop-block-test.false _ refl c.if-blocks-used.false (omega arith)
