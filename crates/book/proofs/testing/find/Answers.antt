-- `book::testing::find` meets its contract: each block is tested, and the first that passes is the book's.
use Rattle.std.proofs.Common.{rules, tests}
use Rattle.std.proofs.lemmas.Iterator.{YieldsList-from_slice}
use Rattle.std.proofs.lemmas.Iterator.Search.{position_from_yields_List}
use Rattle.book.proofs.testing.Finding.{tested, find_is}
use Rattle.book.proofs.testing.find.Goals as goal

pub returns : goal.returns
returns c =
    find_is c.args.badge c.args.blocks.now _
    (position_from_yields_List (tested c.args.badge) _ _ _ c.position.ensures.ran
    (YieldsList-from_slice c.args.blocks.now cc) (λ x b q k. search (rules, tests)))
