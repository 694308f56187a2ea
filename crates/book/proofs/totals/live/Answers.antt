-- `book::totals::live` meets its contract: each block is tested, and those that pass are counted.
use Rattle.std.proofs.Common.{◌∙◌, rules, tests}
use Rattle.std.proofs.lemmas.Iterator.{YieldsList-from_slice}
use Rattle.std.proofs.lemmas.Iterator.Consumers.{YieldsList-from_filter, count_from_yields_List}
use Rattle.book.proofs.totals.Counting.{counted, count_is}
use Rattle.book.proofs.totals.live.Goals as goal

pub returns : goal.returns
returns c =
    count_from_yields_List _ _ c.count.ensures.ran
    (YieldsList-from_filter _ counted (YieldsList-from_slice c.args.blocks.now cc) c.filter.ensures.closure (λ x b q k. search (rules, tests)))
    ∙ count_is c.args.blocks.now
