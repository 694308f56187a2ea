use borrow.Author.Rules.{rules}
use Rattle.value_rows.proofs.Row.{targets_fit}
use Rattle.search.proofs.Laws.{short_asked, short_ample}
use Rattle.search.proofs.taking.is_short.Goals as goal

pub overflow_mul-n : goal.overflow_mul-n
overflow_mul-n c = targets_fit _ _ c.requires.given.target c.requires.bound.most

pub returns-then-free-n : goal.returns-then-free-n
returns-then-free-n c = search (short_asked, rules)

pub returns : goal.returns
returns c = search (short_ample, rules)
