use Rattle.search.proofs.Laws.{equal_is}
use Rattle.search.proofs.asking.is_equal_at.Goals as goal

pub returns : goal.returns
returns c = equal_is _ _ _ _ _ _ _ _ _ c.equal.ensures c.mat_at-i.ensures
