use Rattle.search_leaf.specs.Leaf.{tally}
use Rattle.search_leaf.proofs.Laws.{Going}
use Rattle.search_leaf.proofs.take_sums.Given as goal

abbrev pub invariant-loop-more : goal.invariant-loop-more
invariant-loop-more l = Going l.units.words.now l.shape.origins l.shape.vars l.part l.budget (tally l.initial.left l.initial.steps l.initial.rows l.initial.words) l.told l.initial.room (tally l.left l.steps l.rows l.words) l.told l.part.value l.room l.more

abbrev pub decreases-loop-more : goal.decreases-loop-more
decreases-loop-more l = l.left
