use Rattle.search_leaf.specs.Leaf.{tally}
use Rattle.search_leaf.proofs.Laws.{Going}
use Rattle.search_leaf.proofs.take_all.Given as goal

abbrev pub invariant-loop-next : goal.invariant-loop-next
invariant-loop-next l = Going l.units.words.now l.shape.origins l.shape.vars l.part l.budget (tally l.initial.left l.initial.steps l.initial.rows l.initial.words) l.initial.told l.initial.room (tally l.left l.steps l.rows l.words) l.told l.last l.room l.next

abbrev pub decreases-loop-next : goal.decreases-loop-next
decreases-loop-next l = l.left
