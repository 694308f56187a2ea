use Rattle.search_leaf.specs.Told.{Tells}
use Rattle.search_leaf.proofs.told.told_of.Given as goal

abbrev pub invariant-loop-v : goal.invariant-loop-v
invariant-loop-v l = Tells l.shape.origins l.units.words.now l.b l.v l.but l.words
