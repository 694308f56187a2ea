use Rattle.round_table.proofs.Laws.{Copying}
use Rattle.round_table.proofs.copy.Given as goal

abbrev pub invariant-loop-k : goal.invariant-loop-k
invariant-loop-k l = Copying l.initial.table l.table l.from l.to l.n l.k
