use Rattle.search_atom.proofs.Laws.{part_rules}
use Rattle.search_atom.proofs.tuples.put_part.Goals as goal

pub whole-m-requires : goal.whole-m-requires
whole-m-requires c = search part_rules
