-- `search_seek::pairs::seek_pairs` meets its contract: at the loop's head the choices so far are passed over.
use Rattle.search_seek.specs.Pairs.{stays}
use Rattle.search_seek.proofs.Passing.{pair_rules}
use Rattle.search_seek.proofs.pairs.seek_pairs.Goals as goal

pub loop-more-init : goal.loop-more-init
loop-more-init c = (stays, search pair_rules, search pair_rules, search pair_rules, search pair_rules)

pub element-e-requires : goal.element-e-requires
element-e-requires c = record { placed = search pair_rules; tag = search pair_rules; element = search pair_rules }

pub cost-n-requires : goal.cost-n-requires
cost-n-requires c = record { placed = search pair_rules; tag = search pair_rules; integers = search pair_rules }
