use Rattle.value_places.proofs.Filling.{fill_rules}
use Rattle.value_places.proofs.places.fill.Goals as goal

pub loop-o-preserved : goal.loop-o-preserved
loop-o-preserved c = (search fill_rules, search fill_rules, search fill_rules, search fill_rules, search fill_rules, search fill_rules)
