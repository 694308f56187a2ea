use Rattle.search_step.specs.Steps.{lived}
use Rattle.search_choice.proofs.Laws.{pick_rules}
use Rattle.search_choice.proofs.pick.Goals as goal

pub returns-then-o-eq-JOIN : goal.returns-then-o-eq-JOIN
unfolding lived
returns-then-o-eq-JOIN c = search pick_rules

pub returns : goal.returns
unfolding lived
returns c = search pick_rules
