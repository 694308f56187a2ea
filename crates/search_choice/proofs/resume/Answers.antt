use Rattle.search_step.specs.Steps.{moved, topped}
use Rattle.search_choice.proofs.Laws.{resume_rules}
use Rattle.search_choice.proofs.resume.Goals as goal

pub held_at-h-requires : goal.held_at-h-requires
unfolding moved topped
held_at-h-requires c = search resume_rules
