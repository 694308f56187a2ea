use Rattle.program_parts.proofs.Laws.{under_fits}
use Rattle.program_parts.proofs.first_under.Goals as goal

pub overflow_add-result-2 : goal.overflow_add-result-2
overflow_add-result-2 c = under_fits _ _ c.if-o-gt-QUADRUPLE.false c.if-o-eq-JOIN.false c.requires
