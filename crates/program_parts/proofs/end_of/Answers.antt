use Rattle.program_parts.proofs.Laws.{end_rules}
use Rattle.program_parts.proofs.end_of.Goals as goal

pub overflow_cast-result : goal.overflow_cast-result
overflow_cast-result c = search end_rules
