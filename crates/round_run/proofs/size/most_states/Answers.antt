use mathlib.Core.Path.{refl}
use Rattle.round_run.proofs.Sizes.{limit_most, limit_table}
use Rattle.round_run.proofs.size.most_states.Goals as goal

pub returns-then-n-gt-WAITING_LIMIT : goal.returns-then-n-gt-WAITING_LIMIT
returns-then-n-gt-WAITING_LIMIT c = limit_most _ _ refl c.if-n-gt-WAITING_LIMIT.true

pub returns : goal.returns
returns c = limit_table _ _ refl c.if-n-gt-WAITING_LIMIT.false
