use Rattle.search_step.proofs.Laws.{divide_rules}
use Rattle.search_step.proofs.State.divide.Goals as goal

pub returns-then-o-lt-AND : goal.returns-then-o-lt-AND
returns-then-o-lt-AND c = search divide_rules

pub returns-then-o-gt-JOIN : goal.returns-then-o-gt-JOIN
returns-then-o-gt-JOIN c = search divide_rules

pub returns-then-o-eq-LIST_CONS : goal.returns-then-o-eq-LIST_CONS
returns-then-o-eq-LIST_CONS c = search divide_rules

pub returns : goal.returns
returns c = search divide_rules
