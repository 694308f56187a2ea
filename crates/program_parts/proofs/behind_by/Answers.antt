use borrow.Author.Tests.{ne_eqb}
use Rattle.program_rules.specs.Lines.{behind_by}
use Rattle.program_parts.proofs.behind_by.Goals as goal

pub returns-in-15 : goal.returns-in-15
unfolding behind_by
returns-in-15 c = rw c.in-15.is

pub returns-in-16 : goal.returns-in-16
unfolding behind_by
returns-in-16 c = rw c.in-16.is

pub returns-in_default : goal.returns-in_default
unfolding behind_by
returns-in_default c = let r = c.in_default.in_default-own.rest in rw (ne_eqb _ 15 r.0.1, ne_eqb _ 16 r.1)
