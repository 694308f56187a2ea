-- `program_parts::tags::beyond_two` meets its contract: each arm is a case of the table.
use borrow.Author.Tests.{ne_eqb}
use Rattle.program_rules.specs.Lines.{beyond_two}
use Rattle.program_parts.proofs.tags.beyond_two.Goals as goal

pub returns-in-3 : goal.returns-in-3
unfolding beyond_two
returns-in-3 c = rw c.in-3.is

pub returns-in-4 : goal.returns-in-4
unfolding beyond_two
returns-in-4 c = rw c.in-4.is

pub returns-in_default : goal.returns-in_default
unfolding beyond_two
returns-in_default c = let r = c.in_default.in_default-own.rest in rw (ne_eqb _ 3 r.0.1, ne_eqb _ 4 r.1)
