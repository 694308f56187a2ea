use borrow.Author.Tests.{ne_eqb}
use Rattle.program_rules.specs.Pile.{land_at}
use Rattle.program.proofs.link.land_by.Goals as goal

pub returns-in-18 : goal.returns-in-18
unfolding land_at
returns-in-18 c = rw c.in-18.is

pub returns-in-19 : goal.returns-in-19
unfolding land_at
returns-in-19 c = rw c.in-19.is

pub returns-in_default : goal.returns-in_default
unfolding land_at
returns-in_default c = let r = c.in_default.in_default-own.rest in rw (ne_eqb _ 18 r.0.1, ne_eqb _ 19 r.1)
