use borrow.Author.Tests.{ne_eqb}
use Rattle.program_rules.specs.Link.{takes}
use Rattle.program.proofs.link.takes_place.Goals as goal

pub returns-in-15 : goal.returns-in-15
unfolding takes
returns-in-15 c = rw c.in-15.is

pub returns-in-16 : goal.returns-in-16
unfolding takes
returns-in-16 c = rw c.in-16.is

pub returns-in-18 : goal.returns-in-18
unfolding takes
returns-in-18 c = rw c.in-18.is

pub returns-in_default : goal.returns-in_default
unfolding takes
returns-in_default c = let r = c.in_default.in_default-own.rest in rw (ne_eqb _ 15 r.0.0.1, ne_eqb _ 16 r.0.1, ne_eqb _ 18 r.1)
