use borrow.Author.Tests.{ne_eqb}
use Rattle.program_rules.specs.Link.{keeps}
use Rattle.program.proofs.link.keeps_place.Goals as goal

pub returns-in-17 : goal.returns-in-17
unfolding keeps
returns-in-17 c = rw c.in-17.is

pub returns-in-18 : goal.returns-in-18
unfolding keeps
returns-in-18 c = rw c.in-18.is

pub returns-in-19 : goal.returns-in-19
unfolding keeps
returns-in-19 c = rw c.in-19.is

pub returns-in_default : goal.returns-in_default
unfolding keeps
returns-in_default c = let r = c.in_default.in_default-own.rest in rw (ne_eqb _ 17 r.0.0.1, ne_eqb _ 18 r.0.1, ne_eqb _ 19 r.1)
