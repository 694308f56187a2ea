use borrow.Author.Tests.{ne_eqb, lt-ltb, le-ltb}
use Rattle.program_rules.specs.Lines.{operands_of}
use Rattle.program_parts.proofs.tags.operands.Goals as goal

pub returns-then-o-eq-PAIR : goal.returns-then-o-eq-PAIR
unfolding operands_of
returns-then-o-eq-PAIR c = rw c.if-o-eq-PAIR.true

pub returns-in-0-to-2 : goal.returns-in-0-to-2
unfolding operands_of
returns-in-0-to-2 c = rw (ne_eqb _ 11 c.if-o-eq-PAIR.false, lt-ltb _ _ c.in-0-to-2.if-o-lt3-own.true)

pub returns-in-3-to-4 : goal.returns-in-3-to-4
unfolding operands_of
returns-in-3-to-4 c = rw (ne_eqb _ 11 c.if-o-eq-PAIR.false, le-ltb _ _ c.in-3-to-4.if-o-lt3-own.false, lt-ltb _ _ c.in-3-to-4.if-o-lt5-own.true)

pub returns-in-5-to-6 : goal.returns-in-5-to-6
unfolding operands_of
returns-in-5-to-6 c = rw (ne_eqb _ 11 c.if-o-eq-PAIR.false, le-ltb _ _ c.in-5-to-6.if-o-lt3-own.false, le-ltb _ _ c.in-5-to-6.if-o-lt5-own.false, lt-ltb _ _ c.in-5-to-6.if-o-lt7-own.true)

pub returns-in_default : goal.returns-in_default
unfolding operands_of
returns-in_default c = rw (ne_eqb _ 11 c.if-o-eq-PAIR.false, le-ltb _ _ c.in_default.if-o-lt3-own.false, le-ltb _ _ c.in_default.if-o-lt5-own.false, le-ltb _ _ c.in_default.if-o-lt7-own.false)
