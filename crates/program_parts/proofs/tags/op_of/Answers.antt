-- `program_parts::tags::op_of` meets its contract: each arm is an entry of the table.
use borrow.Author.Tests.{ne_eqb}
use Rattle.program_rules.specs.Lines.{op_of, ops_under}
use Rattle.program_parts.proofs.Laws.{op_none}
use Rattle.program_parts.proofs.tags.op_of.Goals as goal

pub returns-in-0 : goal.returns-in-0
unfolding op_of ops_under
returns-in-0 c = rw c.in-0.is

pub returns-in-1 : goal.returns-in-1
unfolding op_of ops_under
returns-in-1 c = rw c.in-1.is

pub returns-in-2 : goal.returns-in-2
unfolding op_of ops_under
returns-in-2 c = rw c.in-2.is

pub returns-then-k-eq-INTEGER : goal.returns-then-k-eq-INTEGER
unfolding op_of ops_under
returns-then-k-eq-INTEGER c = rw (c.in-3.is, c.if-k-eq-INTEGER.true)

pub returns-else-k-eq-INTEGER : goal.returns-else-k-eq-INTEGER
unfolding op_of ops_under
returns-else-k-eq-INTEGER c = rw (c.in-3.is, ne_eqb _ 1 c.if-k-eq-INTEGER.false)

pub returns-in-4 : goal.returns-in-4
unfolding op_of ops_under
returns-in-4 c = rw c.in-4.is

pub returns-in-2-k : goal.returns-in-2-k
unfolding op_of ops_under
returns-in-2-k c = rw (c.in-5.is, c.in-2-k.is)

pub returns-in-3-k : goal.returns-in-3-k
unfolding op_of ops_under
returns-in-3-k c = rw (c.in-5.is, c.in-3-k.is)

pub returns-in_default-k : goal.returns-in_default-k
unfolding op_of ops_under
returns-in_default-k c = let r = c.in_default-k.in_default-k-own.rest in rw (c.in-5.is, ne_eqb _ 2 r.0.1, ne_eqb _ 3 r.1)

pub returns-in-6 : goal.returns-in-6
unfolding op_of ops_under
returns-in-6 c = rw c.in-6.is

pub returns-then-k-eq-TUPLE : goal.returns-then-k-eq-TUPLE
unfolding op_of ops_under
returns-then-k-eq-TUPLE c = rw (c.in-7.is, c.if-k-eq-TUPLE.true)

pub returns-else-k-eq-TUPLE : goal.returns-else-k-eq-TUPLE
unfolding op_of ops_under
returns-else-k-eq-TUPLE c = rw (c.in-7.is, ne_eqb _ 4 c.if-k-eq-TUPLE.false)

pub returns-in-8 : goal.returns-in-8
unfolding op_of ops_under
returns-in-8 c = rw c.in-8.is

pub returns-in-9 : goal.returns-in-9
unfolding op_of ops_under
returns-in-9 c = rw c.in-9.is

pub returns-in-10 : goal.returns-in-10
unfolding op_of ops_under
returns-in-10 c = rw c.in-10.is

pub returns-in_default : goal.returns-in_default
unfolding op_of ops_under
returns-in_default c = let r = c.in_default.in_default-own.rest in
    op_none _ c.args.k r.0.0.0.0.0.0.0.0.0.0.1 r.0.0.0.0.0.0.0.0.0.1 r.0.0.0.0.0.0.0.0.1 r.0.0.0.0.0.0.0.1 r.0.0.0.0.0.0.1 r.0.0.0.0.0.1 r.0.0.0.0.1 r.0.0.0.1 r.0.0.1 r.0.1 r.1
