use borrow.Author.Tests.{ne_eqb}
use mathlib.Core.Bool.{cond}
use Rattle.round_run.specs.Runs.{no_table}
use Rattle.round_run.proofs.without_table.Goals as goal

pub returns-then-budget-eq0 : goal.returns-then-budget-eq0
unfolding no_table cond
returns-then-budget-eq0 c = rw c.if-budget-eq0.true

pub returns-else-budget-eq0 : goal.returns-else-budget-eq0
unfolding no_table cond
returns-else-budget-eq0 c = rw (ne_eqb _ 0 c.if-budget-eq0.false)
