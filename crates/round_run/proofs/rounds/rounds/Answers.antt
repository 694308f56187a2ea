use native.Mathlib.Omega.{arith}
use mathlib.Core.Path.{◌∙◌}
use Rattle.round_run.proofs.Courses.{gone_none, gone_room, gone_begins, gone_spent, gone_table, gone_done, gone_stopped, gone_next, gone_more}
use Rattle.round_run.proofs.rounds.rounds.Goals as goal

pub loop-r-init : goal.loop-r-init
loop-r-init c = gone_none c.requires.starts

pub shape_of-table-then-terms-x : goal.shape_of-table-then-terms-x
shape_of-table-then-terms-x c = c.loop-r.invariant.long

pub shape_of-room-then-terms-x : goal.shape_of-room-then-terms-x
shape_of-room-then-terms-x c = gone_room c.loop-r.invariant c.requires.starts

pub returns-then-terms-x : goal.returns-then-terms-x
returns-then-terms-x c = gone_spent c.loop-r.invariant c.loop-r-test.true c.if-terms-x.true _ c.halt.ensures

pub shape_of-table-then-limit-r : goal.shape_of-table-then-limit-r
shape_of-table-then-limit-r c = c.loop-r.invariant.long

pub shape_of-room-then-limit-r : goal.shape_of-room-then-limit-r
shape_of-room-then-limit-r c = gone_room c.loop-r.invariant c.requires.starts

pub returns-then-limit-r : goal.returns-then-limit-r
returns-then-limit-r c = gone_table c.loop-r.invariant c.loop-r-test.true c.if-terms-x.false c.if-limit-r.true _ c.halt-then-limit-r.ensures

pub take_round-q-requires : goal.take_round-q-requires
take_round-q-requires c = record { given = c.requires.given; begins = gone_begins c.loop-r.invariant c.requires.starts c.loop-r-test.true c.if-terms-x.false c.if-limit-r.false; budget_fits = c.requires.budget_fits }

pub shape_of-table-in-Some : goal.shape_of-table-in-Some
shape_of-table-in-Some c = c.take_round-q.ensures.long ∙ c.loop-r.invariant.long

pub shape_of-room-in-Some : goal.shape_of-room-in-Some
shape_of-room-in-Some c = gone_more c.loop-r.invariant c.if-limit-r.false _ _ _ _ c.take_round-q.ensures c.requires.starts

pub returns-in-Some : goal.returns-in-Some
returns-in-Some c = gone_stopped c.loop-r.invariant c.if-limit-r.false _ _ _ _ c.take_round-q.ensures _ c.in-Some.is

pub loop-r-smaller : goal.loop-r-smaller
loop-r-smaller c = let a = c.take_round-q.ensures.later c.in_default.is in let b = c.if-terms-x.false in omega arith

pub loop-r-preserved : goal.loop-r-preserved
loop-r-preserved c = gone_next c.loop-r.invariant c.if-limit-r.false _ _ _ _ c.take_round-q.ensures c.in_default.is

pub shape_of-table : goal.shape_of-table
shape_of-table c = c.loop-r.invariant.long

pub shape_of-room : goal.shape_of-room
shape_of-room c = gone_room c.loop-r.invariant c.requires.starts

pub returns : goal.returns
returns c = gone_done c.loop-r.invariant c.loop-r-test.false
