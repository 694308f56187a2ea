use native.Mathlib.Omega.{arith}
use mathlib.Core.Path.{◌∙◌}
use Rattle.round_run.proofs.Courses.{begins_sweeps, begins_fresh, begins_there, begins_few, begins_room, round_halts, round_goes}
use Rattle.round_run.proofs.rounds.take_round.Goals as goal

pub sweep-w-requires : goal.sweep-w-requires
sweep-w-requires c = record { given = c.requires.given; sweeps = begins_sweeps c.requires.begins; budget_fits = c.requires.budget_fits }

pub shape_of-table-in-Some : goal.shape_of-table-in-Some
shape_of-table-in-Some c = c.sweep-w.ensures.long

pub shape_of-room-in-Some : goal.shape_of-room-in-Some
shape_of-room-in-Some c = begins_room c.requires.begins c.sweep-w.ensures

pub returns-in-Some : goal.returns-in-Some
returns-in-Some c = let P = c.requires.begins in round_halts P.going P.some P.steps c.sweep-w.ensures _ c.in-Some.is _ c.halt.ensures

pub pull-requires : goal.pull-requires
pull-requires c = let P = c.requires.begins in record { fresh = begins_fresh P c.sweep-w.ensures c.in_default.is; few_slots = P.journey.uses.most; table_long = begins_there P c.sweep-w.ensures c.in_default.is }

pub overflow_add-result : goal.overflow_add-result
overflow_add-result c = let P = c.requires.begins in
    let a = begins_fresh P c.sweep-w.ensures c.in_default.is in
    let b = begins_few P c.sweep-w.ensures c.in_default.is in
    omega arith

pub shape_of-table : goal.shape_of-table
shape_of-table c = c.pull.ensures.long ∙ c.sweep-w.ensures.long

pub shape_of-room : goal.shape_of-room
shape_of-room c = begins_room c.requires.begins c.sweep-w.ensures

pub returns : goal.returns
returns c = let P = c.requires.begins in
    round_goes P.going P.some P.steps P.journey P.onward P.waits c.sweep-w.ensures c.in_default.is _ c.pull.ensures
