use native.Mathlib.Omega.{arith}
use Rattle.round_sweep.proofs.Turns.{turn_left, turn_rests, turn_firsts, turn_given_up}
use Rattle.round_sweep.proofs.turn.give_up.Goals as goal

pub overflow_add-many : goal.overflow_add-many
overflow_add-many c = let P = c.requires.turning in let a = turn_left P.inside P.going P.course P.swept in let b = P.small in omega arith

pub put_rest-r-requires : goal.put_rest-r-requires
put_rest-r-requires c = let P = c.requires.turning in record { given = c.requires.given; rests = turn_rests P.inside P.going P.course P.swept }

pub take_first-t-requires : goal.take_first-t-requires
take_first-t-requires c = let P = c.requires.turning in record { given = c.requires.given; firsts = turn_firsts P.inside P.going P.course P.swept _ _ _ _ c.put_rest-r.ensures c.requires.budget_left; budget_fits = c.requires.budget_fits }

pub returns : goal.returns
returns c = let P = c.requires.turning in
    turn_given_up P.inside P.going _ _ _ _ c.put_rest-r.ensures c.take_first-t.result _ _ c.requires.budget_left c.take_first-t.ensures
