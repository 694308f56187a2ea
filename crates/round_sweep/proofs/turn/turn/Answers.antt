use native.Mathlib.Omega.{arith}
use Rattle.round_sweep.proofs.Turns.{turn_spent, turn_left, turn_following, turn_done}
use Rattle.round_sweep.proofs.turn.turn.Goals as goal

pub returns-then-terms-x : goal.returns-then-terms-x
returns-then-terms-x c = let P = c.requires.turning in turn_spent P.inside P.going c.if-terms-x.true _ c.stop.ensures

pub overflow_add-w : goal.overflow_add-w
overflow_add-w c = let P = c.requires.turning in let a = turn_left P.inside P.going P.course P.swept in let b = P.small in let d = c.give_up-h.ensures.few in omega arith

pub follow-requires : goal.follow-requires
follow-requires c = turn_following c.give_up-h.ensures c.requires.turning

pub returns : goal.returns
returns c = turn_done c.give_up-h.ensures _ _ c.follow.ensures
