use Prim.Native.Nat.{◌-◌}
use Rattle.round_sweep.proofs.Turns.{swept_none, swept_room, swept_turning, swept_next, swept_all, swept_stopped}
use Rattle.round_sweep.proofs.sweep.sweep.Goals as goal

pub loop-i-init : goal.loop-i-init
loop-i-init c = swept_none _ _ _ _ _ _ _ _

pub returns-in-Some : goal.returns-in-Some
returns-in-Some c = swept_stopped c.loop-i.invariant _ c.in-Some.is

pub turn-w-requires-clause-turning : goal.turn-w-requires-clause-turning
turn-w-requires-clause-turning c = swept_turning c.loop-i.invariant c.requires.sweeps c.in_default.is c.loop-i-test.true

pub loop-i-preserved : goal.loop-i-preserved
loop-i-preserved c = swept_next c.loop-i.invariant c.loop-i-test.true _ _ _ _ c.turn-w.ensures

pub returns : goal.returns
returns c = swept_all c.loop-i.invariant c.loop-i-test.false
