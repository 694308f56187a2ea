use Prim.Native.Nat.{◌-◌}
use native.Mathlib.Omega.{arith}
use Rattle.search_rounds.proofs.Heads.{gone_none, gone_valid, gone_long, gone_steps, gone_left, gone_spent, gone_over, gone_next, gone_less}
use Rattle.search_rounds.proofs.first.leave_not.Goals as goal

pub loop-x-init : goal.loop-x-init
loop-x-init c = gone_none _ _ _ _ _ _

pub shape_of-room-then-x-eq0 : goal.shape_of-room-then-x-eq0
shape_of-room-then-x-eq0 c = gone_long c.requires.inside c.loop-x.x c.loop-x.slots c.loop-x.b c.loop-x.room c.loop-x.invariant

pub returns-then-x-eq0 : goal.returns-then-x-eq0
returns-then-x-eq0 c = gone_left c.requires.inside c.loop-x.x c.loop-x.slots c.loop-x.b c.loop-x.room c.loop-x.invariant c.loop-x-test.true c.if-x-eq0.true

pub shape_of-room-then-terms-x : goal.shape_of-room-then-terms-x
shape_of-room-then-terms-x c = gone_long c.requires.inside c.loop-x.x c.loop-x.slots c.loop-x.b c.loop-x.room c.loop-x.invariant

pub returns-then-terms-x : goal.returns-then-terms-x
returns-then-terms-x c = gone_spent c.requires.inside c.loop-x.x c.loop-x.slots c.loop-x.b c.loop-x.room c.loop-x.invariant c.loop-x-test.true c.if-x-eq0.false c.if-terms-x.true

pub once-f-requires : goal.once-f-requires
once-f-requires c = record { given = c.requires.given; fine = c.requires.inside.ruled.fine; valid = gone_valid c.requires.inside c.loop-x.x c.loop-x.slots c.loop-x.b c.loop-x.room c.loop-x.invariant; steps_fit = gone_steps c.requires.inside c.loop-x.x c.loop-x.slots c.loop-x.b c.loop-x.room c.loop-x.invariant c.requires.budget_fits }

pub loop-x-smaller : goal.loop-x-smaller
loop-x-smaller c = gone_less c.requires.inside c.loop-x.x c.loop-x.slots c.loop-x.b c.loop-x.room c.loop-x.invariant c.loop-x-test.true c.if-x-eq0.false (let z = c.if-terms-x.false in omega arith) c.once-f.result.state c.once-f.new.slots c.once-f.result.binds c.once-f.new.room c.once-f.ensures

pub loop-x-preserved : goal.loop-x-preserved
loop-x-preserved c = gone_next c.requires.inside c.loop-x.x c.loop-x.slots c.loop-x.b c.loop-x.room c.loop-x.invariant c.loop-x-test.true c.if-x-eq0.false (let z = c.if-terms-x.false in omega arith) c.once-f.result.state c.once-f.new.slots c.once-f.result.binds c.once-f.new.room c.once-f.ensures

pub shape_of-room : goal.shape_of-room
shape_of-room c = gone_long c.requires.inside c.loop-x.x c.loop-x.slots c.loop-x.b c.loop-x.room c.loop-x.invariant

pub returns : goal.returns
returns c = gone_over c.requires.inside c.loop-x.x c.loop-x.slots c.loop-x.b c.loop-x.room c.loop-x.invariant c.loop-x-test.false
