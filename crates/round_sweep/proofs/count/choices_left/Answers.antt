use mathlib.Core.Path.{refl}
use native.Mathlib.Omega.{arith}
use Rattle.round_sweep.proofs.Counts.{count_none, count_or, count_join, count_cons, count_few, frame_place, frame_within}
use Rattle.round_sweep.proofs.count.choices_left.Goals as goal

pub returns-then-top-eq0 : goal.returns-then-top-eq0
returns-then-top-eq0 c = record { value = count_none _ _ _ c.if-top-eq0.true; few = omega arith }

pub op_at-o-requires : goal.op_at-o-requires
op_at-o-requires c = frame_place c.requires c.if-top-eq0.false

pub returns-then-o-eq-OR : goal.returns-then-o-eq-OR
returns-then-o-eq-OR c = record { value = count_or _ _ _ c.if-top-eq0.false _ c.op_at-o.ensures c.if-o-eq-OR.true; few = omega arith }

pub frame_at-f-requires : goal.frame_at-f-requires
frame_at-f-requires c = c.requires.slotted c.if-top-eq0.false

pub overflow_sub-f : goal.overflow_sub-f
overflow_sub-f c = frame_within c.requires c.if-top-eq0.false _ c.op_at-o.ensures c.if-o-eq-JOIN.true _ c.frame_at-f.ensures

pub returns-then-o-eq-JOIN : goal.returns-then-o-eq-JOIN
returns-then-o-eq-JOIN c = record { value = count_join _ _ _ c.if-top-eq0.false _ c.op_at-o.ensures _ c.frame_at-f.ensures _ _ refl c.if-o-eq-JOIN.true c.count.ensures; few = let a = count_few _ _ _ (omega arith) c.count.ensures refl in omega arith }

pub returns : goal.returns
returns c = record { value = count_cons _ _ _ c.if-top-eq0.false _ c.op_at-o.ensures _ c.frame_at-f.ensures _ _ refl c.if-o-eq-OR.false c.if-o-eq-JOIN.false c.count-2.ensures; few = let a = count_few _ _ _ (omega arith) c.count-2.ensures refl in omega arith }
