-- The proof of the cycle of calls {fit_end}: the depth falls at each call.
use mathlib.Core.Path.{ap, refl}
use mathlib.Core.Bool.{not}
use Rattle.test_unfit.proofs.Steps.{loop_in, loop_plain, loop_turn, told_some}
use Rattle.test_unfit.proofs.Runs.{loop_run}
use Rattle.test_unfit.proofs.+fit_end.Goals as goal
use Rattle.test_unfit.proofs.+fit_end.Goals.{then-plain-gt0, else-plain-gt0+in_ok-e}

pub loop-member-init : goal.loop-member-init
loop-member-init t c =
    let some = told_some _ _ _ c.ok_or.ensures.value _ c.in_ok-j.was in
    loop_run _ _ _ _ _ _ _ _ c.fit_run-run.ensures _
    (loop_in _ _ _ _ _ _ c.tag_at-k.ensures _ c.tag_at-t.ensures c.if-k-eq-SOMETHING.false c.if-k-eq-INTEGER.false _ c.opens.ensures (ap not c.if-not-opens.false)
    c.if-depth-eq0.false _ c.tag_at-n.ensures _ c.members_of.ensures _ some)

pub loop-member-preserved : goal.loop-member-preserved
loop-member-preserved t c = elim c.if-plain-gt0.branch [
  | then-plain-gt0 w ↦ rw w.e-is (loop_plain _ _ _ _ _ _ _ _ _ c.loop-member.invariant c.loop-member-test.true c.args.depth refl c.if-depth-eq0.false
      _ c.plain_words-plain.ensures w.if-plain-gt0.true _ c.next_member-j.ensures)
  | else-plain-gt0+in_ok-e w ↦ rw w.e-is (loop_turn _ _ _ _ _ _ _ _ _ c.loop-member.invariant c.loop-member-test.true _ w.fit_end.ensures _ w.in_ok-e.was
      _ c.next_member-j.ensures)
]
