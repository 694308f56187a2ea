-- `test_forms::pattern::walk` meets its contract: the loop's invariant is that what is left to read decides.
use Rattle.std.proofs.lemmas.Result.{err_from_is_err_and}
use Rattle.test_forms.proofs.pattern.Steps.{ret_wrong, turn_skip, turn_known, turn_wide, fits_need, few_known, few_wide, own_rules}
use Rattle.test_forms.proofs.table.Laws.{told_row, told_none}
use Rattle.test_forms.proofs.pattern.walk.Goals as goal
use Rattle.test_forms.proofs.pattern.walk.Goals.{then-skip-gt0, else-skip-gt0+else-need-eq0+in_ok-operands+in-Known, else-skip-gt0+else-need-eq0+in_ok-operands+in-Wide+else-not-between}

pub returns-then-need-eq0 : goal.returns-then-need-eq0
returns-then-need-eq0 c = search own_rules

pub returns-in_err-operands : goal.returns-in_err-operands
returns-in_err-operands c =
    let p = err_from_is_err_and c.from_residual.result c.from_residual.ensures.1 in
    let q = told_none _ _ _ c.ok_or.ensures.value _ c.in_err-operands.was in
    rw (p.1, p.2, q.1) (ret_wrong _ _ _ _ _ c.loop-at.invariant.0 _ c.loop-at-test.true c.if-skip-gt0.false c.if-need-eq0.false c.tag_at.ensures _ c.row_of.ensures q.0)

pub overflow_add-need : goal.overflow_add-need
overflow_add-need c =
    let g = told_row _ _ _ c.ok_or.ensures.value _ c.in_ok-operands.was _ c.in-Known.is in
    fits_need _ _ _ _ (few_known _ _ _ c.row_of.ensures _ _ _ g) c.loop-at.invariant.1 c.loop-at-test.true c.requires

pub returns-then-not-between : goal.returns-then-not-between
returns-then-not-between c =
    let g = told_row _ _ _ c.ok_or.ensures.value _ c.in_ok-operands.was _ c.in-Wide.is in
    search own_rules

pub overflow_add-need-in-Wide : goal.overflow_add-need-in-Wide
overflow_add-need-in-Wide c = fits_need _ _ _ _ (few_wide _ _ c.between.ensures c.if-not-between.false) c.loop-at.invariant.1 c.loop-at-test.true c.requires

pub loop-at-preserved : goal.loop-at-preserved
loop-at-preserved c = elim c.if-skip-gt0.branch [
  | then-skip-gt0 w ↦ turn_skip _ _ _ _ c.loop-at.invariant c.loop-at-test.true _ _ w.if-skip-gt0.true w.skip-is w.need-is
  | else-skip-gt0+else-need-eq0+in_ok-operands+in-Known w ↦ turn_known _ _ _ _ c.loop-at.invariant c.loop-at-test.true _ _ _ w.if-skip-gt0.false w.if-need-eq0.false
      w.tag_at.ensures _ w.row_of.ensures _ _ _ (told_row _ _ _ w.ok_or.ensures.value _ w.in_ok-operands.was _ w.in-Known.is) w.skip-is w.need-is
  | else-skip-gt0+else-need-eq0+in_ok-operands+in-Wide+else-not-between w ↦ turn_wide _ _ _ _ c.loop-at.invariant c.loop-at-test.true _ _ _ w.if-skip-gt0.false
      w.if-need-eq0.false w.tag_at.ensures _ w.row_of.ensures _ (told_row _ _ _ w.ok_or.ensures.value _ w.in_ok-operands.was _ w.in-Wide.is) _ w.tag_at-k.ensures _
      w.between.ensures w.if-not-between.false w.skip-is w.need-is
]

pub returns-then-skip-need-eq0 : goal.returns-then-skip-need-eq0
returns-then-skip-need-eq0 c = search own_rules

pub returns-else-skip-need-eq0 : goal.returns-else-skip-need-eq0
returns-else-skip-need-eq0 c = search own_rules
