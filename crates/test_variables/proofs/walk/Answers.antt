-- `test_variables::walk` meets its contract: the loop's invariant is that what is left to read gives the answer.
use mathlib.Core.Path.{◌∙◌, ap}
use Rattle.std.specs.Prelude.{Some}
use Rattle.test_forms.proofs.pattern.Steps.{few_known, few_wide}
use Rattle.test_variables.proofs.Steps.{ret_long, ret_end, ret_refused, ret_unknown, ret_width, turn_skip, turn_wide, turn_variable, turn_other, room_inside}
use Rattle.test_variables.proofs.walk.Goals as goal
use Rattle.test_variables.proofs.walk.Goals.{then-skip-gt0, else-skip-gt0+else-not-allowed+in-Some-Known+then-t-eq-VARIABLE, else-skip-gt0+else-not-allowed+in-Some-Known+else-t-eq-VARIABLE, else-skip-gt0+else-not-allowed+in-Some-Wide+else-not-between}

pub returns-then-ps-gt-PATTERN_WORDS : goal.returns-then-ps-gt-PATTERN_WORDS
returns-then-ps-gt-PATTERN_WORDS c = ret_long _ c.if-ps-gt-PATTERN_WORDS.true

pub returns-then-not-allowed : goal.returns-then-not-allowed
returns-then-not-allowed c = ret_refused _ _ _ _ _ c.loop-at.invariant c.loop-at-test.true _ _ c.tag_at-t.ensures c.tag_at-v.ensures c.if-skip-gt0.false
    _ c.allowed.ensures c.if-ps-gt-PATTERN_WORDS.false c.if-not-allowed.true

pub returns-in-None : goal.returns-in-None
returns-in-None c = ret_unknown _ _ _ _ _ c.loop-at.invariant c.loop-at-test.true _ _ c.tag_at-t.ensures c.tag_at-v.ensures c.if-skip-gt0.false
    _ c.allowed.ensures c.if-not-allowed.false _ c.row_of.ensures c.if-ps-gt-PATTERN_WORDS.false c.in-None.is

pub inside_after-inside-requires : goal.inside_after-inside-requires
inside_after-inside-requires c =
    let k = few_known _ _ _ c.row_of.ensures _ _ _ (c.in-Some-Known.is ∙ ap Some c.in-Some-Known.field-0-is) in
    room_inside _ _ _ _ k c.loop-at.invariant.inner c.loop-at-test.true c.if-ps-gt-PATTERN_WORDS.false

pub returns-then-not-between : goal.returns-then-not-between
returns-then-not-between c = ret_width _ _ _ _ _ c.loop-at.invariant c.loop-at-test.true _ _ c.tag_at-t.ensures c.tag_at-v.ensures c.if-skip-gt0.false
    _ c.allowed.ensures c.if-not-allowed.false _ c.row_of.ensures _ (c.in-Some-Wide.is ∙ ap Some c.in-Some-Wide.field-0-is) _ c.between.ensures c.if-ps-gt-PATTERN_WORDS.false c.if-not-between.true

pub inside_after-inside-requires-in-Some-Wide : goal.inside_after-inside-requires-in-Some-Wide
inside_after-inside-requires-in-Some-Wide c =
    room_inside _ _ _ _ (few_wide _ _ c.between.ensures c.if-not-between.false) c.loop-at.invariant.inner c.loop-at-test.true c.if-ps-gt-PATTERN_WORDS.false

pub loop-at-preserved : goal.loop-at-preserved
loop-at-preserved c = elim c.if-skip-gt0.branch [
  | then-skip-gt0 w ↦ turn_skip _ _ _ _ _ c.loop-at.invariant c.loop-at-test.true w.if-skip-gt0.true _ _ _ w.skip-is w.next-is w.inside-is
  | else-skip-gt0+else-not-allowed+in-Some-Known+then-t-eq-VARIABLE w ↦ turn_variable _ _ _ _ _ c.loop-at.invariant c.loop-at-test.true _ _ w.tag_at-t.ensures
      w.tag_at-v.ensures w.if-skip-gt0.false _ w.allowed.ensures w.if-not-allowed.false _ w.row_of.ensures _ _ _ (w.in-Some-Known.is ∙ ap Some w.in-Some-Known.field-0-is)
      _ _ _ (w.inside-is ∙ w.inside_after-inside.ensures) w.skip-is w.if-t-eq-VARIABLE.true w.next-is
  | else-skip-gt0+else-not-allowed+in-Some-Known+else-t-eq-VARIABLE w ↦ turn_other _ _ _ _ _ c.loop-at.invariant c.loop-at-test.true _ _ w.tag_at-t.ensures
      w.tag_at-v.ensures w.if-skip-gt0.false _ w.allowed.ensures w.if-not-allowed.false _ w.row_of.ensures _ _ _ (w.in-Some-Known.is ∙ ap Some w.in-Some-Known.field-0-is)
      _ _ _ (w.inside-is ∙ w.inside_after-inside.ensures) w.skip-is w.if-t-eq-VARIABLE.false w.next-is
  | else-skip-gt0+else-not-allowed+in-Some-Wide+else-not-between w ↦ turn_wide _ _ _ _ _ c.loop-at.invariant c.loop-at-test.true _ _ w.tag_at-t.ensures
      w.tag_at-v.ensures w.if-skip-gt0.false _ w.allowed.ensures w.if-not-allowed.false _ w.row_of.ensures _ (w.in-Some-Wide.is ∙ ap Some w.in-Some-Wide.field-0-is)
      _ w.between.ensures w.if-not-between.false _ _ _ w.skip-is w.next-is (w.inside-is ∙ w.inside_after-inside-in-Some-Wide.ensures)
]

pub returns : goal.returns
returns c = ret_end _ _ _ _ _ c.loop-at.invariant c.if-ps-gt-PATTERN_WORDS.false c.loop-at-test.false
