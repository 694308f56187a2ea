use Rattle.std.proofs.Common.{arith}
use mathlib.Core.Path.{◌≡◌}
use Rattle.test_fit.specs.Shapes.{width_next}
use Rattle.test_fit.proofs.shapes.Steps.{turn, next_of_tag, next_of_width, next_b, own_rules}
use Rattle.test_fit.proofs.shapes.same_shape.Goals as goal
use Rattle.test_fit.proofs.shapes.same_shape.Goals.{then-not-width, else-not-width}

pub overflow_sub-k-end : goal.overflow_sub-k-end
overflow_sub-k-end c = search own_rules

pub loop-k-init : goal.loop-k-init
loop-k-init c = search own_rules

pub returns-then-not-word_fits : goal.returns-then-not-word_fits
returns-then-not-word_fits c = search own_rules

pub loop-k-preserved : goal.loop-k-preserved
loop-k-preserved c =
    let f : c.if-not-width.width ≡ width_next c.loop-k.width c.tag_at-x.result = elim c.if-not-width.branch [ then-not-width w ↦ next_of_tag _ _ _ w.if-not-width.true w.width-is | else-not-width w ↦ next_of_width _ _ _ w.if-not-width.false w.width-is ] in
    let n = next_b _ _ _ _ _ _ c.tag_at.ensures c.word_fits.ensures c.if-not-word_fits.false in
    (turn _ _ _ _ _ _ _ c.loop-k.invariant.0 c.loop-k-test.true _ _ c.tag_at-x.ensures c.tag_at.ensures _ c.word_fits.ensures c.if-not-word_fits.false _ f, omega arith)

pub returns : goal.returns
returns c = search own_rules
