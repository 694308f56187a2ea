-- The number that was read, where it is from 0 to the limit.
use Rattle.std.proofs.Common.{rules, ◌∙◌, w64}
use mir.Val.{SFits}
use mir.Facts.{to_z-of_z}
use Rattle.text_number.specs.Decimal.{◌then◌}
use Rattle.text_number.proofs.Laws.{within_most, above_most, no_count}
use Rattle.text_number.proofs.up_to.Goals as goal

pub returns-in_err-number : goal.returns-in_err-number
unfolding ◌then◌
returns-in_err-number c = c.from_residual.ensures ∙ rw (← c.in_err-number.ensures)

pub returns-in-Ok : goal.returns-in-Ok
unfolding ◌then◌
returns-in-Ok c =
    let f : SFits w64 c.in_ok-number.field-0 = search rules in
    let h = rw (to_z-of_z f) at c.in-Ok.ensures in
    rw (← c.in_ok-number.ensures) (within_most _ _ _ h.0 h.1 c.if-n-most.true)

pub returns-in_default : goal.returns-in_default
unfolding ◌then◌
returns-in_default c =
    let f : SFits w64 c.in_ok-number.field-0 = search rules in
    let h = rw (to_z-of_z f) at c.in-Ok.ensures in
    rw (← c.in_ok-number.ensures) (above_most _ _ _ h.1 c.if-n-most.false)

pub returns-in_default-2 : goal.returns-in_default-2
unfolding ◌then◌
returns-in_default-2 c =
    let f : SFits w64 c.in_ok-number.field-0 = search rules in
    let h = rw (to_z-of_z f) at c.in_default.ensures in
    rw (← c.in_ok-number.ensures) (no_count _ _ f h)
