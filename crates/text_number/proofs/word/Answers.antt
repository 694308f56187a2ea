-- The number that was read, where it is in the range.
use Rattle.std.proofs.Common.{rules, ◌∙◌, w64}
use mir.Val.{SFits}
use mir.Facts.{to_z-of_z}
use Rattle.text_number.specs.Decimal.{◌then◌}
use Rattle.text_number.specs.Word.{word}
use Rattle.text_number.proofs.Laws.{word_of}
use Rattle.text_number.proofs.word.Goals as goal

pub returns-in_err-number : goal.returns-in_err-number
unfolding ◌then◌ word
returns-in_err-number c = c.from_residual.ensures ∙ rw (← c.in_err-number.ensures)

pub returns : goal.returns
unfolding ◌then◌ word
returns c =
    let f : SFits w64 c.in_ok-number.field-0 = search rules in
    rw (← c.in_ok-number.ensures, c.ok.ensures.value) (word_of _ _ (rw (to_z-of_z f) at c.try_from.ensures))
