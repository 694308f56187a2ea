-- `services::review::counted` meets its contract: tests 9 and 10 over the lines of a program.
use mathlib.Core.Path.{◌∙◌, ap}
use mir.Facts.{to_z-of_z}
use Rattle.rules.specs.Services.{declined}
use Rattle.words.specs.Words.{tag_z}
use Rattle.services.specs.Refusals.{refused_numbers}
use Rattle.services.specs.Reviews.{reviewed, reviewed_by}
use Rattle.services.proofs.Rules.{cap_outside, rows_outside, count_given, rows_given}
use Rattle.services.proofs.review.counted.Goals as goal

pub returns-then-most-gt-MOST : goal.returns-then-most-gt-MOST
unfolding reviewed reviewed_by refused_numbers declined
returns-then-most-gt-MOST c =
    let e = c.tag_of-most.ensures ∙ ap tag_z (to_z-of_z c.ranges.cap) in
    record { result_value = cap_outside _ _ _ e c.if-most-gt-MOST.true; rows_value = rows_outside _ _ _ e c.if-most-gt-MOST.true }

pub returns : goal.returns
returns c =
    let e = c.tag_of-most.ensures ∙ ap tag_z (to_z-of_z c.ranges.cap) in
    record {
      result_value = count_given _ _ _ _ e c.if-most-gt-MOST.false c.from.ensures _ c.tallied.ensures _ c.ok_or.ensures.value;
      rows_value = rows_given _ _ _ _ e c.if-most-gt-MOST.false c.from.ensures _ c.tallied.ensures _ c.ok_or.ensures.value;
    }
