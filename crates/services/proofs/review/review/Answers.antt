-- `services::review::review` meets its contract: review in dialect 1.
use mathlib.Core.Path.{ap, ◌∙◌}
use mir.Syntax.{w32}
use mir.Facts.{to_z-of_z}
use Rattle.rules.specs.Services.{rule_of, review, review_of}
use Rattle.room_rules.specs.Rooms.{rows_reviewed}
use Rattle.services.specs.Reviews.{reviewed}
use Rattle.services.specs.declared.review.Reviewed.{Reviewed}
use Rattle.services.proofs.review.review.Goals as goal

pub returns : goal.returns
unfolding review review_of
returns c =
    let k = to_z-of_z {w = w32} c.ranges.cap in
    record {
      result_value = ap reviewed c.from.ensures ∙ c.review_in.ensures.result_value ∙ ap (review c.args.matcher.now c.args.pattern.now) k;
      rows_value = ap (λ (r : Reviewed). r.rows) c.from.ensures ∙ c.review_in.ensures.rows_value ∙ ap (λ z. rows_reviewed z (rule_of c.args.matcher.now c.args.pattern.now)) k;
    }
