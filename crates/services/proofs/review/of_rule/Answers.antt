-- `services::review::of_rule` meets its contract: test 11 over the compiled lines, and then 9 and 10.
use mir.Syntax.{w32}
use mir.Facts.{to_z-of_z}
use Rattle.rules.specs.Services.{declined}
use Rattle.services.specs.Refusals.{refused_numbers}
use Rattle.services.specs.Reviews.{reviewed, reviewed_by}
use Rattle.services.proofs.Rules.{matcher_few, pattern_few, always_given, always_rows, counted_given, counted_rows}
use Rattle.services.proofs.review.of_rule.Goals as goal

pub invariant_of-matcher : goal.invariant_of-matcher
invariant_of-matcher c = record { brief = matcher_few _ _ c.requires }

pub invariant_of-pattern : goal.invariant_of-pattern
invariant_of-pattern c = record { short = pattern_few _ _ c.requires }

pub returns-then-always_true : goal.returns-then-always_true
unfolding reviewed reviewed_by refused_numbers declined
returns-then-always_true c = record {
  result_value = always_given _ _ _ _ c.requires c.no_lines-lines.ensures c.compile.ensures.lines _ _ c.always_true.ensures c.if-always_true.true;
  rows_value = always_rows _ _ _ _ c.requires c.no_lines-lines.ensures c.compile.ensures.lines _ _ c.always_true.ensures c.if-always_true.true;
}

pub returns : goal.returns
returns c =
    let k = to_z-of_z {w = w32} c.ranges.cap in
    record {
      result_value = counted_given _ _ _ _ c.requires c.no_lines-lines.ensures c.compile.ensures.lines _ _ _ _ c.always_true.ensures c.if-always_true.false c.counted.ensures.result_value k;
      rows_value = counted_rows _ _ _ _ c.requires c.no_lines-lines.ensures c.compile.ensures.lines _ _ _ _ c.always_true.ensures c.if-always_true.false c.counted.ensures.rows_value k;
    }
