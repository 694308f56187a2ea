-- What review's answer stands for, and its last tests over the lines of a rule's program.
use Rattle.std.specs.Prelude.{ℕ, cond, List, [], ltb, Result, Ok, Err, ℤ}
use Rattle.std.proofs.Math.Option.{none, some}
use Rattle.rules.specs.Dialects.{dialect_of}
use Rattle.rules.specs.Services.{Judged, accepted, Rule, rule_in}
use Rattle.rules.specs.Services as paper
use Rattle.words.specs.Words.{tag_z}
use Rattle.review_count.specs.Tally.{whole_sum, whole_product}
use Rattle.review_count.specs.declared.count.Tally.{Tally}
use Rattle.room_rules.specs.Rooms.{rows_counted, rows_reviewed}
use Rattle.services.specs.Refusals.{refused_numbers}
use Rattle.services.specs.declared.refusal.Refused.{Refused}
use Rattle.services.specs.declared.review.Reviewed.{Reviewed}

-- Document 01's three numbers.
unfoldable pub reviewed : Reviewed → paper.Reviewed
reviewed r = record { answer = r.answer; place = r.place; count = r.count }

-- The answer of a count, and of a refusal.
unfoldable pub reviewed_by : Result Tally Refused → Reviewed
unfolding refused_numbers
reviewed_by (Ok t) = record { answer = 0; place = 0; count = t.count; rows = t.product }
reviewed_by (Err e) = record { answer = (refused_numbers e).answer; place = (refused_numbers e).place; count = 0; rows = 0 }

-- The rule was accepted.
pub data Sound : Judged Rule → Type 0 where
  sound : (r : Rule) → Sound (accepted r)

-- Tests 9 and 10: the count is the sum over the lines of a rule's program.
unfoldable pub counted_by : ℤ → (ops : List ℕ) → paper.Reviewed
unfolding paper.declined paper.counted whole_sum
counted_by cap ops = cond (ltb 64 (tag_z cap)) (paper.declined 9 0) (paper.counted (whole_sum (tag_z cap) ops))

-- The product of the factors over those lines, where neither test refuses.
unfoldable pub rows_by : ℤ → (ops : List ℕ) → ℕ
unfolding rows_counted whole_sum whole_product
rows_by cap ops = cond (ltb 64 (tag_z cap)) 0 (rows_counted (whole_sum (tag_z cap) ops) (whole_product (tag_z cap) ops))

-- The rows' bound in the dialect that the caller picks; 0 in a refusal.
unfoldable pub rows_picked : (dialect : ℕ) (ms ps : List ℤ) (cap : ℤ) → ℕ
unfolding dialect_of rows_reviewed rule_in
rows_picked dialect ms ps cap = elim (dialect_of dialect) [ none ↦ 0 | some d ↦ rows_reviewed cap (rule_in d ms ps) ]
