-- Document 01, section 6: "That product also bounds the rows", and demand 3's room: (product of factors) × (variables) × (target words); with document 02, No. 9, × 3 in form 2.
use Rattle.std.specs.Prelude.{ℕ, ◌*◌, min, true, cond, List, ltb, leb, ℤ, pos, negsuc}
use Rattle.std.proofs.Math.Option.{none, some}
use Rattle.rules.specs.Limits.{cap_limit, target_words_limit, too_big}
use Rattle.rules.specs.Reading.{Verdict, ok, fault, ◌then◌, read_pattern}
use Rattle.rules.specs.Variables.{variables}
use Rattle.rules.specs.Review.{factor, formula}
use Rattle.rules.specs.Always.{always_true}
use Rattle.rules.specs.Rows.{Form, as_words, as_origins, form_of}
use Rattle.rules.specs.Services.{Judged, accepted, refused, Rule, rule_of, review, rule_in}

-- ---- The product of the factors, where review accepts the rule with this cap; else 0.

unfoldable pub rows_counted : (count product : ℕ) → ℕ
rows_counted n f = cond (ltb n too_big) f 0

unfoldable pub rows_capped : ℤ → Rule → ℕ
unfolding rows_counted formula factor
rows_capped (pos cap) r = cond (leb cap cap_limit) (rows_counted (formula cap r.pattern r.matcher) (factor cap 0 r.pattern r.matcher)) 0
rows_capped (negsuc n) r = 0

unfoldable pub rows_unless_always : ℤ → Rule → ℕ
unfolding rows_capped always_true
rows_unless_always cap r = cond (always_true r.pattern) 0 (rows_capped cap r)

unfoldable pub rows_reviewed : ℤ → Judged Rule → ℕ
unfolding rows_unless_always
rows_reviewed cap (refused a i) = 0
rows_reviewed cap (accepted r) = rows_unless_always cap r

-- ---- How many variables a pattern has; 0 where it is refused.

unfoldable pub or_none : Verdict ℕ → ℕ
or_none (ok n) = n
or_none (fault i) = 0

unfoldable pub variables_in : (ps : List ℤ) → ℕ
unfolding ◌then◌ read_pattern variables or_none
variables_in ps = or_none (read_pattern ps then λ p. variables p true 0 0)

-- ---- The words of a value in a row: in form 1 at most those of the target, which has at most 1,024; in form 2 three.

unfoldable pub width_of : Form → (targetWords : ℕ) → ℕ
width_of as_words n = min n target_words_limit
width_of as_origins n = 3

-- ---- Review's answer and place, and the words that suffice for targets of at most so many words.

pub record Roomed : Type 0 where
  pub answer : ℕ
  pub place : ℕ
  pub words : ℕ

unfoldable pub room_by : (width : ℕ) (ms ps : List ℤ) (cap : ℤ) → Roomed
unfolding review rule_in rows_reviewed variables_in
room_by width ms ps cap = record {
  answer = (review ms ps cap).answer;
  place = (review ms ps cap).place;
  words = rows_reviewed cap (rule_of ms ps) * variables_in ps * width;
}

-- 20 unknown row form, before 1.
unfoldable pub room : (form : ℕ) (ms ps : List ℤ) (cap : ℤ) (targetWords : ℕ) → Roomed
unfolding form_of room_by width_of
room k ms ps cap n = elim (form_of k) [ none ↦ record { answer = 20; place = 0; words = 0 } | some f ↦ room_by (width_of f n) ms ps cap ]
