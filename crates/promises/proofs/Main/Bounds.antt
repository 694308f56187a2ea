-- Document 01, section 6, with document 02, No. 12: review's formula bounds every run, and with it as budget and room enough match answers 0.
use Rattle.std.specs.Prelude.{ℕ, ◌*◌, ◌≤◌, ◌≡◌, true, List, length, ℤ, pos}
use Rattle.std.proofs.Math.Path.{sym, ap}
use Rattle.std.proofs.Common.{◌∙◌, subst}
use Rattle.rules.specs.Forms.{Value, int, tupled, empty, ◌▸◌}
use Rattle.rules.specs.Reading.{ok}
use Rattle.rules.specs.Variables.{variables}
use Rattle.rules.specs.Review.{factor}
use Rattle.rules.specs.Services.{accepted, Rule, rule_in, rule_of, target_of, match_of, Reviewed, review, review_rule, review_of}
use Rattle.rules.specs.Rows.{Form}
use Rattle.forms.specs.Written.{largest, variable_tags, pair_largest}
use Rattle.forms.specs.Faults.{rule_accepted}
use Rattle.forms.specs.Also.{well_formed_also}
use Rattle.promises.specs.Reviewing.{count_of}
use Rattle.promises.proofs.Reviewing.{count_is}
use Rattle.promises.specs.Matching.{tags_counted}
use Rattle.promises.proofs.Matching.{steps_bounded, rows_bounded}
use Rattle.promises.proofs.Answers.{room_enough}
use Rattle.promises.specs.Room.{widest}
use Rattle.rules.specs.Dialects.{Dialect}

-- The variables are those that the test of section 2 counts, at most 16.
pub variables_counted : (ms ps : List ℤ) (r : Rule) → rule_of ms ps ≡ accepted r
    → (variables r.pattern true 0 0 ≡ ok (variable_tags r.pattern)) × (variable_tags r.pattern ≤ 16)
variables_counted ms ps r e = tags_counted ms ps r ((rule_accepted ms ps r).0 e)

-- A tuple's width is no collection's size: a pair of integers keeps to every cap.
pub pair_keeps_cap : (x y : ℤ) → largest (tupled (int x ▸ int y ▸ empty)) ≡ 0
pair_keeps_cap = pair_largest

-- The count bounds every run on a target whose collections, nested ones and those inside a tuple too, have at most `cap` elements.
module _ (dialect : Dialect) (form : Form) (ms ps ts : List ℤ) (budget : ℕ) (room : List ℤ) (r : Rule) (v : Value)
    (rule : rule_in dialect ms ps ≡ accepted r) (target : target_of r.matcher ts ≡ accepted v)
    (cap : ℕ) (small : largest v ≤ cap) where
  pub steps_at_most : (match_of dialect form ms ps ts budget room).steps ≤ count_of cap r
  steps_at_most = steps_bounded dialect form ms ps ts budget room r v rule target cap small

  pub rows_at_most : (match_of dialect form ms ps ts budget room).rows ≤ factor cap 0 r.pattern r.matcher
  rows_at_most = rows_bounded dialect form ms ps ts budget room r v rule target cap small

  -- ---- Room enough: with the count as budget, and (product of factors) × (variables) × (target words) words of room, or in form 2 × 3, match answers 0.

  pub enough : count_of cap r ≤ budget → factor cap 0 r.pattern r.matcher * variable_tags r.pattern * widest form (length ts) ≤ length room
      → (match_of dialect form ms ps ts budget room).answer ≡ 0
  enough = room_enough dialect form ms ps ts budget room r v rule target cap small

  -- ---- The same in review's own number, of the same dialect: what it counts is enough.

  abbrev figure : ℕ
  figure = (review_of dialect ms ps (pos cap)).count

  one : rule_of ms ps ≡ accepted r
  one = (rule_accepted ms ps r).1 (well_formed_also dialect ms ps r rule)

  same_review : review_of dialect ms ps (pos cap) ≡ review ms ps (pos cap)
  unfolding review_of review
  same_review = ap (review_rule (pos cap)) rule ∙ sym (ap (review_rule (pos cap)) one)

  figure_is : (review_of dialect ms ps (pos cap)).answer ≡ 0 → figure ≡ count_of cap r
  figure_is a = ap (λ (x : Reviewed). x.count) same_review ∙ (count_is ms ps cap r ((rule_accepted ms ps r).0 one) (sym (ap (λ (x : Reviewed). x.answer) same_review) ∙ a)).0

  pub steps_reviewed : (review_of dialect ms ps (pos cap)).answer ≡ 0 → (match_of dialect form ms ps ts budget room).steps ≤ figure
  steps_reviewed a = subst (λ n. (match_of dialect form ms ps ts budget room).steps ≤ n) (sym (figure_is a)) (steps_bounded dialect form ms ps ts budget room r v rule target cap small)

  pub enough_reviewed : (review_of dialect ms ps (pos cap)).answer ≡ 0 → figure ≤ budget
      → factor cap 0 r.pattern r.matcher * variable_tags r.pattern * widest form (length ts) ≤ length room
      → (match_of dialect form ms ps ts budget room).answer ≡ 0
  enough_reviewed a b = room_enough dialect form ms ps ts budget room r v rule target cap small (subst (λ n. n ≤ budget) (figure_is a) b)
