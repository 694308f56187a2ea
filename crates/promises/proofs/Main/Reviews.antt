-- Document 01, section 3, and document 02, No. 5: review's answers, each exactly when; and what is true of a rule that everybody passes.
use Rattle.std.specs.Prelude.{ℕ, ◌≤◌, ◌≡◌, false, ◌↔◌, List, ℤ, pos}
use Rattle.rules.specs.Dialects.{Dialect}
use Rattle.rules.specs.Forms.{Value}
use Rattle.rules.specs.Reading.{ok}
use Rattle.rules.specs.Fit.{fits_value}
use Rattle.rules.specs.Origins.{Bindings}
use Rattle.rules.specs.Ways.{Way, Good}
use Rattle.rules.specs.Services.{accepted, Rule, rule_in, rule_of, target_of, match_of, review}
use Rattle.rules.specs.Rows.{Form}
use Rattle.forms.specs.Faults.{rule_accepted}
use Rattle.promises.specs.Reviewing.{Review, TooBig, AlwaysTrue, count_of}
use Rattle.promises.proofs.Reviewing.{review_judged, count_is, answer_10, answer_11, everybody}
use Rattle.promises.proofs.Answers.{some_row}
use Rattle.rules.specs.Always.{always_true}
use Rattle.promises.specs.Reviewing.{Outside}
use Rattle.promises.proofs.Reviewing.{review_counts, answer_9, answer_1_to_4}
use Rattle.forms.specs.Faults.{RuleFault}

-- ---- Review: one of a refusal, always true, a cap outside 0 to 64, too big, or the formula.

pub review_gives : (ms ps : List ℤ) (cap : ℤ) → Review ms ps cap (review ms ps cap)
review_gives = review_judged

-- 1 to 4 exactly with the first fault of the rule, at its place; 9 exactly when the cap is outside 0 to 64, for a rule that 11 does not turn away.
pub review_refuses_exactly : (ms ps : List ℤ) (cap : ℤ) (a i : ℕ)
    → RuleFault ms ps a i ↔ (1 ≤ a) × (a ≤ 4) × ((review ms ps cap).answer ≡ a) × ((review ms ps cap).place ≡ i)
review_refuses_exactly = answer_1_to_4

pub cap_exactly : (ms ps : List ℤ) (cap : ℤ) → (review ms ps cap).answer ≡ 9 ↔ Outside ms ps cap
cap_exactly = answer_9

pub too_big_exactly : (ms ps : List ℤ) (cap : ℤ) → (review ms ps cap).answer ≡ 10 ↔ TooBig ms ps cap
too_big_exactly = answer_10

pub always_true_exactly : (ms ps : List ℤ) (cap : ℤ) → (review ms ps cap).answer ≡ 11 ↔ AlwaysTrue ms ps
always_true_exactly = answer_11

pub count_is_formula : (ms ps : List ℤ) (cap : ℕ) (r : Rule) → rule_of ms ps ≡ accepted r → (review ms ps (pos cap)).answer ≡ 0
    → (review ms ps (pos cap)).count ≡ count_of cap r
count_is_formula ms ps cap r e a = (count_is ms ps cap r ((rule_accepted ms ps r).0 e) a).0

-- For a rule that is not always true and a cap from 0 to 64 review gives the formula, wherever it is at most 4,294,967,295.
pub formula_given : (ms ps : List ℤ) (cap : ℕ) (r : Rule) → rule_of ms ps ≡ accepted r → always_true r.pattern ≡ false → cap ≤ 64
    → count_of cap r ≤ 4294967295 → review ms ps (pos cap) ≡ record { answer = 0; place = 0; count = count_of cap r }
formula_given ms ps cap r e a = review_counts ms ps cap r (record { well_formed = (rule_accepted ms ps r).0 e; can_fail = a })

-- ---- Rules that everybody passes: a pattern that review turns away with 11 has a good way on every value that fits its matcher, whatever its words.

pub everybody_passes : (dialect : Dialect) (ms ps : List ℤ) (cap : ℤ) (r : Rule) → rule_of ms ps ≡ accepted r → (review ms ps cap).answer ≡ 11
    → (v : Value) → fits_value r.matcher v 0 ≡ ok tt → (w : Way) × (e : Bindings) × Good dialect r.matcher r.pattern v w e
everybody_passes dialect ms ps cap r e = everybody dialect ms ps cap r ((rule_accepted ms ps r).0 e)

-- So match finds a row on every target that is not refused, wherever it comes to an end by itself (answer 0).
pub everybody_has_a_row : (dialect : Dialect) (form : Form) (ms ps ts : List ℤ) (cap : ℤ) (budget : ℕ) (room : List ℤ) (r : Rule) (v : Value)
    → rule_in dialect ms ps ≡ accepted r → target_of r.matcher ts ≡ accepted v → (review ms ps cap).answer ≡ 11
    → (match_of dialect form ms ps ts budget room).answer ≡ 0 → 1 ≤ (match_of dialect form ms ps ts budget room).rows
everybody_has_a_row dialect form ms ps ts cap budget room r v rule target = some_row dialect form ms ps ts budget room r v rule target cap
