-- What match's answer stands for, and input that none of the tests 1 to 6 refuses.
use Rattle.std.specs.Prelude.{ℕ, ◌≡◌, List, Result, Ok, Err, ℤ}
use Rattle.rules.specs.Forms.{Value}
use Rattle.rules.specs.Dialects.{Dialect}
use Rattle.rules.specs.Services.{accepted, Rule, rule_in, rule_of, target_of}
use Rattle.rules.specs.Services as paper
use Rattle.search.specs.Stops.{number_of}
use Rattle.search.specs.declared.Report.{Report}
use Rattle.tests.specs.Judgements.{Numbers}
use Rattle.services.specs.Refusals.{refused_numbers}
use Rattle.services.specs.declared.matching.Matched.{Matched}
use Rattle.services.specs.declared.refusal.Refused.{Refused}

-- The five numbers of document 01 and the cause of document 02, No. 6, and what the room holds.
unfoldable pub told : Matched → List ℤ → paper.Matched
told r room = record { answer = r.answer; place = r.place; rows = r.rows; steps = r.steps; words = r.words; cause = r.cause; room = room }

-- The answer of a run that was carried out; a refusal; and the answer of either.
unfoldable pub reported : Report → Matched
reported r = record { answer = number_of r.stop; place = 0; rows = r.rows; steps = r.steps; words = r.words; cause = 0 }

unfoldable pub away : Numbers → Matched
away n = record { answer = n.answer; place = n.place; rows = 0; steps = 0; words = 0; cause = n.cause }

unfoldable pub matched_by : Result Report Refused → Matched
unfolding reported away refused_numbers
matched_by (Ok r) = reported r
matched_by (Err e) = away (refused_numbers e)

pub record Ready (ms ps ts : List ℤ) : Type 0 where
  pub rule : Rule
  pub value : Value
  pub rule_is : rule_of ms ps ≡ accepted rule
  pub value_is : target_of rule.matcher ts ≡ accepted value

-- The same in a dialect.
pub record Admitted (dialect : Dialect) (ms ps ts : List ℤ) : Type 0 where
  pub ready : Ready ms ps ts
  pub rule_is_in : rule_in dialect ms ps ≡ accepted ready.rule
