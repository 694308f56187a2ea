-- Document 01, section 3, answers 0, 7 and 8, at every budget and in every room: for an input that is not refused, what a run takes up, writes and answers.
use Rattle.std.specs.Prelude.{ℕ, suc, ◌≤◌, ◌<◌, ◌≡◌, ◌↔◌, List, [], ◌∷◌, ◌++◌, length, take, drop, ℤ}
use Rattle.rules.specs.Dialects.{Dialect}
use Rattle.rules.specs.Forms.{Value}
use Rattle.rules.specs.Origins.{Bindings}
use Rattle.rules.specs.Rows.{Form}
use Rattle.rules.specs.Search.{run_in, start}
use Rattle.rules.specs.Ways.{Way, Good}
use Rattle.rules.specs.Services.{accepted, Rule, rule_in, target_of, Matched, carried_out, match_of}
use Rattle.forms.specs.Written.{variable_tags}
use Rattle.promises.specs.Budget.{report, Full, Outcome}
use Rattle.promises.specs.Matching.{states, ways, rows_of_ways}
use Rattle.promises.proofs.Matching.{outcome, result, full_stands, first_ways, all_ways, way_binds}
use Rattle.promises.proofs.Answers.{answer_0, answer_7, answer_8, no_row}

-- For an input that is not refused, read as the rule r and the value v; `it` is what match gives.
module _ (dialect : Dialect) (form : Form) (ms ps ts : List ℤ) (budget : ℕ) (room : List ℤ) (r : Rule) (v : Value)
    (rule : rule_in dialect ms ps ≡ accepted r) (target : target_of r.matcher ts ≡ accepted v) where
  abbrev it : Matched
  it = match_of dialect form ms ps ts budget room

  abbrev free : ℕ
  free = length room

  -- ---- At every budget: a run takes up the first states, its steps are their number, and what it writes are their rows.

  pub match_is : it ≡ carried_out (run_in dialect form budget (start r.matcher r.pattern v ∷ []) free) room
  match_is = result dialect form ms ps ts budget room r v rule target

  pub at_every_budget : Outcome form budget free (states dialect r v) (run_in dialect form budget (start r.matcher r.pattern v ∷ []) free)
  at_every_budget = outcome dialect form ms ps ts budget room r v rule target

  -- The room holds the rows of the first good ways, whole, and each word after them is untouched.
  pub room_holds : (it.rows ≤ length (ways dialect r v)) × (it.words ≡ length (rows_of_ways form (take it.rows (ways dialect r v))))
      × (it.room ≡ rows_of_ways form (take it.rows (ways dialect r v)) ++ drop it.words room)
  room_holds = first_ways dialect form ms ps ts budget room r v rule target

  -- With answer 0 they are all good ways.
  pub all_rows : it.answer ≡ 0 → it.rows ≡ length (ways dialect r v)
  all_rows = all_ways dialect form ms ps ts budget room r v rule target

  -- Each row has a value for each variable.
  pub rows_whole : (w : Way) (e : Bindings) → Good dialect r.matcher r.pattern v w e → length e ≡ variable_tags r.pattern
  rows_whole = way_binds dialect form ms ps ts budget room r v rule target

  -- ---- No row: answer 0 with 0 rows exactly when no state remains and no good way exists.

  pub no_row_exactly : (it.answer ≡ 0) × (it.rows ≡ 0)
      ↔ (length (states dialect r v) ≤ budget) × ((w : Way) (e : Bindings) → Good dialect r.matcher r.pattern v w e → ⊥)
  no_row_exactly = no_row dialect form ms ps ts budget room r v rule target

  -- ---- Full and budget. `Full`: among the first `budget` states there is one whose row does not fit after those of the states before it.

  pub full_exactly : it.answer ≡ 8 ↔ Full form budget free (states dialect r v)
  full_exactly = answer_8 dialect form ms ps ts budget room r v rule target

  -- Then its state is the last step, and the rows before it stand whole.
  pub full_is : (f : Full form budget free (states dialect r v)) → it ≡ carried_out (report form 8 (suc (length f.before)) f.before) room
  full_is = full_stands dialect form ms ps ts budget room r v rule target

  pub budget_exactly : it.answer ≡ 7 ↔ (budget < length (states dialect r v)) × (Full form budget free (states dialect r v) → ⊥)
  budget_exactly = answer_7 dialect form ms ps ts budget room r v rule target

  pub done_exactly : it.answer ≡ 0 ↔ (length (states dialect r v) ≤ budget) × (Full form budget free (states dialect r v) → ⊥)
  done_exactly = answer_0 dialect form ms ps ts budget room r v rule target
