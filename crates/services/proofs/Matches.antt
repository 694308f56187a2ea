-- Match's answer by its tests, as the code asks for it. Assumes nothing.
use Prim.Native.Nat.{ℕ, ◌≤◌, ◌<◌}
use native.Mathlib.Omega.{arith}
use mathlib.Core.Path.{◌≡◌, refl, sym, ap, ◌∙◌, subst}
use mathlib.Core.Option.{Option, none, some}
use mathlib.Core.List.{List}
use lib.ListN.{length}
use lib.IntN.{ℤ}
use Rattle.std.specs.Prelude.{Result, Ok, Err}
use Rattle.rules.specs.Services.{accepted, rule_in, turned_away, match, match_of, match_picked, match_rule_in, match_target_in}
use Rattle.rules.specs.Dialects.{Dialect, dialect_of}
use Rattle.rules.specs.Rows.{Form, form_of}
use Rattle.rules.specs.Services as paper
use Rattle.forms.specs.Faults.{Sane, sane_exactly}
use Rattle.words.specs.Dialects.{dialect_by}
use Rattle.program_rules.specs.Accepted.{matcher_short, pattern_short}
use Rattle.tables.specs.Line.{columns_of, no_lines}
use Rattle.program_rules.specs.Lines.{lines_of, laid}
use Rattle.program_rules.specs.Link.{ops_in, bindings_in, linked_in}
use Rattle.program_rules.specs.Slots.{numbered}
use Rattle.program_rules.specs.Columns.{Holds, compiled_zeros}
use Rattle.value_places.specs.Places.{Target}
use Rattle.value_rows.specs.Row.{form_by}
use Rattle.search.specs.Run.{env_with, matched}
use Rattle.search.specs.Valid.{Fine}
use Rattle.search.specs.Searched.{Searched}
use Rattle.search.specs.declared.Report.{Report}
use Rattle.search.proofs.Accepted.{accepted_target, accepted_some, fine_in, accepted_match}
use Rattle.tests.specs.Judgements.{Numbers, numbers_of, told as tested}
use Rattle.tests.specs.declared.Refusal.{Refusal}
use Rattle.services.specs.Matches.{Ready, Admitted, told, reported, away, matched_by}
use Rattle.services.specs.Picks.{form_in, dialect_in}
use Rattle.services.specs.Refusals.{refused_numbers}
use Rattle.services.specs.Testing.{tested_in}
use Rattle.services.specs.declared.picks.Dialect as code
use Rattle.services.specs.declared.picks.RowForm.{RowForm}
use Rattle.services.specs.declared.refusal.Refused.{Refused}
use Rattle.services.specs.declared.refusal.Refused.TheVariants.{UnknownForm, UnknownDialect, Tested}
use Rattle.services.proofs.Outcome.{Failed, rule_fails, target_fails, failed}

-- ---- A refusal.

-- One of the tests 1 to 6.
module _ (dialect : Dialect) (form : Form) (ms ps ts : List ℤ) (budget : ℕ) (room : List ℤ) where
  by_test : (n : Numbers) → Failed dialect ms ps ts n → told (away n) room ≡ match_of dialect form ms ps ts budget room
  unfolding told away turned_away match_of match_rule_in match_target_in
  by_test n (rule_fails e c) = ap (λ k. turned_away n.answer n.place k room) c ∙ sym (ap (match_rule_in dialect form budget room ts) e)
  by_test n (target_fails r e f c) =
      ap (λ k. turned_away n.answer n.place k room) c ∙ sym (ap (match_rule_in dialect form budget room ts) e ∙ ap (match_target_in dialect form budget room ts r) f)

  pub match_refused : (x : Result (Unit {0}) Refusal) → tested x ≡ tested_in dialect ms ps ts → (r : Refusal) → x ≡ Err r → (e : Refused) → e ≡ Tested r
      → told (matched_by (Err e)) room ≡ match_of dialect form ms ps ts budget room
  unfolding matched_by refused_numbers
  match_refused x p r q e k = rw k (by_test (numbers_of r) (failed dialect ms ps ts x p r q))

-- ---- Input that is accepted.

pub ready_sane : {ms ps ts : List ℤ} (g : Ready ms ps ts) → Sane ms ps ts g.rule g.value
ready_sane {ms} {ps} {ts} g = (sane_exactly ms ps ts g.rule g.value).0 (g.rule_is, g.value_is)

pub matcher_few : (ms ps ts : List ℤ) → Ready ms ps ts → length ms ≤ 64
matcher_few ms ps ts g = let h = matcher_short ms ps g.rule g.rule_is in omega arith

pub pattern_few : (ms ps ts : List ℤ) → Ready ms ps ts → length ps ≤ 256
pattern_few ms ps ts g = pattern_short ms ps g.rule g.rule_is

pub ready_target : (ms ps ts : List ℤ) → Ready ms ps ts → Target ts
ready_target ms ps ts g = accepted_target ms ps ts g.rule g.value (ready_sane g)

pub ready_some : (ms ps ts : List ℤ) → Ready ms ps ts → 0 < length ts
ready_some ms ps ts g = accepted_some ms ps ts g.rule g.value (ready_sane g)

-- The compiled rule, in arrays that held zeros.
module _ (dialect : Dialect) (ms ps ts : List ℤ) (n : ℕ) (none lines : List ℕ) (form : Form) (g : Ready ms ps ts) (zeros : none ≡ no_lines)
    (vars : n ≡ bindings_in (ops_in (columns_of lines).op 0 (length (lines_of ms ps))))
    (is : columns_of lines ≡ linked_in (length (lines_of ms ps)) (numbered (length (lines_of ms ps)) (laid 0 (lines_of ms ps) (columns_of none)))) where
  holds : Holds ms g.rule n (columns_of lines)
  holds = compiled_zeros ms ps g.rule g.rule_is n (columns_of lines) vars
      (is ∙ ap (λ k. linked_in (length (lines_of ms ps)) (numbered (length (lines_of ms ps)) (laid 0 (lines_of ms ps) (columns_of k)))) zeros)

  pub ready_fine : Fine (env_with dialect (columns_of lines) ms ts n form)
  ready_fine = fine_in ms ts g.rule n (columns_of lines) form holds dialect

  pub ready_match : rule_in dialect ms ps ≡ accepted g.rule → (budget w : ℕ) (room : List ℤ) (out : paper.Matched) → w ≡ budget → Searched (env_with dialect (columns_of lines) ms ts n form) w room out
      → out ≡ match_of dialect form ms ps ts budget room
  ready_match i budget w room out q s =
      accepted_match ms ts g.rule n (columns_of lines) form holds dialect ps g.value (ready_sane g) i budget room out
      (subst (λ k. Searched (env_with dialect (columns_of lines) ms ts n form) k room out) q s)

  -- The same, told with the picks that the form and the dialect are.
  pub ready_picked : (d : Dialect) (f : Form) → dialect ≡ d → form ≡ f → rule_in d ms ps ≡ accepted g.rule → (budget w : ℕ) (room : List ℤ) (out : paper.Matched) → w ≡ budget
      → Searched (env_with dialect (columns_of lines) ms ts n form) w room out → out ≡ match_of d f ms ps ts budget room
  ready_picked d f p q i budget w room out k s =
      ready_match (ap (λ x. rule_in x ms ps) p ∙ i) budget w room out k s
      ∙ ap (λ x. match_of x form ms ps ts budget room) p ∙ ap (λ x. match_of d x ms ps ts budget room) q

-- ---- The form and the dialect that the caller picks.

module _ (ms ps ts : List ℤ) (budget : ℕ) (room : List ℤ) (n d : ℕ) where
  pub no_form : (e : Refused) → (form_of n ≡ none) × (e ≡ UnknownForm) → (y : Refused) → y ≡ e → told (matched_by (Err y)) room ≡ match_picked n d ms ps ts budget room
  unfolding told matched_by away refused_numbers turned_away match_picked
  no_form e f y k = let u : y ≡ UnknownForm = k ∙ f.1 in rw (u, f.0, match_picked)

  module _ (form : Form) (f : form_of n ≡ some form) where
    pub no_dialect : (e : Refused) → (dialect_of d ≡ none) × (e ≡ UnknownDialect) → (y : Refused) → y ≡ e → told (matched_by (Err y)) room ≡ match_picked n d ms ps ts budget room
    unfolding told matched_by away refused_numbers turned_away match_picked
    no_dialect e g y k = let u : y ≡ UnknownDialect = k ∙ g.1 in rw (u, f, g.0, match_picked)

    pub picked : (dialect : Dialect) → dialect_of d ≡ some dialect → (r : paper.Matched) → r ≡ match_of dialect form ms ps ts budget room → r ≡ match_picked n d ms ps ts budget room
    unfolding match_picked
    picked dialect g r e = rw (f, g, match_picked) e
