-- Match by rounds by its tests, as the code asks for it. Assumes nothing.
use Prim.Native.Nat.{ℕ, zero, suc, ◌^◌, ◌<◌}
use native.Mathlib.Omega.{arith}
use mathlib.Core.Path.{◌≡◌, refl, sym, ap, ◌∙◌, subst}
use mathlib.Core.Bool.{true, false}
use mathlib.Core.Option.{Option, none, some}
use mathlib.Core.List.{List, [], ◌∷◌}
use lib.ListN.{length}
use lib.IntN.{ℤ}
use Rattle.rules.specs.Dialects.{Dialect, dialect_of}
use Rattle.rules.specs.Rows.{Form, form_of}
use Rattle.rules.specs.Search.{start}
use Rattle.rules.specs.Services.{accepted, rule_in, target_of, turned_away, carried_out}
use Rattle.rules.specs.Services as paper
use Rattle.forms.specs.ReadPattern.{pattern_read}
use Rattle.round_rules.specs.Rounds.{states_in, run_rounds, rounds_target, rounds_rule, match_rounds, match_rounds_picked}
use Rattle.program_rules.specs.Closed.{closed_is}
use Rattle.program_rules.specs.Columns.{Holds, compiled_zeros}
use Rattle.program_rules.specs.Lines.{lines_of, laid}
use Rattle.program_rules.specs.Link.{ops_in, bindings_in, linked_in}
use Rattle.program_rules.specs.Slots.{numbered}
use Rattle.search_machine.proofs.Instance.{target_is}
use Rattle.tables.specs.Line.{columns_of, no_lines}
use Rattle.std.specs.Prelude.{Result, Ok, Err}
use Rattle.tests.specs.Judgements.{Numbers, numbers_of, told as tested}
use Rattle.tests.specs.declared.Refusal.{Refusal}
use Rattle.search.specs.Run.{env_with}
use Rattle.round_states.specs.Ruled.{Ruled}
use Rattle.round_run.specs.Runs.{ByRounds}
use Rattle.services.specs.Matches.{Ready, told, away, matched_by}
use Rattle.services.specs.Refusals.{refused_numbers}
use Rattle.services.specs.Testing.{tested_in}
use Rattle.services.specs.declared.refusal.Refused.{Refused}
use Rattle.services.specs.declared.refusal.Refused.TheVariants.{UnknownForm, UnknownDialect, Tested}
use Rattle.services.proofs.Outcome.{Failed, rule_fails, target_fails, failed}
use Rattle.services.proofs.Matches.{ready_sane, ready_target, ready_some, ready_fine}

-- ---- A refusal.

-- One of the tests 1 to 6.
module _ (dialect : Dialect) (form : Form) (ms ps ts : List ℤ) (size budget : ℕ) (room : List ℤ) where
  by_test : (n : Numbers) → Failed dialect ms ps ts n → told (away n) room ≡ match_rounds dialect form ms ps ts size budget room
  unfolding told away turned_away match_rounds rounds_rule rounds_target
  by_test n (rule_fails e c) = ap (λ k. turned_away n.answer n.place k room) c ∙ sym (ap (rounds_rule dialect form size budget room ts) e)
  by_test n (target_fails r e f c) =
      ap (λ k. turned_away n.answer n.place k room) c ∙ sym (ap (rounds_rule dialect form size budget room ts) e ∙ ap (rounds_target dialect form size budget room ts r) f)

  pub rounds_refused : (x : Result (Unit {0}) Refusal) → tested x ≡ tested_in dialect ms ps ts → (r : Refusal) → x ≡ Err r → (e : Refused) → e ≡ Tested r
      → told (matched_by (Err e)) room ≡ match_rounds dialect form ms ps ts size budget room
  unfolding matched_by refused_numbers
  rounds_refused x p r q e k = rw k (by_test (numbers_of r) (failed dialect ms ps ts x p r q))

-- ---- Input that is accepted.

module _ (dialect : Dialect) (ms ps ts : List ℤ) (n : ℕ) (none lines : List ℕ) (form : Form) (g : Ready ms ps ts) (zeros : none ≡ no_lines)
    (vars : n ≡ bindings_in (ops_in (columns_of lines).op 0 (length (lines_of ms ps))))
    (is : columns_of lines ≡ linked_in (length (lines_of ms ps)) (numbered (length (lines_of ms ps)) (laid 0 (lines_of ms ps) (columns_of none)))) where
  holds : Holds ms g.rule n (columns_of lines)
  holds = compiled_zeros ms ps g.rule g.rule_is n (columns_of lines) vars
      (is ∙ ap (λ k. linked_in (length (lines_of ms ps)) (numbered (length (lines_of ms ps)) (laid 0 (lines_of ms ps) (columns_of k)))) zeros)

  -- The compiled rule and the target, as the rounds have them.
  pub ready_ruled : Ruled (env_with dialect (columns_of lines) ms ts n form)
  ready_ruled =
      let s = ready_sane g in
      record {
        target_is = ready_target ms ps ts g;
        some_words = ready_some ms ps ts g;
        fine = ready_fine dialect ms ps ts n none lines form g zeros vars is;
        rule = g.rule;
        value = g.value;
        kinds = s.rule.fitting.0;
        holds = holds;
        fit = s.rule.fitting.1;
        wide = ((pattern_read ps g.rule.pattern).0 s.rule.pattern).2;
        closed = closed_is g.rule.pattern true 0 0 s.rule.numbered.0 s.rule.numbered.1;
        is = target_is ts g.value s.target.target g.rule.matcher s.target.fit;
      }

  pub ready_rounds : rule_in dialect ms ps ≡ accepted g.rule → (budget w words : ℕ) (room : List ℤ) (out : paper.Matched) → w ≡ budget → ByRounds (env_with dialect (columns_of lines) ms ts n form) w words room out
      → out ≡ match_rounds dialect form ms ps ts (states_in 825 words) budget room
  unfolding ByRounds match_rounds rounds_rule rounds_target ready_ruled
  ready_rounds i budget w words room out q b =
      b ready_ruled
      ∙ ap (λ k. carried_out (run_rounds dialect form (states_in 825 words) k (start g.rule.matcher g.rule.pattern g.value ∷ []) (length room)) room) q
      ∙ sym (ap (rounds_rule dialect form (states_in 825 words) budget room ts) i ∙ ap (rounds_target dialect form (states_in 825 words) budget room ts g.rule) g.value_is)

  -- The same, told with the picks that the form and the dialect are.
  pub picked_rounds : (d : Dialect) (f : Form) → dialect ≡ d → form ≡ f → rule_in d ms ps ≡ accepted g.rule → (budget w words : ℕ) (room : List ℤ) (out : paper.Matched) → w ≡ budget
      → ByRounds (env_with dialect (columns_of lines) ms ts n form) w words room out → out ≡ match_rounds d f ms ps ts (states_in 825 words) budget room
  picked_rounds d f p q i budget w words room out k b =
      ready_rounds (ap (λ x. rule_in x ms ps) p ∙ i) budget w words room out k b
      ∙ ap (λ x. match_rounds x form ms ps ts (states_in 825 words) budget room) p ∙ ap (λ x. match_rounds d x ms ps ts (states_in 825 words) budget room) q

-- ---- The form and the dialect that the caller picks.

module _ (ms ps ts : List ℤ) (size budget : ℕ) (room : List ℤ) (n d : ℕ) where
  pub no_form : (e : Refused) → (form_of n ≡ none) × (e ≡ UnknownForm) → (y : Refused) → y ≡ e → told (matched_by (Err y)) room ≡ match_rounds_picked n d ms ps ts size budget room
  unfolding told matched_by away refused_numbers turned_away match_rounds_picked
  no_form e f y k = let u : y ≡ UnknownForm = k ∙ f.1 in rw (u, f.0, match_rounds_picked)

  module _ (form : Form) (f : form_of n ≡ some form) where
    pub no_dialect : (e : Refused) → (dialect_of d ≡ none) × (e ≡ UnknownDialect) → (y : Refused) → y ≡ e
        → told (matched_by (Err y)) room ≡ match_rounds_picked n d ms ps ts size budget room
    unfolding told matched_by away refused_numbers turned_away match_rounds_picked
    no_dialect e g y k = let u : y ≡ UnknownDialect = k ∙ g.1 in rw (u, f, g.0, match_rounds_picked)

    pub picked : (dialect : Dialect) → dialect_of d ≡ some dialect → (r : paper.Matched) → r ≡ match_rounds dialect form ms ps ts size budget room
        → r ≡ match_rounds_picked n d ms ps ts size budget room
    unfolding match_rounds_picked
    picked dialect g r e = rw (f, g, match_rounds_picked) e
