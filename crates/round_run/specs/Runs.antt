-- The whole run by rounds: for a rule and a target that are accepted, what document 02, No. 10 has.
use Rattle.std.specs.Prelude.{ℕ, ◌≡◌, Some, List, [], ◌∷◌, length, eqb, ℤ}
use Rattle.std.proofs.Math.Bool.{cond}
use Rattle.rules.specs.Search.{start}
use Rattle.rules.specs.Services.{Matched, carried_out}
use Rattle.round_rules.specs.Rounds.{states_in, run_rounds}
use Rattle.search.specs.Run.{Env}
use Rattle.search.specs.declared.Report.{Report}
use Rattle.search.specs.declared.stop.Stop.TheVariants.{Budget, Table}
use Rattle.round_states.specs.Ruled.{Ruled}

-- A table that holds no state: 7 where the budget is 0, else 21.
unfoldable pub no_table : (budget : ℕ) → Report
unfolding cond
no_table budget = record { stop = cond (eqb budget 0) (Some Budget) (Some Table); rows = 0; steps = 0; words = 0 }

-- The words of a state in the table.
abbrev pub state_words : ℕ
state_words = 825

unfoldable pub ByRounds : (e : Env) (budget words : ℕ) (room : List ℤ) → Matched → Type 0
ByRounds e budget words room out =
    (R : Ruled e) → out ≡ carried_out (run_rounds e.dialect e.form (states_in state_words words) budget (start R.rule.matcher R.rule.pattern R.value ∷ []) (length room)) room
