-- The run by what it keeps to, and what it tells, as the code has them.
use Rattle.std.specs.Prelude.{List, ℤ}
use Rattle.words.specs.Dialects.{dialect_by}
use Rattle.tables.specs.Line.{Columns}
use Rattle.value_rows.specs.Row.{form_by}
use Rattle.search_step.specs.declared.State.{State}
use Rattle.search.specs.declared.Terms.{Terms}
use Rattle.search.specs.declared.Report.{Report}
use Rattle.search.specs.Run.{Env, env_with}
use Rattle.search.specs.Stops.{stop_of}

abbrev pub env_by : Columns → (matcher words : List ℤ) → Terms → Env
env_by t mt s terms = env_with (dialect_by terms.firsts) t mt s terms.vars (form_by terms.origins)

unfoldable pub reported : State → Report
unfolding stop_of
reported x = record { stop = stop_of x.live; rows = x.rows; steps = x.steps; words = x.words }
