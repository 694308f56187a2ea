-- What a search tells: its run from the first state; and for a rule and a target that are accepted, what document 01's run tells.
use Rattle.std.specs.Prelude.{ℕ, ◌≡◌, List, [], ◌∷◌, length, replicate, ℤ}
use Rattle.rules.specs.Forms.{Matcher, Value}
use Rattle.rules.specs.Reading.{ok, read_target}
use Rattle.rules.specs.Fit.{fits, fits_value}
use Rattle.rules.specs.Search as search
use Rattle.rules.specs.Search.{start}
use Rattle.rules.specs.Services.{Rule, Matched, carried_out}
use Rattle.forms.specs.Written.{Widthsᵖ}
use Rattle.words.specs.Words.{entries}
use Rattle.program_rules.specs.Closed.{Closed}
use Rattle.tables.specs.Line.{columns}
use Rattle.program_rules.specs.Columns.{Holds}
use Rattle.value_places.specs.Held.{whole_at}
use Rattle.value_rows.specs.Row.{nothing}
use Rattle.value_rows.specs.declared.Binding.{Binding}
use Rattle.tables.specs.Slot.{tables}
use Rattle.search.specs.Run.{Env, Run, run, run_of, opening, told}

-- Tables and bindings that hold nothing yet; the target as a whole is held, its tag at the first index.
unfoldable pub zeros : ℕ → List ℕ
zeros n = replicate n 0

unfoldable pub unbound : ℕ → List Binding
unbound n = replicate n nothing

unfoldable pub begun : Env → List ℤ → Run
unfolding opening zeros unbound
begun e room = run (opening 0 (whole_at e.words 0)) (tables (zeros entries) (zeros entries) (zeros entries) (zeros entries) (zeros entries)) (unbound 16) room

pub record Searched (e : Env) (budget : ℕ) (room : List ℤ) (out : Matched) : Type 0 where
  pub is : out ≡ told (run_of e budget (begun e room))
  pub as_defined : (r : Rule) (v : Value) (ks : List Matcher) → Holds e.matcher r e.vars (columns e.op e.from e.arg e.mat e.con e.to)
      → fits r.pattern r.matcher 0 [] ≡ ok ks → Widthsᵖ r.pattern → Closed r.pattern → read_target e.words ≡ ok v → fits_value r.matcher v 0 ≡ ok tt
      → out ≡ carried_out (search.run_in e.dialect e.form budget (start r.matcher r.pattern v ∷ []) (length room)) room
