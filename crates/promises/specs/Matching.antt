-- What match gives for a sane input, at every budget and with every room.
use Rattle.std.specs.Prelude.{◌≤◌, ◌≡◌, ℤ}
use native.Mathlib.Omega.{arith}
use Rattle.std.proofs.Common.{◌∙◌}
use Rattle.std.proofs.Math.Path.{ap, subst}
use Rattle.std.proofs.Math.Bool.{true}
use mathlib.Core.List.{List, [], ◌∷◌, flat_map}
use Rattle.rules.specs.Dialects.{Dialect}
use Rattle.rules.specs.Forms.{Value}
use Rattle.rules.specs.Reading.{ok}
use Rattle.rules.specs.Variables.{variables}
use Rattle.rules.specs.Origins.{target}
use Rattle.rules.specs.Rows.{Form, row}
use Rattle.rules.specs.Search.{start}
use Rattle.rules.specs.Services.{Rule}
use Rattle.forms.specs.Written.{variable_tags}
use Rattle.promises.specs.Trace.{Taken, trace}
use Rattle.rules.specs.Following.{Solution, solve}
use Rattle.forms.specs.Numbering.{variables_found}
use Rattle.forms.specs.Faults.{WellFormed}

-- The states of the search in the order in which they are taken up; and the good ways, in dictionary order.
unfoldable pub states : (dialect : Dialect) → Rule → Value → List Taken
unfolding trace start
states dialect r v = trace dialect (start r.matcher r.pattern v ∷ [])

unfoldable pub ways : (dialect : Dialect) → Rule → Value → List Solution
unfolding solve target
ways dialect r v = solve dialect r.pattern r.matcher (target v) []

-- The words of the rows of ways.
unfoldable pub rows_of_ways : Form → List Solution → List ℤ
unfolding flat_map row
rows_of_ways form ss = flat_map (λ s. row form s.bound) ss

-- The variables that the test counts.
pub tags_counted : (ms ps : List ℤ) (r : Rule) → WellFormed ms ps r
    → (variables r.pattern true 0 0 ≡ ok (variable_tags r.pattern)) × (variable_tags r.pattern ≤ 16)
tags_counted ms ps r w =
    let f = variables_found r.pattern true 0 0 w.numbered.0 w.numbered.1 in
    let k : w.numbered.0 ≡ variable_tags r.pattern = omega (arith, f.0) in
    (w.numbered.1 ∙ ap ok k, subst (λ n. n ≤ 16) k (f.1 (omega arith)))
