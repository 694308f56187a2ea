use Rattle.test_target.proofs.Looks.{place_alone, mapped}
use Rattle.test_target.proofs.value_end.Goals as goal
use mathlib.Core.Path.{◌∙◌}
use borrow.Author.Rules.{rules}

pub returns : goal.returns
returns c = mapped c.read_value.result c.map_err.result _ c.map_err.ensures.cases (λ f r p. search rules) ∙ place_alone c.args.ts.now c.args.depth c.args.at c.read_value.result c.read_value.ensures
