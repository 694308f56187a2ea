use borrow.Author.Rules.{rules}
use mathlib.Core.Path.{◌∙◌}
use mir.Syntax.{w32}
use mir.Val.{SFits}
use mir.Facts.{to_z-of_z}
use Rattle.search.proofs.Laws.{sum_is}
use Rattle.search.proofs.asking.is_sum_at.Goals as goal

pub returns : goal.returns
returns c = let k : SFits w32 c.con_at-c.result = search rules in
    sum_is _ _ _ _ _ _ c.is_sum.ensures (to_z-of_z k ∙ c.con_at-c.ensures)
