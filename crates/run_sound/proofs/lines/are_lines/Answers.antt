-- `run_sound::lines::are_lines` meets its contract: the lines before the next one are sound.
use Prim.Native.Nat.{◌-◌}
use Rattle.run_sound.proofs.Runs.{lines_next, lines_all, lines_rules}
use borrow.Author.Rules.{rules}
use Rattle.run_sound.proofs.lines.are_lines.Goals as goal

pub loop-j-preserved : goal.loop-j-preserved
loop-j-preserved c = lines_next _ _ _ _ _ c.is_end.result c.is_line.result c.requires.closes (search rules) (search rules) (search rules) (search rules) c.loop-j.invariant

pub returns : goal.returns
returns c = lines_all _ _ _ _ _ c.is_end.result c.is_line-2.result _ c.requires.numbered c.requires.closes (search rules) (search rules) c.loop-j.invariant (search rules) (search rules) (search rules)
