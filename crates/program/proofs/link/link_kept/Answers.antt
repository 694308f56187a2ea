use mathlib.Core.Path.{refl}
use Rattle.program.proofs.link.Pass.{held_start}
use Rattle.program.proofs.link.Loops.{passing_pile, keeping_rules}
use Rattle.program.proofs.link.link_kept.Goals as goal

pub loop-pc-init : goal.loop-pc-init
loop-pc-init c = rw c.none-kept.ensures (passing_pile _ _ _ _ c.requires, held_start _ _ _ c.requires refl refl)

pub loop-pc-preserved-then-o-lt-OR : goal.loop-pc-preserved-then-o-lt-OR
loop-pc-preserved-then-o-lt-OR c = search keeping_rules

pub loop-pc-preserved : goal.loop-pc-preserved
loop-pc-preserved c = search keeping_rules

pub returns : goal.returns
returns c = search keeping_rules
