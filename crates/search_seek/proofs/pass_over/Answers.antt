use mathlib.Core.Path.{◌∙◌}
use borrow.Author.Rules.{rules}
use mir.Syntax.{w32}
use mir.Val.{SFits}
use mir.Facts.{to_z-of_z}
use Rattle.search_seek.proofs.Laws.{frame_held, frame_some, over_is}
use Rattle.search_seek.proofs.pass_over.Goals as goal

pub seek-last-requires : goal.seek-last-requires
seek-last-requires c = let h = c.requires.seeks in record { placed = c.requires.placed; held = frame_held _ _ _ _ c.frame_at-f.ensures h.held; counted = (frame_some c.args.units.words.now _ _ _ c.frame_at-f.ensures h.choice, h.number, h.steps) }

pub returns : goal.returns
returns c = let k : SFits w32 c.con_at-c.result = search rules in
    over_is _ _ _ _ c.frame_at-f.ensures _ _ _ _ _ _ _ _ (to_z-of_z k ∙ c.con_at-c.ensures) c.seek-last.ensures.0 c.seek-last.ensures.1 c.put_left.ensures
