use borrow.Author.Rules.{sfits_of}
use mir.Facts.{to_z-of_z}
use mathlib.Core.Path.{◌∙◌, ap}
use lib.IntN.{pos, negsuc}
use Rattle.words.specs.Words.{tag_z, tag_at}
use Rattle.words.proofs.Signed.{get_d_any}
use mir.Syntax.{w32}
use Rattle.test_target.proofs.tag_there.Goals as goal

pub returns : goal.returns
unfolding tag_at
returns c = let a = c.args in
    c.tag_of.ensures ∙ ap tag_z (to_z-of_z {w = w32} (sfits_of c.tag_of-arg-1.given) ∙ get_d_any a.ts.now a.at (pos 0) (negsuc 0) c.requires)
