use Rattle.std.proofs.Common.{◌∙◌, ap, arith, ℤ, length-take, length-drop}
use Rattle.value_places.specs.Held.{put}
use Rattle.value_rows.proofs.Room.{part_is}
use Rattle.value_rows.proofs.copy.Goals as goal

pub returns : goal.returns
returns c = (
  omega (arith, c.put_words.ensures.behind, length-take {A = ℤ}, length-drop {A = ℤ}),
  c.put_words.ensures.written ∙ ap (put c.args.room.now c.args.at) (part_is c.args.from c.args.to c.args.s.now c.requires.ordered),
)
