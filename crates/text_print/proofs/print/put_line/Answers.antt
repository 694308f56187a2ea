-- The first number, and the others behind it.
use Rattle.text_print.proofs.print.Laws.{first_in, others_room, line_wrote}
use Rattle.text_print.proofs.print.put_line.Goals as goal

pub put-end-requires : goal.put-end-requires
put-end-requires g c = first_in g.N.Number.number _ c.requires.numbers_nonempty _ c.index-numbers-0.is _ _ c.requires.numbers_in_bounds

pub put_further-requires : goal.put_further-requires
put_further-requires g c = others_room g.N.Number.number _ c.requires.numbers_nonempty _ c.index-numbers-0.is _ _ _ _ c.put-end.ensures c.requires.numbers_in_bounds

pub returns : goal.returns
returns g c = line_wrote g.N.Number.number _ c.requires.numbers_nonempty _ c.index-numbers-0.is _ _ _ _ c.put-end.ensures _ _ c.put_further.ensures
