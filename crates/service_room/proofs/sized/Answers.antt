-- `service_room::sized` meets its contract: review's rows, each with a value for each variable.
use mir.Syntax.{w32}
use mir.Facts.{to_z-of_z}
use Rattle.service_room.proofs.Laws.{variables_of_lem, room_told_lem}
use Rattle.service_room.proofs.sized.Goals as goal

pub words_for-requires-clause-variables_few : goal.words_for-requires-clause-variables_few
words_for-requires-clause-variables_few c = variables_of_lem _ _ _ c.variables_in.ensures c.from-n.ensures

pub returns : goal.returns
returns c = room_told_lem _ _ _ _ _ c.review-r.result _ _ _ c.review-r.ensures.result_value (to_z-of_z {w = w32} c.ranges.cap) c.review-r.ensures.rows_value c.variables_in.ensures c.from-n.ensures
    c.words_for.ensures
