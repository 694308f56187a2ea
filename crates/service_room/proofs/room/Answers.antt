-- `service_room::room` meets its contract where there is no such form.
use Rattle.service_room.proofs.Laws.{in_no_form}
use Rattle.service_room.proofs.room.Goals as goal

pub returns-in-Err : goal.returns-in-Err
returns-in-Err c = in_no_form c.args.matcher.now c.args.pattern.now c.args.cap c.args.cap c.args.form c.args.longest _ c.in-Err.ensures _ _ c.answer.ensures c.place.ensures
