use Rattle.service_runs.proofs.First.{away_is}
use Rattle.service_runs.proofs.opening.turned_away.Goals as goal

pub returns : goal.returns
returns c = away_is _ _ _ _ _ _ _ _ _ _ c.no_slots-slots.ensures c.answer-answer.ensures c.place-place.ensures c.cause-cause.ensures
