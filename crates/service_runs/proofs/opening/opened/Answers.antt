-- `service_runs::opening::opened` meets its contract: refused, or begun.
use Rattle.service_runs.proofs.First.{away_opens, begun_opens}
use Rattle.service_runs.proofs.opening.opened.Goals as goal

pub begun-requires : goal.begun-requires
begun-requires c = c.in-Ok.ensures.admitted.ready

pub returns-in-Ok : goal.returns-in-Ok
returns-in-Ok c = begun_opens _ _ _ _ _ _ c.in-Ok.ensures _ c.begun.ensures

pub returns-in-Err : goal.returns-in-Err
returns-in-Err c = away_opens _ _ _ _ _ _ _ c.in-Err.ensures _ c.turned_away.ensures
