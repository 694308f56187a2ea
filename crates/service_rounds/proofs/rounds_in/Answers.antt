-- `service_rounds::rounds_in` meets its contract: the tests 1 to 6, then the run.
use Rattle.std.proofs.lemmas.Result.{err_from_is_err_and}
use Rattle.services.specs.Matches.{matched_by}
use Rattle.services.proofs.Outcome.{passed}
use Rattle.service_rounds.proofs.Matches.{rounds_refused}
use Rattle.service_rounds.proofs.rounds_in.Goals as goal

pub returns-in_err-tested : goal.returns-in_err-tested
returns-in_err-tested c =
    let p = err_from_is_err_and c.from_residual.result c.from_residual.ensures.1 in
    rw p.1 (rounds_refused _ _ _ _ _ _ _ _ _ c.tested.ensures _ c.in_err-tested.was _ p.2)

pub carry_out-requires : goal.carry_out-requires
carry_out-requires c = passed _ _ _ _ _ c.tested.ensures _ c.in_ok-tested.was

pub returns : goal.returns
unfolding matched_by
returns c = c.carry_out.ensures
