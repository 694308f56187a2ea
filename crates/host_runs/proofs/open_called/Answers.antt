use Rattle.host_runs.proofs.Calls.{open_rules}
use Rattle.host_runs.proofs.open_called.Goals as goal

pub returns : goal.returns
returns c = search open_rules
