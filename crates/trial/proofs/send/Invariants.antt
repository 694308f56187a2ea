-- So many empty lines were sent.
use Rattle.std.proofs.Common.{◌≡◌, ◌*◌}
use Rattle.trial.proofs.send.Given as goal

abbrev pub invariant-loop-i : goal.invariant-loop-i
invariant-loop-i g l = l.sent ≡ l.i * 4096
