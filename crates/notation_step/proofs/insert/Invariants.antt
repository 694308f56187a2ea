use Rattle.std.proofs.Common.{◌≡◌, ◌++◌, take, drop, to_z}
use Rattle.std.specs.Int.{w32}
use Rattle.notation_step.specs.Stepped.{shifted, inserted}
use Rattle.notation_step.proofs.insert.Given as goal

abbrev pub invariant-loop-j : goal.invariant-loop-j
invariant-loop-j l = take l.j l.words ++ shifted l.len l.j l.carried (drop l.j l.words) ≡ inserted l.initial.words l.len l.at (to_z w32 l.u)
