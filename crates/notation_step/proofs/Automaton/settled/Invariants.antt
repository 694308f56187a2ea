use Rattle.std.proofs.Common.{◌≡◌}
use Rattle.notation_step.specs.Stepped.{settling, settled}
use Rattle.notation_step.proofs.Automaton.settled.Given as goal

abbrev pub invariant-loop-j : goal.invariant-loop-j
invariant-loop-j l = settling l.self.stack l.self.stand l.reach l.j l.start ≡ settled l.self.stack l.self.stand l.reach
