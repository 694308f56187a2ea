use Rattle.std.proofs.Common.{◌≡◌}
use Rattle.notation_read.specs.Read.{found}
use Rattle.notation_read.proofs.Names.find.Given as goal

abbrev pub invariant-loop-k : goal.invariant-loop-k
invariant-loop-k l = found l.text l.self.spans l.k l.w ≡ found l.text l.self.spans l.self.count l.w
