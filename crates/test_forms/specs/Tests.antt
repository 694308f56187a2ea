-- What the code's answer to a test stands for: a verdict of the rules without what was read.
use Rattle.std.specs.Prelude.{ℕ, Result, Ok, Err}
use Rattle.rules.specs.Reading.{Verdict, ok, fault}

unfoldable pub tested : {A : Type 0} → Verdict A → Result (Unit {0}) ℕ
tested (ok a) = Ok tt
tested (fault i) = Err i
