use Rattle.std.proofs.Common.{◌≡◌, ◌-◌, length}
use Rattle.notation_read.specs.Read.{bound_later}
use Rattle.notation_read.proofs.bound_later.Given as goal

abbrev pub invariant-loop-turn : goal.invariant-loop-turn
invariant-loop-turn l = bound_later l.text l.w (length l.text - l.turn) l.at ≡ bound_later l.text l.w (length l.text) l.from
