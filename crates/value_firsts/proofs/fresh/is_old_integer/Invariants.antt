use Rattle.value_firsts.specs.Firsts.{New}
use Rattle.value_firsts.proofs.fresh.is_old_integer.Given as goal

abbrev pub invariant-loop-j : goal.invariant-loop-j
invariant-loop-j l = New l.mt l.i l.units.words.now l.at l.k l.j
