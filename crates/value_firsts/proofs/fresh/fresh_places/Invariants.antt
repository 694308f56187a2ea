use Prim.Native.Nat.{◌^◌, ◌<◌}
use Rattle.value_firsts.specs.Firsts.{Fresh}
use Rattle.value_firsts.proofs.fresh.fresh_places.Given as goal

abbrev pub invariant-loop-k : goal.invariant-loop-k
invariant-loop-k l = Fresh l.mt l.i l.units.words.now l.at l.out × (l.out < 2 ^ l.k)
