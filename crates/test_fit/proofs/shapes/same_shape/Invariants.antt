use mathlib.Core.Path.{◌≡◌}
use Prim.Native.Nat.{◌+◌, ◌-◌, ◌≤◌}
use Rattle.std.specs.Prelude.{max}
use lib.ListN.{length}
use Rattle.test_fit.specs.Shapes.{shapes_p, shapes}
use Rattle.test_fit.proofs.shapes.same_shape.Given as goal

abbrev pub invariant-loop-k : goal.invariant-loop-k
invariant-loop-k l =
    (shapes l.ms l.i l.j ≡ shapes_p l.ms (l.k-end - l.k) l.width (l.i + l.k) (l.j + l.k)) × (l.j + l.k ≤ max l.j (length l.ms))
