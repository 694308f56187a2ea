use Prim.Native.Nat.{◌+◌}
use mathlib.Core.Path.{◌≡◌}
use lib.ListN.{length}
use Rattle.value_places.specs.Held.{put}
use Rattle.search_leaf.specs.Told.{row_of}
use Rattle.search_leaf.proofs.Words.{row_from}
use Rattle.search_leaf.proofs.told.put_row.Given as goal

abbrev pub invariant-loop-v : goal.invariant-loop-v
invariant-loop-v l = (length l.room ≡ length l.initial.room) × (l.from + length (row_of l.shape.origins l.shape.vars l.told) ≡ l.e + length (row_from l.shape.origins l.told l.shape.vars l.v))
    × (put l.initial.room l.from (row_of l.shape.origins l.shape.vars l.told) ≡ put l.room l.e (row_from l.shape.origins l.told l.shape.vars l.v))
