use Prim.Native.Nat.{◌+◌, ◌≤◌}
use mathlib.Core.Path.{◌≡◌}
use lib.ListN.{length}
use Rattle.rules.specs.Rows.{row}
use Rattle.value_places.specs.Held.{put}
use Rattle.value_rows.specs.Row.{form_by, bound, bound_from}
use Rattle.search.proofs.taking.take_end.Given as goal

abbrev pub invariant-loop-v : goal.invariant-loop-v
invariant-loop-v l = (length l.room ≡ length l.initial.room) × (l.initial.e + length (row (form_by l.terms.origins) (bound l.units.words.now l.b l.terms.vars)) ≤ length l.room)
    × (l.initial.e + length (row (form_by l.terms.origins) (bound l.units.words.now l.b l.terms.vars)) ≡ l.e + length (row (form_by l.terms.origins) (bound_from l.units.words.now l.b l.v l.terms.vars)))
    × (put l.initial.room l.initial.e (row (form_by l.terms.origins) (bound l.units.words.now l.b l.terms.vars)) ≡ put l.room l.e (row (form_by l.terms.origins) (bound_from l.units.words.now l.b l.v l.terms.vars)))
