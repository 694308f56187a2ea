-- Calls on a run add up: what is held, told and written after them is that of one call with the sum of the portions, and so that of one match.
use Rattle.std.specs.Prelude.{ℕ, ◌+◌, ◌≡◌, true, false, List, [], ◌∷◌, ◌++◌, take, drop, eqb, ℤ}
use Rattle.std.proofs.Common.{add-zero, ◌∙◌, take-append-drop}
use Rattle.std.proofs.Math.Path.{ap}
use Rattle.std.proofs.Math.ListN.{length}
use Rattle.run_rules.specs.Lent.{Lent, written_at, advanced}

pub none_written : (at : ℕ) (room : List ℤ) → written_at at [] room ≡ room
unfolding written_at
none_written at room = ap (λ i. take at room ++ drop i room) (add-zero at) ∙ take-append-drop at room

-- ---- Calls.

-- An advance: its portion, and the room as it is lent. The game may write in its room between two calls.
pub record Call : Type 0 where
  pub portion : ℕ
  pub room : List ℤ

unfoldable pub called : List Call → Lent → Lent
unfolding advanced
called [] l = l
called (c ∷ cs) l = called cs (advanced c.portion c.room l).run

-- The portions' sum, over the calls whose room has the size given at the opening.
unfoldable pub given : (size : ℕ) → List Call → ℕ
given size [] = 0
given size (c ∷ cs) = elim (eqb (length c.room) size) [ true ↦ c.portion + given size cs | false ↦ given size cs ]
