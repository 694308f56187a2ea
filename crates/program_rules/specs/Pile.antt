-- The places kept, in an array up to a depth; the entry 0 is no place's.
use Rattle.std.specs.Prelude.{ℕ, zero, suc, ◌+◌, ◌-◌, cond, List, [], ◌∷◌, get_or, set, eqb}
use Rattle.program_rules.specs.Link.{keeps, takes}

pub record Pile : Type 0 where
  pub places : List ℕ
  pub depth : ℕ

abbrev pub pile : List ℕ → ℕ → Pile
pile k d = record { places = k; depth = d }

unfoldable pub kept_at : (places : List ℕ) (depth : ℕ) → List ℕ
kept_at k zero = []
kept_at k (suc d) = get_or k (suc d) 0 ∷ kept_at k d

-- When the line `op` has taken its place, and when it has kept its own.
unfoldable pub lower : (op depth : ℕ) → ℕ
unfolding takes
lower o d = cond (takes o) (d - 1) d

unfoldable pub place_by : (op pc land : ℕ) → ℕ
place_by o pc land = cond (eqb o 18) (suc pc) land

unfoldable pub to_at : (op land x : ℕ) → ℕ
unfolding takes
to_at o land x = cond (takes o) x land

unfoldable pub land_at : (op pc land x : ℕ) → ℕ
land_at o pc land x = cond (eqb o 18) x (cond (eqb o 19) land pc)

unfoldable pub piled : (op pc land : ℕ) → Pile → Pile
unfolding keeps lower place_by
piled o pc land t =
    cond (keeps o) (pile (set t.places (lower o t.depth + 1) (place_by o pc land)) (lower o t.depth + 1)) (pile t.places (lower o t.depth))
