-- A held value with its origin: the value whose tag stands at an index, of which the elements marked are left.
use Rattle.std.specs.Prelude.{ℕ, zero, suc, ◌+◌, ◌/◌, ◌%◌, List, ℤ, pos}
use Rattle.rules.specs.Origins.{Valueᵒ, intᵒ, collectionᵒ, tupledᵒ, Valuesᵒ, emptyᵒ, ◌▸ᵒ◌, placed, placed_all}
use Rattle.value_places.specs.Places.{value_at, elements}

-- Element k. (Past the end there is none.)
unfoldable pub nthᵒ : Valuesᵒ → ℕ → Valueᵒ
nthᵒ emptyᵒ k = intᵒ (record { at = 0; place = 0 }) (pos 0)
nthᵒ (v ▸ᵒ vs) zero = v
nthᵒ (v ▸ᵒ vs) (suc k) = nthᵒ vs k

abbrev pub keepᵒ : ℕ → Valueᵒ → Valuesᵒ → Valuesᵒ
keepᵒ zero v vs = vs
keepᵒ (suc d) v vs = v ▸ᵒ vs

-- The elements marked.
unfoldable pub markedᵒ : Valuesᵒ → ℕ → Valuesᵒ
markedᵒ emptyᵒ m = emptyᵒ
markedᵒ (v ▸ᵒ vs) m = keepᵒ (m % 2) v (markedᵒ vs (m / 2))

unfoldable pub heldᵒ : Valueᵒ → ℕ → Valueᵒ
unfolding markedᵒ
heldᵒ (intᵒ o x) m = intᵒ o x
heldᵒ (collectionᵒ o vs) m = collectionᵒ o (markedᵒ vs m)
heldᵒ (tupledᵒ o vs) m = tupledᵒ o vs

-- What is held by a place and marks; its own place in its collection is k.
unfoldable pub origin_at : List ℤ → (at m k : ℕ) → Valueᵒ
unfolding value_at placed heldᵒ
origin_at s at m k = heldᵒ (placed at k (value_at s at)) m

-- The elements or parts of the value whose tag stands at an index, each with its origin.
unfoldable pub elementsᵒ : List ℤ → ℕ → Valuesᵒ
unfolding value_at elements placed_all
elementsᵒ s at = placed_all (at + 2) 0 (elements (value_at s at))
