-- Document 02, No. 9: values with their origin. "Each binding carries its value's origin: the index of the value's tag in the target, and for a
-- collection which elements remain."
use Rattle.std.specs.Prelude.{ℕ, zero, suc, ◌+◌, ◌^◌, List, ℤ}
use Rattle.rules.specs.Forms.{Value, int, collection, tupled, Values, empty, ◌▸◌, size}

-- The index of the value's tag in the target, and the place that the value has among the elements of its collection, counted from 0.
pub record Origin : Type 0 where
  pub at : ℕ
  pub place : ℕ

-- A value each part of which has its origin: an integer, a collection, of which some elements may be gone, or a tuple.
infixr 67 ◌▸ᵒ◌
mutual
  pub data Valueᵒ : Type 0 where
    intᵒ : Origin → ℤ → Valueᵒ
    collectionᵒ tupledᵒ : Origin → Valuesᵒ → Valueᵒ

  pub data Valuesᵒ : Type 0 where
    emptyᵒ : Valuesᵒ
    ◌▸ᵒ◌ : Valueᵒ → Valuesᵒ → Valuesᵒ

-- The values bound so far: entry v is variable v's. (Variables are numbered from left to right and atoms are taken up from left to right, so that
-- a bind is always the next entry.)
abbrev pub Bindings : Type 0
Bindings = List Valueᵒ

-- The value alone.
unfoldable mutual
  pub plain : Valueᵒ → Value
  plain (intᵒ o x) = int x
  plain (collectionᵒ o vs) = collection (plain_all vs)
  plain (tupledᵒ o vs) = tupled (plain_all vs)

  pub plain_all : Valuesᵒ → Values
  plain_all emptyᵒ = empty
  plain_all (v ▸ᵒ vs) = plain v ▸ plain_all vs

-- A value whose tag stands at an index, at a place of its collection. A tag and its operand come before the parts, each part after those before it.
unfoldable mutual
  unfolding size

  pub placed : (at place : ℕ) → Value → Valueᵒ
  placed at k (int x) = intᵒ (record { at = at; place = k }) x
  placed at k (collection vs) = collectionᵒ (record { at = at; place = k }) (placed_all (at + 2) 0 vs)
  placed at k (tupled vs) = tupledᵒ (record { at = at; place = k }) (placed_all (at + 2) 0 vs)

  pub placed_all : (at place : ℕ) → Values → Valuesᵒ
  placed_all at k empty = emptyᵒ
  placed_all at k (v ▸ vs) = placed at k v ▸ᵒ placed_all (at + size v) (suc k) vs

-- The whole target: its tag is the first word.
unfoldable pub target : Value → Valueᵒ
unfolding placed
target v = placed 0 0 v

-- Where a value comes from.
unfoldable pub origin : Valueᵒ → Origin
origin (intᵒ o x) = o
origin (collectionᵒ o vs) = o
origin (tupledᵒ o vs) = o

-- "Which elements remain": a mark for each, "first element lowest".
unfoldable pub marks_all : Valuesᵒ → ℕ
unfolding origin
marks_all emptyᵒ = 0
marks_all (v ▸ᵒ vs) = 2 ^ (origin v).place + marks_all vs

-- "Zero for an integer or a tuple."
unfoldable pub marks : Valueᵒ → ℕ
unfolding marks_all
marks (intᵒ o x) = 0
marks (collectionᵒ o vs) = marks_all vs
marks (tupledᵒ o vs) = 0
