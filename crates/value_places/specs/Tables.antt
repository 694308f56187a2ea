-- What the table of places tells of a target's words, so that element k of a collection and part k of a tuple are found at once: of each value where it
-- ends, and where the places of its elements or parts begin in `places`, which has one for each element or part.
use Rattle.std.specs.Prelude.{ℕ, ◌+◌, ◌/◌, ◌<◌, ◌≤◌, ◌≡◌, List, length, get_or, ℤ}
use Rattle.rules.specs.Forms.{size}
use Rattle.tables.specs.Place.{value_count, Sections, sections_of}
use Rattle.value_places.specs.Places.{value_at, count_at, Tag, hops, element_at}

-- The ends of the values whose tags stand from an index on.
pub record EndsFrom (s : List ℤ) (ends : List ℕ) (from : ℕ) : Type 0 where
  pub are : (at : ℕ) → Tag s at → from ≤ at → get_or ends (at / 2) 0 ≡ at + size (value_at s at)

pub record Ends (s : List ℤ) (ends : List ℕ) : Type 0 where
  pub are : (at : ℕ) → Tag s at → get_or ends (at / 2) 0 ≡ at + size (value_at s at)

-- The places of n values that stand one after the other from an index on, written from `from` on; all other numbers as they were.
pub record Filled (s : List ℤ) (at n from : ℕ) (old new : Sections) : Type 0 where
  pub ends : new.ends ≡ old.ends
  pub bases : new.bases ≡ old.bases
  pub long : length new.places ≡ length old.places
  pub below : (j : ℕ) → j < from → get_or new.places j 0 ≡ get_or old.places j 0
  pub written : (k : ℕ) → k < n → get_or new.places (from + k) 0 ≡ hops s k at
  pub above : (j : ℕ) → from + n ≤ j → get_or new.places j 0 ≡ get_or old.places j 0

-- The places of the elements and parts of the values whose tags stand from an index on, all below `used`.
pub record PlacesFrom (s : List ℤ) (x : Sections) (from used : ℕ) : Type 0 where
  pub low : (at k : ℕ) → Tag s at → from ≤ at → k < count_at s at → get_or x.bases (at / 2) 0 + k < used
  pub are : (at k : ℕ) → Tag s at → from ≤ at → k < count_at s at → get_or x.places (get_or x.bases (at / 2) 0 + k) 0 ≡ element_at s at k

-- The table of all of a target's values.
pub record Placed (s : List ℤ) (t : List ℕ) : Type 0 where
  pub ends : Ends s (sections_of t).ends
  pub low : (at k : ℕ) → Tag s at → k < count_at s at → get_or (sections_of t).bases (at / 2) 0 + k < value_count
  pub are : (at k : ℕ) → Tag s at → k < count_at s at → get_or (sections_of t).places (get_or (sections_of t).bases (at / 2) 0 + k) 0 ≡ element_at s at k
