-- Document 02, No. 13: of the elements that marks leave of a collection, the first place of each value that differs.
use Rattle.std.specs.Prelude.{ℕ, zero, suc, ◌+◌, ◌*◌, ◌/◌, ◌%◌, ◌^◌, ◌<◌, ◌≡◌, Bool, true, false, cond, List, [], ◌∷◌, ◌++◌, map, ℤ}
use Rattle.rules.specs.Forms.{Value, Values, empty, ◌▸◌}
use Rattle.rules.specs.Equality.{equal}
use Rattle.rules.specs.Search.{any_equal}
use Rattle.words.specs.Marks.{digit, positions}
use Rattle.words.specs.Marked.{nth}
use Rattle.matchers.specs.Places.{matcher_at}
use Rattle.value_places.specs.Places.{value_at, elements, element_at}
use Rattle.value_equality.specs.Equality.{wholes_equal}

-- By a digit: 0, or 1.
abbrev pub by_digit : ℕ → ℕ → ℕ → ℕ
by_digit zero x y = x
by_digit (suc d) x y = y

-- The marks of those elements, of the ones that m marks, that are not equal to one before them; `before` are the marked ones before.
unfoldable pub firsts_from : (Value → Value → Bool) → (before : List Value) → Values → (m : ℕ) → ℕ
unfolding any_equal
firsts_from eq before empty m = 0
firsts_from eq before (v ▸ vs) m =
    by_digit (m % 2) (firsts_from eq before vs (m / 2) * 2) (firsts_from eq (before ++ (v ∷ [])) vs (m / 2) * 2 + cond (any_equal eq before v) 0 1)

unfoldable pub firsts_of : (Value → Value → Bool) → Values → (m : ℕ) → ℕ
unfolding firsts_from
firsts_of eq vs m = firsts_from eq [] vs m

-- The same of a collection at an index of the target's words, under the element matcher at an index of the matcher's.
unfoldable pub firsts_at : List ℤ → (i : ℕ) → List ℤ → (at m : ℕ) → ℕ
unfolding firsts_of matcher_at value_at elements
firsts_at mt i s at m = firsts_of (equal (matcher_at mt i)) (elements (value_at s at)) m

-- One of the elements that m marks is equal to element k.
unfoldable pub before_of : (Value → Value → Bool) → Values → (m k : ℕ) → Bool
unfolding any_equal nth positions
before_of eq vs m k = any_equal eq (map (nth vs) (positions 64 m)) (nth vs k)

unfoldable pub before_at : List ℤ → (i : ℕ) → List ℤ → (at m k : ℕ) → Bool
unfolding before_of matcher_at value_at elements
before_at mt i s at m k = before_of (equal (matcher_at mt i)) (elements (value_at s at)) m k

-- The marks with place k, unless it was seen.
unfoldable pub kept_with : (out k : ℕ) → (seen : Bool) → ℕ
kept_with out k true = out
kept_with out k false = out + 2 ^ k

-- Marks that are the n lowest digits of others.
pub record Lower (m stop : ℕ) : Type 0 where
  pub digits : ℕ
  pub are : stop ≡ m % 2 ^ digits

-- Element k of a collection is equal to none of its first n.
pub record New (mt : List ℤ) (i : ℕ) (s : List ℤ) (at k n : ℕ) : Type 0 where
  pub none : (j : ℕ) → j < n → wholes_equal mt i s (element_at s at j) (element_at s at k) ≡ false

-- Places whose elements are equal to none before them.
pub record Fresh (mt : List ℤ) (i : ℕ) (s : List ℤ) (at f : ℕ) : Type 0 where
  pub new : (k : ℕ) → digit k f ≡ 1 → New mt i s at k k
