-- Document 01, section 4, tag 3: equality of held values under a matcher, as the code goes about it.
use Rattle.std.specs.Prelude.{ℕ, ◌+◌, Bool, cond, List, [], ◌∷◌, eqb, get_or, ℤ, pos}
use Rattle.rules.specs.Numbers.{plus}
use Rattle.rules.specs.Forms.{integer, Value, Values}
use Rattle.rules.specs.Equality.{in_order, equal, equal_parts}
use Rattle.forms.specs.Pairing.{greedy}
use Rattle.words.specs.Words.{same_to}
use Rattle.words.specs.Marked.{nth}
use Rattle.words.specs.Marks.{positions}
use Rattle.matchers.specs.Places.{width_at, matcher_at, matchers_at}
use Rattle.value_places.specs.Places.{value_at, elements}
use Rattle.value_places.specs.Held.{held_at, left}

-- Two held values under the matcher at an index of its words; two whole values.
unfoldable pub equal_at : List ℤ → ℕ → List ℤ → ℕ → ℕ → ℕ → ℕ → Bool
unfolding matcher_at
equal_at mt i s a am b bm = equal (matcher_at mt i) (held_at s a am) (held_at s b bm)

unfoldable pub wholes_equal : List ℤ → ℕ → List ℤ → ℕ → ℕ → Bool
unfolding matcher_at
wholes_equal mt i s a b = equal (matcher_at mt i) (value_at s a) (value_at s b)

-- The elements that are left of two collections: one by one in order; each with the first equal one that is left.
unfoldable pub left_in_order : List ℤ → ℕ → List ℤ → ℕ → ℕ → ℕ → ℕ → Bool
unfolding matcher_at
left_in_order mt i s a x b y = in_order (equal (matcher_at mt i)) (left s a x) (left s b y)

unfoldable pub left_paired : List ℤ → ℕ → List ℤ → ℕ → ℕ → ℕ → ℕ → Bool
unfolding matcher_at
left_paired mt i s a x b y = greedy (equal (matcher_at mt i)) (left s a x) (left s b y)

-- Two tuples, whose matcher has its width at an index of the words.
unfoldable pub tuples_equal : List ℤ → ℕ → List ℤ → ℕ → ℕ → Bool
unfolding width_at matchers_at
tuples_equal mt i s a b = equal_parts (matchers_at mt (width_at mt i) (i + 1)) (elements (value_at s a)) (elements (value_at s b))

-- The first of these places whose element passes; 64 where none does.
unfoldable pub first_in : (Value → Bool) → Values → List ℕ → ℕ
first_in f vs [] = 64
first_in f vs (k ∷ ks) = cond (f (nth vs k)) k (first_in f vs ks)

unfoldable pub first_equal : List ℤ → ℕ → List ℤ → ℕ → ℕ → ℕ → ℕ
unfolding matcher_at first_in
first_equal mt i s a b y = first_in (equal (matcher_at mt i) (value_at s a)) (elements (value_at s b)) (positions 64 y)

-- Of integers: the first plus c, if there is such a sum, is the second.
unfoldable pub is_sum : List ℤ → ℕ → ℤ → ℕ → Bool
unfolding same_to
is_sum s a c b = same_to (plus (get_or s (a + 1) (pos 0)) c) (get_or s (b + 1) (pos 0))

-- Where integers are compared: two whole values; the first of the marked elements of b that equals the value at e, 64 where none does; and the elements
-- that are left of two multisets.
unfoldable pub integers_equal : List ℤ → ℕ → ℕ → Bool
integers_equal s a b = equal integer (value_at s a) (value_at s b)

unfoldable pub first_integer : List ℤ → ℕ → ℕ → ℕ → ℕ
unfolding first_in
first_integer s e b y = first_in (equal integer (value_at s e)) (elements (value_at s b)) (positions 64 y)

unfoldable pub integers_paired : List ℤ → ℕ → ℕ → ℕ → ℕ → Bool
integers_paired s a x b y = cond (eqb x 0) (eqb y 0) (greedy (equal integer) (left s a x) (left s b y))
