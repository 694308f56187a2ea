-- Matchers of the same shape, word by word: list and multiset count alike, something does not occur.
use Rattle.std.specs.Prelude.{ℕ, zero, suc, ◌-◌, Bool, true, false, ◌&&◌, cond, List, eqb, ℤ}
use Rattle.words.specs.Words.{tag_at}
use Rattle.test_forms.specs.Ends.{within}
use Rattle.matchers.specs.Places.{matcher_end}

-- Two tuples have the same width.
unfoldable pub width_fits : ℕ → ℕ → Bool
unfolding within
width_fits k n = cond (eqb k n) (within 2 k 4) false

-- Two tags are of the same shape, and not something.
unfoldable pub tag_fits : ℕ → ℕ → Bool
unfolding within
tag_fits x y = cond (within 2 x 3) (within 2 y 3) (cond (eqb x y) (within 1 x 4) false)

-- Two words: the widths of tuples, or tags.
unfoldable pub word_fits : Bool → ℕ → ℕ → Bool
unfolding width_fits tag_fits
word_fits true x y = width_fits x y
word_fits false x y = tag_fits x y

-- After a tuple's tag comes its width.
unfoldable pub width_next : Bool → ℕ → Bool
width_next true x = false
width_next false x = eqb x 4

-- n words at the indices a and b.
unfoldable pub shapes_p : List ℤ → (n : ℕ) → Bool → (a b : ℕ) → Bool
unfolding tag_at word_fits width_next
shapes_p m zero f a b = true
shapes_p m (suc n) f a b = word_fits f (tag_at m a) (tag_at m b) && shapes_p m n (width_next f (tag_at m a)) (suc a) (suc b)

-- Something does not occur in the matcher at the index i, and that at the index j is of the same shape.
unfoldable pub shapes : List ℤ → (i j : ℕ) → Bool
unfolding shapes_p matcher_end
shapes m i j = shapes_p m (matcher_end m i - i) false i j
