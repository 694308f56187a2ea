-- A held value: the index of a value's tag in the target's words, and marks of the elements that are left. A tuple is held whole, without marks.
use Rattle.std.specs.Prelude.{ℕ, ◌-◌, ◌^◌, ◌<◌, List, ℤ}
use Rattle.std.proofs.lemmas.List.Edits.{sets}
use Rattle.std.proofs.Math.Seq.{slice}
use Rattle.rules.specs.Forms.{Value, Values, size_all, words_all}
use Rattle.words.specs.Marked.{marked, held}
use Rattle.value_places.specs.Places.{value_at, elements, marks_at, Tag}

-- A tag, and marks of elements that there are: two tests on the words.
pub record Held (s : List ℤ) (at m : ℕ) : Type 0 where
  pub tag : Tag s at
  pub marks : m < 2 ^ marks_at s at

-- What is held: an integer and a tuple whole, of a collection the elements marked.
unfoldable pub held_at : List ℤ → ℕ → ℕ → Value
unfolding value_at
held_at s at m = held (value_at s at) m

-- The marks of all of a value's elements.
unfoldable pub whole_at : List ℤ → ℕ → ℕ
unfolding marks_at
whole_at s at = 2 ^ marks_at s at - 1

-- The elements that are left; how many words they have, and the words.
unfoldable pub left : List ℤ → ℕ → ℕ → Values
unfolding value_at elements
left s at m = marked (elements (value_at s at)) m

unfoldable pub size_left : List ℤ → ℕ → ℕ → ℕ
unfolding left
size_left s at m = size_all (left s at m)

unfoldable pub words_left : List ℤ → ℕ → ℕ → List ℤ
unfolding left
words_left s at m = words_all (left s at m)

-- Words written into a room from an index on, the others as they were; the words from an index up to another.
unfoldable pub put : List ℤ → ℕ → List ℤ → List ℤ
put room i ws = sets room i ws

unfoldable pub part : ℕ → ℕ → List ℤ → List ℤ
part from to s = slice from to s
