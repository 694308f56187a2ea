-- What a row tells of integers: a word for each variable.
use Rattle.std.specs.Prelude.{ℕ, ◌+◌, ◌*◌, ◌<◌, ◌≡◌, Bool, true, false, List, [], ◌∷◌, ◌++◌, length, get_or, take, eqb, ℤ, pos}
use Rattle.words.specs.Words.{tag_at}
use Rattle.value_rows.specs.Row.{nothing}
use Rattle.value_rows.specs.declared.Binding.{Binding}
use Rattle.search_atom.specs.Leaves.{when}

-- The word of the integer at an index: its place in form 2, its number in form 1.
unfoldable pub word_of : (origins : Bool) → List ℤ → ℕ → ℤ
word_of true s at = pos at
word_of false s at = get_or s (at + 1) (pos 0)

unfoldable pub entry_of : (origins : Bool) → ℤ → List ℤ
entry_of true w = w ∷ pos 0 ∷ pos 0 ∷ []
entry_of false w = pos 0 ∷ w ∷ []

unfoldable pub entries_of : (origins : Bool) → List ℤ → List ℤ
unfolding entry_of
entries_of o [] = []
entries_of o (w ∷ ws) = entry_of o w ++ entries_of o ws

-- The row of n variables, and how many words it has.
unfoldable pub row_of : (origins : Bool) → (n : ℕ) → List ℤ → List ℤ
unfolding entries_of
row_of o n told = entries_of o (take n told)

unfoldable pub size_of : (origins : Bool) → (n : ℕ) → ℕ
size_of true n = 3 * n
size_of false n = 2 * n

-- Each of n variables, but perhaps one, is bound to an integer, and has its word.
pub record Tells (o : Bool) (s : List ℤ) (b : List Binding) (n but : ℕ) (told : List ℤ) : Type 0 where
  pub long : length told ≡ 16
  pub tags : (v : ℕ) → v < n → (v ≡ but → ⊥) → tag_at s (get_or b v nothing).at ≡ 0
  pub words : (v : ℕ) → v < n → (v ≡ but → ⊥) → get_or told v (pos 0) ≡ word_of o s (get_or b v nothing).at

-- The variable that a line binds; 16, which is none, where it binds none.
unfoldable pub but_of : (op v : ℕ) → ℕ
unfolding when
but_of o v = when (eqb o 3) v 16
