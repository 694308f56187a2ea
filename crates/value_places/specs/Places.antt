-- What stands at an index of a target's words. The words from a tag on are values, one after the other: read from the right, each tag takes as many
-- of the values after it as it counts.
use Rattle.std.specs.Prelude.{ℕ, zero, suc, ◌+◌, ◌%◌, ◌<◌, ◌≤◌, ◌≡◌, List, [], ◌∷◌, length, drop, ℤ, pos}
use Rattle.rules.specs.Forms.{Value, int, collection, tupled, Values, empty, ◌▸◌, count, words_all, size_all}
use Rattle.forms.specs.Written.{deepest}
use Rattle.words.specs.Words.{tag_z, tag_at}

-- The first n values, and those after them.
unfoldable pub firsts : ℕ → Values → Values
firsts zero vs = empty
firsts (suc n) empty = empty
firsts (suc n) (v ▸ vs) = v ▸ firsts n vs

unfoldable pub lasts : ℕ → Values → Values
lasts zero vs = vs
lasts (suc n) empty = empty
lasts (suc n) (v ▸ vs) = lasts n vs

abbrev pub node : ℕ → ℤ → Values → Values
node zero x vs = int x ▸ vs
node (suc zero) x vs = collection (firsts (tag_z x) vs) ▸ lasts (tag_z x) vs
node (suc (suc t)) x vs = tupled (firsts (tag_z x) vs) ▸ lasts (tag_z x) vs

unfoldable pub forest : List ℤ → Values
unfolding firsts lasts
forest [] = empty
forest (t ∷ []) = empty
forest (t ∷ x ∷ l) = node (tag_z t) x (forest l)

abbrev pub head_of : Values → Value
head_of empty = int (pos 0)
head_of (v ▸ vs) = v

-- The value whose tag stands at an index, and its elements or parts.
unfoldable pub value_at : List ℤ → ℕ → Value
unfolding forest
value_at s at = head_of (forest (drop at s))

unfoldable pub elements : Value → Values
elements (int x) = empty
elements (collection vs) = vs
elements (tupled vs) = vs

-- How many elements or parts it has, by its two words.
abbrev pub count_by : ℕ → ℕ → ℕ
count_by zero n = 0
count_by (suc t) n = n

unfoldable pub count_at : List ℤ → ℕ → ℕ
count_at s at = count_by (tag_at s at) (tag_at s (at + 1))

-- How many of them may be marked: the elements of a collection. An integer and a tuple have no marks.
abbrev pub marks_by : ℕ → ℕ → ℕ
marks_by zero n = 0
marks_by (suc zero) n = n
marks_by (suc (suc t)) n = 0

unfoldable pub marks_at : List ℤ → ℕ → ℕ
marks_at s at = marks_by (tag_at s at) (tag_at s (at + 1))

-- An index at which a value's tag stands: each value has a tag and one word more, before its elements or parts.
pub record Tag (s : List ℤ) (at : ℕ) : Type 0 where
  pub even : at % 2 ≡ 0
  pub inside : at < length s

-- A target's words are those of values, one after the other; a collection has at most 64 elements, and a tuple no more parts; collections and tuples
-- stand at most 8 deep; at most 1,024 words.
pub record Target (s : List ℤ) : Type 0 where
  pub whole : s ≡ words_all (forest s)
  pub small : (at : ℕ) → Tag s at → count_at s at ≤ 64
  pub deep : (at : ℕ) → Tag s at → deepest (value_at s at) ≤ 8
  pub short : length s ≤ 1024

-- k values stand one after the other from e on, and where they end.
pub record Standing (s : List ℤ) (k e : ℕ) : Type 0 where
  pub even : e % 2 ≡ 0
  pub some : k ≤ count (forest (drop e s))

unfoldable pub hops : List ℤ → ℕ → ℕ → ℕ
unfolding forest firsts
hops s k e = e + size_all (firsts k (forest (drop e s)))

-- The index of the tag of element k, or of part k: after the k before it.
unfoldable pub element_at : List ℤ → ℕ → ℕ → ℕ
unfolding hops
element_at s at k = hops s k (at + 2)
