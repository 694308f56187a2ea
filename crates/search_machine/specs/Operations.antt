-- The machine's operations on held values, as the code does them: choices are marks too. The choices left at a cons are places; at a join the next front.
use Rattle.std.specs.Prelude.{ℕ, ◌+◌, ◌-◌, ◌≤◌, ◌<◌, ◌^◌, ◌≡◌, Bool, List, map, get_or, eqb, ℤ, pos}
use Rattle.std.proofs.Math.Option.{Option, none, some}
use Rattle.std.specs.Int.Count.{count_trailing_zeros}
use Rattle.rules.specs.Numbers.{same}
use Rattle.rules.specs.Forms.{Matcher, something, integer, list, multiset, tuple_of}
use Rattle.rules.specs.Origins.{Origin, Valueᵒ, collectionᵒ, Valuesᵒ, plain}
use Rattle.rules.specs.Equality.{equal}
use Rattle.rules.specs.Search.{Halves}
use Rattle.rules.specs.Dialects.{Dialect, every_place, first_places}
use Rattle.words.specs.Words.{tag_at}
use Rattle.words.specs.Marks.{clear, positions, raise, Split, splits}
use Rattle.value_places.specs.Places.{count_at, element_at, value_at, elements}
use Rattle.value_places.specs.Held.{Held, whole_at}
use Rattle.value_places.specs.Origins.{nthᵒ, markedᵒ, origin_at, elementsᵒ}
use Rattle.value_firsts.specs.Firsts.{firsts_of}
use Rattle.value_rows.specs.Row.{holds}
use Rattle.value_equality.specs.Equality.{is_sum}
use Rattle.value_rows.specs.declared.Binding.{Binding}
use Rattle.program_rules.specs.Points.{Kind, list_cons, multiset_cons, joins}
use Rattle.search_machine.specs.Held.{Picked}
use Rattle.search_atom.specs.Leaves.{when, none_of, longer_of}
use Rattle.search_machine.specs.Fitting.{Fitting, Fine}

abbrev pub binding : ℕ → ℕ → Binding
binding at m = record { at = at; marks = m }

-- What is held in h is v, with its origin, and v fits m. (The place of v in its collection is not held.)
pub record Is (s : List ℤ) (m : Matcher) (h : Binding) (v : Valueᵒ) : Type 0 where
  pub held : Held s h.at h.marks
  pub place : ℕ
  pub is : origin_at s h.at h.marks place ≡ v
  pub fits : Fitting m (plain v)

-- ---- Tests.

unfoldable pub is_none : Binding → Bool
is_none h = eqb h.marks 0

unfoldable pub is_number : List ℤ → ℤ → Binding → Bool
is_number s c h = same (get_or s (h.at + 1) (pos 0)) c

unfoldable pub is_same : List ℤ → Matcher → ℤ → Binding → Binding → Bool
unfolding is_sum holds
is_same s something c g h = equal something (holds s g) (holds s h)
is_same s integer c g h = is_sum s g.at c h.at
is_same s (list m) c g h = equal (list m) (holds s g) (holds s h)
is_same s (multiset m) c g h = equal (multiset m) (holds s g) (holds s h)
is_same s (tuple_of ms) c g h = equal (tuple_of ms) (holds s g) (holds s h)

-- ---- Tuples.

unfoldable pub is_wide : List ℤ → ℕ → Binding → Bool
unfolding count_at
is_wide s k h = eqb (count_at s h.at) k

-- Part i, whole.
unfoldable pub part_of : List ℤ → Binding → ℕ → Binding
unfolding element_at whole_at
part_of s h i = binding (element_at s h.at i) (whole_at s (element_at s h.at i))

-- ---- Choices.

-- The number of the instruction.
unfoldable pub code : Kind → ℕ
code (list_cons m) = 8
code (multiset_cons m) = 9
code (joins m) = 10

-- Marks, if there are any.
unfoldable pub some_of : ℕ → Option ℕ
unfolding when
some_of c = when (eqb c 0) none (some c)

unfoldable pub opens_by : Bool → ℕ → Option ℕ
unfolding when
opens_by b c = when b none (some c)

-- The places that a cons under a multiset chooses from: in dialect 2 the first ones.
unfoldable pub choices_by : Dialect → List ℤ → Kind → Binding → ℕ
unfolding firsts_of equal value_at elements
choices_by every_place s k h = h.marks
choices_by first_places s (list_cons m) h = h.marks
choices_by first_places s (multiset_cons m) h = firsts_of (equal m) (elements (value_at s h.at)) h.marks
choices_by first_places s (joins m) h = h.marks

-- The choices that a frame is opened with; c: those of a cons under a multiset.
unfoldable pub opens_with : (o m c : ℕ) → ℕ
unfolding when
opens_with o m c = when (eqb o 10) 0 (when (eqb o 8) (2 ^ count_trailing_zeros 64 m) c)

unfoldable pub opens : Dialect → List ℤ → Kind → Binding → Option ℕ
unfolding code opens_by none_of opens_with choices_by
opens dialect s k h = opens_by (none_of (code k) h.marks) (opens_with (code k) h.marks (choices_by dialect s k h))

-- Place k is chosen of the choices c.
unfoldable pub take_place : List ℤ → Binding → ℕ → ℕ → Picked Binding ℕ
unfolding some_of part_of
take_place s h c k = record {
  one = part_of s h k;
  two = binding h.at (clear k h.marks);
  more = some_of (clear k c);
}

-- The front f is chosen.
unfoldable pub take_front : Binding → ℕ → Picked Binding ℕ
unfolding some_of longer_of
take_front h f = record {
  one = binding h.at f;
  two = binding h.at (h.marks - f);
  more = some_of (longer_of f (h.marks - f));
}

unfoldable pub pick : List ℤ → Kind → Binding → ℕ → Picked Binding ℕ
unfolding take_place take_front
pick s (list_cons m) h c = take_place s h c (count_trailing_zeros 64 c)
pick s (multiset_cons m) h c = take_place s h c (count_trailing_zeros 64 c)
pick s (joins m) h f = take_front h f

-- ---- The choices that are left.

abbrev pub origin_by : Binding → ℕ → Origin
origin_by h place = record { at = h.at; place = place }

-- The halves of what marks m hold of a collection, where a cons takes place k; and where a join parts the marks.
unfoldable pub choice_at : Origin → Valuesᵒ → ℕ → ℕ → Halves
unfolding nthᵒ markedᵒ
choice_at o vs m k = record { first = nthᵒ vs k; second = collectionᵒ o (markedᵒ vs (clear k m)) }

unfoldable pub parts_at : Origin → Valuesᵒ → Split → Halves
unfolding markedᵒ
parts_at o vs s = record { first = collectionᵒ o (markedᵒ vs s.front); second = collectionᵒ o (markedᵒ vs s.back) }

abbrev pub elements_at : List ℤ → Binding → Valuesᵒ
elements_at s h = elementsᵒ s h.at

pub record LeftPlaces (s : List ℤ) (k : Kind) (h : Binding) (c : ℕ) (hs : List Halves) : Type 0 where
  pub place : ℕ
  pub held : Held s h.at h.marks
  pub many : tag_at s h.at ≡ 1
  pub some : 0 < c
  pub choices : Held s h.at c
  pub are : hs ≡ map (choice_at (origin_by h place) (elements_at s h) h.marks) (positions 64 c)
  pub fine : Fine k hs

pub record LeftFronts (s : List ℤ) (k : Kind) (h : Binding) (f : ℕ) (hs : List Halves) : Type 0 where
  pub place : ℕ
  pub held : Held s h.at h.marks
  pub many : tag_at s h.at ≡ 1
  pub within : f ≤ h.marks
  pub are : hs ≡ map (parts_at (origin_by h place) (elements_at s h)) (map (raise f) (splits 64 (h.marks - f)))
  pub fine : Fine k hs

unfoldable pub Left : List ℤ → Kind → Binding → ℕ → List Halves → Type 0
Left s (list_cons m) h c hs = LeftPlaces s (list_cons m) h c hs
Left s (multiset_cons m) h c hs = LeftPlaces s (multiset_cons m) h c hs
Left s (joins m) h f hs = LeftFronts s (joins m) h f hs
