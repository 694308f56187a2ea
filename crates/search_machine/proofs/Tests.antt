-- The tests on held values are the definitions' tests on what is held. Assumes nothing.
use Prim.Native.Nat.{ℕ, ◌+◌, ◌/◌, ◌%◌, ◌^◌, ◌<◌}
use mathlib.Core.Path.{◌≡◌, refl, sym, ◌∙◌, ap, ap₂}
use mathlib.Core.Bool.{Bool, true, false}
use mathlib.Core.Option.{Option, none, some}
use mathlib.Core.List.{List, [], ◌∷◌}
use native.Mathlib.Omega.{arith}
use borrow.Author.Tests.{eq-eqb, ne_eqb, eqb-true, eqb-false}
use lib.Dec.{eqb}
use lib.ListN.{get_or}
use lib.IntN.{ℤ, pos, negsuc}
use Rattle.rules.specs.Numbers.{same, plus}
use Rattle.rules.specs.Forms.{Matcher, something, integer, list, multiset, tuple_of, Matchers, Value, int, collection, tupled, words}
use Rattle.rules.specs.Origins.{Valueᵒ, plain, origin, marks}
use Rattle.rules.specs.Rows.{Form, as_words, as_origins, told, bits}
use Rattle.rules.specs.Fit.{takes, tags_of, among, without_something, is_integer, of_collection, of_tuple, same_shape}
use Rattle.rules.specs.Equality.{equal, raised, equal_to, is_constant, is_empty}
use Rattle.words.specs.Words.{tag_at, same_to}
use Rattle.words.proofs.marks.Marked.{empty_marked}
use Rattle.value_places.specs.Places.{value_at, elements, Target}
use Rattle.value_places.specs.Held.{left}
use Rattle.value_rows.specs.Row.{holds, origin_of}
use Rattle.value_equality.specs.Equality.{is_sum}
use Rattle.value_rows.specs.declared.Binding.{Binding}
use Rattle.value_places.proofs.Elements.{tag_of}
use Rattle.value_equality.proofs.ByTag.{wants, tag_held}
use Rattle.value_places.proofs.Origins.{plain_origin, origin_index, origin_marks}
use Rattle.value_places.proofs.Held.{held_int, held_collection, held_some}
use Rattle.search_machine.specs.Fitting.{Fitting}
use Rattle.search_machine.specs.Operations.{Is, is_none, is_number, is_same}

clash : {A : Type 0} → ◌≡◌ {A = ℕ} 0 1 → A
clash z = absurd (omega arith)

-- What fits a matcher has the tag that the matcher wants.
fits_tag : (m : Matcher) (v : Value) → (wants m ≡ 3 → ⊥) → Fitting m v → tag_of v ≡ wants m
unfolding Fitting
fits_tag something v n f = absurd (n refl)
fits_tag integer (int x) n f = refl
fits_tag integer (collection vs) n f = absurd f
fits_tag integer (tupled vs) n f = absurd f
fits_tag (list m) (int x) n f = absurd f
fits_tag (list m) (collection vs) n f = refl
fits_tag (list m) (tupled vs) n f = absurd f
fits_tag (multiset m) (int x) n f = absurd f
fits_tag (multiset m) (collection vs) n f = refl
fits_tag (multiset m) (tupled vs) n f = absurd f
fits_tag (tuple_of ms) (int x) n f = absurd f
fits_tag (tuple_of ms) (collection vs) n f = absurd f
fits_tag (tuple_of ms) (tupled vs) n f = refl

-- Nil stands under a list or a multiset.
nil_wants : (m : Matcher) → takes m 4 ≡ true → wants m ≡ 1
unfolding takes tags_of among
nil_wants something t = clash cc
nil_wants integer t = clash cc
nil_wants (list m) t = refl
nil_wants (multiset m) t = refl
nil_wants (tuple_of ms) t = clash cc

-- Matchers of the same shape want the same tag.
integer_wants : (k : Matcher) → is_integer k ≡ true → wants k ≡ 0
unfolding is_integer
integer_wants something t = clash cc
integer_wants integer t = refl
integer_wants (list m) t = clash cc
integer_wants (multiset m) t = clash cc
integer_wants (tuple_of ms) t = clash cc

collection_wants : (f : Matcher → Bool) (k : Matcher) → of_collection f k ≡ true → wants k ≡ 1
unfolding of_collection
collection_wants f something t = clash cc
collection_wants f integer t = clash cc
collection_wants f (list m) t = refl
collection_wants f (multiset m) t = refl
collection_wants f (tuple_of ms) t = clash cc

tuple_wants : (f : Matchers → Bool) (k : Matcher) → of_tuple f k ≡ true → wants k ≡ 2
unfolding of_tuple
tuple_wants f something t = clash cc
tuple_wants f integer t = clash cc
tuple_wants f (list m) t = clash cc
tuple_wants f (multiset m) t = clash cc
tuple_wants f (tuple_of ms) t = refl

-- To a collection and to a tuple nothing is added.
raised_same : (c : ℤ) (w : Value) → (tag_of w ≡ 0 → ⊥) → raised c w ≡ some w
unfolding raised
raised_same c (int x) n = absurd (n refl)
raised_same c (collection vs) n = refl
raised_same c (tupled vs) n = refl

-- To an integer c is added, and a sum that is none equals nothing.
raised_sum : (x c y : ℤ) → same_to (plus x c) y ≡ equal_to integer (raised c (int x)) (int y)
unfolding same_to raised equal_to equal
raised_sum x c y = go (plus x c)
  where
    go : (o : Option ℤ) → same_to o y ≡ equal_to integer (elim o as (λ _. Option Value) [ none ↦ none | some z ↦ some (int z) ]) (int y)
    go none = refl
    go (some z) = refl

eqb_comm : (a b : ℕ) → eqb a b ≡ eqb b a
eqb_comm a b = go (eqb a b) refl
  where
    go : (t : Bool) → eqb a b ≡ t → t ≡ eqb b a
    go true e = sym (eq-eqb b a (sym (eqb-true a b e)))
    go false e = sym (ne_eqb b a (λ z. eqb-false a b e (sym z)))

same_comm : (x y : ℤ) → same x y ≡ same y x
unfolding same
same_comm (pos a) (pos b) = eqb_comm a b
same_comm (pos a) (negsuc b) = refl
same_comm (negsuc a) (pos b) = refl
same_comm (negsuc a) (negsuc b) = eqb_comm a b

module _ (s : List ℤ) (g : Target s) where
  -- What is held is the value without its origin.
  pub is_plain : (m : Matcher) (h : Binding) (v : Valueᵒ) → Is s m h v → holds s h ≡ plain v
  unfolding holds
  is_plain m h v i = sym (plain_origin s h.at h.marks i.place) ∙ ap plain i.is

  value_tag : (m : Matcher) (h : Binding) (v : Valueᵒ) (t : ℕ) → wants m ≡ t → t < 3 → Is s m h v → tag_of (plain v) ≡ t
  value_tag m h v t e l i = fits_tag m (plain v) (λ z. omega arith) i.fits ∙ e

  pub is_tag : (m : Matcher) (h : Binding) (v : Valueᵒ) (t : ℕ) → wants m ≡ t → t < 3 → Is s m h v → tag_at s h.at ≡ t
  unfolding holds
  is_tag m h v t e l i = tag_held s h.at h.marks g i.held ∙ ap tag_of (is_plain m h v i) ∙ value_tag m h v t e l i

  -- Under a list or multiset a collection is held.
  pub is_many : (m : Matcher) (h : Binding) (v : Valueᵒ) → takes m 4 ≡ true → Is s m h v → tag_at s h.at ≡ 1
  is_many m h v t i = is_tag m h v 1 (nil_wants m t) (omega arith) i

  pub is_collection : (m : Matcher) (h : Binding) (v : Valueᵒ) → takes m 4 ≡ true → Is s m h v → plain v ≡ collection (left s h.at h.marks)
  unfolding holds
  is_collection m h v t i = sym (is_plain m h v i) ∙ held_collection s h.at h.marks g i.held.tag (is_many m h v t i)

  -- Under integer an integer.
  pub is_int : (m : Matcher) (h : Binding) (v : Valueᵒ) → wants m ≡ 0 → Is s m h v → plain v ≡ int (get_or s (h.at + 1) (pos 0))
  unfolding holds
  is_int m h v e i = sym (is_plain m h v i) ∙ held_int s h.at h.marks g i.held.tag (is_tag m h v 0 e (omega arith) i)

  pub none_ok : (m : Matcher) (h : Binding) (v : Valueᵒ) → takes m 4 ≡ true → Is s m h v → is_none h ≡ is_empty (plain v)
  unfolding is_none left
  none_ok m h v t i = sym (ap is_empty (is_collection m h v t i) ∙ empty_marked (elements (value_at s h.at)) h.marks (held_some s h.at h.marks g i.held))

  pub number_ok : (c : ℤ) (h : Binding) (v : Valueᵒ) → Is s integer h v → is_number s c h ≡ is_constant c (plain v)
  unfolding is_number is_constant equal
  number_ok c h v i = rw (is_int integer h v refl i) (same_comm (get_or s (h.at + 1) (pos 0)) c)

  -- What is not an integer is compared as it is held.
  whole_ok : (m k : Matcher) (c : ℤ) (a h : Binding) (w v : Valueᵒ) (t : ℕ) → wants k ≡ t → 0 < t → t < 3 → Is s k a w → Is s m h v
      → equal m (holds s a) (holds s h) ≡ equal_to m (raised c (plain w)) (plain v)
  unfolding equal_to
  whole_ok m k c a h w v t e l n i j = rw (is_plain k a w i, is_plain m h v j, raised_same c (plain w) (λ z. omega (arith, value_tag k a w t e n i)))

  pub same_ok : (m k : Matcher) (c : ℤ) (a h : Binding) (w v : Valueᵒ) → without_something m ≡ true → same_shape m k ≡ true → Is s k a w → Is s m h v
      → is_same s m c a h ≡ equal_to m (raised c (plain w)) (plain v)
  unfolding is_same is_sum without_something same_shape
  same_ok something k c a h w v t x i j = clash cc
  same_ok integer k c a h w v t x i j = rw (is_int k a w (integer_wants k x) i, is_int integer h v refl j) (raised_sum _ c _)
  same_ok (list m) k c a h w v t x i j = whole_ok (list m) k c a h w v 1 (collection_wants _ k x) (omega arith) (omega arith) i j
  same_ok (multiset m) k c a h w v t x i j = whole_ok (multiset m) k c a h w v 1 (collection_wants _ k x) (omega arith) (omega arith) i j
  same_ok (tuple_of ms) k c a h w v t x i j = whole_ok (tuple_of ms) k c a h w v 2 (tuple_wants _ k x) (omega arith) (omega arith) i j

  -- In either form a row tells the same of what is held, whatever its place in its collection is.
  index_is : (m : Matcher) (h : Binding) (v : Valueᵒ) → Is s m h v → h.at ≡ (origin v).at
  index_is m h v i = sym (origin_index s h.at h.marks i.place) ∙ ap (λ (u : Valueᵒ). (origin u).at) i.is

  marks_are : (m : Matcher) (h : Binding) (v : Valueᵒ) → Is s m h v → h.marks ≡ marks v
  marks_are m h v i = sym (origin_marks s h.at h.marks i.place g i.held) ∙ ap marks i.is

  pub words_ok : (form : Form) (m : Matcher) (h : Binding) (v : Valueᵒ) → Is s m h v → told form (origin_of s h) ≡ told form v
  unfolding told origin_of
  words_ok as_words m h v i = ap words (plain_origin s h.at h.marks 0 ∙ sym (plain_origin s h.at h.marks i.place) ∙ ap plain i.is)
  words_ok as_origins m h v i = ap₂ (λ (a n : ℕ). pos a ∷ bits (n % 2 ^ 32) ∷ bits (n / 2 ^ 32) ∷ [])
      (origin_index s h.at h.marks 0 ∙ index_is m h v i) (origin_marks s h.at h.marks 0 g i.held ∙ marks_are m h v i)
