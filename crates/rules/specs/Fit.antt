-- Document 01, section 2, Fit of pattern to matcher and Fit of target to matcher. Each walk knows the index of the tag where it stands.
use Rattle.std.specs.Prelude.{ℕ, zero, suc, ◌+◌, Bool, true, false, ◌&&◌, ◌||◌, List, [], ◌∷◌, ◌++◌, eqb, ℤ, pos}
use Rattle.std.proofs.Math.Option.{Option, none, some}
use Rattle.rules.specs.Numbers.{same}
use Rattle.rules.specs.Forms.{Matcher, something, integer, list, multiset, tuple_of, Matchers, no_matchers, ◌▸ᵐ◌, countᵐ}
use Rattle.rules.specs.Forms.{Pattern, wildcard, variable, constant, value, nil, cons, join, tuple, both, either, never, Patterns, no_patterns, ◌▸ᵖ◌, countᵖ, span}
use Rattle.rules.specs.Forms.{Value, int, collection, tupled, Values, empty, ◌▸◌, count, size}
use Rattle.rules.specs.Reading.{Verdict, ok, fault, ◌then◌, entry}
use Rattle.rules.specs.Variables.{demand}
use Rattle.rules.specs.Dialects.{Dialect, every_place, first_places}

-- ---- Pattern and matcher.

-- And, or, not: "each under any matcher".
unfoldable pub anywhere : List ℕ
anywhere = 8 ∷ 9 ∷ 10 ∷ []

-- The tags that a matcher takes.
unfoldable pub tags_of : Matcher → List ℕ
unfolding anywhere
tags_of something = 0 ∷ 1 ∷ anywhere
tags_of integer = 0 ∷ 1 ∷ 2 ∷ 3 ∷ anywhere
tags_of (list m) = 0 ∷ 1 ∷ 3 ∷ 4 ∷ 5 ∷ 6 ∷ anywhere
tags_of (multiset m) = 0 ∷ 1 ∷ 3 ∷ 4 ∷ 5 ∷ anywhere
tags_of (tuple_of ms) = 0 ∷ 1 ∷ 3 ∷ 7 ∷ anywhere

unfoldable pub among : ℕ → List ℕ → Bool
among t [] = false
among t (n ∷ ns) = eqb t n || among t ns

unfoldable pub takes : Matcher → ℕ → Bool
unfolding tags_of among
takes m t = among t (tags_of m)

-- "Under list M or multiset M, cons puts its first part under M." (No cons stands under another matcher.)
unfoldable pub element : Matcher → Matcher
element something = something
element integer = integer
element (list m) = m
element (multiset m) = m
element (tuple_of ms) = tuple_of ms

-- A tuple's parts stand under the tuple's matchers. (No tuple stands under another matcher.)
unfoldable pub members : Matcher → Matchers
members something = no_matchers
members integer = no_matchers
members (list m) = no_matchers
members (multiset m) = no_matchers
members (tuple_of ms) = ms

-- Something does not occur in it.
unfoldable mutual
  pub without_something : Matcher → Bool
  without_something something = false
  without_something integer = true
  without_something (list m) = without_something m
  without_something (multiset m) = without_something m
  without_something (tuple_of ms) = all_without_something ms

  pub all_without_something : Matchers → Bool
  all_without_something no_matchers = true
  all_without_something (m ▸ᵐ ms) = without_something m && all_without_something ms

unfoldable pub is_integer : Matcher → Bool
is_integer something = false
is_integer integer = true
is_integer (list m) = false
is_integer (multiset m) = false
is_integer (tuple_of ms) = false

unfoldable pub is_something : Matcher → Bool
is_something something = true
is_something integer = false
is_something (list m) = false
is_something (multiset m) = false
is_something (tuple_of ms) = false

-- What a list or a multiset is of, and what a tuple is of, put to a test.
unfoldable pub of_collection : (Matcher → Bool) → Matcher → Bool
of_collection f something = false
of_collection f integer = false
of_collection f (list m) = f m
of_collection f (multiset m) = f m
of_collection f (tuple_of ms) = false

unfoldable pub of_tuple : (Matchers → Bool) → Matcher → Bool
of_tuple f something = false
of_tuple f integer = false
of_tuple f (list m) = false
of_tuple f (multiset m) = false
of_tuple f (tuple_of ms) = f ms

-- "Another matcher of the same shape, list and multiset counting alike."
unfoldable mutual
  unfolding is_something is_integer of_collection of_tuple

  pub same_shape : Matcher → Matcher → Bool
  same_shape something k = is_something k
  same_shape integer k = is_integer k
  same_shape (list m) k = of_collection (λ l. same_shape m l) k
  same_shape (multiset m) k = of_collection (λ l. same_shape m l) k
  same_shape (tuple_of ms) k = of_tuple (λ ls. same_shapes ms ls) k

  pub same_shapes : Matchers → Matchers → Bool
  same_shapes no_matchers no_matchers = true
  same_shapes no_matchers (k ▸ᵐ ks) = false
  same_shapes (m ▸ᵐ ms) no_matchers = false
  same_shapes (m ▸ᵐ ms) (k ▸ᵐ ks) = same_shape m k && same_shapes ms ks

-- The variable stands under a matcher of the same shape.
unfoldable pub alike : Matcher → Option Matcher → Bool
unfolding same_shape
alike m none = false
alike m (some k) = same_shape m k

-- "A tag 3 needs a matcher in which something does not occur", it "may name a variable bound under another matcher of the same shape", "and c must
-- be 0 unless the matcher is integer." `ms` are the matchers of the variables to the left, in number order.
unfoldable pub comparable : ℤ → ℤ → Matcher → List Matcher → Bool
unfolding without_something alike entry is_integer same
comparable v c m ms = without_something m && alike m (entry ms v) && (is_integer m || same c (pos 0))

-- "In dialect 2 a cons under a multiset whose element matcher has something in it is 4": its elements could not be told apart.
unfoldable pub told_apart : Dialect → Matcher → Bool
unfolding without_something
told_apart every_place m = true
told_apart first_places something = true
told_apart first_places integer = true
told_apart first_places (list m) = true
told_apart first_places (multiset m) = without_something m
told_apart first_places (tuple_of ms) = true

-- What is found are the matchers of the variables that stand to the left of what follows. "Unequal widths are 4", at the tag.
unfoldable mutual
  unfolding ◌then◌ demand takes told_apart comparable element members countᵐ countᵖ span

  pub fits_in : Dialect → Pattern → Matcher → (at : ℕ) → List Matcher → Verdict (List Matcher)
  fits_in dialect wildcard m at ms = demand (takes m 0) at ms
  fits_in dialect (variable v) m at ms = demand (takes m 1) at (ms ++ (m ∷ []))
  fits_in dialect (constant c) m at ms = demand (takes m 2) at ms
  fits_in dialect (value v c) m at ms = demand (takes m 3 && comparable v c m ms) at ms
  fits_in dialect nil m at ms = demand (takes m 4) at ms
  fits_in dialect (cons p q) m at ms =
      demand (told_apart dialect m && takes m 5) at ms then λ ks. fits_in dialect p (element m) (at + 1) ks then λ ls. fits_in dialect q m (at + 1 + span p) ls
  fits_in dialect (join p q) m at ms =
      demand (takes m 6) at ms then λ ks. fits_in dialect p m (at + 1) ks then λ ls. fits_in dialect q m (at + 1 + span p) ls
  fits_in dialect (tuple ps) m at ms = demand (takes m 7 && eqb (countᵖ ps) (countᵐ (members m))) at ms then λ ks. fits_parts_in dialect ps (members m) (at + 2) ks
  fits_in dialect (both p q) m at ms =
      demand (takes m 8) at ms then λ ks. fits_in dialect p m (at + 1) ks then λ ls. fits_in dialect q m (at + 1 + span p) ls
  fits_in dialect (either p q) m at ms =
      demand (takes m 9) at ms then λ ks. fits_in dialect p m (at + 1) ks then λ ls. fits_in dialect q m (at + 1 + span p) ls
  fits_in dialect (never p) m at ms = demand (takes m 10) at ms then λ ks. fits_in dialect p m (at + 1) ks

  -- Each part under its matcher.
  pub fits_parts_in : Dialect → Patterns → Matchers → (at : ℕ) → List Matcher → Verdict (List Matcher)
  fits_parts_in dialect no_patterns ms at ks = ok ks
  fits_parts_in dialect (p ▸ᵖ ps) no_matchers at ks = ok ks
  fits_parts_in dialect (p ▸ᵖ ps) (m ▸ᵐ ms) at ks = fits_in dialect p m at ks then λ ls. fits_parts_in dialect ps ms (at + span p) ls

-- Dialect 1.
abbrev pub fits : Pattern → Matcher → (at : ℕ) → List Matcher → Verdict (List Matcher)
fits p m at ms = fits_in every_place p m at ms

abbrev pub fits_parts : Patterns → Matchers → (at : ℕ) → List Matcher → Verdict (List Matcher)
fits_parts ps ms at ks = fits_parts_in every_place ps ms at ks

-- ---- Target and matcher.

-- Every element, from left to right.
unfoldable pub fits_all : (Value → ℕ → Verdict (Unit {0})) → Values → (at : ℕ) → Verdict (Unit {0})
unfolding ◌then◌ size
fits_all f empty at = ok tt
fits_all f (v ▸ vs) at = f v at then λ _. fits_all f vs (at + size v)

-- "Something fits every value, integer an integer, list M and multiset M a collection whose every element fits M", a tuple a tuple of the same
-- width whose every part fits its matcher.
unfoldable mutual
  unfolding ◌then◌ demand fits_all count countᵐ size

  pub fits_value : Matcher → Value → (at : ℕ) → Verdict (Unit {0})
  fits_value something v at = ok tt
  fits_value integer (int x) at = ok tt
  fits_value integer (collection vs) at = fault at
  fits_value integer (tupled vs) at = fault at
  fits_value (list m) (int x) at = fault at
  fits_value (list m) (collection vs) at = fits_all (λ v i. fits_value m v i) vs (at + 2)
  fits_value (list m) (tupled vs) at = fault at
  fits_value (multiset m) (int x) at = fault at
  fits_value (multiset m) (collection vs) at = fits_all (λ v i. fits_value m v i) vs (at + 2)
  fits_value (multiset m) (tupled vs) at = fault at
  fits_value (tuple_of ms) (int x) at = fault at
  fits_value (tuple_of ms) (collection vs) at = fault at
  fits_value (tuple_of ms) (tupled vs) at = demand {A = Unit {0}} (eqb (countᵐ ms) (count vs)) at tt then λ _. fits_each ms vs (at + 2)

  pub fits_each : Matchers → Values → (at : ℕ) → Verdict (Unit {0})
  fits_each no_matchers vs at = ok tt
  fits_each (m ▸ᵐ ms) empty at = ok tt
  fits_each (m ▸ᵐ ms) (v ▸ vs) at = fits_value m v at then λ _. fits_each ms vs (at + size v)
