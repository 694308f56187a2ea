-- What matchers and patterns write out (values: `words` of Forms), and what limits and bounds speak of.
use Rattle.std.specs.Prelude.{ℕ, suc, ◌+◌, ◌≤◌, max, ◌≡◌, refl, List, [], ◌∷◌, ◌++◌, length, ℤ, pos}
use Rattle.std.proofs.Common.{arith, length-append}
use Rattle.rules.specs.Forms.{Matcher, something, integer, list, multiset, tuple_of, Matchers, no_matchers, ◌▸ᵐ◌, countᵐ}
use Rattle.rules.specs.Forms.{Pattern, wildcard, variable, constant, value, nil, cons, join, tuple, both, either, never, Patterns, no_patterns, ◌▸ᵖ◌, countᵖ, span, span_all}
use Rattle.rules.specs.Forms.{Value, int, collection, tupled, Values, empty, ◌▸◌, count, words, words_all, size, size_all}

unfoldable mutual
  unfolding countᵐ

  pub matcher_words : Matcher → List ℤ
  matcher_words something = pos 0 ∷ []
  matcher_words integer = pos 1 ∷ []
  matcher_words (list m) = pos 2 ∷ matcher_words m
  matcher_words (multiset m) = pos 3 ∷ matcher_words m
  matcher_words (tuple_of ms) = pos 4 ∷ pos (countᵐ ms) ∷ matcher_words_all ms

  pub matcher_words_all : Matchers → List ℤ
  matcher_words_all no_matchers = []
  matcher_words_all (m ▸ᵐ ms) = matcher_words m ++ matcher_words_all ms

unfoldable mutual
  unfolding countᵖ

  pub pattern_words : Pattern → List ℤ
  pattern_words wildcard = pos 0 ∷ []
  pattern_words (variable v) = pos 1 ∷ v ∷ []
  pattern_words (constant c) = pos 2 ∷ c ∷ []
  pattern_words (value v c) = pos 3 ∷ v ∷ c ∷ []
  pattern_words nil = pos 4 ∷ []
  pattern_words (cons p q) = pos 5 ∷ (pattern_words p ++ pattern_words q)
  pattern_words (join p q) = pos 6 ∷ (pattern_words p ++ pattern_words q)
  pattern_words (tuple ps) = pos 7 ∷ pos (countᵖ ps) ∷ pattern_words_all ps
  pattern_words (both p q) = pos 8 ∷ (pattern_words p ++ pattern_words q)
  pattern_words (either p q) = pos 9 ∷ (pattern_words p ++ pattern_words q)
  pattern_words (never p) = pos 10 ∷ pattern_words p

  pub pattern_words_all : Patterns → List ℤ
  pattern_words_all no_patterns = []
  pattern_words_all (p ▸ᵖ ps) = pattern_words p ++ pattern_words_all ps

-- How many tags 2, 3 or 4 stand one inside the other, along the path of a matcher that has most.
unfoldable mutual
  pub levels : Matcher → ℕ
  levels something = 0
  levels integer = 0
  levels (list m) = suc (levels m)
  levels (multiset m) = suc (levels m)
  levels (tuple_of ms) = suc (levels_all ms)

  pub levels_all : Matchers → ℕ
  levels_all no_matchers = 0
  levels_all (m ▸ᵐ ms) = max (levels m) (levels_all ms)

-- How many variable tags a pattern has.
unfoldable mutual
  pub variable_tags : Pattern → ℕ
  variable_tags wildcard = 0
  variable_tags (variable v) = 1
  variable_tags (constant c) = 0
  variable_tags (value v c) = 0
  variable_tags nil = 0
  variable_tags (cons p q) = variable_tags p + variable_tags q
  variable_tags (join p q) = variable_tags p + variable_tags q
  variable_tags (tuple ps) = variable_tags_all ps
  variable_tags (both p q) = variable_tags p + variable_tags q
  variable_tags (either p q) = variable_tags p + variable_tags q
  variable_tags (never p) = variable_tags p

  pub variable_tags_all : Patterns → ℕ
  variable_tags_all no_patterns = 0
  variable_tags_all (p ▸ᵖ ps) = variable_tags p + variable_tags_all ps

-- How deep collections and tuples stand inside one another, the outermost having depth 1.
unfoldable mutual
  pub deepest : Value → ℕ
  deepest (int x) = 0
  deepest (collection vs) = suc (deepest_of vs)
  deepest (tupled vs) = suc (deepest_of vs)

  pub deepest_of : Values → ℕ
  deepest_of empty = 0
  deepest_of (v ▸ vs) = max (deepest v) (deepest_of vs)

-- The most elements that a collection of a value has, nested ones and those inside a tuple too. A tuple's width is no collection's size.
unfoldable mutual
  unfolding count

  pub largest : Value → ℕ
  largest (int x) = 0
  largest (collection vs) = max (count vs) (largest_of vs)
  largest (tupled vs) = largest_of vs

  pub largest_of : Values → ℕ
  largest_of empty = 0
  largest_of (v ▸ vs) = max (largest v) (largest_of vs)

pub pair_largest : (x y : ℤ) → largest (tupled (int x ▸ int y ▸ empty)) ≡ 0
unfolding largest
pair_largest x y = refl

-- ---- "k from 2 to 4", at every tuple of a matcher, of a pattern and of a value.

unfoldable pub IsWidth : ℕ → Type 0
IsWidth k = (2 ≤ k) × (k ≤ 4)

unfoldable mutual
  unfolding IsWidth countᵐ

  pub Widthsᵐ : Matcher → Type 0
  Widthsᵐ something = Unit {0}
  Widthsᵐ integer = Unit {0}
  Widthsᵐ (list m) = Widthsᵐ m
  Widthsᵐ (multiset m) = Widthsᵐ m
  Widthsᵐ (tuple_of ms) = IsWidth (countᵐ ms) × WidthsAllᵐ ms

  pub WidthsAllᵐ : Matchers → Type 0
  WidthsAllᵐ no_matchers = Unit {0}
  WidthsAllᵐ (m ▸ᵐ ms) = Widthsᵐ m × WidthsAllᵐ ms

unfoldable mutual
  unfolding IsWidth countᵖ

  pub Widthsᵖ : Pattern → Type 0
  Widthsᵖ wildcard = Unit {0}
  Widthsᵖ (variable v) = Unit {0}
  Widthsᵖ (constant c) = Unit {0}
  Widthsᵖ (value v c) = Unit {0}
  Widthsᵖ nil = Unit {0}
  Widthsᵖ (cons p q) = Widthsᵖ p × Widthsᵖ q
  Widthsᵖ (join p q) = Widthsᵖ p × Widthsᵖ q
  Widthsᵖ (tuple ps) = IsWidth (countᵖ ps) × WidthsAllᵖ ps
  Widthsᵖ (both p q) = Widthsᵖ p × Widthsᵖ q
  Widthsᵖ (either p q) = Widthsᵖ p × Widthsᵖ q
  Widthsᵖ (never p) = Widthsᵖ p

  pub WidthsAllᵖ : Patterns → Type 0
  WidthsAllᵖ no_patterns = Unit {0}
  WidthsAllᵖ (p ▸ᵖ ps) = Widthsᵖ p × WidthsAllᵖ ps

unfoldable mutual
  unfolding IsWidth count

  pub Widths : Value → Type 0
  Widths (int x) = Unit {0}
  Widths (collection vs) = WidthsAll vs
  Widths (tupled vs) = IsWidth (count vs) × WidthsAll vs

  pub WidthsAll : Values → Type 0
  WidthsAll empty = Unit {0}
  WidthsAll (v ▸ vs) = Widths v × WidthsAll vs

-- ---- The sizes of Forms are the numbers of words.

mutual
  unfolding words size

  pub length_words : (v : Value) → length (words v) ≡ size v
  length_words (int x) = refl
  length_words (collection vs) = omega (arith, length_words_all vs)
  length_words (tupled vs) = omega (arith, length_words_all vs)

  pub length_words_all : (vs : Values) → length (words_all vs) ≡ size_all vs
  length_words_all empty = refl
  length_words_all (v ▸ vs) = omega (arith, length-append (words v) (words_all vs), length_words v, length_words_all vs)

mutual
  unfolding pattern_words span

  pub length_pattern_words : (p : Pattern) → length (pattern_words p) ≡ span p
  length_pattern_words wildcard = refl
  length_pattern_words nil = refl
  length_pattern_words (variable v) = refl
  length_pattern_words (constant c) = refl
  length_pattern_words (value v c) = refl
  length_pattern_words (cons p q) = omega (arith, length-append (pattern_words p) (pattern_words q), length_pattern_words p, length_pattern_words q)
  length_pattern_words (join p q) = omega (arith, length-append (pattern_words p) (pattern_words q), length_pattern_words p, length_pattern_words q)
  length_pattern_words (tuple ps) = omega (arith, length_pattern_words_all ps)
  length_pattern_words (both p q) = omega (arith, length-append (pattern_words p) (pattern_words q), length_pattern_words p, length_pattern_words q)
  length_pattern_words (either p q) = omega (arith, length-append (pattern_words p) (pattern_words q), length_pattern_words p, length_pattern_words q)
  length_pattern_words (never p) = omega (arith, length_pattern_words p)

  pub length_pattern_words_all : (ps : Patterns) → length (pattern_words_all ps) ≡ span_all ps
  length_pattern_words_all no_patterns = refl
  length_pattern_words_all (p ▸ᵖ ps) =
      omega (arith, length-append (pattern_words p) (pattern_words_all ps), length_pattern_words p, length_pattern_words_all ps)
