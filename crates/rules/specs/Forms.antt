-- Document 01, section 2: what the three word forms stand for. Matchers, patterns and values are trees; a value writes itself out in target form.
use Rattle.std.specs.Prelude.{ℕ, zero, suc, ◌+◌, List, [], ◌∷◌, ◌++◌, ℤ, pos}

-- `Matchers`, `Patterns` and `Values` are the parts of a tuple, and `Values` the elements of a collection, in order.
infixr 67 ◌▸ᵐ◌
mutual
  pub data Matcher : Type 0 where
    something integer : Matcher
    list multiset : Matcher → Matcher
    tuple_of : Matchers → Matcher

  pub data Matchers : Type 0 where
    no_matchers : Matchers
    ◌▸ᵐ◌ : Matcher → Matchers → Matchers

-- An operand is a word as it stands: `variable v`, `constant c`, `value v c` (the value of variable v, plus c). What v may be is said in
-- Variables. `both`, `either` and `never` are and, or, not.
infixr 67 ◌▸ᵖ◌
mutual
  pub data Pattern : Type 0 where
    wildcard nil : Pattern
    variable constant : ℤ → Pattern
    value : ℤ → ℤ → Pattern
    cons join : Pattern → Pattern → Pattern
    tuple : Patterns → Pattern
    both either : Pattern → Pattern → Pattern
    never : Pattern → Pattern

  pub data Patterns : Type 0 where
    no_patterns : Patterns
    ◌▸ᵖ◌ : Pattern → Patterns → Patterns

-- A value is an integer, a collection or a tuple.
infixr 67 ◌▸◌
mutual
  pub data Value : Type 0 where
    int : ℤ → Value
    collection tupled : Values → Value

  pub data Values : Type 0 where
    empty : Values
    ◌▸◌ : Value → Values → Values

-- How many elements or parts.
unfoldable pub count : Values → ℕ
count empty = 0
count (v ▸ vs) = suc (count vs)

unfoldable pub countᵐ : Matchers → ℕ
countᵐ no_matchers = 0
countᵐ (m ▸ᵐ ms) = suc (countᵐ ms)

unfoldable pub countᵖ : Patterns → ℕ
countᵖ no_patterns = 0
countᵖ (p ▸ᵖ ps) = suc (countᵖ ps)

-- Target form: 0 x is the integer x; 1 n and then n values is a collection; 2 k and then k values is a tuple.
unfoldable mutual
  unfolding count

  pub words : Value → List ℤ
  words (int x) = pos 0 ∷ x ∷ []
  words (collection vs) = pos 1 ∷ pos (count vs) ∷ words_all vs
  words (tupled vs) = pos 2 ∷ pos (count vs) ∷ words_all vs

  pub words_all : Values → List ℤ
  words_all empty = []
  words_all (v ▸ vs) = words v ++ words_all vs

-- How many words a value and a pattern have in their word forms: so a walk over what was read knows the index of each tag.
unfoldable mutual
  pub size : Value → ℕ
  size (int x) = 2
  size (collection vs) = 2 + size_all vs
  size (tupled vs) = 2 + size_all vs

  pub size_all : Values → ℕ
  size_all empty = 0
  size_all (v ▸ vs) = size v + size_all vs

unfoldable mutual
  pub span : Pattern → ℕ
  span wildcard = 1
  span (variable v) = 2
  span (constant c) = 2
  span (value v c) = 3
  span nil = 1
  span (cons p q) = 1 + span p + span q
  span (join p q) = 1 + span p + span q
  span (tuple ps) = 2 + span_all ps
  span (both p q) = 1 + span p + span q
  span (either p q) = 1 + span p + span q
  span (never p) = 1 + span p

  pub span_all : Patterns → ℕ
  span_all no_patterns = 0
  span_all (p ▸ᵖ ps) = span p + span_all ps
