-- The matcher whose words start at an index of a matcher's words, and where they end. Words that are no matcher's count as something.
use Rattle.std.specs.Prelude.{ℕ, zero, suc, ◌+◌, true, false, cond, List, [], ◌∷◌, eqb, ltb, length, drop, ℤ}
use Rattle.rules.specs.Forms.{Matcher, something, integer, list, multiset, tuple_of, Matchers, no_matchers, ◌▸ᵐ◌}
use Rattle.words.specs.Words.{tag_z, tag_at}

-- A tuple's width. A number above 4 is none: it gives no parts.
unfoldable pub width_of : ℕ → ℕ
width_of k = cond (ltb 4 k) 0 k

unfoldable pub width_at : List ℤ → ℕ → ℕ
unfolding width_of
width_at ms at = width_of (tag_at ms at)

-- How many matchers follow a tag as its parts, k being the word after it; and how many words it has itself.
abbrev pub parts_by : (t k : ℕ) → ℕ
parts_by zero k = 0
parts_by (suc zero) k = 0
parts_by (suc (suc zero)) k = 1
parts_by (suc (suc (suc zero))) k = 1
parts_by (suc (suc (suc (suc zero)))) k = width_of k
parts_by (suc (suc (suc (suc (suc t))))) k = 0

unfoldable pub parts_at : List ℤ → ℕ → ℕ
unfolding width_of
parts_at ms at = parts_by (tag_at ms at) (tag_at ms (at + 1))

unfoldable pub words_by : ℕ → ℕ
words_by t = cond (eqb t 4) 2 1

unfoldable pub words_at : List ℤ → ℕ → ℕ
unfolding words_by
words_at ms at = words_by (tag_at ms at)

-- How many words n matchers have that stand one after the other; after a tuple's tag, its width first.
unfoldable mutual
  unfolding width_of

  pub spans : List ℤ → (n : ℕ) → ℕ
  spans [] n = 0
  spans (t ∷ ws) zero = 0
  spans (t ∷ ws) (suc n) = elim (eqb (tag_z t) 4) [ true ↦ 2 + spans_wide ws n | false ↦ 1 + spans ws (parts_by (tag_z t) 0 + n) ]

  pub spans_wide : List ℤ → (n : ℕ) → ℕ
  spans_wide [] n = 0
  spans_wide (k ∷ ws) n = spans ws (width_of (tag_z k) + n)

-- Where the matcher ends whose tag is at i.
unfoldable pub matcher_end : List ℤ → ℕ → ℕ
unfolding spans
matcher_end ms i = i + spans (drop i ms) 1

-- n matchers one after the other, each read at its place.
unfoldable pub in_arow : (ℕ → Matcher) → List ℤ → (n at : ℕ) → Matchers
unfolding matcher_end
in_arow m ms zero at = no_matchers
in_arow m ms (suc n) at = m at ▸ᵐ in_arow m ms n (matcher_end ms at)

abbrev pub matcher_by : ℕ → Matcher → Matchers → Matcher
matcher_by zero m ks = something
matcher_by (suc zero) m ks = integer
matcher_by (suc (suc zero)) m ks = list m
matcher_by (suc (suc (suc zero))) m ks = multiset m
matcher_by (suc (suc (suc (suc zero)))) m ks = tuple_of ks
matcher_by (suc (suc (suc (suc (suc t))))) m ks = something

-- The matcher at i, as far as `depth` tags stand one inside the other. Each is a word, so as many as there are words are enough.
unfoldable pub matcher_for : (depth : ℕ) → List ℤ → ℕ → Matcher
unfolding width_at in_arow
matcher_for zero ms i = something
matcher_for (suc depth) ms i = matcher_by (tag_at ms i) (matcher_for depth ms (i + 1)) (in_arow (λ j. matcher_for depth ms j) ms (width_at ms (i + 1)) (i + 2))

unfoldable pub matcher_at : List ℤ → ℕ → Matcher
unfolding matcher_for
matcher_at ms i = matcher_for (length ms) ms i

-- n matchers from an index on.
unfoldable pub matchers_at : List ℤ → (n at : ℕ) → Matchers
unfolding in_arow matcher_at
matchers_at ms n at = in_arow (matcher_at ms) ms n at
