-- Document 02, No. 5: rules that everybody passes. "Every pattern that has none of the tags 2, 3, 4, 5 and none of 10" is always true.
use Rattle.std.specs.Prelude.{ℕ, Bool, true, false, not, ◌&&◌, List, [], ◌∷◌, ◌++◌}
use Rattle.rules.specs.Forms.{Pattern, wildcard, variable, constant, value, nil, cons, join, tuple, both, either, never, Patterns, no_patterns, ◌▸ᵖ◌}
use Rattle.rules.specs.Fit.{among}

-- The tags of a pattern, left to right. (An operand is no tag.)
unfoldable mutual
  pub tags : Pattern → List ℕ
  tags wildcard = 0 ∷ []
  tags (variable v) = 1 ∷ []
  tags (constant c) = 2 ∷ []
  tags (value v c) = 3 ∷ []
  tags nil = 4 ∷ []
  tags (cons p q) = 5 ∷ (tags p ++ tags q)
  tags (join p q) = 6 ∷ (tags p ++ tags q)
  tags (tuple ps) = 7 ∷ tags_all ps
  tags (both p q) = 8 ∷ (tags p ++ tags q)
  tags (either p q) = 9 ∷ (tags p ++ tags q)
  tags (never p) = 10 ∷ tags p

  pub tags_all : Patterns → List ℕ
  tags_all no_patterns = []
  tags_all (p ▸ᵖ ps) = tags p ++ tags_all ps

-- The tags that can fail.
unfoldable pub failing : List ℕ
failing = 2 ∷ 3 ∷ 4 ∷ 5 ∷ 10 ∷ []

unfoldable pub none_fails : List ℕ → Bool
unfolding among failing
none_fails [] = true
none_fails (t ∷ ts) = not (among t failing) && none_fails ts

unfoldable pub always_true : Pattern → Bool
unfolding tags none_fails
always_true p = none_fails (tags p)
