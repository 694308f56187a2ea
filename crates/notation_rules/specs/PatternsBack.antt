-- What is written of a pattern is read back as it.
use Rattle.std.specs.Prelude.{ℕ, ◌≤◌, ◌<◌, Bool, not, ◌&&◌, ltb, leb, T}
use Rattle.std.proofs.Common.{ltb→lt, nltb→le, leb→le}
use Rattle.std.proofs.Math.Bool.{true, false}
use mathlib.Core.List.{List, [], ◌∷◌}
use Rattle.rules.specs.Limits.{least_width, largest_width}
use Rattle.rules.specs.Forms.{Pattern, wildcard, variable, constant, value, nil, cons, join, tuple, both, either, never, Patterns, no_patterns, ◌▸ᵖ◌, countᵖ}
use Rattle.rules.specs.Numbers.{in_range}
use Rattle.notation_rules.specs.Tokens.{Token}
use Rattle.notation_rules.specs.Patterns.{Frame}
use Rattle.notation_rules.specs.Patterns.{depth, reach}

-- ---- What can be written: numbers of 32 bits, tuples of two to four parts.
unfoldable pub width : ℕ → Bool
width k = leb least_width k && leb k largest_width

unfoldable mutual
  unfolding width in_range countᵖ

  pub Fine : Pattern → Type 0
  Fine wildcard = T true
  Fine nil = T true
  Fine (variable v) = T true
  Fine (constant c) = T (in_range c)
  Fine (value v c) = T (in_range c)
  Fine (cons p q) = Fine p × Fine q
  Fine (join p q) = Fine p × Fine q
  Fine (both p q) = Fine p × Fine q
  Fine (either p q) = Fine p × Fine q
  Fine (never p) = Fine p
  Fine (tuple ps) = T (width (countᵖ ps)) × FineAll ps

  pub FineAll : Patterns → Type 0
  FineAll no_patterns = T true
  FineAll (p ▸ᵖ ps) = Fine p × FineAll ps

pub first : (a b : Bool) → T (a && b) → T a
first true b h = tt
first false b h = absurd h

pub second : (a b : Bool) → T (a && b) → T b
second true b h = h
second false b h = absurd h

pub at_most : (k : ℕ) → T (width k) → k ≤ 4
unfolding width
at_most k h = leb→le k 4 (second (leb 2 k) (leb k 4) h)

pub at_least : (k : ℕ) → T (width k) → 2 ≤ k
unfolding width
at_least k h = leb→le 2 k (first (leb 2 k) (leb k 4) h)

-- The level of the last frame, and how far what follows reaches back.
unfoldable pub top : List Frame → ℕ
unfolding depth
top [] = 0
top (f ∷ fs) = depth f

unfoldable pub follow : List Token → ℕ
unfolding reach
follow [] = 0
follow (t ∷ ts) = reach t

-- A test, as the fact that it tells.
pub test : {A : Type 0} {x y : A} (P : A → Type 0) (k n : ℕ) → (k < n → P x) → (n ≤ k → P y) → P (elim (ltb k n) as (λ _. A) [ true ↦ x | false ↦ y ])
test {A} {x} {y} P k n f g = go (ltb k n) (λ h. f (ltb→lt k n h)) (λ h. g (nltb→le k n h))
  where
    go : (b : Bool) → (T b → P x) → (T (not b) → P y) → P (elim b as (λ _. A) [ true ↦ x | false ↦ y ])
    go true f g = f tt
    go false f g = g tt
