-- What the leaves on the places are to show. Assumes nothing.
use Prim.Native.Nat.{ℕ, ◌+◌, ◌*◌, ◌<◌}
use mathlib.Core.Path.{◌≡◌, ap, ◌∙◌}
use mathlib.Core.List.{List}
use borrow.Author.Rules.{rules}
use lib.ListN.{get_or, set}
use Rattle.tables.specs.Place.{value_count, sections_of, put_end, put_base, put_place}
use Rattle.tables.specs.PlaceLaws.{end_is, base_is, place_is, end_put, base_put, place_put}

module _ (t : List ℕ) (i r : ℕ) (h : i < value_count) where
  pub end_read : r ≡ get_or t i 0 → r ≡ get_or (sections_of t).ends i 0
  end_read e = e ∙ end_is t i h

  pub base_read : r ≡ get_or t (value_count + i) 0 → r ≡ get_or (sections_of t).bases i 0
  base_read e = e ∙ base_is t i h

  pub place_read : r ≡ get_or t (2 * value_count + i) 0 → r ≡ get_or (sections_of t).places i 0
  place_read e = e ∙ place_is t i h

module _ (t : List ℕ) (i v u : ℕ) (h : i < value_count) (e : u ≡ v) where
  pub end_written : sections_of (set t i u) ≡ put_end i v (sections_of t)
  end_written = end_put t i h u ∙ ap (λ z. put_end i z (sections_of t)) e

  pub base_written : sections_of (set t (value_count + i) u) ≡ put_base i v (sections_of t)
  base_written = base_put t i h u ∙ ap (λ z. put_base i z (sections_of t)) e

  pub place_written : sections_of (set t (2 * value_count + i) u) ≡ put_place i v (sections_of t)
  place_written = place_put t i h u ∙ ap (λ z. put_place i z (sections_of t)) e

pub ruleset place_rules = (end_read, base_read, place_read, end_written, base_written, place_written, rules)
