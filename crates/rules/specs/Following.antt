-- Document 01, section 5: the good ways as a computation, the executable twin of Ways: all of them, each with its bindings, in dictionary order.
use Rattle.std.specs.Prelude.{ℕ, suc, Bool, true, false}
use mathlib.Core.List.{List, [], ◌∷◌, ◌++◌, map, flat_map}
use Rattle.rules.specs.Forms.{Matcher, something, integer, list, multiset, tuple_of, Matchers, no_matchers, ◌▸ᵐ◌}
use Rattle.rules.specs.Forms.{Pattern, wildcard, nil, variable, constant, value, cons, join, tuple, both, either, never, Patterns, no_patterns, ◌▸ᵖ◌}
use Rattle.rules.specs.Forms.{Value}
use Rattle.rules.specs.Origins.{Valueᵒ, intᵒ, collectionᵒ, tupledᵒ, Valuesᵒ, emptyᵒ, ◌▸ᵒ◌, Bindings, plain, target}
use Rattle.rules.specs.Fit.{element, members}
use Rattle.rules.specs.Equality.{is_constant, is_value, is_empty}
use Rattle.rules.specs.Search.{Halves, cons_halves_in, join_halves}
unfoldable pub use Rattle.rules.specs.Search.{is_multiset}
use Rattle.rules.specs.Dialects.{Dialect}
use Rattle.rules.specs.Ways.{Way}

pub record Solution : Type 0 where
  pub way : Way
  pub bound : Bindings

-- The choices at a cons or a join, numbered from 0.
pub record Numbered : Type 0 where
  pub no : ℕ
  pub halves : Halves

unfoldable pub up : Numbered → Numbered
up c = record { no = suc c.no; halves = c.halves }

unfoldable pub numbered : List Halves → List Numbered
unfolding up
numbered [] = []
numbered (h ∷ hs) = record { no = 0; halves = h } ∷ map up (numbered hs)

-- A cons under a multiset and a join put their choice into the way; a cons under a list does not.
unfoldable pub mark : Bool → ℕ → Way
mark true k = k ∷ []
mark false k = []

unfoldable pub extend : Way → Solution → Solution → Solution
extend w s t = record { way = w ++ (s.way ++ t.way); bound = t.bound }

-- After the choices w each solution of the first part, and after it each of the second.
unfoldable pub chain : Way → List Solution → (Bindings → List Solution) → List Solution
unfolding flat_map extend
chain w ss g = flat_map (λ s. map (extend w s) (g s.bound)) ss

-- So for each choice.
unfoldable pub combine : Bool → (Valueᵒ → List Solution) → (Valueᵒ → Bindings → List Solution) → List Halves → List Solution
unfolding flat_map numbered mark chain
combine b f g hs = flat_map (λ c. chain (mark b c.no) (f c.halves.first) (g c.halves.second)) (numbered hs)

-- On a side of an or, which stands in the way before the choices inside it.
unfoldable pub on_side : ℕ → Solution → Solution
on_side k s = record { way = k ∷ s.way; bound = s.bound }

-- One solution, with no choice; and one or none, by a test.
unfoldable pub just : Bindings → List Solution
just e = record { way = []; bound = e } ∷ []

unfoldable pub when_so : Bool → Bindings → List Solution
unfolding just
when_so true e = just e
when_so false e = []

-- No solution.
unfoldable pub no_solution : List Solution → Bool
no_solution [] = true
no_solution (s ∷ ss) = false

-- What the parts of a tuple give; of another value there are none.
unfoldable pub of_parts : {A : Type 0} → (Valuesᵒ → List A) → Valueᵒ → List A
of_parts f (intᵒ o x) = []
of_parts f (collectionᵒ o vs) = []
of_parts f (tupledᵒ o vs) = f vs

unfoldable mutual
  unfolding just when_so no_solution combine chain on_side plain is_constant is_value is_empty cons_halves_in join_halves element members is_multiset of_parts

  pub solve : Dialect → Pattern → Matcher → Valueᵒ → Bindings → List Solution
  solve dialect wildcard m v e = just e
  solve dialect (variable x) m v e = just (e ++ (v ∷ []))
  solve dialect (constant c) m v e = when_so (is_constant c (plain v)) e
  solve dialect (value x c) m v e = when_so (is_value m (map plain e) x c (plain v)) e
  solve dialect nil m v e = when_so (is_empty (plain v)) e
  solve dialect (cons p q) m v e = combine (is_multiset m) (λ a. solve dialect p (element m) a e) (λ a d. solve dialect q m a d) (cons_halves_in dialect m v)
  solve dialect (join p q) m v e = combine true (λ a. solve dialect p m a e) (λ a d. solve dialect q m a d) (join_halves v)
  solve dialect (tuple ps) m v e = of_parts (λ vs. solve_each dialect ps (members m) vs e) v
  solve dialect (both p q) m v e = chain [] (solve dialect p m v e) (λ d. solve dialect q m v d)
  solve dialect (either p q) m v e = map (on_side 0) (solve dialect p m v e) ++ map (on_side 1) (solve dialect q m v e)
  solve dialect (never p) m v e = when_so (no_solution (solve dialect p m v e)) e

  -- A tuple's parts: each part, and then the others.
  pub solve_each : Dialect → Patterns → Matchers → Valuesᵒ → Bindings → List Solution
  solve_each dialect no_patterns ms vs e = just e
  solve_each dialect (p ▸ᵖ ps) no_matchers vs e = just e
  solve_each dialect (p ▸ᵖ ps) (m ▸ᵐ ms) emptyᵒ e = just e
  solve_each dialect (p ▸ᵖ ps) (m ▸ᵐ ms) (v ▸ᵒ vs) e = chain [] (solve dialect p m v e) (λ d. solve_each dialect ps ms vs d)

-- The good ways of a rule on a target.
unfoldable pub good_ways : Dialect → Matcher → Pattern → Value → List Solution
unfolding solve target
good_ways dialect m p v = solve dialect p m (target v) []
