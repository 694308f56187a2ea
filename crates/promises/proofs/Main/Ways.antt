-- Document 01, section 5, and document 02, No. 3: the good ways, each once and in order, and the states of the search, which find exactly these.
use Rattle.std.specs.Prelude.{ℕ, ◌≡◌, Bool, false, List, [], ◌∷◌, ◌++◌, map, take}
use Rattle.rules.specs.Dialects.{Dialect}
use Rattle.rules.specs.Forms.{Matcher, Pattern, never, Value}
use Rattle.rules.specs.Origins.{Valueᵒ, Bindings}
use Rattle.rules.specs.Search.{Atom, atom, State, state, start}
use Rattle.rules.specs.Ways.{Way, Follows, Good}
use Rattle.rules.specs.Services.{Rule}
use Rattle.promises.specs.Trace.{passed, trace, order, seen}
use Rattle.promises.proofs.Trace.{trace_order}
use Rattle.rules.specs.Following.{Solution}
use Rattle.promises.specs.Solve.{founds}
use Rattle.promises.proofs.Solve.{founds_start}
use Rattle.promises.proofs.Nots.{inner, inner_writes_nothing, not_holds, not_fails}
use Rattle.promises.specs.Listing.{Listing}
use Rattle.promises.proofs.Listing.{solve_listing, listing_unique, way_ends}
use Rattle.promises.specs.Matching.{states, ways}

-- ---- Exactly the good ways.

module _ (dialect : Dialect) (r : Rule) (v : Value) where
  -- `ways` are the good ways of section 5: each once, none missing, in strictly increasing dictionary order.
  pub ways_listed : Listing dialect r.matcher r.pattern v (ways dialect r v)
  unfolding ways
  ways_listed = solve_listing dialect r.matcher r.pattern v

  -- No other list is so.
  pub ways_only : (ss : List Solution) → Listing dialect r.matcher r.pattern v ss → ss ≡ ways dialect r v
  unfolding ways
  ways_only ss l = listing_unique dialect r.matcher r.pattern v ss (ways dialect r v) l (solve_listing dialect r.matcher r.pattern v)

  -- No good way is the beginning of another, and a way has one row.
  pub no_way_begins_another : (u x : Way) (d e : Bindings) → Good dialect r.matcher r.pattern v u d → Good dialect r.matcher r.pattern v (u ++ x) e
      → (x ≡ []) × (d ≡ e)
  no_way_begins_another = way_ends dialect r.matcher r.pattern v

  -- The first n of `states` are the first n that are taken up by section 4's order.
  pub states_in_order : (n : ℕ) → take n (states dialect r v) ≡ map seen (order dialect n (start r.matcher r.pattern v ∷ []))
  unfolding states
  states_in_order n = trace_order dialect n (start r.matcher r.pattern v ∷ [])

  -- The bindings of the states with no atom left, in the order taken up, are those of the good ways.
  pub rows_of_ways_lem : founds (states dialect r v) ≡ map (λ s. s.bound) (ways dialect r v)
  unfolding states ways
  rows_of_ways_lem = founds_start dialect r.matcher r.pattern v

-- ---- A not: its state, then the states of the search inside it up to its first row, which write nothing; then the state that follows it exactly if p
-- has no way from the bindings held. `inner` is the state with which the search inside begins.

module _ (dialect : Dialect) (p : Pattern) (m : Matcher) (v : Valueᵒ) (e : Bindings) where
  pub not_writes_nothing : founds (trace dialect (inner dialect p m v e ∷ [])) ≡ []
  not_writes_nothing = inner_writes_nothing dialect p m v e

  pub not_without_way : (mark : Bool) (older : List Atom) (waiting : List State) → ((w : Way) (d : Bindings) → Follows dialect p m v e w d → ⊥)
      → trace dialect (state mark (atom (never p) m v ∷ older) e ∷ waiting) ≡ passed ∷ (trace dialect (inner dialect p m v e ∷ []) ++ trace dialect (state false older e ∷ waiting))
  not_without_way = not_holds dialect p m v e

  pub not_with_way : (mark : Bool) (older : List Atom) (waiting : List State) (w : Way) (d : Bindings) → Follows dialect p m v e w d
      → trace dialect (state mark (atom (never p) m v ∷ older) e ∷ waiting) ≡ passed ∷ (trace dialect (inner dialect p m v e ∷ []) ++ trace dialect waiting)
  not_with_way = not_fails dialect p m v e
