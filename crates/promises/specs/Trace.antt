-- The states of the search tree in the order in which a run takes them up, by recursion on the pattern; and that a run with a budget is a
-- walk along this list that ends when the budget does.
use Rattle.std.specs.Prelude.{ℕ, zero, suc, ◌-◌, ◌≡◌, refl, Bool, true, false, length, leb}
use mathlib.Core.List.{List, [], ◌∷◌, ◌++◌, map, flat_map}
use Rattle.rules.specs.Dialects.{Dialect}
use Rattle.rules.specs.Forms.{Matcher, Matchers, no_matchers, ◌▸ᵐ◌}
use Rattle.rules.specs.Forms.{Pattern, wildcard, nil, variable, constant, value, cons, join, tuple, both, either, never, Patterns, no_patterns, ◌▸ᵖ◌}
use Rattle.rules.specs.Origins.{Valueᵒ, Valuesᵒ, emptyᵒ, ◌▸ᵒ◌, Bindings, plain}
use Rattle.rules.specs.Fit.{element, members, is_something}
use Rattle.rules.specs.Equality.{is_constant, is_value, is_empty}
use Rattle.rules.specs.Search.{cons_halves_in, join_halves, Atom, atom, end_of_not, State, state, after_in, leave_not}
use Rattle.rules.specs.Rows.{Form, row}
use Rattle.rules.specs.Search.{Run, stopped, step, row_step}
use Rattle.rules.specs.Following.{of_parts}

-- A state that was taken up: one with atoms left, or one with none, whose row is found.
pub data Taken : Type 0 where
  passed : Taken
  found : Bindings → Taken

-- What is met on the way: a state that is taken up; or the end of a search inside a not, where that search has found its row.
pub data Met : Type 0 where
  taken : Taken → Met
  ended : Met

abbrev pub pass : Met
pass = taken passed

unfoldable pub only_if : Bool → List Met → List Met
only_if true ms = ms
only_if false ms = []

-- A search inside a not, and what comes after it if it ends without a row. The state of its row is taken up, and nothing after that.
unfoldable pub inside : List Met → List Met → List Met
inside [] next = next
inside (taken t ∷ ms) next = taken t ∷ inside ms next
inside (ended ∷ ms) next = pass ∷ []

-- What is met from an atom on; `k` is what comes after it is matched, from the bindings then held.
unfoldable mutual
  unfolding is_something is_constant is_value is_empty cons_halves_in join_halves element members flat_map only_if of_parts inside

  pub visit : (dialect : Dialect) → Pattern → Matcher → Valueᵒ → Bindings → (Bindings → List Met) → List Met
  visit dialect wildcard m v e k = pass ∷ elim (is_something m) [ true ↦ k e | false ↦ pass ∷ k e ]
  visit dialect (variable x) m v e k = pass ∷ elim (is_something m) [ true ↦ k (e ++ (v ∷ [])) | false ↦ pass ∷ k (e ++ (v ∷ [])) ]
  visit dialect (constant c) m v e k = pass ∷ only_if (is_constant c (plain v)) (k e)
  visit dialect (value x c) m v e k = pass ∷ only_if (is_value m (map plain e) x c (plain v)) (k e)
  visit dialect nil m v e k = pass ∷ only_if (is_empty (plain v)) (k e)
  visit dialect (cons p q) m v e k = pass ∷ flat_map (λ h. visit dialect p (element m) h.first e (λ d. visit dialect q m h.second d k)) (cons_halves_in dialect m v)
  visit dialect (join p q) m v e k = pass ∷ flat_map (λ h. visit dialect p m h.first e (λ d. visit dialect q m h.second d k)) (join_halves v)
  visit dialect (tuple ps) m v e k = pass ∷ of_parts (λ vs. visit_each dialect ps (members m) vs e k) v
  visit dialect (both p q) m v e k = pass ∷ visit dialect p m v e (λ d. visit dialect q m v d k)
  visit dialect (either p q) m v e k = pass ∷ (visit dialect p m v e k ++ visit dialect q m v e k)
  visit dialect (never p) m v e k = pass ∷ inside (visit dialect p m v e (λ d. ended ∷ [])) (k e)

  -- The atoms of a tuple's parts, in order.
  pub visit_each : (dialect : Dialect) → Patterns → Matchers → Valuesᵒ → Bindings → (Bindings → List Met) → List Met
  visit_each dialect no_patterns ms vs e k = k e
  visit_each dialect (p ▸ᵖ ps) no_matchers vs e k = k e
  visit_each dialect (p ▸ᵖ ps) (m ▸ᵐ ms) emptyᵒ e k = k e
  visit_each dialect (p ▸ᵖ ps) (m ▸ᵐ ms) (v ▸ᵒ vs) e k = visit dialect p m v e (λ d. visit_each dialect ps ms vs d k)

unfoldable pub visit_all : (dialect : Dialect) → List Atom → Bindings → List Met
unfolding visit
visit_all dialect [] e = taken (found e) ∷ []
visit_all dialect (end_of_not ∷ older) e = ended ∷ []
visit_all dialect (atom p m v ∷ older) e = visit dialect p m v e (λ d. visit_all dialect older d)

-- What comes from one more waiting state. A marked one waits behind the search inside a not.
unfoldable pub behind : Bool → List Met → List Met → List Met
unfolding inside
behind false ms ns = ms ++ ns
behind true ms ns = inside ms ns

-- All that comes from the waiting states, the first of them first; `ms` comes before them.
unfoldable pub met : (dialect : Dialect) → List Met → List State → List Met
unfolding visit_all behind
met dialect ms [] = ms
met dialect ms (state g as' e ∷ ss) = met dialect (behind g ms (visit_all dialect as' e)) ss

-- The states that are taken up.
unfoldable pub close : List Met → List Taken
close [] = []
close (taken t ∷ ms) = t ∷ close ms
close (ended ∷ ms) = passed ∷ []

unfoldable pub trace : (dialect : Dialect) → List State → List Taken
unfolding met close
trace dialect ss = close (met dialect [] ss)

-- A walk along the list, by a budget and with `free` words of the room left.
unfoldable pub walk : Form → ℕ → List Taken → ℕ → Run
unfolding stopped step row_step row
walk f zero [] free = stopped 0 0
walk f zero (t ∷ ts) free = stopped 7 0
walk f (suc n) [] free = stopped 0 0
walk f (suc n) (passed ∷ ts) free = step (walk f n ts free)
walk f (suc n) (found e ∷ ts) free = elim (leb (length (row f e)) free) [
  | true ↦ row_step (row f e) (walk f n ts (free - length (row f e)))
  | false ↦ stopped 8 1
]

pub met_first : (dialect : Dialect) (g : Bool) (as' : List Atom) (e : Bindings) (ss : List State) → met dialect [] (state g as' e ∷ ss) ≡ met dialect (visit_all dialect as' e) ss
unfolding met
met_first dialect false as' e ss = refl
met_first dialect true as' e ss = refl

-- ---- The same list by section 4's own words: the first of the waiting states is taken up, and what follows it comes before any older one.

-- What waits after a state is taken up: those that follow it, and then the older ones. At the end of a search inside a not what is left of it is dropped.
unfoldable pub following : (dialect : Dialect) → State → (waiting : List State) → List State
unfolding after_in leave_not
following dialect (state g [] e) ss = ss
following dialect (state g (end_of_not ∷ older) e) ss = leave_not ss
following dialect (state g (atom p m v ∷ older) e) ss = after_in dialect p m v older e ++ ss

-- The first n states that are taken up.
unfoldable pub order : (dialect : Dialect) (n : ℕ) → (waiting : List State) → List State
unfolding following
order dialect zero ss = []
order dialect (suc n) [] = []
order dialect (suc n) (s ∷ ss) = s ∷ order dialect n (following dialect s ss)

unfoldable pub seen : State → Taken
seen (state g [] e) = found e
seen (state g (a ∷ older) e) = passed
