-- All that comes from a state, in depth-first order, is what is taken up with it and then all that comes from the states that follow.
use Rattle.std.specs.Prelude.{◌≤◌, ◌≡◌, refl, Bool, true, false, length}
use Rattle.std.proofs.Common.{arith, sym, ap, ◌∙◌}
use mathlib.Core.List.{List, [], ◌∷◌, ◌++◌, map, flat_map, append-nil, append_assoc}
use Rattle.rules.specs.Dialects.{Dialect}
use Rattle.rules.specs.Forms.{Matcher, Value, Patterns, Matchers}
use Rattle.rules.specs.Forms.{Pattern, wildcard, variable, constant, value, nil, cons, join, tuple, both, either, never}
use Rattle.rules.specs.Fit.{members, is_something}
use Rattle.rules.specs.Origins.{Valueᵒ, intᵒ, collectionᵒ, tupledᵒ, Bindings, plain, target}
use Rattle.rules.specs.Equality.{is_constant, is_value, is_empty}
use Rattle.rules.specs.Search.{Halves, cons_halves_in, join_halves, Atom, atom, end_of_not, State, state, drop_if, apart, after_in, start}
use Rattle.rules.specs.Following.{Solution, no_solution, solve}
use Rattle.promises.specs.Trace.{Taken, passed, found, Met, taken, ended, inside, visit, visit_all, met, close, trace}
use Rattle.promises.proofs.Trace.{tree}
use Rattle.promises.specs.Solve.{stops, no_cons, not_ended}
use Rattle.promises.proofs.Solve.{stops_visit}
use Rattle.round_promises.specs.Listed.{Step, one, whole, up_atom, up}

-- The states that are taken up of what is met; where a search inside a not has ended only inside that not, this is `close`.
unfoldable pub spread : List Met → List Taken
spread [] = []
spread (taken t ∷ ms) = t ∷ spread ms
spread (ended ∷ ms) = passed ∷ spread ms

-- All that comes from a state, depth-first.
unfoldable pub comes : (dialect : Dialect) → State → List Taken
unfolding spread visit_all
comes dialect (state g as' e) = spread (visit_all dialect as' e)

spread_append : (xs ys : List Met) → spread (xs ++ ys) ≡ spread xs ++ spread ys
unfolding spread
spread_append [] ys = refl
spread_append (taken t ∷ xs) ys = ap {B = List Taken} (λ r. t ∷ r) (spread_append xs ys)
spread_append (ended ∷ xs) ys = ap {B = List Taken} (λ r. passed ∷ r) (spread_append xs ys)

-- ---- States that do not wait behind a search inside a not.

unfoldable pub Unmarked : List State → Type 0
Unmarked [] = Unit {0}
Unmarked (state true as' e ∷ ss) = ⊥
Unmarked (state false as' e ∷ ss) = Unmarked ss

spread_met : (dialect : Dialect) (ms : List Met) (ss : List State) → Unmarked ss → spread (met dialect ms ss) ≡ spread ms ++ flat_map (comes dialect) ss
unfolding met flat_map comes Unmarked
spread_met dialect ms [] u = sym (append-nil (spread ms))
spread_met dialect ms (state true as' e ∷ ss) u = absurd u
spread_met dialect ms (state false as' e ∷ ss) u =
    spread_met dialect (ms ++ visit_all dialect as' e) ss u ∙ ap {B = List Taken} (λ r. r ++ flat_map (comes dialect) ss) (spread_append ms (visit_all dialect as' e))
    ∙ append_assoc (spread ms) (spread (visit_all dialect as' e)) (flat_map (comes dialect) ss)

-- What follows an atom that is no not.

each_unmarked : (f : Halves → List Atom) (e : Bindings) (hs : List Halves) → Unmarked (map (λ h. state false (f h) e) hs)
unfolding Unmarked
each_unmarked f e [] = tt
each_unmarked f e (h ∷ hs) = each_unmarked f e hs

test_unmarked : (b : Bool) (older : List Atom) (e : Bindings) → Unmarked (drop_if b older e)
unfolding Unmarked drop_if
test_unmarked true older e = tt
test_unmarked false older e = tt

leaf_unmarked : (b : Bool) (xs ys : List Atom) (d e : Bindings)
    → Unmarked (elim b as (λ _. List State) [ true ↦ state false xs d ∷ [] | false ↦ state false ys e ∷ [] ])
unfolding Unmarked
leaf_unmarked true xs ys d e = tt
leaf_unmarked false xs ys d e = tt

apart_unmarked : (ps : Patterns) (ms : Matchers) (v : Valueᵒ) (older : List Atom) (e : Bindings) → Unmarked (apart ps ms v older e)
unfolding Unmarked apart
apart_unmarked ps ms (intᵒ o x) older e = tt
apart_unmarked ps ms (collectionᵒ o vs) older e = tt
apart_unmarked ps ms (tupledᵒ o vs) older e = tt

-- An atom is taken up in one step, and none of the states that follow waits behind a search; or it is a not.
pub data Taking (dialect : Dialect) (m : Matcher) (v : Valueᵒ) (older : List Atom) (e : Bindings) : Pattern → Type 0 where
  single : {p : Pattern} → up_atom dialect p m v older e ≡ one (after_in dialect p m v older e) → Unmarked (after_in dialect p m v older e) → Taking dialect m v older e p
  denied : (p : Pattern) → Taking dialect m v older e (never p)

pub taking : (dialect : Dialect) (p : Pattern) (m : Matcher) (v : Valueᵒ) (older : List Atom) (e : Bindings) → Taking dialect m v older e p
unfolding up_atom after_in Unmarked
taking dialect wildcard m v older e = single refl (leaf_unmarked (is_something m) _ _ _ _)
taking dialect (variable x) m v older e = single refl (leaf_unmarked (is_something m) _ _ _ _)
taking dialect (constant c) m v older e = single refl (test_unmarked (is_constant c (plain v)) older e)
taking dialect (value x c) m v older e = single refl (test_unmarked (is_value m (map plain e) x c (plain v)) older e)
taking dialect nil m v older e = single refl (test_unmarked (is_empty (plain v)) older e)
taking dialect (cons p q) m v older e = single refl (each_unmarked _ e (cons_halves_in dialect m v))
taking dialect (join p q) m v older e = single refl (each_unmarked _ e (join_halves v))
taking dialect (tuple ps) m v older e = single refl (apart_unmarked ps (members m) v older e)
taking dialect (both p q) m v older e = single refl tt
taking dialect (either p q) m v older e = single refl tt
taking dialect (never p) m v older e = denied p

-- ---- The law, for such an atom and for a not.

one_law : (dialect : Dialect) (p : Pattern) (m : Matcher) (v : Valueᵒ) (older : List Atom) (e : Bindings) → Unmarked (after_in dialect p m v older e)
    → spread (visit_all dialect (atom p m v ∷ older) e) ≡ passed ∷ flat_map (comes dialect) (after_in dialect p m v older e)
unfolding spread
one_law dialect p m v older e u = ap spread (tree dialect p m v older e) ∙ ap {B = List Taken} (λ r. passed ∷ r) (spread_met dialect [] (after_in dialect p m v older e) u)

within_none : (ms ns : List Met) → stops ms ≡ [] → spread (inside ms ns) ≡ close ms ++ spread ns
unfolding stops inside close spread
within_none [] ns h = refl
within_none (taken passed ∷ ms) ns h = ap {B = List Taken} (λ r. passed ∷ r) (within_none ms ns h)
within_none (taken (found e) ∷ ms) ns h = no_cons h
within_none (ended ∷ ms) ns h = no_cons h

within_end : (ms ns us : List Met) → stops ms ≡ ended ∷ us → spread (inside ms ns) ≡ close ms ++ []
unfolding stops inside close spread
within_end [] ns us h = no_cons (sym h)
within_end (taken passed ∷ ms) ns us h = ap {B = List Taken} (λ r. passed ∷ r) (within_end ms ns us h)
within_end (taken (found e) ∷ ms) ns us h = not_ended h
within_end (ended ∷ ms) ns us h = refl

whole_law : (dialect : Dialect) (ms : List Met) (ss : List Solution) (older : List Atom) (e : Bindings) → stops ms ≡ flat_map (λ s. ended ∷ []) ss
    → spread (inside ms (visit_all dialect older e)) ≡ close ms ++ flat_map (comes dialect) (drop_if (no_solution ss) older e)
unfolding no_solution drop_if flat_map comes
whole_law dialect ms [] older e h = within_none ms (visit_all dialect older e) h ∙ ap {B = List Taken} (λ r. close ms ++ r) (sym (append-nil (spread (visit_all dialect older e))))
whole_law dialect ms (s ∷ ss) older e h = within_end ms (visit_all dialect older e) _ h

not_law : (dialect : Dialect) (p : Pattern) (m : Matcher) (v : Valueᵒ) (older : List Atom) (e : Bindings)
    → spread (visit_all dialect (atom (never p) m v ∷ older) e) ≡ (whole dialect p m v older e).taken ++ flat_map (comes dialect) (whole dialect p m v older e).next
unfolding spread visit_all visit whole trace met stops
not_law dialect p m v older e = ap {B = List Taken} (λ r. passed ∷ r)
    (whole_law dialect (visit dialect p m v e (λ d. ended ∷ [])) (solve dialect p m v e) older e (stops_visit dialect p m v e (λ d. ended ∷ [])))

atom_law : (dialect : Dialect) (p : Pattern) (m : Matcher) (v : Valueᵒ) (older : List Atom) (e : Bindings) → Taking dialect m v older e p
    → spread (visit_all dialect (atom p m v ∷ older) e) ≡ (up_atom dialect p m v older e).taken ++ flat_map (comes dialect) (up_atom dialect p m v older e).next
unfolding one up_atom
atom_law dialect p m v older e (single q u) = one_law dialect p m v older e u ∙ sym (ap (λ (x : Step). x.taken ++ flat_map (comes dialect) x.next) q)
atom_law dialect _ m v older e (denied p) = not_law dialect p m v older e

-- THE LAW.
pub comes_up : (dialect : Dialect) (s : State) → comes dialect s ≡ (up dialect s).taken ++ flat_map (comes dialect) (up dialect s).next
unfolding comes up one flat_map visit_all spread
comes_up dialect (state g [] e) = refl
comes_up dialect (state g (end_of_not ∷ older) e) = refl
comes_up dialect (state g (atom p m v ∷ older) e) = atom_law dialect p m v older e (taking dialect p m v older e)

-- Something is taken up with every state.
atom_some : (dialect : Dialect) (p : Pattern) (m : Matcher) (v : Valueᵒ) (older : List Atom) (e : Bindings) → Taking dialect m v older e p → 1 ≤ length (up_atom dialect p m v older e).taken
unfolding one up_atom whole
atom_some dialect p m v older e (single q u) = let k = ap (λ (x : Step). length x.taken) q in omega arith
atom_some dialect _ m v older e (denied p) = omega arith

pub up_some : (dialect : Dialect) (s : State) → 1 ≤ length (up dialect s).taken
unfolding up one
up_some dialect (state g [] e) = omega arith
up_some dialect (state g (end_of_not ∷ older) e) = omega arith
up_some dialect (state g (atom p m v ∷ older) e) = atom_some dialect p m v older e (taking dialect p m v older e)

-- ---- From the first state on it is the depth-first order.

spread_close : (ms : List Met) (ss : List Solution) → stops ms ≡ flat_map (λ s. taken (found s.bound) ∷ []) ss → spread ms ≡ close ms
unfolding stops spread close flat_map
spread_close [] ss h = refl
spread_close (taken passed ∷ ms) ss h = ap {B = List Taken} (λ r. passed ∷ r) (spread_close ms ss h)
spread_close (taken (found e) ∷ ms) [] h = no_cons h
spread_close (taken (found e) ∷ ms) (s ∷ ss) h = ap {B = List Taken} (λ r. found e ∷ r) (spread_close ms ss cc)
spread_close (ended ∷ ms) [] h = no_cons h
spread_close (ended ∷ ms) (s ∷ ss) h = not_ended (sym h)

pub comes_start : (dialect : Dialect) (m : Matcher) (p : Pattern) (v : Value) → comes dialect (start m p v) ≡ trace dialect (start m p v ∷ [])
unfolding comes start visit_all trace met stops
comes_start dialect m p v = spread_close (visit dialect p m (target v) [] (λ d. taken (found d) ∷ [])) (solve dialect p m (target v) []) (stops_visit dialect p m (target v) [] (λ d. taken (found d) ∷ []))
