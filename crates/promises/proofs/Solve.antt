-- Laws of what specs/Solve.antt defines.
use Rattle.std.specs.Prelude.{◌≡◌, refl, Bool, true, false}
use Rattle.std.proofs.Common.{sym, ap, ap₂, ◌∙◌}
use mathlib.Core.List.{List, [], ◌∷◌, ◌++◌, map, flat_map, append-nil}
use Rattle.rules.specs.Dialects.{Dialect}
use Rattle.rules.specs.Forms.{Matcher, Matchers, no_matchers, ◌▸ᵐ◌, Value}
use Rattle.rules.specs.Forms.{Pattern, wildcard, nil, variable, constant, value, cons, join, tuple, both, either, never, Patterns, no_patterns, ◌▸ᵖ◌}
use Rattle.rules.specs.Origins.{Valueᵒ, intᵒ, collectionᵒ, tupledᵒ, Valuesᵒ, emptyᵒ, ◌▸ᵒ◌, Bindings, plain, target}
use Rattle.rules.specs.Fit.{element, members, is_something}
use Rattle.rules.specs.Equality.{is_constant, is_value, is_empty}
use Rattle.rules.specs.Search.{Halves, cons_halves_in, join_halves, start}
use Rattle.rules.specs.Ways.{Way}
use Rattle.rules.specs.Following.{Solution, up, numbered, is_multiset, mark, extend, chain, on_side, combine, just, when_so, no_solution, solve, solve_each}
use Rattle.forms.specs.Lists.{flat_map_append, flat_map_map, flat_map_flat_map, flat_map_cong}
use Rattle.promises.specs.Trace.{Taken, passed, found, Met, taken, ended, pass, only_if, inside, visit, visit_each, met, close, trace}
use Rattle.promises.specs.Solve.{founds, no_cons, not_ended, stops}

pub founds_append : (xs ys : List Taken) → founds (xs ++ ys) ≡ founds xs ++ founds ys
unfolding founds
founds_append [] ys = refl
founds_append (passed ∷ xs) ys = founds_append xs ys
founds_append (found e ∷ xs) ys = ap {B = List Bindings} (λ r. e ∷ r) (founds_append xs ys)

stops_append : (xs ys : List Met) → stops (xs ++ ys) ≡ stops xs ++ stops ys
unfolding stops
stops_append [] ys = refl
stops_append (taken passed ∷ xs) ys = stops_append xs ys
stops_append (taken (found e) ∷ xs) ys = ap {B = List Met} (λ r. taken (found e) ∷ r) (stops_append xs ys)
stops_append (ended ∷ xs) ys = ap {B = List Met} (λ r. ended ∷ r) (stops_append xs ys)

stops_flat_map : {A : Type 0} (f : A → List Met) (xs : List A) → stops (flat_map f xs) ≡ flat_map (λ x. stops (f x)) xs
unfolding stops flat_map
stops_flat_map f [] = refl
stops_flat_map f (x ∷ xs) = stops_append (f x) (flat_map f xs) ∙ ap {B = List Met} (λ r. stops (f x) ++ r) (stops_flat_map f xs)

-- A search inside a not that meets no end, and one that meets one.
inside_none : (ms ns : List Met) → stops ms ≡ [] → stops (inside ms ns) ≡ stops ns
unfolding stops inside
inside_none [] ns h = refl
inside_none (taken passed ∷ ms) ns h = inside_none ms ns h
inside_none (taken (found e) ∷ ms) ns h = no_cons h
inside_none (ended ∷ ms) ns h = no_cons h

inside_ended : (ms ns us : List Met) → stops ms ≡ ended ∷ us → stops (inside ms ns) ≡ []
unfolding stops inside
inside_ended [] ns us h = no_cons (sym h)
inside_ended (taken passed ∷ ms) ns us h = inside_ended ms ns us h
inside_ended (taken (found e) ∷ ms) ns us h = not_ended h
inside_ended (ended ∷ ms) ns us h = refl

-- ---- What a continuation meets after the solutions of a chain, and of a cons or a join.

forget : {A : Type 0} (f : Halves → List A) (hs : List Halves) → flat_map (λ c. f c.halves) (numbered hs) ≡ flat_map f hs
unfolding numbered flat_map
forget f [] = refl
forget {A} f (h ∷ hs) = ap {B = List A} (λ r. f h ++ r) (flat_map_map (λ c. f c.halves) up (numbered hs) ∙ forget f hs)

after_chain : (w : Way) (ss : List Solution) (g : Bindings → List Solution) (k : Bindings → List Met)
    → flat_map (λ s. k s.bound) (chain w ss g) ≡ flat_map (λ s. flat_map (λ t. k t.bound) (g s.bound)) ss
unfolding chain
after_chain w ss g k = flat_map_flat_map (λ s. k s.bound) _ ss ∙ flat_map_cong _ _ ss (λ s. flat_map_map (λ t. k t.bound) (extend w s) (g s.bound))

after : (b : Bool) (f : Valueᵒ → List Solution) (g : Valueᵒ → Bindings → List Solution) (k : Bindings → List Met) (hs : List Halves)
    → flat_map (λ s. k s.bound) (combine b f g hs)
    ≡ flat_map (λ h. flat_map (λ s. flat_map (λ t. k t.bound) (g h.second s.bound)) (f h.first)) hs
unfolding combine
after b f g k hs =
    flat_map_flat_map (λ s. k s.bound) _ (numbered hs)
    ∙ flat_map_cong _ _ (numbered hs) (λ c. after_chain (mark b c.no) (f c.halves.first) (g c.halves.second) k)
    ∙ forget (λ h. flat_map (λ s. flat_map (λ t. k t.bound) (g h.second s.bound)) (f h.first)) hs

test : (b : Bool) (e : Bindings) (k : Bindings → List Met) → stops (only_if b (k e)) ≡ flat_map (λ s. stops (k s.bound)) (when_so b e)
unfolding stops only_if when_so flat_map
test true e k = sym (append-nil (stops (k e)))
test false e k = refl

leaf : (b : Bool) (e : Bindings) (k : Bindings → List Met)
    → stops (elim b as (λ _. List Met) [ true ↦ k e | false ↦ pass ∷ k e ]) ≡ flat_map (λ s. stops (k s.bound)) (just e)
unfolding stops just flat_map
leaf true e k = sym (append-nil (stops (k e)))
leaf false e k = sym (append-nil (stops (k e)))

-- The sides of an or.
sides : (ss ts : List Solution) (k : Bindings → List Met)
    → flat_map (λ s. k s.bound) (map (on_side 0) ss ++ map (on_side 1) ts) ≡ flat_map (λ s. k s.bound) ss ++ flat_map (λ s. k s.bound) ts
unfolding on_side
sides ss ts k = flat_map_append (λ s. k s.bound) (map (on_side 0) ss) (map (on_side 1) ts)
    ∙ ap₂ {C = List Met} (λ xs ys. xs ++ ys) (flat_map_map (λ s. k s.bound) (on_side 0) ss) (flat_map_map (λ s. k s.bound) (on_side 1) ts)

-- A not, by the solutions inside it.
nothing : (ms : List Met) (ss : List Solution) (e : Bindings) (k : Bindings → List Met) → stops ms ≡ flat_map (λ s. ended ∷ []) ss
    → stops (inside ms (k e)) ≡ flat_map (λ s. stops (k s.bound)) (when_so (no_solution ss) e)
unfolding no_solution when_so just flat_map
nothing ms [] e k h = inside_none ms (k e) h ∙ sym (append-nil (stops (k e)))
nothing ms (s ∷ ss) e k h = inside_ended ms (k e) _ h

-- ---- What stops the search from an atom on is what comes after its solutions.

mutual
  unfolding stops visit solve

  pub stops_visit : (dialect : Dialect) (p : Pattern) (m : Matcher) (v : Valueᵒ) (e : Bindings) (k : Bindings → List Met)
      → stops (visit dialect p m v e k) ≡ flat_map (λ s. stops (k s.bound)) (solve dialect p m v e)
  stops_visit dialect wildcard m v e k = leaf (is_something m) e k
  stops_visit dialect nil m v e k = test (is_empty (plain v)) e k
  stops_visit dialect (variable x) m v e k = leaf (is_something m) (e ++ (v ∷ [])) k
  stops_visit dialect (constant c) m v e k = test (is_constant c (plain v)) e k
  stops_visit dialect (value x c) m v e k = test (is_value m (map plain e) x c (plain v)) e k
  stops_visit dialect (cons p q) m v e k =
      stops_flat_map _ (cons_halves_in dialect m v)
      ∙ flat_map_cong _ _ (cons_halves_in dialect m v) (λ h. stops_visit dialect p (element m) h.first e (λ d. visit dialect q m h.second d k)
      ∙ flat_map_cong _ _ (solve dialect p (element m) h.first e) (λ s. stops_visit dialect q m h.second s.bound k))
      ∙ sym (after (is_multiset m) (λ a. solve dialect p (element m) a e) (λ a d. solve dialect q m a d) (λ d. stops (k d)) (cons_halves_in dialect m v))
  stops_visit dialect (join p q) m v e k =
      stops_flat_map _ (join_halves v)
      ∙ flat_map_cong _ _ (join_halves v) (λ h. stops_visit dialect p m h.first e (λ d. visit dialect q m h.second d k)
      ∙ flat_map_cong _ _ (solve dialect p m h.first e) (λ s. stops_visit dialect q m h.second s.bound k))
      ∙ sym (after true (λ a. solve dialect p m a e) (λ a d. solve dialect q m a d) (λ d. stops (k d)) (join_halves v))
  stops_visit dialect (tuple ps) m (intᵒ o x) e k = refl
  stops_visit dialect (tuple ps) m (collectionᵒ o vs) e k = refl
  stops_visit dialect (tuple ps) m (tupledᵒ o vs) e k = stops_each dialect ps (members m) vs e k
  stops_visit dialect (both p q) m v e k =
      stops_visit dialect p m v e (λ d. visit dialect q m v d k)
      ∙ flat_map_cong _ _ (solve dialect p m v e) (λ s. stops_visit dialect q m v s.bound k)
      ∙ sym (after_chain [] (solve dialect p m v e) (λ d. solve dialect q m v d) (λ d. stops (k d)))
  stops_visit dialect (either p q) m v e k =
      stops_append (visit dialect p m v e k) (visit dialect q m v e k)
      ∙ ap₂ {C = List Met} (λ xs ys. xs ++ ys) (stops_visit dialect p m v e k) (stops_visit dialect q m v e k)
      ∙ sym (sides (solve dialect p m v e) (solve dialect q m v e) (λ d. stops (k d)))
  stops_visit dialect (never p) m v e k = nothing (visit dialect p m v e (λ d. ended ∷ [])) (solve dialect p m v e) e k (stops_visit dialect p m v e (λ d. ended ∷ []))

  pub stops_each : (dialect : Dialect) (ps : Patterns) (ms : Matchers) (vs : Valuesᵒ) (e : Bindings) (k : Bindings → List Met)
      → stops (visit_each dialect ps ms vs e k) ≡ flat_map (λ s. stops (k s.bound)) (solve_each dialect ps ms vs e)
  stops_each dialect no_patterns ms vs e k = leaf true e k
  stops_each dialect (p ▸ᵖ ps) no_matchers vs e k = leaf true e k
  stops_each dialect (p ▸ᵖ ps) (m ▸ᵐ ms) emptyᵒ e k = leaf true e k
  stops_each dialect (p ▸ᵖ ps) (m ▸ᵐ ms) (v ▸ᵒ vs) e k =
      stops_visit dialect p m v e (λ d. visit_each dialect ps ms vs d k)
      ∙ flat_map_cong _ _ (solve dialect p m v e) (λ s. stops_each dialect ps ms vs s.bound k)
      ∙ sym (after_chain [] (solve dialect p m v e) (λ d. solve_each dialect ps ms vs d) (λ d. stops (k d)))

-- ---- The rows that the whole search finds, in order.

same_row : {d e : Bindings} {ms ns : List Met} → taken (found d) ∷ ms ≡ taken (found e) ∷ ns → (d ≡ e) × (ms ≡ ns)
same_row h = (cc, cc)

founds_close : (ms : List Met) (ss : List Solution) → stops ms ≡ flat_map (λ s. taken (found s.bound) ∷ []) ss → founds (close ms) ≡ map (λ s. s.bound) ss
unfolding stops founds close flat_map
founds_close [] [] h = refl
founds_close [] (s ∷ ss) h = no_cons (sym h)
founds_close (taken passed ∷ ms) ss h = founds_close ms ss h
founds_close (taken (found d) ∷ ms) [] h = no_cons h
founds_close (taken (found d) ∷ ms) (s ∷ ss) h =
    let r = same_row h in ap₂ {C = List Bindings} (λ x xs. x ∷ xs) r.0 (founds_close ms ss r.1)
founds_close (ended ∷ ms) [] h = no_cons h
founds_close (ended ∷ ms) (s ∷ ss) h = not_ended (sym h)

pub founds_start : (dialect : Dialect) (m : Matcher) (p : Pattern) (v : Value) → founds (trace dialect (start m p v ∷ [])) ≡ map (λ s. s.bound) (solve dialect p m (target v) [])
unfolding trace met start stops
founds_start dialect m p v = founds_close (visit dialect p m (target v) [] (λ d. taken (found d) ∷ [])) (solve dialect p m (target v) []) (stops_visit dialect p m (target v) [] (λ d. taken (found d) ∷ []))
