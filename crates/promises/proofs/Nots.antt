-- Document 02, No. 3: a not in the order of the states. Its own state is taken up; then those of the search inside it, up to its first row, which write
-- nothing; and then one state follows if p has no way from the bindings held, else none.
use Rattle.std.specs.Prelude.{◌≡◌, refl, Bool, false}
use Rattle.std.proofs.Common.{sym, ◌∙◌}
use Rattle.std.proofs.Math.Path.{ap}
use mathlib.Core.List.Memᴰ
use mathlib.Core.List.{List, [], ◌∷◌, ◌++◌, flat_map}
use Rattle.rules.specs.Dialects.{Dialect}
use Rattle.rules.specs.Forms.{Matcher, Pattern, never}
use Rattle.rules.specs.Origins.{Valueᵒ, Bindings}
use Rattle.rules.specs.Search.{Atom, atom, end_of_not, State, state}
use Rattle.rules.specs.Ways.{Way, Follows}
use Rattle.rules.specs.Following.{Solution, solve}
use Rattle.forms.specs.Lists.{Mem}
use Rattle.promises.specs.Twin.{sound, complete}
use Rattle.promises.specs.Trace.{Taken, passed, found, Met, taken, ended, inside, visit, visit_all, met, close, trace, met_first}
use Rattle.promises.proofs.Trace.{met_cons}
use Rattle.promises.specs.Solve.{founds, stops, no_cons, not_ended}
use Rattle.promises.proofs.Solve.{stops_visit}

-- ---- What is met inside, without an end and with one.

after_none : (dialect : Dialect) (ms ns : List Met) (ss : List State) → stops ms ≡ [] → close (met dialect (inside ms ns) ss) ≡ close ms ++ close (met dialect ns ss)
unfolding stops inside close
after_none dialect [] ns ss h = refl
after_none dialect (taken passed ∷ ms) ns ss h = ap close (met_cons dialect passed (inside ms ns) ss) ∙ ap {B = List Taken} (λ r. passed ∷ r) (after_none dialect ms ns ss h)
after_none dialect (taken (found e) ∷ ms) ns ss h = no_cons h
after_none dialect (ended ∷ ms) ns ss h = no_cons h

after_end_lem : (dialect : Dialect) (ms ns us : List Met) (ss : List State) → stops ms ≡ ended ∷ us → close (met dialect (inside ms ns) ss) ≡ close ms ++ close (met dialect [] ss)
unfolding stops inside close
after_end_lem dialect [] ns us ss h = no_cons (sym h)
after_end_lem dialect (taken passed ∷ ms) ns us ss h = ap close (met_cons dialect passed (inside ms ns) ss) ∙ ap {B = List Taken} (λ r. passed ∷ r) (after_end_lem dialect ms ns us ss h)
after_end_lem dialect (taken (found e) ∷ ms) ns us ss h = not_ended h
after_end_lem dialect (ended ∷ ms) ns us ss h = ap close (met_cons dialect passed [] ss)

no_row : (ms : List Met) (ss : List Solution) → stops ms ≡ flat_map (λ s. ended ∷ []) ss → founds (close ms) ≡ []
unfolding stops close founds flat_map
no_row [] ss h = refl
no_row (taken passed ∷ ms) ss h = no_row ms ss h
no_row (taken (found e) ∷ ms) [] h = no_cons h
no_row (taken (found e) ∷ ms) (s ∷ ss) h = not_ended h
no_row (ended ∷ ms) ss h = refl

module _ (dialect : Dialect) (p : Pattern) (m : Matcher) (v : Valueᵒ) (e : Bindings) where
  -- The state with which the search inside begins, alone: it ends at its first row.
  abbrev pub inner : State
  inner = state false (atom p m v ∷ end_of_not ∷ []) e

  abbrev meets : List Met
  meets = visit dialect p m v e (λ d. ended ∷ [])

  pub inner_writes_nothing : founds (trace dialect (inner ∷ [])) ≡ []
  unfolding trace met visit_all stops
  inner_writes_nothing = no_row meets (solve dialect p m v e) (stops_visit dialect p m v e (λ d. ended ∷ []))

  module _ (g : Bool) (older : List Atom) (ss : List State) where
    here : trace dialect (state g (atom (never p) m v ∷ older) e ∷ ss) ≡ passed ∷ close (met dialect (inside meets (visit_all dialect older e)) ss)
    unfolding trace visit_all visit close
    here = ap close (met_first dialect g (atom (never p) m v ∷ older) e ss ∙ met_cons dialect passed (inside meets (visit_all dialect older e)) ss)

    pub not_holds : ((w : Way) (d : Bindings) → Follows dialect p m v e w d → ⊥)
        → trace dialect (state g (atom (never p) m v ∷ older) e ∷ ss) ≡ passed ∷ (trace dialect (inner ∷ []) ++ trace dialect (state false older e ∷ ss))
    unfolding trace met visit_all stops flat_map
    not_holds h = here ∙ ap {B = List Taken} (λ r. passed ∷ r) (after_none dialect meets (visit_all dialect older e) ss (go (solve dialect p m v e) (stops_visit dialect p m v e (λ d. ended ∷ []))
        (λ s i. h s.way s.bound (sound dialect p m v e s i))))
      where
        go : (rs : List Solution) → stops meets ≡ flat_map (λ s. ended ∷ []) rs → ((s : Solution) → Mem s rs → ⊥) → stops meets ≡ []
        go [] q n = q
        go (s ∷ rs) q n = absurd (n s (Memᴰ.head refl))

    pub not_fails : (w : Way) (d : Bindings) → Follows dialect p m v e w d
        → trace dialect (state g (atom (never p) m v ∷ older) e ∷ ss) ≡ passed ∷ (trace dialect (inner ∷ []) ++ trace dialect ss)
    unfolding trace met visit_all stops flat_map
    not_fails w d f = here ∙ ap {B = List Taken} (λ r. passed ∷ r) (go (solve dialect p m v e) (stops_visit dialect p m v e (λ c. ended ∷ [])) (complete dialect p m v e w d f))
      where
        go : (rs : List Solution) → stops meets ≡ flat_map (λ s. ended ∷ []) rs → Mem (record { way = w; bound = d }) rs
            → close (met dialect (inside meets (visit_all dialect older e)) ss) ≡ close meets ++ close (met dialect [] ss)
        go [] q i = absurd (Memᴰ.not-nil i)
        go (s ∷ rs) q i = after_end_lem dialect meets (visit_all dialect older e) _ ss q
