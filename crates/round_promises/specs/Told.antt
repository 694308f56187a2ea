-- The lists of a round are the definitions': a not that is taken up whole by the budget takes up the states of the search inside it, and so does a round.
use Prim.Native.Nat.{ℕ, zero, suc, ◌≤◌, ◌<◌}
use Rattle.std.proofs.Common.{not-suc-le-zero, le_of_suc-le-suc, ◌∙◌, subst}
use Rattle.std.specs.Prelude.{◌≡◌, Bool}
use Rattle.std.proofs.Math.Path.{refl, sym, ap}
use Rattle.std.proofs.Math.Bool.{true, false}
use mathlib.Core.List.{List, [], ◌∷◌, ◌++◌, map, flat_map, append_assoc}
use Rattle.std.proofs.Math.ListN.{length}
use Rattle.rules.specs.Dialects.{Dialect}
use Rattle.rules.specs.Forms.{Matcher}
use Rattle.rules.specs.Forms.{Pattern, never}
use Rattle.rules.specs.Origins.{Valueᵒ, Bindings}
use Rattle.rules.specs.Search.{Atom, atom, end_of_not, State, state, drop_if, after_in, leave_not}
use Rattle.rules.specs.Following.{Solution, no_solution, solve}
use Rattle.round_rules.specs.Rounds.{marked, any_marked, searching, on_first, unmarked, Inside, spent, left, one_more, inside}
use Rattle.promises.specs.Trace.{Taken, passed, found, Met, taken, ended, pass, visit, visit_all, behind, met, close, trace, met_first}
use Rattle.promises.proofs.Trace.{met_cons, tree}
use Rattle.promises.specs.Trace
use Rattle.promises.specs.Solve.{stops, no_cons, not_ended}
use Rattle.promises.proofs.Solve.{stops_visit}
use Rattle.promises.proofs.Nots.{inner}

-- ---- What is met from waiting states.

met_append : (dialect : Dialect) (ms : List Met) (rs ss : List State) → met dialect ms (rs ++ ss) ≡ met dialect (met dialect ms rs) ss
unfolding met
met_append dialect ms [] ss = refl
met_append dialect ms (state g older e ∷ rs) ss = met_append dialect (behind g ms (visit_all dialect older e)) rs ss

met_atom : (dialect : Dialect) (g : Bool) (p : Pattern) (m : Matcher) (v : Valueᵒ) (older : List Atom) (e : Bindings) (ss : List State)
    → met dialect [] (state g (atom p m v ∷ older) e ∷ ss) ≡ pass ∷ met dialect [] (after_in dialect p m v older e ++ ss)
met_atom dialect g p m v older e ss = met_first dialect g (atom p m v ∷ older) e ss ∙ ap (λ r. met dialect r ss) (tree dialect p m v older e) ∙ met_cons dialect passed (met dialect [] (after_in dialect p m v older e)) ss
    ∙ ap {B = List Met} (λ r. pass ∷ r) (sym (met_append dialect [] (after_in dialect p m v older e) ss))

met_found : (dialect : Dialect) (g : Bool) (e : Bindings) (ss : List State) → met dialect [] (state g [] e ∷ ss) ≡ taken (found e) ∷ met dialect [] ss
unfolding visit_all
met_found dialect g e ss = met_first dialect g [] e ss ∙ met_cons dialect (found e) [] ss

-- ---- No row is found in what is met: so inside a not.

unfoldable pub Rowless : List Met → Type 0
Rowless [] = Unit {0}
Rowless (taken passed ∷ ms) = Rowless ms
Rowless (taken (found e) ∷ ms) = ⊥
Rowless (ended ∷ ms) = Unit {0}

module _ (dialect : Dialect) (last : Bindings) (older : List Atom) where
  -- The state that waits behind the search.
  abbrev waits : State
  waits = state true older last

  -- What the search is, by what it meets.
  unfoldable seen : ℕ → List Met → Inside
  seen n [] = left 0 (state false older last ∷ [])
  seen zero (m ∷ ms) = spent
  seen (suc n) (taken t ∷ ms) = one_more (seen n ms)
  seen (suc n) (ended ∷ ms) = left 1 []

  any_last : (ss : List State) → any_marked (ss ++ (waits ∷ [])) ≡ true
  unfolding any_marked marked
  any_last [] = refl
  any_last (state true o e ∷ ss) = refl
  any_last (state false o e ∷ ss) = any_last ss

  -- The end of a search inside: of one further inside, or of this one.
  data Leaves (ss : List State) : Type 0 where
    further : leave_not (ss ++ (waits ∷ [])) ≡ leave_not ss ++ (waits ∷ []) → ((ms : List Met) → met dialect (ended ∷ ms) ss ≡ pass ∷ met dialect [] (leave_not ss)) → Leaves ss
    whole' : leave_not (ss ++ (waits ∷ [])) ≡ [] → ((ms : List Met) → (ns : List Met) × (met dialect (ended ∷ ms) ss ≡ ended ∷ ns)) → Leaves ss

  leaves : (ss : List State) → Leaves ss
  unfolding leave_not met behind Trace.inside
  leaves [] = whole' refl (λ ms. (ms, refl))
  leaves (state true o e ∷ ss) = further refl (λ ms. met_cons dialect passed [] ss)
  leaves (state false o e ∷ ss) = go (leaves ss)
    where
      go : Leaves ss → Leaves (state false o e ∷ ss)
      go (further a b) = further a (λ ms. b (ms ++ visit_all dialect o e))
      go (whole' a b) = whole' a (λ ms. b (ms ++ visit_all dialect o e))

  -- One step of the search inside, by the budget that it leaves.
  inside_on : (n : ℕ) (s : State) (ss : List State) → inside dialect (suc n) (s ∷ (ss ++ (waits ∷ []))) ≡ one_more (inside dialect n (on_first dialect (s ∷ (ss ++ (waits ∷ [])))))
  unfolding inside searching
  inside_on n s ss = ap (λ b. elim b as (λ _. Inside) [
    | true ↦ one_more (inside dialect n (on_first dialect (s ∷ (ss ++ (waits ∷ [])))))
    | false ↦ left 0 (map unmarked (s ∷ (ss ++ (waits ∷ []))))
  ]) (any_last ss)

  inside_zero : (s : State) (ss : List State) → inside dialect 0 (s ∷ (ss ++ (waits ∷ []))) ≡ spent
  unfolding inside searching
  inside_zero s ss = ap (λ b. elim b as (λ _. Inside) [ true ↦ spent | false ↦ left 0 (map unmarked (s ∷ (ss ++ (waits ∷ [])))) ]) (any_last ss)

  inside_last : (n : ℕ) → inside dialect n (waits ∷ []) ≡ left 0 (state false older last ∷ [])
  unfolding inside searching any_marked unmarked
  inside_last zero = refl
  inside_last (suc n) = refl

  inside_none : (n : ℕ) → inside dialect n [] ≡ left 0 []
  unfolding inside searching
  inside_none zero = refl
  inside_none (suc n) = refl

  some_met : (s : State) (ss : List State) → (t : Met) × (ts : List Met) × (met dialect [] (s ∷ ss) ≡ t ∷ ts)
  unfolding visit_all
  some_met (state g [] e) ss = (_, _, met_found dialect g e ss)
  some_met (state g (end_of_not ∷ o) e) ss = go (leaves ss)
    where
      go : Leaves ss → (t : Met) × (ts : List Met) × (met dialect [] (state g (end_of_not ∷ o) e ∷ ss) ≡ t ∷ ts)
      go (further a b) = (_, _, met_first dialect g (end_of_not ∷ o) e ss ∙ b [])
      go (whole' a b) = (_, (b []).0, met_first dialect g (end_of_not ∷ o) e ss ∙ (b []).1)
  some_met (state g (atom p m v ∷ o) e) ss = (_, _, met_atom dialect g p m v o e ss)

  -- The search is what it meets.
  searched : (n : ℕ) (ss : List State) → Rowless (met dialect [] ss) → inside dialect n (ss ++ (waits ∷ [])) ≡ seen n (met dialect [] ss)
  unfolding seen met on_first one_more Rowless visit_all
  searched zero [] h = inside_last 0
  searched zero (s ∷ ss) h = let x = some_met s ss in inside_zero s ss ∙ sym (ap (seen 0) x.2)
  searched (suc n) [] h = inside_last (suc n)
  searched (suc n) (state g [] e ∷ ss) h = absurd (subst Rowless (met_found dialect g e ss) h)
  searched (suc n) (state g (end_of_not ∷ o) e ∷ ss) h = inside_on n (state g (end_of_not ∷ o) e) ss ∙ go (leaves ss) (searched n (leave_not ss))
    where
      go : Leaves ss → (Rowless (met dialect [] (leave_not ss)) → inside dialect n (leave_not ss ++ (waits ∷ [])) ≡ seen n (met dialect [] (leave_not ss)))
          → one_more (inside dialect n (leave_not (ss ++ (waits ∷ [])))) ≡ seen (suc n) (met dialect [] (state g (end_of_not ∷ o) e ∷ ss))
      go (further a b) k =
          let q = met_first dialect g (end_of_not ∷ o) e ss ∙ b [] in
          ap (λ l. one_more (inside dialect n l)) a ∙ ap one_more (k (subst Rowless q h)) ∙ sym (ap (seen (suc n)) q)
      go (whole' a b) k = ap (λ l. one_more (inside dialect n l)) a ∙ ap one_more (inside_none n) ∙ sym (ap (seen (suc n)) (met_first dialect g (end_of_not ∷ o) e ss ∙ (b []).1))
  searched (suc n) (state g (atom p m v ∷ o) e ∷ ss) h =
      let q = met_atom dialect g p m v o e ss in
      inside_on n (state g (atom p m v ∷ o) e) ss ∙ ap (λ l. one_more (inside dialect n l)) (sym (append_assoc (after_in dialect p m v o e) ss (waits ∷ [])))
      ∙ ap one_more (searched n (after_in dialect p m v o e ++ ss) (subst Rowless q h)) ∙ sym (ap (seen (suc n)) q)

  -- How many states that are, and what follows.
  pub rowless : (ms : List Met) (ss : List Solution) → stops ms ≡ flat_map (λ s. ended ∷ []) ss → Rowless ms
  unfolding stops Rowless flat_map
  rowless [] ss h = tt
  rowless (taken passed ∷ ms) ss h = rowless ms ss h
  rowless (taken (found e) ∷ ms) [] h = no_cons h
  rowless (taken (found e) ∷ ms) (s ∷ ss) h = absurd (clash h)
    where
      clash : {xs ys : List Met} → taken (found e) ∷ xs ≡ ended ∷ ys → ⊥
      clash q = not_ended q
  rowless (ended ∷ ms) ss h = tt

  seen_short : (n : ℕ) (ms : List Met) → n < length (close ms) → seen n ms ≡ spent
  unfolding seen close one_more
  seen_short n [] h = absurd (not-suc-le-zero h)
  seen_short zero (m ∷ ms) h = refl
  seen_short (suc n) (taken t ∷ ms) h = ap one_more (seen_short n ms (le_of_suc-le-suc h))
  seen_short (suc n) (ended ∷ ms) h = absurd (not-suc-le-zero (le_of_suc-le-suc h))

  seen_whole : (n : ℕ) (ms : List Met) (ss : List Solution) → stops ms ≡ flat_map (λ s. ended ∷ []) ss → length (close ms) ≤ n
      → seen n ms ≡ left (length (close ms)) (drop_if (no_solution ss) older last)
  unfolding seen close one_more stops no_solution drop_if flat_map
  seen_whole n [] [] h k = refl
  seen_whole n [] (s ∷ ss) h k = no_cons (sym h)
  seen_whole zero (taken t ∷ ms) ss h k = absurd (not-suc-le-zero k)
  seen_whole zero (ended ∷ ms) ss h k = absurd (not-suc-le-zero k)
  seen_whole (suc n) (taken passed ∷ ms) ss h k = ap one_more (seen_whole n ms ss h (le_of_suc-le-suc k))
  seen_whole (suc n) (taken (found e) ∷ ms) [] h k = no_cons h
  seen_whole (suc n) (taken (found e) ∷ ms) (s ∷ ss) h k = not_ended h
  seen_whole (suc n) (ended ∷ ms) [] h k = no_cons h
  seen_whole (suc n) (ended ∷ ms) (s ∷ ss) h k = refl

-- ---- A not, by the budget: too short for the search inside it, or enough.

module _ (dialect : Dialect) (p : Pattern) (m : Matcher) (v : Valueᵒ) (older : List Atom) (e : Bindings) where
  abbrev pub search : List Taken
  search = trace dialect (inner dialect p m v e ∷ [])

  pub its_stops : stops (met dialect [] (inner dialect p m v e ∷ [])) ≡ flat_map (λ s. ended ∷ []) (solve dialect p m v e)
  unfolding met behind visit_all stops
  its_stops = stops_visit dialect p m v e (λ d. ended ∷ [])

  its_search : (n : ℕ) → inside dialect n (after_in dialect (never p) m v older e) ≡ seen dialect e older n (met dialect [] (inner dialect p m v e ∷ []))
  unfolding after_in
  its_search n = searched dialect e older n (inner dialect p m v e ∷ []) (rowless dialect e older (met dialect [] (inner dialect p m v e ∷ [])) (solve dialect p m v e) its_stops)

  pub not_short : (n : ℕ) → n < length search → inside dialect n (after_in dialect (never p) m v older e) ≡ spent
  unfolding trace
  not_short n h = its_search n ∙ seen_short dialect e older n (met dialect [] (inner dialect p m v e ∷ [])) h

  pub not_whole : (n : ℕ) → length search ≤ n → inside dialect n (after_in dialect (never p) m v older e) ≡ left (length search) (drop_if (no_solution (solve dialect p m v e)) older e)
  unfolding trace
  not_whole n h = its_search n ∙ seen_whole dialect e older n (met dialect [] (inner dialect p m v e ∷ [])) (solve dialect p m v e) its_stops h
