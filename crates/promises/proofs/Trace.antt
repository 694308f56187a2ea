-- Laws of what specs/Trace.antt defines.
use Rattle.std.specs.Prelude.{ℕ, zero, suc, ◌-◌, ◌≡◌, refl, Bool, true, false, length, take, leb}
use Rattle.std.proofs.Common.{sym, ◌∙◌}
use Rattle.std.proofs.Math.Path.{ap, fun_ext}
use mathlib.Core.List.{List, [], ◌∷◌, ◌++◌, map, flat_map, append-nil, append_assoc}
use Rattle.rules.specs.Dialects.{Dialect}
use Rattle.rules.specs.Forms.{Matcher, something, Matchers, no_matchers, ◌▸ᵐ◌}
use Rattle.rules.specs.Forms.{Pattern, wildcard, nil, variable, constant, value, cons, join, tuple, both, either, never, Patterns, no_patterns, ◌▸ᵖ◌}
use Rattle.rules.specs.Origins.{Valueᵒ, intᵒ, collectionᵒ, tupledᵒ, Valuesᵒ, emptyᵒ, ◌▸ᵒ◌, Bindings, plain}
use Rattle.rules.specs.Fit.{element, members, is_something}
use Rattle.rules.specs.Equality.{is_constant, is_value, is_empty}
use Rattle.rules.specs.Search.{Halves, cons_halves_in, join_halves, Atom, atom, end_of_not, State, state, drop_if, atoms, apart, after_in, leave_not}
use Rattle.rules.specs.Rows.{Form, row}
use Rattle.rules.specs.Search.{Run, stopped, step, row_step, run_in}
use Rattle.rules.specs.Following.{of_parts}
use Rattle.promises.specs.Trace.{Met, Taken, behind, close, ended, found, inside, met, met_first, only_if, order, pass, passed, seen, taken, trace, visit, visit_all, visit_each, walk}

-- ---- What is met from waiting states.

pub met_cons : (dialect : Dialect) (t : Taken) (ms : List Met) (ss : List State) → met dialect (taken t ∷ ms) ss ≡ taken t ∷ met dialect ms ss
unfolding met
met_cons dialect t ms [] = refl
met_cons dialect t ms (state false as' e ∷ ss) = met_cons dialect t (ms ++ visit_all dialect as' e) ss
met_cons dialect t ms (state true as' e ∷ ss) = met_cons dialect t (inside ms (visit_all dialect as' e)) ss

met_append : (dialect : Dialect) (ms : List Met) (rs ss : List State) → met dialect ms (rs ++ ss) ≡ met dialect (met dialect ms rs) ss
unfolding met
met_append dialect ms [] ss = refl
met_append dialect ms (state g as' e ∷ rs) ss = met_append dialect (behind g ms (visit_all dialect as' e)) rs ss

-- The end of a search inside a not: what waits up to the marked state is not met.
met_ended : (dialect : Dialect) (ms : List Met) (ss : List State) → close (met dialect (ended ∷ ms) ss) ≡ passed ∷ close (met dialect [] (leave_not ss))
unfolding met close leave_not
met_ended dialect ms [] = refl
met_ended dialect ms (state false as' e ∷ ss) = met_ended dialect (ms ++ visit_all dialect as' e) ss
met_ended dialect ms (state true as' e ∷ ss) = ap close (met_cons dialect passed [] ss)

met_each : (dialect : Dialect) (f : Halves → List Atom) (e : Bindings) (ms : List Met) (hs : List Halves)
    → met dialect ms (map (λ h. state false (f h) e) hs) ≡ ms ++ flat_map (λ h. visit_all dialect (f h) e) hs
unfolding met flat_map
met_each dialect f e ms [] = sym (append-nil ms)
met_each dialect f e ms (h ∷ hs) = met_each dialect f e (ms ++ visit_all dialect (f h) e) hs ∙ append_assoc ms (visit_all dialect (f h) e) (flat_map (λ g. visit_all dialect (f g) e) hs)

-- ---- The tree of an atom is its state and the trees of those that follow it.

test : (dialect : Dialect) (b : Bool) (older : List Atom) (e : Bindings) → only_if b (visit_all dialect older e) ≡ met dialect [] (drop_if b older e)
unfolding met only_if drop_if
test dialect true older e = refl
test dialect false older e = refl

-- Tags 0 and 1, under something or not; d are the bindings after it.
leaf : (dialect : Dialect) (b : Bool) (x : Atom) (older : List Atom) (d e : Bindings) → visit_all dialect (x ∷ older) e ≡ pass ∷ visit_all dialect older d
    → elim b as (λ _. List Met) [ true ↦ visit_all dialect older d | false ↦ pass ∷ visit_all dialect older d ]
    ≡ met dialect [] (elim b as (λ _. List State) [ true ↦ state false older d ∷ [] | false ↦ state false (x ∷ older) e ∷ [] ])
unfolding met
leaf dialect true x older d e h = refl
leaf dialect false x older d e h = sym h

halves : (dialect : Dialect) (p : Pattern) (m : Matcher) (q : Pattern) (k : Matcher) (older : List Atom) (e : Bindings) (hs : List Halves)
    → flat_map (λ h. visit dialect p m h.first e (λ d. visit dialect q k h.second d (λ c. visit_all dialect older c))) hs
    ≡ met dialect [] (map (λ h. state false (atom p m h.first ∷ atom q k h.second ∷ older) e) hs)
unfolding visit_all
halves dialect p m q k older e hs = sym (met_each dialect (λ h. atom p m h.first ∷ atom q k h.second ∷ older) e [] hs)

each : (dialect : Dialect) (ps : Patterns) (ms : Matchers) (vs : Valuesᵒ) (older : List Atom) (e : Bindings)
    → visit_each dialect ps ms vs e (λ d. visit_all dialect older d) ≡ visit_all dialect (atoms ps ms vs ++ older) e
unfolding visit_each visit_all atoms
each dialect no_patterns ms vs older e = refl
each dialect (p ▸ᵖ ps) no_matchers vs older e = refl
each dialect (p ▸ᵖ ps) (m ▸ᵐ ms) emptyᵒ older e = refl
each dialect (p ▸ᵖ ps) (m ▸ᵐ ms) (v ▸ᵒ vs) older e = ap (visit dialect p m v e) (fun_ext (λ d. each dialect ps ms vs older d))

parted : (dialect : Dialect) (ps : Patterns) (ms : Matchers) (v : Valueᵒ) (older : List Atom) (e : Bindings)
    → of_parts (λ vs. visit_each dialect ps ms vs e (λ d. visit_all dialect older d)) v ≡ met dialect [] (apart ps ms v older e)
unfolding of_parts apart met
parted dialect ps ms (intᵒ o x) older e = refl
parted dialect ps ms (collectionᵒ o vs) older e = refl
parted dialect ps ms (tupledᵒ o vs) older e = each dialect ps ms vs older e

pub tree : (dialect : Dialect) (p : Pattern) (m : Matcher) (v : Valueᵒ) (older : List Atom) (e : Bindings) → visit_all dialect (atom p m v ∷ older) e ≡ pass ∷ met dialect [] (after_in dialect p m v older e)
unfolding visit_all after_in met
tree dialect wildcard m v older e = ap {B = List Met} (λ r. pass ∷ r) (leaf dialect (is_something m) (atom wildcard something v) older e e refl)
tree dialect nil m v older e = ap {B = List Met} (λ r. pass ∷ r) (test dialect (is_empty (plain v)) older e)
tree dialect (variable x) m v older e = ap {B = List Met} (λ r. pass ∷ r) (leaf dialect (is_something m) (atom (variable x) something v) older (e ++ (v ∷ [])) e refl)
tree dialect (constant c) m v older e = ap {B = List Met} (λ r. pass ∷ r) (test dialect (is_constant c (plain v)) older e)
tree dialect (value x c) m v older e = ap {B = List Met} (λ r. pass ∷ r) (test dialect (is_value m (map plain e) x c (plain v)) older e)
tree dialect (cons p q) m v older e = ap {B = List Met} (λ r. pass ∷ r) (halves dialect p (element m) q m older e (cons_halves_in dialect m v))
tree dialect (join p q) m v older e = ap {B = List Met} (λ r. pass ∷ r) (halves dialect p m q m older e (join_halves v))
tree dialect (tuple ps) m v older e = ap {B = List Met} (λ r. pass ∷ r) (parted dialect ps (members m) v older e)
tree dialect (both p q) m v older e = refl
tree dialect (either p q) m v older e = refl
tree dialect (never p) m v older e = refl

-- ---- The first waiting state: none, with no atom, at the end of a search inside a not, or with an atom.

trace_none : (dialect : Dialect) → trace dialect [] ≡ []
unfolding trace
trace_none dialect = refl

module _ (dialect : Dialect) (g : Bool) (e : Bindings) (ss : List State) where
  trace_found : trace dialect (state g [] e ∷ ss) ≡ found e ∷ trace dialect ss
  unfolding trace visit_all
  trace_found = ap close (met_first dialect g [] e ss ∙ met_cons dialect (found e) [] ss)

  trace_cut : (older : List Atom) → trace dialect (state g (end_of_not ∷ older) e ∷ ss) ≡ passed ∷ trace dialect (leave_not ss)
  unfolding trace visit_all
  trace_cut older = ap close (met_first dialect g (end_of_not ∷ older) e ss) ∙ met_ended dialect [] ss

  trace_atom : (p : Pattern) (m : Matcher) (v : Valueᵒ) (older : List Atom)
      → trace dialect (state g (atom p m v ∷ older) e ∷ ss) ≡ passed ∷ trace dialect (after_in dialect p m v older e ++ ss)
  unfolding trace
  trace_atom p m v older = ap close (met_first dialect g (atom p m v ∷ older) e ss ∙ ap (λ r. met dialect r ss) (tree dialect p m v older e)
      ∙ met_cons dialect passed (met dialect [] (after_in dialect p m v older e)) ss ∙ ap {B = List Met} (λ r. pass ∷ r) (sym (met_append dialect [] (after_in dialect p m v older e) ss)))

-- ---- A run walks along the trace.

pub run_walks : (dialect : Dialect) (f : Form) (n : ℕ) (ss : List State) (free : ℕ) → run_in dialect f n ss free ≡ walk f n (trace dialect ss) free
unfolding run_in walk
run_walks dialect f zero [] free = rw (trace_none dialect)
run_walks dialect f zero (state g [] e ∷ ss) free = rw (trace_found dialect g e ss)
run_walks dialect f zero (state g (end_of_not ∷ older) e ∷ ss) free = rw (trace_cut dialect g e ss older)
run_walks dialect f zero (state g (atom p m v ∷ older) e ∷ ss) free = rw (trace_atom dialect g e ss p m v older)
run_walks dialect f (suc n) [] free = rw (trace_none dialect)
run_walks dialect f (suc n) (state g [] e ∷ ss) free = rw (trace_found dialect g e ss)
    (ap (λ z. elim (leb (length (row f e)) free) as (λ _. Run) [ true ↦ row_step (row f e) z | false ↦ stopped 8 1 ]) (run_walks dialect f n ss (free - length (row f e))))
run_walks dialect f (suc n) (state g (end_of_not ∷ older) e ∷ ss) free = rw (trace_cut dialect g e ss older) (ap step (run_walks dialect f n (leave_not ss) free))
run_walks dialect f (suc n) (state g (atom p m v ∷ older) e ∷ ss) free = rw (trace_atom dialect g e ss p m v older) (ap step (run_walks dialect f n (after_in dialect p m v older e ++ ss) free))

pub trace_order : (dialect : Dialect) (n : ℕ) (ss : List State) → take n (trace dialect ss) ≡ map seen (order dialect n ss)
unfolding order seen
trace_order dialect zero ss = refl
trace_order dialect (suc n) [] = rw (trace_none dialect)
trace_order dialect (suc n) (state g [] e ∷ ss) = rw (trace_found dialect g e ss) (ap {B = List Taken} (λ r. found e ∷ r) (trace_order dialect n ss))
trace_order dialect (suc n) (state g (end_of_not ∷ older) e ∷ ss) = rw (trace_cut dialect g e ss older) (ap {B = List Taken} (λ r. passed ∷ r) (trace_order dialect n (leave_not ss)))
trace_order dialect (suc n) (state g (atom p m v ∷ older) e ∷ ss) =
    rw (trace_atom dialect g e ss p m v older) (ap {B = List Taken} (λ r. passed ∷ r) (trace_order dialect n (after_in dialect p m v older e ++ ss)))
