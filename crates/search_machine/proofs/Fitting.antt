-- What fits by the definitions fits as a relation, and so do the parts of a value that is divided. Assumes nothing.
use Prim.Native.Nat.{ℕ, ◌+◌}
use mathlib.Core.Path.{◌≡◌, refl}
use mathlib.Core.Bool.{Bool, true, false}
use mathlib.Core.List.{List, [], ◌∷◌, ◌++◌, map}
use borrow.Author.Tests.{eqb-true}
use lib.Dec.{eqb}
use native.Mathlib.Omega.{arith}
use Rattle.rules.specs.Forms.{Matcher, something, integer, list, multiset, tuple_of, Matchers, no_matchers, ◌▸ᵐ◌, countᵐ, Value, int, collection, tupled, Values, empty, ◌▸◌, count, size}
use Rattle.rules.specs.Reading.{Verdict, ok, ◌then◌}
use Rattle.rules.specs.Variables.{demand}
use Rattle.rules.specs.Fit.{element, fits_all, fits_value, fits_each}
use Rattle.rules.specs.Origins.{Origin, Valueᵒ, intᵒ, collectionᵒ, tupledᵒ, Valuesᵒ, emptyᵒ, ◌▸ᵒ◌, plain, plain_all}
use Rattle.rules.specs.Search.{Taking, takings, behind, Halves, cons_halves, any_equal, differing, cons_halves_in, is_multiset, join_halves, Cut, cuts, longer}
use Rattle.rules.specs.Equality.{equal}
use Rattle.rules.specs.Dialects.{every_place, first_places}
use Rattle.forms.specs.Readers.{then_ok}
use Rattle.program_rules.specs.Points.{Kind, list_cons, multiset_cons, joins, over, first_by, halves}
use Rattle.search_machine.specs.Fitting.{Each, Fitting, FittingEach, Fine}

each_fits : (f : Value → ℕ → Verdict (Unit {0})) (P : Value → Type 0) → ((v : Value) (at : ℕ) → f v at ≡ ok tt → P v) → (vs : Values) (at : ℕ) → fits_all f vs at ≡ ok tt → Each P vs
unfolding fits_all Each
each_fits f P h empty at e = tt
each_fits f P h (v ▸ vs) at e = let r = then_ok (f v at) (λ _. fits_all f vs (at + size v)) tt e in (h v at r.1, each_fits f P h vs (at + size v) r.2)

clash : {A : Type 0} → ◌≡◌ {A = ℕ} 0 1 → A
clash z = absurd (omega arith)

demanded : (b : Bool) (at : ℕ) → demand {A = Unit {0}} b at tt ≡ ok tt → b ≡ true
unfolding demand
demanded true at e = refl
demanded false at e = clash cc

mutual
  unfolding fits_value fits_each Fitting FittingEach count countᵐ

  pub fits_value_lem : (m : Matcher) (v : Value) (at : ℕ) → fits_value m v at ≡ ok tt → Fitting m v
  fits_value_lem something v at e = tt
  fits_value_lem integer (int x) at e = tt
  fits_value_lem integer (collection vs) at e = clash cc
  fits_value_lem integer (tupled vs) at e = clash cc
  fits_value_lem (list m) (int x) at e = clash cc
  fits_value_lem (list m) (collection vs) at e = each_fits (λ v i. fits_value m v i) (λ v. Fitting m v) (λ v i. fits_value_lem m v i) vs (at + 2) e
  fits_value_lem (list m) (tupled vs) at e = clash cc
  fits_value_lem (multiset m) (int x) at e = clash cc
  fits_value_lem (multiset m) (collection vs) at e = each_fits (λ v i. fits_value m v i) (λ v. Fitting m v) (λ v i. fits_value_lem m v i) vs (at + 2) e
  fits_value_lem (multiset m) (tupled vs) at e = clash cc
  fits_value_lem (tuple_of ms) (int x) at e = clash cc
  fits_value_lem (tuple_of ms) (collection vs) at e = clash cc
  fits_value_lem (tuple_of ms) (tupled vs) at e =
      let r = then_ok (demand {A = Unit {0}} (eqb (countᵐ ms) (count vs)) at tt) (λ _. fits_each ms vs (at + 2)) tt e in
      fits_each_lem ms vs (at + 2) (eqb-true (countᵐ ms) (count vs) (demanded (eqb (countᵐ ms) (count vs)) at r.1)) r.2

  fits_each_lem : (ms : Matchers) (vs : Values) (at : ℕ) → countᵐ ms ≡ count vs → fits_each ms vs at ≡ ok tt → FittingEach ms vs
  fits_each_lem no_matchers empty at n e = tt
  fits_each_lem no_matchers (v ▸ vs) at n e = absurd (omega arith)
  fits_each_lem (m ▸ᵐ ms) empty at n e = absurd (omega arith)
  fits_each_lem (m ▸ᵐ ms) (v ▸ vs) at n e =
      let r = then_ok (fits_value m v at) (λ _. fits_each ms vs (at + size v)) tt e in
      (fits_value_lem m v at r.1, fits_each_lem ms vs (at + size v) (omega arith) r.2)

-- ---- Picks and cuts of elements that fit.

EachPick : (P : Value → Type 0) → List Taking → Type 0
EachPick P [] = Unit {0}
EachPick P (p ∷ ps) = P (plain p.one) × Each P (plain_all p.others) × EachPick P ps

behind_each : (P : Value → Type 0) (v : Valueᵒ) → P (plain v) → (ps : List Taking) → EachPick P ps → EachPick P (map (behind v) ps)
unfolding EachPick behind Each plain_all
behind_each P v h [] g = tt
behind_each P v h (p ∷ ps) g = (g.0, (h, g.1), behind_each P v h ps g.2)

takings_each : (P : Value → Type 0) (vs : Valuesᵒ) → Each P (plain_all vs) → EachPick P (takings vs)
unfolding takings Each EachPick plain_all
takings_each P emptyᵒ a = tt
takings_each P (v ▸ᵒ vs) a = (a.0, a.1, behind_each P v a.0 (takings vs) (takings_each P vs a.1))

EachCut : (P : Value → Type 0) → List Cut → Type 0
EachCut P [] = Unit {0}
EachCut P (c ∷ cs) = Each P (plain_all c.front) × Each P (plain_all c.back) × EachCut P cs

longer_each : (P : Value → Type 0) (v : Valueᵒ) → P (plain v) → (cs : List Cut) → EachCut P cs → EachCut P (map (longer v) cs)
unfolding EachCut longer Each plain_all
longer_each P v h [] g = tt
longer_each P v h (c ∷ cs) g = ((h, g.0), g.1, longer_each P v h cs g.2)

cuts_each : (P : Value → Type 0) (vs : Valuesᵒ) → Each P (plain_all vs) → EachCut P (cuts vs)
unfolding cuts Each EachCut plain_all
cuts_each P emptyᵒ a = (tt, tt, tt)
cuts_each P (v ▸ᵒ vs) a = (tt, a, longer_each P v a.0 (cuts vs) (cuts_each P vs a.1))

multiset_fine : (o : Origin) (m : Matcher) (ps : List Taking) → EachPick (λ v. Fitting m v) ps
    → Fine (multiset_cons m) (map (λ p. record { first = p.one; second = collectionᵒ o p.others }) ps)
unfolding EachPick Fitting Fine over first_by plain
multiset_fine o m [] g = tt
multiset_fine o m (p ∷ ps) g = (g.0, g.1, multiset_fine o m ps g.2)

join_fine : (o : Origin) (m : Matcher) (cs : List Cut) → EachCut (λ v. Fitting m v) cs
    → Fine (joins m) (map (λ c. record { first = collectionᵒ o c.front; second = collectionᵒ o c.back }) cs)
unfolding EachCut Fitting Fine over first_by plain
join_fine o m [] g = tt
join_fine o m (c ∷ cs) g = (g.0, g.1, join_fine o m cs g.2)

pub halves_fine : (k : Kind) (v : Valueᵒ) → Fitting (over k) (plain v) → Fine k (halves every_place k v)
unfolding halves cons_halves_in over first_by Fitting Fine Each cons_halves join_halves plain
halves_fine (list_cons m) (intᵒ o x) f = tt
halves_fine (list_cons m) (collectionᵒ o emptyᵒ) f = tt
halves_fine (list_cons m) (collectionᵒ o (v ▸ᵒ vs)) f = (f.0, f.1, tt)
halves_fine (list_cons m) (tupledᵒ o vs) f = tt
halves_fine (multiset_cons m) (intᵒ o x) f = tt
halves_fine (multiset_cons m) (collectionᵒ o vs) f = multiset_fine o m (takings vs) (takings_each (λ v. Fitting m v) vs f)
halves_fine (multiset_cons m) (tupledᵒ o vs) f = tt
halves_fine (joins m) (intᵒ o x) f = tt
halves_fine (joins m) (collectionᵒ o vs) f = join_fine o m (cuts vs) (cuts_each (λ v. Fitting m v) vs f)
halves_fine (joins m) (tupledᵒ o vs) f = tt

-- Some of the choices, in their order.
fine_some : (k : Kind) (eq : Value → Value → Bool) (before : List Value) (hs : List Halves) → Fine k hs → Fine k (differing eq before hs)
unfolding Fine differing
fine_some k eq before [] g = tt
fine_some k eq before (h ∷ hs) g = go (any_equal eq before (plain h.first)) (fine_some k eq (before ++ (plain h.first ∷ [])) hs g.2)
  where
    go : (b : Bool) → Fine k (differing eq (before ++ (plain h.first ∷ [])) hs)
        → Fine k (elim b as (λ _. List Halves) [ true ↦ differing eq (before ++ (plain h.first ∷ [])) hs | false ↦ h ∷ differing eq (before ++ (plain h.first ∷ [])) hs ])
    go true r = r
    go false r = (g.0, g.1, r)

pub firsts_fine : (m : Matcher) (v : Valueᵒ) → Fitting (multiset m) (plain v) → Fine (multiset_cons m) (halves first_places (multiset_cons m) v)
unfolding halves cons_halves_in is_multiset element over
firsts_fine m v f = fine_some (multiset_cons m) (equal m) [] (cons_halves (multiset m) v) (halves_fine (multiset_cons m) v f)
