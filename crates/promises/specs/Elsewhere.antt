-- Where no accepted input leads, the definitions say no: nothing is equal under something, no tag 3 holds whose variable has no value, only an empty
-- collection is a nil, and only a collection is divided.
use Rattle.std.specs.Prelude.{◌≡◌, refl, Bool, false, List, [], T, ℤ}
use Rattle.std.proofs.Common.{ap}
use Rattle.std.proofs.Math.Option.{none, some}
use Rattle.rules.specs.Forms.{Matcher, something, integer, list, multiset, tuple_of, Value, int, collection, tupled, empty, ◌▸◌}
use Rattle.rules.specs.Origins.{Origin, intᵒ, tupledᵒ, Valuesᵒ}
use Rattle.rules.specs.Reading.{entry}
use Rattle.rules.specs.Fit.{takes, alike}
use Rattle.rules.specs.Equality.{equal, raised, equal_to, is_value, is_empty}
use Rattle.rules.specs.Search.{cons_halves, join_halves}

pub nothing_under_something : (v w : Value) → equal something v w ≡ false
unfolding equal
nothing_under_something v w = refl

pub unbound_is_nothing : (m : Matcher) (e : List Value) (x c : ℤ) (v : Value) → entry e x ≡ none → is_value m e x c v ≡ false
unfolding is_value
unbound_is_nothing m e x c v h = ap (λ o. elim o as (λ _. Bool) [ none ↦ false | some w ↦ equal_to m (raised c w) v ]) h

pub only_empty_is_nil : (v : Value) → T (is_empty v) → v ≡ collection empty
unfolding is_empty
only_empty_is_nil (int x) t = absurd t
only_empty_is_nil (collection empty) t = refl
only_empty_is_nil (collection (v ▸ vs)) t = absurd t
only_empty_is_nil (tupled vs) t = absurd t

pub no_cons_of_an_integer : (m : Matcher) (o : Origin) (x : ℤ) → cons_halves m (intᵒ o x) ≡ []
unfolding cons_halves
no_cons_of_an_integer something o x = refl
no_cons_of_an_integer integer o x = refl
no_cons_of_an_integer (list m) o x = refl
no_cons_of_an_integer (multiset m) o x = refl
no_cons_of_an_integer (tuple_of ms) o x = refl

pub no_cons_of_a_tuple : (m : Matcher) (o : Origin) (vs : Valuesᵒ) → cons_halves m (tupledᵒ o vs) ≡ []
unfolding cons_halves
no_cons_of_a_tuple something o vs = refl
no_cons_of_a_tuple integer o vs = refl
no_cons_of_a_tuple (list m) o vs = refl
no_cons_of_a_tuple (multiset m) o vs = refl
no_cons_of_a_tuple (tuple_of ms) o vs = refl

pub no_join_of_an_integer : (o : Origin) (x : ℤ) → join_halves (intᵒ o x) ≡ []
unfolding join_halves
no_join_of_an_integer o x = refl

pub no_join_of_a_tuple : (o : Origin) (vs : Valuesᵒ) → join_halves (tupledᵒ o vs) ≡ []
unfolding join_halves
no_join_of_a_tuple o vs = refl

pub no_tag_3_under_something : takes something 3 ≡ false
unfolding takes
no_tag_3_under_something = refl

pub no_shape_without_a_variable : (m : Matcher) → alike m none ≡ false
unfolding alike
no_shape_without_a_variable m = refl
