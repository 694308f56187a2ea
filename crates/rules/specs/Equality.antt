-- Document 01, section 4, tags 2, 3 and 4: what they test. The search and the good ways both rest on this.
use Rattle.std.specs.Prelude.{Bool, true, false, ◌&&◌, ◌||◌, List, [], ◌∷◌, map, ℤ}
use Rattle.std.proofs.Math.Option.{Option, none, some}
use Rattle.rules.specs.Numbers.{same, plus}
use Rattle.rules.specs.Forms.{Matcher, something, integer, list, multiset, tuple_of, Matchers, no_matchers, ◌▸ᵐ◌, Value, int, collection, tupled, Values, empty, ◌▸◌}
use Rattle.rules.specs.Reading.{entry}

-- "Lists are equal element by element in order."
unfoldable pub in_order : (Value → Value → Bool) → Values → Values → Bool
in_order eq empty empty = true
in_order eq empty (w ▸ ws) = false
in_order eq (v ▸ vs) empty = false
in_order eq (v ▸ vs) (w ▸ ws) = eq v w && in_order eq vs ws

-- One element, and the others without that one place.
pub record Pick : Type 0 where
  pub one : Value
  pub others : Values

unfoldable pub behind : Value → Pick → Pick
behind v p = record { one = p.one; others = v ▸ p.others }

-- Each element in target order, with the others.
unfoldable pub picks : Values → List Pick
unfolding behind
picks empty = []
picks (v ▸ vs) = record { one = v; others = vs } ∷ map (behind v) (picks vs)

unfoldable pub any : (Pick → Bool) → List Pick → Bool
any f [] = false
any f (p ∷ ps) = f p || any f ps

-- Multisets are equal "when the elements of one can be paired off with those of the other": the first element goes with some element of the
-- other, and what is left of both can be paired off.
unfoldable pub paired_off : (Value → Value → Bool) → Values → Values → Bool
unfolding picks any
paired_off eq empty empty = true
paired_off eq empty (w ▸ ws) = false
paired_off eq (v ▸ vs) ws = any (λ p. eq v p.one && paired_off eq vs p.others) (picks ws)

-- Equality under a matcher; "two tuples are equal part by part". (Under something nothing is compared: no tag 3 stands there.)
unfoldable mutual
  unfolding same in_order paired_off

  pub equal : Matcher → Value → Value → Bool
  equal something v w = false
  equal integer (int x) (int y) = same x y
  equal integer (int x) (collection ws) = false
  equal integer (int x) (tupled ws) = false
  equal integer (collection vs) w = false
  equal integer (tupled vs) w = false
  equal (list m) (int x) w = false
  equal (list m) (collection vs) (int y) = false
  equal (list m) (collection vs) (collection ws) = in_order (λ a b. equal m a b) vs ws
  equal (list m) (collection vs) (tupled ws) = false
  equal (list m) (tupled vs) w = false
  equal (multiset m) (int x) w = false
  equal (multiset m) (collection vs) (int y) = false
  equal (multiset m) (collection vs) (collection ws) = paired_off (λ a b. equal m a b) vs ws
  equal (multiset m) (collection vs) (tupled ws) = false
  equal (multiset m) (tupled vs) w = false
  equal (tuple_of ms) (int x) w = false
  equal (tuple_of ms) (collection vs) w = false
  equal (tuple_of ms) (tupled vs) (int y) = false
  equal (tuple_of ms) (tupled vs) (collection ws) = false
  equal (tuple_of ms) (tupled vs) (tupled ws) = equal_parts ms vs ws

  pub equal_parts : Matchers → Values → Values → Bool
  equal_parts no_matchers empty empty = true
  equal_parts no_matchers empty (w ▸ ws) = false
  equal_parts no_matchers (v ▸ vs) ws = false
  equal_parts (m ▸ᵐ ms) empty ws = false
  equal_parts (m ▸ᵐ ms) (v ▸ vs) empty = false
  equal_parts (m ▸ᵐ ms) (v ▸ vs) (w ▸ ws) = equal m v w && equal_parts ms vs ws

-- Tag 2: the constant integer c against v.
unfoldable pub is_constant : ℤ → Value → Bool
unfolding equal
is_constant c v = equal integer (int c) v

-- A value, plus c, if there is such a value. (At a collection or a tuple c is 0.)
unfoldable pub raised : ℤ → Value → Option Value
unfolding plus
raised c (int x) = elim (plus x c) [ none ↦ none | some y ↦ some (int y) ]
raised c (collection vs) = some (collection vs)
raised c (tupled vs) = some (tupled vs)

-- Equal to a value, if there is one.
unfoldable pub equal_to : Matcher → Option Value → Value → Bool
unfolding equal
equal_to m none v = false
equal_to m (some w) v = equal m w v

-- Tag 3: the value of variable x, plus c, against v. The values of the variables are e, in number order.
unfoldable pub is_value : Matcher → List Value → ℤ → ℤ → Value → Bool
unfolding entry raised equal_to
is_value m e x c v = elim (entry e x) [ none ↦ false | some w ↦ equal_to m (raised c w) v ]

-- Tag 4: an empty collection.
unfoldable pub is_empty : Value → Bool
is_empty (int x) = false
is_empty (collection empty) = true
is_empty (collection (v ▸ vs)) = false
is_empty (tupled vs) = false
