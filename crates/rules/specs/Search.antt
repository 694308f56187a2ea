-- Document 01, section 4: states, atoms, what follows a state, and a run by a budget.
use Rattle.std.specs.Prelude.{ℕ, zero, suc, ◌-◌, Bool, true, false, ◌||◌, List, [], ◌∷◌, ◌++◌, map, length, leb, ℤ}
use Rattle.rules.specs.Forms.{Matcher, something, integer, list, multiset, tuple_of, Matchers, no_matchers, ◌▸ᵐ◌}
use Rattle.rules.specs.Forms.{Pattern, wildcard, variable, constant, value, nil, cons, join, tuple, both, either, never, Patterns, no_patterns, ◌▸ᵖ◌}
use Rattle.rules.specs.Forms.{Value}
use Rattle.rules.specs.Origins.{Valueᵒ, intᵒ, collectionᵒ, tupledᵒ, Valuesᵒ, emptyᵒ, ◌▸ᵒ◌, Bindings, plain, target}
use Rattle.rules.specs.Rows.{Form, row}
use Rattle.rules.specs.Fit.{element, members, is_something}
use Rattle.rules.specs.Equality.{equal, is_constant, is_value, is_empty}
use Rattle.rules.specs.Dialects.{Dialect, every_place, first_places}

-- ---- What a cons and a join divide a value into, in the order in which the states follow.

pub record Halves : Type 0 where
  pub first : Valueᵒ
  pub second : Valueᵒ

-- One element, and the others without that one place.
pub record Taking : Type 0 where
  pub one : Valueᵒ
  pub others : Valuesᵒ

unfoldable pub behind : Valueᵒ → Taking → Taking
behind v t = record { one = t.one; others = v ▸ᵒ t.others }

-- Each element in target order, with the others.
unfoldable pub takings : Valuesᵒ → List Taking
unfolding behind
takings emptyᵒ = []
takings (v ▸ᵒ vs) = record { one = v; others = vs } ∷ map (behind v) (takings vs)

-- "Cons, list: the first element and the rest; none on empty. Cons, multiset: one state for each element in target order, with that element, and
-- the rest without that one place."
unfoldable pub cons_halves : Matcher → Valueᵒ → List Halves
unfolding takings
cons_halves something v = []
cons_halves integer v = []
cons_halves (list m) (intᵒ o x) = []
cons_halves (list m) (collectionᵒ o emptyᵒ) = []
cons_halves (list m) (collectionᵒ o (v ▸ᵒ vs)) = record { first = v; second = collectionᵒ o vs } ∷ []
cons_halves (list m) (tupledᵒ o vs) = []
cons_halves (multiset m) (intᵒ o x) = []
cons_halves (multiset m) (collectionᵒ o vs) = map (λ t. record { first = t.one; second = collectionᵒ o t.others }) (takings vs)
cons_halves (multiset m) (tupledᵒ o vs) = []
cons_halves (tuple_of ms) v = []

unfoldable pub is_multiset : Matcher → Bool
is_multiset something = false
is_multiset integer = false
is_multiset (list m) = false
is_multiset (multiset m) = true
is_multiset (tuple_of ms) = false

-- One of the values is equal to v.
unfoldable pub any_equal : (Value → Value → Bool) → List Value → Value → Bool
any_equal eq [] v = false
any_equal eq (w ∷ ws) v = eq w v || any_equal eq ws v

-- Those halves whose first part is not equal to one before it; `before` are the first parts before. They are compared among the elements that remain at the
-- cons.
unfoldable pub differing : (Value → Value → Bool) → (before : List Value) → List Halves → List Halves
unfolding any_equal plain
differing eq before [] = []
differing eq before (h ∷ hs) = elim (any_equal eq before (plain h.first)) [
  | true ↦ differing eq (before ++ (plain h.first ∷ [])) hs
  | false ↦ h ∷ differing eq (before ++ (plain h.first ∷ [])) hs
]

unfoldable pub cons_halves_in : Dialect → Matcher → Valueᵒ → List Halves
unfolding cons_halves is_multiset differing equal element
cons_halves_in every_place m v = cons_halves m v
cons_halves_in first_places m v = elim (is_multiset m) [ true ↦ differing (equal (element m)) [] (cons_halves m v) | false ↦ cons_halves m v ]

pub record Cut : Type 0 where
  pub front : Valuesᵒ
  pub back : Valuesᵒ

unfoldable pub longer : Valueᵒ → Cut → Cut
longer v c = record { front = v ▸ᵒ c.front; back = c.back }

unfoldable pub cuts : Valuesᵒ → List Cut
unfolding longer
cuts emptyᵒ = record { front = emptyᵒ; back = emptyᵒ } ∷ []
cuts (v ▸ᵒ vs) = record { front = emptyᵒ; back = v ▸ᵒ vs } ∷ map (longer v) (cuts vs)

-- "Join on n elements: n + 1 states, shortest front first."
unfoldable pub join_halves : Valueᵒ → List Halves
unfolding cuts
join_halves (intᵒ o x) = []
join_halves (collectionᵒ o vs) = map (λ c. record { first = collectionᵒ o c.front; second = collectionᵒ o c.back }) (cuts vs)
join_halves (tupledᵒ o vs) = []

-- ---- States.

-- `end_of_not` stands at the end of the atoms of a search inside a not: where it is reached, that search has found its row.
pub data Atom : Type 0 where
  atom : Pattern → Matcher → Valueᵒ → Atom
  end_of_not : Atom

-- "A state is a list of atoms (pattern, matcher, value) and the bindings so far." The mark `true` is on the state that follows a not: it waits behind
-- the states of the search inside that not.
pub data State : Type 0 where
  state : (mark : Bool) → List Atom → Bindings → State

-- "If equal, the atom is dropped; else none follows."
unfoldable pub drop_if : Bool → List Atom → Bindings → List State
drop_if true older e = state false older e ∷ []
drop_if false older e = []

-- The k atoms of a tuple's parts, in order.
unfoldable pub atoms : Patterns → Matchers → Valuesᵒ → List Atom
atoms no_patterns ms vs = []
atoms (p ▸ᵖ ps) no_matchers vs = []
atoms (p ▸ᵖ ps) (m ▸ᵐ ms) emptyᵒ = []
atoms (p ▸ᵖ ps) (m ▸ᵐ ms) (v ▸ᵒ vs) = atom p m v ∷ atoms ps ms vs

-- A tuple: "one state follows with k atoms in order".
unfoldable pub apart : Patterns → Matchers → Valueᵒ → (older : List Atom) → Bindings → List State
unfolding atoms
apart ps ms (intᵒ o x) older e = []
apart ps ms (collectionᵒ o vs) older e = []
apart ps ms (tupledᵒ o vs) older e = state false (atoms ps ms vs ++ older) e ∷ []

-- The states that follow when the atom (p, m, v) is taken up: "new atoms stand before the older ones, first part first". And: "both on the same value,
-- p first; one state". Or: "two states, p's first". Not: first the state with which the search inside it begins; if that search ends without a row,
-- the state with the older atoms is next.
unfoldable pub after_in : Dialect → Pattern → Matcher → Valueᵒ → (older : List Atom) → Bindings → List State
unfolding is_something drop_if plain is_constant is_value is_empty element members cons_halves_in join_halves apart
after_in dialect wildcard m v older e = elim (is_something m) [
  | true ↦ state false older e ∷ []
  | false ↦ state false (atom wildcard something v ∷ older) e ∷ []
]
after_in dialect (variable x) m v older e = elim (is_something m) [
  | true ↦ state false older (e ++ (v ∷ [])) ∷ []
  | false ↦ state false (atom (variable x) something v ∷ older) e ∷ []
]
after_in dialect (constant c) m v older e = drop_if (is_constant c (plain v)) older e
after_in dialect (value x c) m v older e = drop_if (is_value m (map plain e) x c (plain v)) older e
after_in dialect nil m v older e = drop_if (is_empty (plain v)) older e
after_in dialect (cons p q) m v older e = map (λ h. state false (atom p (element m) h.first ∷ atom q m h.second ∷ older) e) (cons_halves_in dialect m v)
after_in dialect (join p q) m v older e = map (λ h. state false (atom p m h.first ∷ atom q m h.second ∷ older) e) (join_halves v)
after_in dialect (tuple ps) m v older e = apart ps (members m) v older e
after_in dialect (both p q) m v older e = state false (atom p m v ∷ atom q m v ∷ older) e ∷ []
after_in dialect (either p q) m v older e = state false (atom p m v ∷ older) e ∷ state false (atom q m v ∷ older) e ∷ []
after_in dialect (never p) m v older e = state false (atom p m v ∷ end_of_not ∷ []) e ∷ state true older e ∷ []

-- Dialect 1.
abbrev pub after : Pattern → Matcher → Valueᵒ → (older : List Atom) → Bindings → List State
after p m v older e = after_in every_place p m v older e

-- The search inside a not "ends at its first row": what waits of it is dropped, and with it the state that would have followed the not.
unfoldable pub leave_not : List State → List State
leave_not [] = []
leave_not (state true as' e ∷ ss) = ss
leave_not (state false as' e ∷ ss) = leave_not ss

-- "The first state has one atom": the whole target.
unfoldable pub start : Matcher → Pattern → Value → State
unfolding target
start m p v = state false (atom p m (target v) ∷ []) []

-- ---- A run.

-- The answer, how many rows were found and written, how many states were taken up, and the rows' words.
pub record Run : Type 0 where
  pub answer : ℕ
  pub rows : ℕ
  pub steps : ℕ
  pub written : List ℤ

unfoldable pub stopped : ℕ → ℕ → Run
stopped answer steps = record { answer = answer; rows = 0; steps = steps; written = [] }

-- One step before what comes; one step and one row before it.
unfoldable pub step : Run → Run
step r = record { answer = r.answer; rows = r.rows; steps = suc r.steps; written = r.written }

unfoldable pub row_step : List ℤ → Run → Run
row_step ws r = record { answer = r.answer; rows = suc r.rows; steps = suc r.steps; written = ws ++ r.written }

-- A run by a budget over the waiting states, the first of which is taken up next, with `free` words of the room left. "The states that follow are
-- taken up, each with all that comes from it, before any older one." 0: no state remains. 7: the budget is used up and states remain. 8: the row
-- of the state just taken up does not fit; it "is not begun; its state counts as a step". The states of a search inside a not "count as steps of the
-- run, with the budget falling through it"; the row that it finds is not written.
unfoldable pub run_in : Dialect → Form → (budget : ℕ) → List State → (free : ℕ) → Run
unfolding stopped step row_step row after_in leave_not
run_in dialect f zero [] free = stopped 0 0
run_in dialect f zero (s ∷ ss) free = stopped 7 0
run_in dialect f (suc n) [] free = stopped 0 0
run_in dialect f (suc n) (state g [] e ∷ ss) free = elim (leb (length (row f e)) free) [
  | true ↦ row_step (row f e) (run_in dialect f n ss (free - length (row f e)))
  | false ↦ stopped 8 1
]
run_in dialect f (suc n) (state g (end_of_not ∷ older) e ∷ ss) free = step (run_in dialect f n (leave_not ss) free)
run_in dialect f (suc n) (state g (atom p m v ∷ older) e ∷ ss) free = step (run_in dialect f n (after_in dialect p m v older e ++ ss) free)

-- Dialect 1.
abbrev pub run : Form → (budget : ℕ) → List State → (free : ℕ) → Run
run f n ss free = run_in every_place f n ss free
