-- Document 01, section 4, as a program: its instructions, what is to do at each of its places, and what an instruction makes of it.
use Rattle.std.specs.Prelude.{ℕ, zero, suc, ◌+◌, ◌<◌, ◌≤◌, ◌≡◌, refl, Bool, true, false, List, [], ◌∷◌, ◌++◌, map, length, ℤ, pos}
use Rattle.std.proofs.Common.{ap}
use Rattle.std.proofs.Math.Option.{some}
use Rattle.std.proofs.Math.ListN.{get_elem?}
use Rattle.rules.specs.Forms.{Matcher, something, integer, list, multiset, tuple_of, Matchers, no_matchers, ◌▸ᵐ◌, countᵐ}
use Rattle.rules.specs.Forms.{Pattern, wildcard, nil, variable, constant, value, cons, join, tuple, both, either, never, Patterns, no_patterns, ◌▸ᵖ◌, countᵖ}
use Rattle.rules.specs.Fit.{element, takes, without_something, same_shape, is_something}
use Rattle.rules.specs.Equality.{is_constant, is_value, is_empty}
use Rattle.rules.specs.Origins.{Valueᵒ, Bindings, plain}
use Rattle.rules.specs.Search.{Halves, cons_halves, join_halves, Atom, atom, end_of_not, State, state, drop_if, leave_not, after_in, cons_halves_in, is_multiset}
use Rattle.rules.specs.Dialects.{Dialect, every_place, first_places}

-- What waits when a state has been taken up and `ss` waited behind it.
unfoldable pub resume : Dialect → State → List State → List State
unfolding after_in cons_halves_in leave_not
resume dialect (state g [] e) ss = ss
resume dialect (state g (end_of_not ∷ older) e) ss = leave_not ss
resume dialect (state g (atom p m v ∷ older) e) ss = after_in dialect p m v older e ++ ss

-- ---- The ways in which an atom is divided into two, each with the matcher that it stands under.
pub data Kind : Type 0 where
  list_cons multiset_cons joins : Matcher → Kind

unfoldable pub over : Kind → Matcher
over (list_cons m) = list m
over (multiset_cons m) = multiset m
over (joins m) = list m

unfoldable pub first_by : Kind → Matcher
first_by (list_cons m) = m
first_by (multiset_cons m) = m
first_by (joins m) = list m

unfoldable pub whole : Kind → Pattern → Pattern → Pattern
whole (list_cons m) p q = cons p q
whole (multiset_cons m) p q = cons p q
whole (joins m) p q = join p q

unfoldable pub halves : Dialect → Kind → Valueᵒ → List Halves
unfolding cons_halves cons_halves_in join_halves
halves dialect (list_cons m) v = cons_halves (list m) v
halves dialect (multiset_cons m) v = cons_halves_in dialect (multiset m) v
halves dialect (joins m) v = join_halves v

unfoldable pub branch : Kind → Pattern → Pattern → List Atom → Bindings → Halves → State
unfolding over first_by
branch k p q older e h = state false (atom p (first_by k) h.first ∷ atom q (over k) h.second ∷ older) e

pub after_whole : (dialect : Dialect) (k : Kind) (p q : Pattern) (v : Valueᵒ) (older : List Atom) (e : Bindings)
    → after_in dialect (whole k p q) (over k) v older e ≡ map (branch k p q older e) (halves dialect k v)
unfolding after_in cons_halves_in is_multiset whole over first_by halves branch element
after_whole every_place (list_cons m) p q v older e = refl
after_whole first_places (list_cons m) p q v older e = refl
after_whole dialect (multiset_cons m) p q v older e = refl
after_whole dialect (joins m) p q v older e = refl

-- ---- The tests that drop an atom or end a state.
pub data Test : Type 0 where
  as_constant : ℤ → Test
  as_value : Matcher → ℕ → ℤ → Test
  as_nil : Matcher → Test

unfoldable pub tested : Test → Pattern
tested (as_constant c) = constant c
tested (as_value m x c) = value (pos x) c
tested (as_nil m) = nil

unfoldable pub test_by : Test → Matcher
test_by (as_constant c) = integer
test_by (as_value m x c) = m
test_by (as_nil m) = m

unfoldable pub passes : Test → Bindings → Valueᵒ → Bool
unfolding plain is_constant is_value is_empty
passes (as_constant c) e v = is_constant c (plain v)
passes (as_value m x c) e v = is_value m (map plain e) (pos x) c (plain v)
passes (as_nil m) e v = is_empty (plain v)

-- What the fit of the pattern says of a test, `ms` being the matchers of the variables to its left.
unfoldable pub Sound : Test → List Matcher → Type 0
unfolding without_something same_shape takes
Sound (as_constant c) ms = Unit {0}
Sound (as_value m x c) ms = (k : Matcher) × (get_elem? ms x ≡ some k) × (same_shape m k ≡ true) × (without_something m ≡ true)
Sound (as_nil m) ms = takes m 4 ≡ true

pub after_test : (dialect : Dialect) (t : Test) (v : Valueᵒ) (older : List Atom) (e : Bindings)
    → after_in dialect (tested t) (test_by t) v older e ≡ drop_if (passes t e v) older e
unfolding after_in cons_halves_in tested test_by passes
after_test dialect (as_constant c) v older e = refl
after_test dialect (as_value m x c) v older e = refl
after_test dialect (as_nil m) v older e = refl

-- ---- The patterns that take any value: under anything but something they are first put under something.
pub data Loose : Pattern → Type 0 where
  loose_wildcard : Loose wildcard
  loose_variable : {x : ℤ} → Loose (variable x)

pub after_loose : (dialect : Dialect) {p : Pattern} → Loose p → (m : Matcher) (v : Valueᵒ) (older : List Atom) (e : Bindings) → is_something m ≡ false
    → after_in dialect p m v older e ≡ state false (atom p something v ∷ older) e ∷ []
unfolding after_in cons_halves_in
after_loose dialect loose_wildcard m v older e h = ap (λ b. elim b as (λ _. List State) [ true ↦ state false older e ∷ [] | false ↦ state false (atom wildcard something v ∷ older) e ∷ [] ]) h
after_loose dialect (loose_variable {x}) m v older e h =
    ap (λ b. elim b as (λ _. List State) [ true ↦ state false older (e ++ (v ∷ [])) ∷ [] | false ↦ state false (atom (variable x) something v ∷ older) e ∷ [] ]) h

-- ---- Instructions. One instruction is one state taken up. Those that drop an atom end with the slot of the value for the next atom (`from`) and that
-- atom's place (`to`). A tuple has as many places reserved after it as it has parts beyond two. `other`
-- stands between the two sides of an or and `close` after the second: no state stands there.
pub data Instr : Type 0 where
  strip keep other close : Instr
  drop : (from to : ℕ) → Instr
  bind : (number from to : ℕ) → Instr
  test : Test → (from to : ℕ) → Instr
  split : Kind → Instr
  apart : (reserved : ℕ) → Instr
  choice : (to : ℕ) → Instr
  deny : (from to : ℕ) → Instr
  cut_at : (j : ℕ) → Instr
  end : ℕ → Instr

-- ---- What is to do at a place of the program: the matchers of the variables bound so far, the first atom's pattern with the matcher that it is under now
-- and the one that its tag stands under, and what waits.

-- What waits: a later atom, with the slot where its value waits; the second side of an or, q under m, when the first is at its end; the end of an or, when
-- its second side is; the end of the search inside the not at the place j.
pub data Item : Type 0 where
  item : Pattern → Matcher → ℕ → Item
  or_else : (q : Pattern) → Matcher → Item
  end_or : Item
  stop : (j : ℕ) → Item

-- No state stands between the two sides of an or (`else_place`), after the second (`end_place`), nor at a place that is reserved: there only the slot is
-- used, and P is to do at the next place. At `cutting` the search inside the not at j has found its row. Nothing is to do at the last place, and no state
-- stands beyond it.
pub data Point : Type 0 where
  point : List Matcher → Pattern → Matcher → Matcher → List Item → Point
  else_place : List Matcher → (q : Pattern) → Matcher → List Item → Point
  end_place : List Matcher → List Item → Point
  cutting : List Matcher → (j : ℕ) → List Item → Point
  finish : List Matcher → Point
  reserve : (P : Point) → Point
  beyond : Point

-- What is to do when an atom has been dropped and `ts` wait. A side of an or that is at its end goes on after the or.
unfoldable pub enter : List Matcher → List Item → Point
enter ms [] = finish ms
enter ms (item p m c ∷ ts) = point ms p m m ts
enter ms (or_else q m ∷ ts) = enter ms ts
enter ms (end_or ∷ ts) = enter ms ts
enter ms (stop j ∷ ts) = cutting ms j ts

unfoldable pub from : List Item → ℕ
from [] = 0
from (item p m c ∷ ts) = c
from (or_else q m ∷ ts) = from ts
from (end_or ∷ ts) = from ts
from (stop j ∷ ts) = j

unfoldable pub known : Point → List Matcher
known (point ms p m k ts) = ms
known (else_place ms q m ts) = ms
known (end_place ms ts) = ms
known (cutting ms j ts) = ms
known (finish ms) = ms
known (reserve P) = known P
known beyond = []

-- The not inside which a place is: 0 none, j + 1 the one at j.
unfoldable pub within : List Item → ℕ
within [] = 0
within (item p m c ∷ ts) = within ts
within (or_else q m ∷ ts) = within ts
within (end_or ∷ ts) = within ts
within (stop j ∷ ts) = suc j

unfoldable pub inside : Point → ℕ
unfolding within
inside (point ms p m k ts) = within ts
inside (else_place ms q m ts) = within ts
inside (end_place ms ts) = within ts
inside (cutting ms j ts) = suc j
inside (finish ms) = 0
inside (reserve P) = inside P
inside beyond = 0

-- What is to do at the next place of the program: the markers have places of their own.
unfoldable pub beside : List Matcher → List Item → Point
beside ms [] = finish ms
beside ms (item p m c ∷ ts) = point ms p m m ts
beside ms (or_else q m ∷ ts) = else_place ms q m ts
beside ms (end_or ∷ ts) = end_place ms ts
beside ms (stop j ∷ ts) = cutting ms j ts

pub known_enter : (ms : List Matcher) (ts : List Item) → known (enter ms ts) ≡ ms
unfolding known enter
known_enter ms [] = refl
known_enter ms (item p m c ∷ ts) = refl
known_enter ms (or_else q m ∷ ts) = known_enter ms ts
known_enter ms (end_or ∷ ts) = known_enter ms ts
known_enter ms (stop j ∷ ts) = refl

pub inside_enter : (ms : List Matcher) (ts : List Item) → inside (enter ms ts) ≡ within ts
unfolding inside enter within
inside_enter ms [] = refl
inside_enter ms (item p m c ∷ ts) = refl
inside_enter ms (or_else q m ∷ ts) = inside_enter ms ts
inside_enter ms (end_or ∷ ts) = inside_enter ms ts
inside_enter ms (stop j ∷ ts) = refl

-- P after so many places that are reserved.
unfoldable pub reserved : ℕ → Point → Point
reserved zero P = P
reserved (suc n) P = reserve (reserved n P)

-- The parts of a tuple as later atoms, their values in the slots from c on; where the matchers end, something stands for them.
unfoldable pub first_of : Matchers → Matcher
first_of no_matchers = something
first_of (m ▸ᵐ ms) = m

unfoldable pub others_of : Matchers → Matchers
others_of no_matchers = no_matchers
others_of (m ▸ᵐ ms) = ms

unfoldable pub items : Patterns → Matchers → (c : ℕ) → List Item → List Item
unfolding first_of others_of
items no_patterns ks c ts = ts
items (p ▸ᵖ ps) ks c ts = item p (first_of ks) c ∷ items ps (others_of ks) (suc c) ts

-- "One state follows with k atoms in order": the first part is to do, and the others wait in the slots of the tuple's place and of those reserved after it.
unfoldable pub parted : List Matcher → Patterns → Matchers → (pc : ℕ) → List Item → Point
unfolding beside first_of others_of items
parted ms no_patterns ks pc ts = beside ms ts
parted ms (p ▸ᵖ ps) ks pc ts = point ms p (first_of ks) (first_of ks) (items ps (others_of ks) pc ts)

-- What the instruction at pc asks of the places at which the states that follow stand, `points` being what is to do at each.
pub data Follows (points : ℕ → Point) (pc : ℕ) : Instr → Point → Type 0 where
  strips : {ms : List Matcher} {p : Pattern} {m : Matcher} {ts : List Item} → Loose p → is_something m ≡ false
      → points (suc pc) ≡ point ms p something m ts → Follows points pc strip (point ms p m m ts)
  drops : {ms : List Matcher} {m : Matcher} {ts : List Item} {to : ℕ} → pc < to → points to ≡ enter ms ts
      → Follows points pc (drop (from ts) to) (point ms wildcard something m ts)
  binds : {ms : List Matcher} {x : ℤ} {m : Matcher} {ts : List Item} {to : ℕ} → pc < to → points to ≡ enter (ms ++ (m ∷ [])) ts
      → Follows points pc (bind (length ms) (from ts) to) (point ms (variable x) something m ts)
  tests : {ms : List Matcher} {ts : List Item} {to : ℕ} (t : Test) → Sound t ms → pc < to → points to ≡ enter ms ts
      → Follows points pc (test t (from ts) to) (point ms (tested t) (test_by t) (test_by t) ts)
  splits : {ms : List Matcher} {ts : List Item} (k : Kind) (p q : Pattern)
      → points (suc pc) ≡ point ms p (first_by k) (first_by k) (item q (over k) pc ∷ ts)
      → Follows points pc (split k) (point ms (whole k p q) (over k) (over k) ts)
  aparts : {ms : List Matcher} {ts : List Item} (p q : Pattern) (ps : Patterns) (m k : Matcher) (ks : Matchers) → countᵖ ps ≡ countᵐ ks → countᵖ ps ≤ 2
      → points (suc (pc + countᵖ ps)) ≡ point ms p m m (item q k pc ∷ items ps ks (suc pc) ts)
      → Follows points pc (apart (countᵖ ps)) (point ms (tuple (p ▸ᵖ q ▸ᵖ ps)) (tuple_of (m ▸ᵐ k ▸ᵐ ks)) (tuple_of (m ▸ᵐ k ▸ᵐ ks)) ts)
  keeps : {ms : List Matcher} {m : Matcher} {ts : List Item} (p q : Pattern)
      → points (suc pc) ≡ point ms p m m (item q m pc ∷ ts) → Follows points pc keep (point ms (both p q) m m ts)
  chooses : {ms : List Matcher} {m : Matcher} {ts : List Item} {to : ℕ} (p q : Pattern) → pc < to
      → points (suc pc) ≡ point ms p m m (or_else q m ∷ ts) → points to ≡ point ms q m m (end_or ∷ ts)
      → Follows points pc (choice to) (point ms (either p q) m m ts)
  denies : {ms : List Matcher} {m : Matcher} {ts : List Item} {to : ℕ} (p : Pattern) → pc < to
      → points (suc pc) ≡ point ms p m m (stop pc ∷ ts) → points to ≡ enter ms ts → Follows points pc (deny (from ts) to) (point ms (never p) m m ts)
  cuts : {ms : List Matcher} {j : ℕ} {ts : List Item} → Follows points pc (cut_at j) (cutting ms j ts)
  elses : {ms : List Matcher} {q : Pattern} {m : Matcher} {ts : List Item} → Follows points pc other (else_place ms q m ts)
  closes : {ms : List Matcher} {ts : List Item} → Follows points pc close (end_place ms ts)
  reserves : {P : Point} → Follows points pc strip (reserve P)
  ends : {ms : List Matcher} → Follows points pc (end (length ms)) (finish ms)
  after_end_lem : Follows points pc (end 0) beyond
