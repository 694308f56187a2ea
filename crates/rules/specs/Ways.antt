-- Document 01, section 5: good ways, without the search. A way is followed down the pattern.
use Rattle.std.specs.Prelude.{ℕ, zero, suc, ◌≤◌, ◌<◌, ◌≡◌, ◌⊎◌, Bool, true, false, List, [], ◌∷◌, ◌++◌, map, T}
use Rattle.std.proofs.Math.Option.{Option, none, some}
use Rattle.std.proofs.Math.ListN.{get_elem?}
use Rattle.rules.specs.Forms.{Matcher, something, integer, list, multiset, tuple_of, Matchers, no_matchers, ◌▸ᵐ◌}
use Rattle.rules.specs.Forms.{Pattern, wildcard, variable, constant, value, nil, cons, join, tuple, both, either, never, Patterns, no_patterns, ◌▸ᵖ◌}
use Rattle.rules.specs.Forms.{Value, count}
use Rattle.rules.specs.Origins.{Valueᵒ, intᵒ, collectionᵒ, tupledᵒ, Valuesᵒ, emptyᵒ, ◌▸ᵒ◌, Bindings, plain, plain_all, target}
use Rattle.rules.specs.Fit.{element, members}
use Rattle.rules.specs.Equality.{equal, is_constant, is_value, is_empty}
use Rattle.rules.specs.Dialects.{Dialect, every_place, first_places}
use Rattle.rules.specs.Search.{any_equal}

-- "A way names, for each cons under a multiset and each join in pattern order left to right, which of its states was chosen, counted in section
-- 4's order." (Counted from 0.) "A way also records the side of each or it meets, and no choice in the other side or in a not."
abbrev pub Way : Type 0
Way = List ℕ

-- Dictionary order.
infix 50 ◌≺◌
unfoldable pub ◌≺◌ : Way → Way → Type 0
[] ≺ [] = ⊥
[] ≺ (b ∷ w) = Unit {0}
(a ∷ u) ≺ [] = ⊥
(a ∷ u) ≺ (b ∷ w) = (a < b) ⊎ ((a ≡ b) × (u ≺ w))

-- The element at a place, and the elements without that place.
unfoldable pub at : Valuesᵒ → ℕ → Option Valueᵒ
at emptyᵒ k = none
at (v ▸ᵒ vs) zero = some v
at (v ▸ᵒ vs) (suc k) = at vs k

unfoldable pub without : Valuesᵒ → ℕ → Valuesᵒ
without emptyᵒ k = emptyᵒ
without (v ▸ᵒ vs) zero = vs
without (v ▸ᵒ vs) (suc k) = v ▸ᵒ without vs k

-- The first k elements, and the others.
unfoldable pub front : Valuesᵒ → ℕ → Valuesᵒ
front vs zero = emptyᵒ
front emptyᵒ (suc k) = emptyᵒ
front (v ▸ᵒ vs) (suc k) = v ▸ᵒ front vs k

unfoldable pub back : Valuesᵒ → ℕ → Valuesᵒ
back vs zero = vs
back emptyᵒ (suc k) = emptyᵒ
back (v ▸ᵒ vs) (suc k) = back vs k

-- The values of the elements, in order.
unfoldable pub elements : Valuesᵒ → List Value
unfolding plain
elements emptyᵒ = []
elements (v ▸ᵒ vs) = plain v ∷ elements vs

-- The first places: those before which no equal element stands; `before` are the elements before, `k` is the place.
unfoldable pub places_from : (Value → Value → Bool) → (before : List Value) → (k : ℕ) → List Value → List ℕ
unfolding any_equal
places_from eq before k [] = []
places_from eq before k (v ∷ vs) = elim (any_equal eq before v) [
  | true ↦ places_from eq (before ++ (v ∷ [])) (suc k) vs
  | false ↦ k ∷ places_from eq (before ++ (v ∷ [])) (suc k) vs
]

-- The place that a choice at a cons under a multiset of m names: in dialect 1 the place itself, in dialect 2 that of the first places.
unfoldable pub place_of : Dialect → Matcher → Valuesᵒ → (choice : ℕ) → Option ℕ
unfolding elements places_from equal
place_of every_place m vs c = some c
place_of first_places m vs c = get_elem? (places_from (equal m) [] 0 (elements vs)) c

-- By the choices `here` (none under a list, one under a multiset) a cons under m takes a from v and leaves b.
unfoldable pub ConsBy : Dialect → Matcher → Valueᵒ → (here : Way) → (a b : Valueᵒ) → Type 0
unfolding at without place_of
ConsBy dialect something v here a b = ⊥
ConsBy dialect integer v here a b = ⊥
ConsBy dialect (list m) (intᵒ o x) here a b = ⊥
ConsBy dialect (list m) (collectionᵒ o emptyᵒ) here a b = ⊥
ConsBy dialect (list m) (collectionᵒ o (x ▸ᵒ xs)) here a b = (here ≡ []) × (a ≡ x) × (b ≡ collectionᵒ o xs)
ConsBy dialect (list m) (tupledᵒ o vs) here a b = ⊥
ConsBy dialect (multiset m) (intᵒ o x) here a b = ⊥
ConsBy dialect (multiset m) (collectionᵒ o vs) here a b = (c k : ℕ) × (here ≡ c ∷ []) × (place_of dialect m vs c ≡ some k) × (at vs k ≡ some a) × (b ≡ collectionᵒ o (without vs k))
ConsBy dialect (multiset m) (tupledᵒ o vs) here a b = ⊥
ConsBy dialect (tuple_of ms) v here a b = ⊥

-- By the choice `here` a join cuts v into a front a and a back b.
unfoldable pub JoinBy : Valueᵒ → (here : Way) → (a b : Valueᵒ) → Type 0
unfolding count plain_all front back
JoinBy (intᵒ o x) here a b = ⊥
JoinBy (collectionᵒ o vs) here a b = (k : ℕ) × (here ≡ k ∷ []) × (k ≤ count (plain_all vs)) × (a ≡ collectionᵒ o (front vs k)) × (b ≡ collectionᵒ o (back vs k))
JoinBy (tupledᵒ o vs) here a b = ⊥

-- A cons or a join is followed from the bindings e to the bindings d by the way w: its own choice, then the first part's, then the second part's.
pub record Halved (By : Way → Valueᵒ → Valueᵒ → Type 0) (First Second : Valueᵒ → Bindings → Way → Bindings → Type 0) (e : Bindings) (w : Way) (d : Bindings) : Type 0 where
  pub here : Way
  pub one : Way
  pub two : Way
  pub a : Valueᵒ
  pub b : Valueᵒ
  pub between : Bindings
  pub divided : By here a b
  pub first : First a e one between
  pub second : Second b between two d
  pub way : here ++ (one ++ two) ≡ w

-- One part of a tuple, and then the others: the first part's choices, then theirs. An and's two parts likewise.
pub record Next (First Others : Bindings → Way → Bindings → Type 0) (e : Bindings) (w : Way) (d : Bindings) : Type 0 where
  pub one : Way
  pub two : Way
  pub between : Bindings
  pub first : First e one between
  pub others : Others between two d
  pub way : one ++ two ≡ w

-- A side of an or: its number, and then the choices inside it.
pub record Side (no : ℕ) (Inside : Way → Type 0) (w : Way) : Type 0 where
  pub rest : Way
  pub inside : Inside rest
  pub way : no ∷ rest ≡ w

-- What a tuple's parts are followed through, if the value is a tuple.
unfoldable pub Parts : (Valuesᵒ → Type 0) → Valueᵒ → Type 0
Parts P (intᵒ o x) = ⊥
Parts P (collectionᵒ o vs) = ⊥
Parts P (tupledᵒ o vs) = P vs

-- With exactly the choices w, p under m matches v from the bindings e, and d are the bindings then. "Every chosen state exists, every list cons has
-- an element, every nil an empty collection, and tags 2 and 3 are equal." A not is a condition: p "has no good way from the bindings held".
unfoldable mutual
  unfolding ConsBy JoinBy Parts plain is_constant is_value is_empty element members

  pub Follows : Dialect → Pattern → Matcher → Valueᵒ → Bindings → Way → Bindings → Type 0
  Follows dialect wildcard m v e w d = (w ≡ []) × (d ≡ e)
  Follows dialect (variable x) m v e w d = (w ≡ []) × (d ≡ e ++ (v ∷ []))
  Follows dialect (constant c) m v e w d = T (is_constant c (plain v)) × (w ≡ []) × (d ≡ e)
  Follows dialect (value x c) m v e w d = T (is_value m (map plain e) x c (plain v)) × (w ≡ []) × (d ≡ e)
  Follows dialect nil m v e w d = T (is_empty (plain v)) × (w ≡ []) × (d ≡ e)
  Follows dialect (cons p q) m v e w d = Halved (ConsBy dialect m v) (λ a x y z. Follows dialect p (element m) a x y z) (λ b x y z. Follows dialect q m b x y z) e w d
  Follows dialect (join p q) m v e w d = Halved (JoinBy v) (λ a x y z. Follows dialect p m a x y z) (λ b x y z. Follows dialect q m b x y z) e w d
  Follows dialect (tuple ps) m v e w d = Parts (λ vs. FollowsAll dialect ps (members m) vs e w d) v
  Follows dialect (both p q) m v e w d = Next (λ x y z. Follows dialect p m v x y z) (λ x y z. Follows dialect q m v x y z) e w d
  Follows dialect (either p q) m v e w d = Side 0 (λ u. Follows dialect p m v e u d) w ⊎ Side 1 (λ u. Follows dialect q m v e u d) w
  Follows dialect (never p) m v e w d = ((u : Way) (c : Bindings) → Follows dialect p m v e u c → ⊥) × (w ≡ []) × (d ≡ e)

  pub FollowsAll : Dialect → Patterns → Matchers → Valuesᵒ → Bindings → Way → Bindings → Type 0
  FollowsAll dialect no_patterns ms vs e w d = (w ≡ []) × (d ≡ e)
  FollowsAll dialect (p ▸ᵖ ps) no_matchers vs e w d = (w ≡ []) × (d ≡ e)
  FollowsAll dialect (p ▸ᵖ ps) (m ▸ᵐ ms) emptyᵒ e w d = (w ≡ []) × (d ≡ e)
  FollowsAll dialect (p ▸ᵖ ps) (m ▸ᵐ ms) (v ▸ᵒ vs) e w d = Next (λ x y z. Follows dialect p m v x y z) (λ x y z. FollowsAll dialect ps ms vs x y z) e w d

-- A way is good if with it the whole pattern matches the target; `e` are its bindings.
unfoldable pub Good : Dialect → Matcher → Pattern → Value → Way → Bindings → Type 0
unfolding Follows target
Good dialect m p v w e = Follows dialect p m (target v) [] w e
