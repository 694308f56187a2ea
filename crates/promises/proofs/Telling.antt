-- Laws of what specs/Telling.antt defines.
use Rattle.std.specs.Prelude.{ℕ, zero, suc, ◌+◌, ◌≤◌, ◌≡◌, refl, Bool, true, false, List, [], ◌∷◌, ◌++◌, ℤ}
use Rattle.std.proofs.Common.{arith, sym, ap, ap₂, ◌∙◌, subst, inl, inr, append_assoc, append-nil}
use Rattle.std.proofs.Math.Option.{some}
use Rattle.std.proofs.Math.ListN.{get_elem?}
use Rattle.rules.specs.Forms.{Matcher, something, integer, list, multiset, tuple_of, Matchers, no_matchers, ◌▸ᵐ◌, Value, int, collection, tupled, Values, empty, ◌▸◌, size}
use Rattle.rules.specs.Forms.{Pattern, wildcard, nil, variable, constant, value, cons, join, tuple, both, either, never, Patterns, no_patterns, ◌▸ᵖ◌}
use Rattle.rules.specs.Dialects.{Dialect, every_place, first_places}
use Rattle.rules.specs.Fit.{element, members}
use Rattle.rules.specs.Origins.{Valueᵒ, intᵒ, collectionᵒ, tupledᵒ, Valuesᵒ, emptyᵒ, ◌▸ᵒ◌, Bindings, placed, placed_all, target, origin}
use Rattle.rules.specs.Rows.{as_origins, told, row}
use Rattle.rules.specs.Equality.{equal}
use Rattle.rules.specs.Search.{any_equal}
use Rattle.rules.specs.Ways.{Way, at, without, elements as elementsOf, places_from, place_of, ConsBy, Follows, FollowsAll, Good}
use Rattle.promises.specs.Parts.{Among, none, kept, left, Part, element as one, elements, cons_parts}
use Rattle.promises.specs.Room.{cons_member, row_append}
use Rattle.promises.specs.Telling.{IsVariable, Tells, TellsAll}

-- ---- The elements of a collection have rising indices, and so inside them.

unfoldable Rising : ℕ → Valuesᵒ → Type 0
Rising n emptyᵒ = Unit {0}
Rising n (v ▸ᵒ vs) = (n ≤ (origin v).at) × Rising (suc (origin v).at) vs

unfoldable mutual
  unfolding Rising

  Rises : Valueᵒ → Type 0
  Rises (intᵒ o x) = Unit {0}
  Rises (collectionᵒ o vs) = Rising 0 vs × RiseAll vs
  Rises (tupledᵒ o vs) = RiseAll vs

  RiseAll : Valuesᵒ → Type 0
  RiseAll emptyᵒ = Unit {0}
  RiseAll (v ▸ᵒ vs) = Rises v × RiseAll vs

rising_less : (a b : ℕ) (vs : Valuesᵒ) → a ≤ b → Rising b vs → Rising a vs
unfolding Rising
rising_less a b emptyᵒ l r = tt
rising_less a b (v ▸ᵒ vs) l r = (omega (arith, r.0), r.1)

among_rising : (n : ℕ) {us vs : Valuesᵒ} → Among us vs → Rising n vs → Rising n us
unfolding Rising
among_rising n none r = tt
among_rising n (kept {v = v} a) r = (r.0, among_rising (suc (origin v).at) a r.1)
among_rising n (left {v = v} {us = us} a) r = rising_less n (suc (origin v).at) us (omega (arith, r.0)) (among_rising (suc (origin v).at) a r.1)

among_rise : {us vs : Valuesᵒ} → Among us vs → RiseAll vs → RiseAll us
unfolding RiseAll
among_rise none r = tt
among_rise (kept a) r = (r.0, among_rise a r.1)
among_rise (left a) r = among_rise a r.1

part_rises : {u v : Valueᵒ} → Part u v → Rises v → Rises u
unfolding Rises
part_rises (one a) r = (among_rise a r.1).0
part_rises (elements a) r = (among_rising 0 a r.0, among_rise a r.1)

index_is : (i k : ℕ) (v : Value) → (origin (placed i k v)).at ≡ i
unfolding origin placed
index_is i k (int x) = refl
index_is i k (collection vs) = refl
index_is i k (tupled vs) = refl

size_some : (v : Value) → 2 ≤ size v
unfolding size
size_some (int x) = omega arith
size_some (collection vs) = omega arith
size_some (tupled vs) = omega arith

placed_rising : (n i k : ℕ) (vs : Values) → n ≤ i → Rising n (placed_all i k vs)
unfolding Rising placed_all
placed_rising n i k empty l = tt
placed_rising n i k (v ▸ vs) l =
    (omega (arith, index_is i k v), placed_rising (suc (origin (placed i k v)).at) (i + size v) (suc k) vs (omega (arith, index_is i k v, size_some v)))

mutual
  unfolding Rises placed

  placed_rises : (i k : ℕ) (v : Value) → Rises (placed i k v)
  placed_rises i k (int x) = tt
  placed_rises i k (collection vs) = (placed_rising 0 (i + 2) 0 vs (omega arith), placed_rise (i + 2) 0 vs)
  placed_rises i k (tupled vs) = placed_rise (i + 2) 0 vs

  placed_rise : (i k : ℕ) (vs : Values) → RiseAll (placed_all i k vs)
  placed_rise i k empty = tt
  placed_rise i k (v ▸ vs) = (placed_rises i k v, placed_rise (i + size v) (suc k) vs)

-- So one index is one place.
above : (n : ℕ) (vs : Valuesᵒ) (k : ℕ) (u : Valueᵒ) → Rising n vs → at vs k ≡ some u → n ≤ (origin u).at
unfolding Rising at
above n emptyᵒ k u r e = absurd (clash cc)
  where
    clash : ◌≡◌ {A = ℕ} 0 1 → ⊥
    clash z = omega arith
above n (v ▸ᵒ vs) zero u r e = let q : v ≡ u = cc in omega (arith, r.0, ap (λ (x : Valueᵒ). (origin x).at) q)
above n (v ▸ᵒ vs) (suc k) u r e = omega (arith, r.0, above (suc (origin v).at) vs k u r.1 e)

one_place : (n : ℕ) (vs : Valuesᵒ) (j k : ℕ) (u x : Valueᵒ) → Rising n vs → at vs j ≡ some u → at vs k ≡ some x → (origin u).at ≡ (origin x).at → j ≡ k
unfolding Rising at
one_place n emptyᵒ j k u x r p q e = absurd (clash cc)
  where
    clash : ◌≡◌ {A = ℕ} 0 1 → ⊥
    clash z = omega arith
one_place n (v ▸ᵒ vs) zero zero u x r p q e = refl
one_place n (v ▸ᵒ vs) zero (suc k) u x r p q e =
    let s : v ≡ u = cc in absurd (omega (arith, ap (λ (y : Valueᵒ). (origin y).at) s, above (suc (origin v).at) vs k x r.1 q, e))
one_place n (v ▸ᵒ vs) (suc j) zero u x r p q e =
    let s : v ≡ x = cc in absurd (omega (arith, ap (λ (y : Valueᵒ). (origin y).at) s, above (suc (origin v).at) vs j u r.1 p, e))
one_place n (v ▸ᵒ vs) (suc j) (suc k) u x r p q e = ap suc (one_place (suc (origin v).at) vs j k u x r.1 p q e)

-- ---- What a way binds is behind what was bound.

Extends : Bindings → Bindings → Type 0
Extends e d = (x : Bindings) × (d ≡ e ++ x)

further : (e c d : Bindings) → Extends e c → Extends c d → Extends e d
unfolding Extends
further e c d p q = (p.0 ++ q.0, q.1 ∙ ap (λ l. l ++ q.0) p.1 ∙ append_assoc e p.0 q.0)

as_it_was : (e d : Bindings) → d ≡ e → Extends e d
unfolding Extends
as_it_was e d q = ([], q ∙ sym (append-nil e))

mutual
  unfolding Follows Extends

  extends : (dialect : Dialect) (p : Pattern) (m : Matcher) (v : Valueᵒ) (e : Bindings) (w : Way) (d : Bindings) → Follows dialect p m v e w d → Extends e d
  extends dialect wildcard m v e w d h = as_it_was e d h.1
  extends dialect nil m v e w d h = as_it_was e d h.2
  extends dialect (variable x) m v e w d h = (v ∷ [], h.1)
  extends dialect (constant c) m v e w d h = as_it_was e d h.2
  extends dialect (value x c) m v e w d h = as_it_was e d h.2
  extends dialect (cons p q) m v e w d h =
      further e h.between d (extends dialect p (element m) h.a e h.one h.between h.first) (extends dialect q m h.b h.between h.two d h.second)
  extends dialect (join p q) m v e w d h =
      further e h.between d (extends dialect p m h.a e h.one h.between h.first) (extends dialect q m h.b h.between h.two d h.second)
  extends dialect (tuple ps) m (intᵒ o x) e w d h = absurd h
  extends dialect (tuple ps) m (collectionᵒ o vs) e w d h = absurd h
  extends dialect (tuple ps) m (tupledᵒ o vs) e w d h = extends_all dialect ps (members m) vs e w d h
  extends dialect (both p q) m v e w d h =
      further e h.between d (extends dialect p m v e h.one h.between h.first) (extends dialect q m v h.between h.two d h.others)
  extends dialect (either p q) m v e w d (inl h) = extends dialect p m v e h.rest d h.inside
  extends dialect (either p q) m v e w d (inr h) = extends dialect q m v e h.rest d h.inside
  extends dialect (never p) m v e w d h = as_it_was e d h.2

  extends_all : (dialect : Dialect) (ps : Patterns) (ms : Matchers) (vs : Valuesᵒ) (e : Bindings) (w : Way) (d : Bindings) → FollowsAll dialect ps ms vs e w d → Extends e d
  extends_all dialect no_patterns ms vs e w d h = as_it_was e d h.1
  extends_all dialect (p ▸ᵖ ps) no_matchers vs e w d h = as_it_was e d h.1
  extends_all dialect (p ▸ᵖ ps) (m ▸ᵐ ms) emptyᵒ e w d h = as_it_was e d h.1
  extends_all dialect (p ▸ᵖ ps) (m ▸ᵐ ms) (v ▸ᵒ vs) e w d h =
      further e h.between d (extends dialect p m v e h.one h.between h.first) (extends_all dialect ps ms vs h.between h.two d h.others)

-- ---- A choice is told by the variable behind it.

variable_follows : (dialect : Dialect) (p : Pattern) (m : Matcher) (v : Valueᵒ) (e : Bindings) (w : Way) (d : Bindings) → IsVariable p → Follows dialect p m v e w d
    → (w ≡ []) × (d ≡ e ++ (v ∷ []))
unfolding IsVariable Follows
variable_follows dialect wildcard m v e w d i h = absurd i
variable_follows dialect nil m v e w d i h = absurd i
variable_follows dialect (variable x) m v e w d i h = h
variable_follows dialect (constant c) m v e w d i h = absurd i
variable_follows dialect (value x c) m v e w d i h = absurd i
variable_follows dialect (cons p q) m v e w d i h = absurd i
variable_follows dialect (join p q) m v e w d i h = absurd i
variable_follows dialect (tuple ps) m v e w d i h = absurd i
variable_follows dialect (both p q) m v e w d i h = absurd i
variable_follows dialect (either p q) m v e w d i h = absurd i
variable_follows dialect (never p) m v e w d i h = absurd i

-- A choice names one place, and a place is named by one choice: the first places rise.
abbrev first_or : Bool → ℕ → List ℕ → List ℕ
first_or t k l = elim t as (λ _. List ℕ) [ true ↦ l | false ↦ k ∷ l ]

above_by : (k p : ℕ) (l : List ℕ) (t : Bool) (n : ℕ) → ((i : ℕ) → get_elem? l i ≡ some p → suc k ≤ p) → get_elem? (first_or t k l) n ≡ some p → k ≤ p
above_by k p l true n h e = let g = h n e in omega arith
above_by k p l false zero h e = let q : k ≡ p = cc in omega arith
above_by k p l false (suc n) h e = let g = h n e in omega arith

places_above : (eq : Value → Value → Bool) (before : List Value) (k : ℕ) (vs : List Value) (c p : ℕ) → get_elem? (places_from eq before k vs) c ≡ some p → k ≤ p
unfolding places_from
places_above eq before k [] c p e = absurd (clash cc)
  where
    clash : ◌≡◌ {A = ℕ} 0 1 → ⊥
    clash z = omega arith
places_above eq before k (v ∷ vs) c p e =
    above_by k p (places_from eq (before ++ (v ∷ [])) (suc k) vs) (any_equal eq before v) c (λ i f. places_above eq (before ++ (v ∷ [])) (suc k) vs i p f) e

once_by : (k p : ℕ) (l : List ℕ) (t : Bool) (c d : ℕ) → ((i : ℕ) → get_elem? l i ≡ some p → suc k ≤ p)
    → ((i j : ℕ) → get_elem? l i ≡ some p → get_elem? l j ≡ some p → i ≡ j) → get_elem? (first_or t k l) c ≡ some p → get_elem? (first_or t k l) d ≡ some p → c ≡ d
once_by k p l true c d h g e f = g c d e f
once_by k p l false zero zero h g e f = refl
once_by k p l false zero (suc d) h g e f = let q : k ≡ p = cc in absurd (omega (arith, h d f))
once_by k p l false (suc c) zero h g e f = let q : k ≡ p = cc in absurd (omega (arith, h c e))
once_by k p l false (suc c) (suc d) h g e f = ap suc (g c d e f)

places_once : (eq : Value → Value → Bool) (before : List Value) (k : ℕ) (vs : List Value) (c d p : ℕ) → get_elem? (places_from eq before k vs) c ≡ some p
    → get_elem? (places_from eq before k vs) d ≡ some p → c ≡ d
unfolding places_from
places_once eq before k [] c d p e f = absurd (clash cc)
  where
    clash : ◌≡◌ {A = ℕ} 0 1 → ⊥
    clash z = omega arith
places_once eq before k (v ∷ vs) c d p e f =
    once_by k p (places_from eq (before ++ (v ∷ [])) (suc k) vs) (any_equal eq before v) c d (λ i g. places_above eq (before ++ (v ∷ [])) (suc k) vs i p g)
    (λ i j g h. places_once eq (before ++ (v ∷ [])) (suc k) vs i j p g h) e f

one_choice : (dialect : Dialect) (m : Matcher) (vs : Valuesᵒ) (c d k : ℕ) → place_of dialect m vs c ≡ some k → place_of dialect m vs d ≡ some k → c ≡ d
unfolding place_of
one_choice every_place m vs c d k e f = let p : c ≡ k = cc in let q : d ≡ k = cc f in p ∙ sym q
one_choice first_places m vs c d k e f = places_once (equal m) [] 0 (elementsOf vs) c d k e f

-- What a cons under a list takes is one; and under a multiset by its index.
list_once : (dialect : Dialect) (m : Matcher) (v : Valueᵒ) (h g : Way) (a x b y : Valueᵒ) → ConsBy dialect (list m) v h a b → ConsBy dialect (list m) v g x y → (h ≡ g) × (a ≡ x) × (b ≡ y)
unfolding ConsBy
list_once dialect m (intᵒ o n) h g a x b y p q = absurd p
list_once dialect m (collectionᵒ o emptyᵒ) h g a x b y p q = absurd p
list_once dialect m (collectionᵒ o (v ▸ᵒ vs)) h g a x b y p q = (p.0 ∙ sym q.0, p.1 ∙ sym q.1, p.2 ∙ sym q.2)
list_once dialect m (tupledᵒ o vs) h g a x b y p q = absurd p

multiset_once : (dialect : Dialect) (m : Matcher) (v : Valueᵒ) (h g : Way) (a x b y : Valueᵒ) → Rises v → ConsBy dialect (multiset m) v h a b → ConsBy dialect (multiset m) v g x y
    → (origin a).at ≡ (origin x).at → (h ≡ g) × (a ≡ x) × (b ≡ y)
unfolding ConsBy Rises
multiset_once dialect m (intᵒ o n) h g a x b y r p q e = absurd p
multiset_once dialect m (collectionᵒ o vs) h g a x b y r p q e =
    let k = one_place 0 vs p.1 q.1 a x r.0 p.4 q.4 e in
    let s : some a ≡ some x = sym p.4 ∙ ap (at vs) k ∙ q.4 in
    let z : a ≡ x = cc in
    let c = one_choice dialect m vs p.0 q.0 p.1 p.3 (q.3 ∙ ap some (sym k)) in
    (p.2 ∙ ap (λ n. n ∷ []) c ∙ sym q.2, z, p.5 ∙ ap (λ n. collectionᵒ o (without vs n)) k ∙ sym q.5)
multiset_once dialect m (tupledᵒ o vs) h g a x b y r p q e = absurd p

-- ---- Rows.

cancel : (xs ys zs : List ℤ) → xs ++ ys ≡ xs ++ zs → ys ≡ zs
cancel [] ys zs e = e
cancel (x ∷ xs) ys zs e = cancel xs ys zs (cc e)

-- The first value after e has its index at the same place of both rows.
next_index : (e : Bindings) (a x : Valueᵒ) (c d : Bindings) → row as_origins (e ++ (a ∷ c)) ≡ row as_origins (e ++ (x ∷ d)) → (origin a).at ≡ (origin x).at
unfolding row told
next_index e a x c d q =
    let s = cancel (row as_origins e) (row as_origins (a ∷ c)) (row as_origins (x ∷ d)) (sym (row_append as_origins e (a ∷ c)) ∙ q ∙ row_append as_origins e (x ∷ d)) in cc s

regroup : (b c x : Bindings) (z : Bindings) → c ≡ b ++ z → c ++ x ≡ b ++ (z ++ x)
regroup b c x z q = ap (λ l. l ++ x) q ∙ append_assoc b z x

-- ---- Ways with the same row are the same.

mutual
  unfolding Tells Rises Follows Extends element members ConsBy

  tells : (dialect : Dialect) (p : Pattern) (m : Matcher) (v : Valueᵒ) (e : Bindings) → Tells p m → Rises v → (u : Way) (c : Bindings) (w : Way) (d : Bindings)
      → Follows dialect p m v e u c → Follows dialect p m v e w d → (x y : Bindings) → row as_origins (c ++ x) ≡ row as_origins (d ++ y) → (u ≡ w) × (c ≡ d)
  tells dialect wildcard m v e t r u c w d h g x y s = (h.0 ∙ sym g.0, h.1 ∙ sym g.1)
  tells dialect nil m v e t r u c w d h g x y s = (h.1 ∙ sym g.1, h.2 ∙ sym g.2)
  tells dialect (variable z) m v e t r u c w d h g x y s = (h.0 ∙ sym g.0, h.1 ∙ sym g.1)
  tells dialect (constant z) m v e t r u c w d h g x y s = (h.1 ∙ sym g.1, h.2 ∙ sym g.2)
  tells dialect (value z a) m v e t r u c w d h g x y s = (h.1 ∙ sym g.1, h.2 ∙ sym g.2)
  tells dialect (cons p q) something v e t r u c w d h g x y s = absurd h.divided
  tells dialect (cons p q) integer v e t r u c w d h g x y s = absurd h.divided
  tells dialect (cons p q) (list m) v e t r u c w d h g x y s =
      let z = list_once dialect m v h.here g.here h.a g.a h.b g.b h.divided g.divided in
      let k = cons_parts (list m) v (record { first = h.a; second = h.b }) (cons_member dialect (list m) v h.here h.a h.b h.divided) in
      let i = extends dialect q (list m) h.b h.between h.two c h.second in
      let j = extends dialect q (list m) g.b g.between g.two d g.second in
      let f = tells dialect p m h.a e t.0 (part_rises k.first r) h.one h.between g.one g.between h.first
      (subst (λ (a : Valueᵒ). Follows dialect p m a e g.one g.between) (sym z.1) g.first) (i.0 ++ x) (j.0 ++ y)
      (ap (row as_origins) (sym (regroup h.between c x i.0 i.1)) ∙ s ∙ ap (row as_origins) (regroup g.between d y j.0 j.1)) in
      let n = tells dialect q (list m) h.b h.between t.1 (part_rises k.second r) h.two c g.two d h.second
      (subst (λ (b : Valueᵒ). Follows dialect q (list m) b h.between g.two d) (sym z.2)
      (subst (λ (b : Bindings). Follows dialect q (list m) g.b b g.two d) (sym f.1) g.second)) x y s in
      (sym h.way ∙ ap₂ (λ a b. a ++ b) z.0 (ap₂ (λ a b. a ++ b) f.0 n.0) ∙ g.way, n.1)
  tells dialect (cons p q) (multiset m) v e t r u c w d h g x y s =
      let f₁ = variable_follows dialect p m h.a e h.one h.between t.0 h.first in
      let f₂ = variable_follows dialect p m g.a e g.one g.between t.0 g.first in
      let i = extends dialect q (multiset m) h.b h.between h.two c h.second in
      let j = extends dialect q (multiset m) g.b g.between g.two d g.second in
      let l₁ = regroup h.between c x i.0 i.1 ∙ regroup e h.between (i.0 ++ x) (h.a ∷ []) f₁.1 in
      let l₂ = regroup g.between d y j.0 j.1 ∙ regroup e g.between (j.0 ++ y) (g.a ∷ []) f₂.1 in
      let o = next_index e h.a g.a (i.0 ++ x) (j.0 ++ y) (ap (row as_origins) (sym l₁) ∙ s ∙ ap (row as_origins) l₂) in
      let z = multiset_once dialect m v h.here g.here h.a g.a h.b g.b r h.divided g.divided o in
      let k = cons_parts (multiset m) v (record { first = h.a; second = h.b }) (cons_member dialect (multiset m) v h.here h.a h.b h.divided) in
      let b : h.between ≡ g.between = f₁.1 ∙ ap (λ a. e ++ (a ∷ [])) z.1 ∙ sym f₂.1 in
      let n = tells dialect q (multiset m) h.b h.between t.1 (part_rises k.second r) h.two c g.two d h.second
      (subst (λ (a : Valueᵒ). Follows dialect q (multiset m) a h.between g.two d) (sym z.2)
      (subst (λ (l : Bindings). Follows dialect q (multiset m) g.b l g.two d) (sym b) g.second)) x y s in
      (sym h.way ∙ ap₂ (λ a b. a ++ b) z.0 (ap₂ (λ a b. a ++ b) (f₁.0 ∙ sym f₂.0) n.0) ∙ g.way, n.1)
  tells dialect (cons p q) (tuple_of ms) v e t r u c w d h g x y s = absurd h.divided
  tells dialect (join p q) m v e t r u c w d h g x y s = absurd t
  tells dialect (tuple ps) m (intᵒ o z) e t r u c w d h g x y s = absurd h
  tells dialect (tuple ps) m (collectionᵒ o vs) e t r u c w d h g x y s = absurd h
  tells dialect (tuple ps) m (tupledᵒ o vs) e t r u c w d h g x y s = tells_all dialect ps (members m) vs e t r u c w d h g x y s
  tells dialect (both p q) m v e t r u c w d h g x y s =
      let i = extends dialect q m v h.between h.two c h.others in
      let j = extends dialect q m v g.between g.two d g.others in
      let f = tells dialect p m v e t.0 r h.one h.between g.one g.between h.first g.first (i.0 ++ x) (j.0 ++ y)
      (ap (row as_origins) (sym (regroup h.between c x i.0 i.1)) ∙ s ∙ ap (row as_origins) (regroup g.between d y j.0 j.1)) in
      let n = tells dialect q m v h.between t.1 r h.two c g.two d h.others (subst (λ (b : Bindings). Follows dialect q m v b g.two d) (sym f.1) g.others) x y s in
      (sym h.way ∙ ap₂ (λ a b. a ++ b) f.0 n.0 ∙ g.way, n.1)
  tells dialect (either p q) m v e t r u c w d h g x y s = absurd t
  tells dialect (never p) m v e t r u c w d h g x y s = (h.1 ∙ sym g.1, h.2 ∙ sym g.2)

  tells_all : (dialect : Dialect) (ps : Patterns) (ms : Matchers) (vs : Valuesᵒ) (e : Bindings) → TellsAll ps ms → RiseAll vs → (u : Way) (c : Bindings) (w : Way) (d : Bindings)
      → FollowsAll dialect ps ms vs e u c → FollowsAll dialect ps ms vs e w d → (x y : Bindings) → row as_origins (c ++ x) ≡ row as_origins (d ++ y) → (u ≡ w) × (c ≡ d)
  tells_all dialect no_patterns ms vs e t r u c w d h g x y s = (h.0 ∙ sym g.0, h.1 ∙ sym g.1)
  tells_all dialect (p ▸ᵖ ps) no_matchers vs e t r u c w d h g x y s = (h.0 ∙ sym g.0, h.1 ∙ sym g.1)
  tells_all dialect (p ▸ᵖ ps) (m ▸ᵐ ms) emptyᵒ e t r u c w d h g x y s = (h.0 ∙ sym g.0, h.1 ∙ sym g.1)
  tells_all dialect (p ▸ᵖ ps) (m ▸ᵐ ms) (v ▸ᵒ vs) e t r u c w d h g x y s =
      let i = extends_all dialect ps ms vs h.between h.two c h.others in
      let j = extends_all dialect ps ms vs g.between g.two d g.others in
      let f = tells dialect p m v e t.0 r.0 h.one h.between g.one g.between h.first g.first (i.0 ++ x) (j.0 ++ y)
      (ap (row as_origins) (sym (regroup h.between c x i.0 i.1)) ∙ s ∙ ap (row as_origins) (regroup g.between d y j.0 j.1)) in
      let n = tells_all dialect ps ms vs h.between t.1 r.1 h.two c g.two d h.others
      (subst (λ (b : Bindings). FollowsAll dialect ps ms vs b g.two d) (sym f.1) g.others) x y s in
      (sym h.way ∙ ap₂ (λ a b. a ++ b) f.0 n.0 ∙ g.way, n.1)

pub ways_told : (dialect : Dialect) (m : Matcher) (p : Pattern) (v : Value) → Tells p m → (u w : Way) (c d : Bindings) → Good dialect m p v u c → Good dialect m p v w d
    → row as_origins c ≡ row as_origins d → u ≡ w
unfolding Good target
ways_told dialect m p v t u w c d h g s =
    (tells dialect p m (target v) [] t (placed_rises 0 0 v) u c w d h g [] [] (ap (row as_origins) (append-nil c) ∙ s ∙ ap (row as_origins) (sym (append-nil d)))).0
