-- What is held, with its origin: without it the held value; the index and the marks that it is held by; and the next element. Assumes nothing.
use mathlib.Core.Path.{◌≡◌, refl, sym, ◌∙◌, ap, ap₂}
use mathlib.Core.List.{List}
use Prim.Native.Nat.{ℕ, zero, suc, ◌+◌, ◌-◌, ◌*◌, ◌/◌, ◌^◌, ◌<◌}
use native.Mathlib.Nat.{pow-suc}
use native.Mathlib.Omega.{arith}
use lib.IntN.{ℤ}
use Rattle.rules.specs.Forms.{Value, int, collection, tupled, Values, empty, ◌▸◌, count, size, size_all}
use Rattle.rules.specs.Origins.{Valueᵒ, intᵒ, collectionᵒ, tupledᵒ, Valuesᵒ, emptyᵒ, ◌▸ᵒ◌, plain, plain_all, placed, placed_all, origin, marks, marks_all}
use Rattle.forms.specs.Origins.{plain_placed}
use Rattle.words.specs.Words.{tag_at}
use Rattle.words.specs.Marked.{nth, marked, held}
use Rattle.words.proofs.marks.Places.{by_digit_lem, half_lt, full_odd, full_half}
use Rattle.value_places.specs.Places.{firsts, value_at, elements, count_at, marks_at, Target, Tag, element_at}
use Rattle.value_places.specs.Held.{Held, held_at, whole_at}
use Rattle.value_places.specs.Origins.{nthᵒ, markedᵒ, heldᵒ, origin_at, elementsᵒ}
use Rattle.value_places.proofs.Elements.{collection_at, tuple_at_lem, int_at, by_tag, count_elements, element_value, element_place}
use Rattle.value_places.proofs.Held.{held_some, marks_all_lem}

-- ---- Without the origin.

pub plain_marked : (vs : Valuesᵒ) (m : ℕ) → plain_all (markedᵒ vs m) ≡ marked (plain_all vs) m
unfolding plain_all markedᵒ marked
plain_marked emptyᵒ m = refl
plain_marked (v ▸ᵒ vs) m = by_digit_lem _ m (λ e. rw e (plain_marked vs (m / 2))) (λ e. rw e (ap (λ (z : Values). plain v ▸ z) (plain_marked vs (m / 2))))

plain_held : (v : Valueᵒ) (m : ℕ) → plain (heldᵒ v m) ≡ held (plain v) m
unfolding plain heldᵒ held
plain_held (intᵒ o x) m = refl
plain_held (collectionᵒ o vs) m = ap collection (plain_marked vs m)
plain_held (tupledᵒ o vs) m = refl

pub plain_origin : (s : List ℤ) (at m k : ℕ) → plain (origin_at s at m k) ≡ held_at s at m
unfolding origin_at held_at
plain_origin s at m k = plain_held (placed at k (value_at s at)) m ∙ ap (λ (v : Value). held v m) (plain_placed at k (value_at s at))

-- ---- The index and the marks.

pub origin_index : (s : List ℤ) (at m k : ℕ) → (origin (origin_at s at m k)).at ≡ at
unfolding origin_at origin heldᵒ placed
origin_index s at m k = go (value_at s at)
  where
    go : (v : Value) → (origin (heldᵒ (placed at k v) m)).at ≡ at
    go (int x) = refl
    go (collection vs) = refl
    go (tupled vs) = refl

-- The marks of elements placed from k on are those by which they are marked.
place_first : (at k : ℕ) (v : Value) → (origin (placed at k v)).place ≡ k
unfolding origin placed
place_first at k (int x) = refl
place_first at k (collection vs) = refl
place_first at k (tupled vs) = refl

marks_marked : (vs : Values) (at k m : ℕ) → m < 2 ^ count vs → marks_all (markedᵒ (placed_all at k vs) m) ≡ 2 ^ k * m
unfolding marks_all markedᵒ placed_all count
marks_marked empty at k m h = let z : m ≡ 0 = omega arith in rw z (omega arith)
marks_marked (v ▸ vs) at k m h =
    let r = marks_marked vs (at + size v) (suc k) (m / 2) (half_lt (count vs) m h) in
    by_digit_lem _ m
    (λ e. let q : m ≡ m / 2 * 2 = omega arith in rw e (r ∙ two k (m / 2) ∙ ap (λ i. 2 ^ k * i) (sym q)))
    (λ e. let q : m ≡ 1 + m / 2 * 2 = omega arith in
    rw e (ap₂ (λ i j. 2 ^ i + j) (place_first at k v) (r ∙ two k (m / 2)) ∙ one_more k (m / 2) ∙ ap (λ i. 2 ^ k * i) (sym q)))
  where
    two : (k i : ℕ) → 2 ^ suc k * i ≡ 2 ^ k * (i * 2)
    two k i = rw (pow-suc 2 k) (omega arith)

    one_more : (k i : ℕ) → 2 ^ k + 2 ^ k * (i * 2) ≡ 2 ^ k * (1 + i * 2)
    one_more k i = omega arith

module _ (s : List ℤ) (at m k : ℕ) (g : Target s) (w : Held s at m) where
  none_marked : marks_at s at ≡ 0 → m ≡ 0
  none_marked e = omega (arith, rw e at w.marks)

  pub origin_marks : marks (origin_at s at m k) ≡ m
  unfolding origin_at marks heldᵒ placed marks_at
  origin_marks = by_tag s at g w.tag _
      (λ e. ap (λ (v : Value). marks (heldᵒ (placed at k v) m)) (int_at s at g w.tag e) ∙ sym (none_marked (rw e)))
      (λ e. ap (λ (v : Value). marks (heldᵒ (placed at k v) m)) (collection_at s at g w.tag e)
      ∙ marks_marked (elements (value_at s at)) (at + 2) 0 m (held_some s at m g w) ∙ omega arith)
      (λ e. ap (λ (v : Value). marks (heldᵒ (placed at k v) m)) (tuple_at_lem s at g w.tag e) ∙ sym (none_marked (rw e)))

-- ---- What is held of a collection, and the whole value.

pub origin_collection : (s : List ℤ) (at m k : ℕ) → Target s → Tag s at → tag_at s at ≡ 1
    → origin_at s at m k ≡ collectionᵒ (record { at = at; place = k }) (markedᵒ (elementsᵒ s at) m)
unfolding origin_at heldᵒ placed elementsᵒ
origin_collection s at m k g w e = ap (λ (v : Value). heldᵒ (placed at k v) m) (collection_at s at g w e)

pub origin_tuple : (s : List ℤ) (at m k : ℕ) → Target s → Tag s at → tag_at s at ≡ 2
    → origin_at s at m k ≡ tupledᵒ (record { at = at; place = k }) (elementsᵒ s at)
unfolding origin_at heldᵒ placed elementsᵒ
origin_tuple s at m k g w e = ap (λ (v : Value). heldᵒ (placed at k v) m) (tuple_at_lem s at g w e)

marked_whole : (vs : Values) (at k : ℕ) → markedᵒ (placed_all at k vs) (2 ^ count vs - 1) ≡ placed_all at k vs
unfolding markedᵒ placed_all count
marked_whole empty at k = refl
marked_whole (v ▸ vs) at k = rw (full_odd (count vs), full_half (count vs), marked_whole vs (at + size v) (suc k))

pub origin_whole : (s : List ℤ) (at k : ℕ) → Target s → Tag s at → origin_at s at (whole_at s at) k ≡ placed at k (value_at s at)
unfolding origin_at whole_at heldᵒ placed
origin_whole s at k g w = by_tag s at g w _
    (λ e. let q = int_at s at g w e in ap (λ (v : Value). heldᵒ (placed at k v) (2 ^ marks_at s at - 1)) q ∙ sym (ap (placed at k) q))
    (λ e. let q = collection_at s at g w e in
    let c : marks_at s at ≡ count (elements (value_at s at)) = marks_all_lem s at e ∙ sym (count_elements s at g w) in
    ap (λ (v : Value). heldᵒ (placed at k v) (2 ^ marks_at s at - 1)) q
    ∙ ap (λ (vs : Valuesᵒ). collectionᵒ (record { at = at; place = k }) vs)
    (ap (λ i. markedᵒ (placed_all (at + 2) 0 (elements (value_at s at))) (2 ^ i - 1)) c ∙ marked_whole (elements (value_at s at)) (at + 2) 0)
    ∙ sym (ap (placed at k) q))
    (λ e. let q = tuple_at_lem s at g w e in ap (λ (v : Value). heldᵒ (placed at k v) (2 ^ marks_at s at - 1)) q ∙ sym (ap (placed at k) q))

-- ---- Element j of the elements placed from an index on.

nth_placed : (vs : Values) (at k j : ℕ) → j < count vs → nthᵒ (placed_all at k vs) j ≡ placed (at + size_all (firsts j vs)) (k + j) (nth vs j)
unfolding nthᵒ placed_all firsts size_all nth count
nth_placed empty at k j h = absurd (omega arith)
nth_placed (v ▸ vs) at k zero h = ap₂ (λ i l. placed i l v) (omega arith) (omega arith)
nth_placed (v ▸ vs) at k (suc j) h =
    nth_placed vs (at + size v) (suc k) j (omega arith) ∙ ap₂ (λ i l. placed i l (nth vs j)) (omega arith) (omega arith)

pub element_origin : (s : List ℤ) (at j : ℕ) → Target s → Tag s at → j < count_at s at
    → nthᵒ (elementsᵒ s at) j ≡ placed (element_at s at j) j (value_at s (element_at s at j))
unfolding elementsᵒ
element_origin s at j g w h =
    nth_placed (elements (value_at s at)) (at + 2) 0 j (omega (arith, count_elements s at g w))
    ∙ ap₂ (λ (i : ℕ) (v : Value). placed i (0 + j) v) (sym (element_place s at j g w h)) (sym (element_value s at j g w h))
    ∙ ap (λ i. placed (element_at s at j) i (value_at s (element_at s at j))) (omega arith)
