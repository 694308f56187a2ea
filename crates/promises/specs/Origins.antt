-- Document 02, No. 9: an origin points back. What is bound is part of the target: the value whose tag stands at its index, of which those elements are left
-- that its marks name.
use Rattle.std.specs.Prelude.{ℕ, zero, suc, ◌+◌, ◌*◌, ◌/◌, ◌%◌, ◌^◌, ◌≡◌, ◌⊎◌, length, drop, ℤ}
use native.Mathlib.Omega.{arith}
use Rattle.std.proofs.Common.{pow-suc, sym, ap₂, ◌∙◌, drop-drop}
use Rattle.std.proofs.Math.Path.{refl, ap, subst}
use Rattle.std.proofs.Math.Logic.{inl, inr}
use mathlib.Core.List.{List, [], ◌∷◌, ◌++◌, append_assoc}
use Rattle.std.proofs.Math.Seq.{drop-append_seam}
use Rattle.std.proofs.Math.IntN.{pos}
use Rattle.rules.specs.Forms.{Value, int, collection, tupled, Values, empty, ◌▸◌, count, words, words_all, size}
use Rattle.rules.specs.Origins.{Origin, Valueᵒ, intᵒ, collectionᵒ, tupledᵒ, Valuesᵒ, emptyᵒ, ◌▸ᵒ◌, plain, plain_all, placed, placed_all, origin, marks, marks_all}
use Rattle.forms.specs.Origins.{plain_placed}
use Rattle.forms.specs.Written.{length_words}
use Rattle.promises.specs.Parts.{Among, none, kept, left, Part, element, elements}

-- The elements that are marked, the first by the lowest bit.
abbrev keep : ℕ → Value → Values → Values
keep zero v vs = vs
keep (suc d) v vs = v ▸ vs

unfoldable pub remaining : Values → ℕ → Values
remaining empty m = empty
remaining (v ▸ vs) m = keep (m % 2) v (remaining vs (m / 2))

-- What is left of a value by marks: of an integer or a tuple all.
unfoldable pub left_of : Value → ℕ → Value
unfolding remaining
left_of (int x) m = int x
left_of (collection vs) m = collection (remaining vs m)
left_of (tupled vs) m = tupled vs

-- The words of a value stand from an index on.
pub record Stands (ts : List ℤ) (i : ℕ) (v : Value) : Type 0 where
  pub after : List ℤ
  pub here : drop i ts ≡ words v ++ after

-- The value at its index with its marks is the value alone.
pub record PointsBack (ts : List ℤ) (u : Valueᵒ) : Type 0 where
  pub whole : Value
  pub stands : Stands ts (origin u).at whole
  pub is : plain u ≡ left_of whole (marks u)

-- ---- Marks of some of the elements.

place_first : (i k : ℕ) (v : Value) → (origin (placed i k v)).place ≡ k
unfolding origin placed
place_first i k (int x) = refl
place_first i k (collection vs) = refl
place_first i k (tupled vs) = refl

index_first : (i k : ℕ) (v : Value) → (origin (placed i k v)).at ≡ i
unfolding origin placed
index_first i k (int x) = refl
index_first i k (collection vs) = refl
index_first i k (tupled vs) = refl

remaining_none : (vs : Values) → remaining vs 0 ≡ empty
unfolding remaining
remaining_none empty = refl
remaining_none (v ▸ vs) = remaining_none vs

even_marks : (v : Value) (vs : Values) (m : ℕ) → remaining (v ▸ vs) (2 * m) ≡ remaining vs m
unfolding remaining
even_marks v vs m = let p : 2 * m % 2 ≡ 0 = omega arith in let q : 2 * m / 2 ≡ m = omega arith in rw (p, q)

odd_marks : (v : Value) (vs : Values) (m : ℕ) → remaining (v ▸ vs) (1 + 2 * m) ≡ v ▸ remaining vs m
unfolding remaining
odd_marks v vs m = let p : (1 + 2 * m) % 2 ≡ 1 = omega arith in let q : (1 + 2 * m) / 2 ≡ m = omega arith in rw (p, q)

twice : (k m : ℕ) → 2 ^ suc k * m ≡ 2 ^ k * (2 * m)
twice k m = rw (pow-suc 2 k) (omega arith)

one_more : (k m : ℕ) → 2 ^ k + 2 ^ k * (2 * m) ≡ 2 ^ k * (1 + 2 * m)
one_more k m = omega arith

-- Some of the elements placed from k on are those that some marks name, and their own marks are these.
some_marked : (us : Valuesᵒ) (i k : ℕ) (vs : Values) → Among us (placed_all i k vs) → (m : ℕ) × (marks_all us ≡ 2 ^ k * m) × (plain_all us ≡ remaining vs m)
unfolding placed_all marks_all plain_all
some_marked emptyᵒ i k vs a = (0, omega arith, sym (remaining_none vs))
some_marked (u ▸ᵒ us) i k empty a = elim a [ ]
some_marked (u ▸ᵒ us) i k (v ▸ vs) (kept a) =
    let r = some_marked us (i + size v) (suc k) vs a in (
      1 + 2 * r.0,
      ap₂ (λ x y. 2 ^ x + y) (place_first i k v) (r.1 ∙ twice k r.0) ∙ one_more k r.0,
      ap₂ (λ x y. x ▸ y) (plain_placed i k v) r.2 ∙ sym (odd_marks v vs r.0),
    )
some_marked (u ▸ᵒ us) i k (v ▸ vs) (left a) =
    let r = some_marked (u ▸ᵒ us) (i + size v) (suc k) vs a in (2 * r.0, r.1 ∙ twice k r.0, r.2 ∙ sym (even_marks v vs r.0))

-- ---- What comes from the target.

-- A value placed whole, or some elements of a collection that stands there.
abbrev Taken : (i k : ℕ) → Value → Valueᵒ → Type 0
Taken i k v u = (u ≡ placed i k v)
    ⊎ ((vs : Values) × (us : Valuesᵒ) × (v ≡ collection vs) × (u ≡ collectionᵒ (record { at = i; place = k }) us) × Among us (placed_all (i + 2) 0 vs))

pub record Comes (ts : List ℤ) (u : Valueᵒ) : Type 0 where
  pub index : ℕ
  pub place : ℕ
  pub whole : Value
  pub stands : Stands ts index whole
  pub taken : Taken index place whole u

unfoldable pub ComeAll : List ℤ → Valuesᵒ → Type 0
ComeAll ts emptyᵒ = Unit {0}
ComeAll ts (u ▸ᵒ us) = Comes ts u × ComeAll ts us

all : (vs : Valuesᵒ) → Among vs vs
all emptyᵒ = none
all (v ▸ᵒ vs) = kept (all vs)

-- (By recursion on the second.)
among_all : {us vs ws : Valuesᵒ} → Among vs ws → Among us vs → Among us ws
among_all none none = none
among_all (kept b) none = none
among_all (kept b) (kept a) = kept (among_all b a)
among_all (kept b) (left a) = left (among_all b a)
among_all (left b) a = left (among_all b a)

among_come : (ts : List ℤ) {us vs : Valuesᵒ} → Among us vs → ComeAll ts vs → ComeAll ts us
unfolding ComeAll
among_come ts none c = tt
among_come ts (kept a) c = (c.0, among_come ts a c.1)
among_come ts (left a) c = among_come ts a c.1

module _ (ts : List ℤ) where
  -- Behind a value stands the next.
  behind : (i n : ℕ) (ws us : List ℤ) → length ws ≡ n → drop i ts ≡ ws ++ us → drop (i + n) ts ≡ us
  behind i n ws us l e = sym (drop-drop n i ts) ∙ ap (drop n) e ∙ ap (λ k. drop k (ws ++ us)) (sym l) ∙ drop-append_seam ws us

  placed_come : (vs : Values) (i k : ℕ) (rest : List ℤ) → drop i ts ≡ words_all vs ++ rest → ComeAll ts (placed_all i k vs)
  unfolding ComeAll placed_all words_all
  placed_come empty i k rest e = tt
  placed_come (v ▸ vs) i k rest e =
      let q = e ∙ append_assoc (words v) (words_all vs) rest in (
        record { index = i; place = k; whole = v; stands = record { after = words_all vs ++ rest; here = q }; taken = inl refl },
        placed_come vs (i + size v) (suc k) rest (behind i (size v) (words v) (words_all vs ++ rest) (length_words v) q),
      )

  inside : (i : ℕ) (vs : Values) → Stands ts i (collection vs) → ComeAll ts (placed_all (i + 2) 0 vs)
  unfolding words
  inside i vs s = placed_come vs (i + 2) 0 s.after (behind i 2 (pos 1 ∷ pos (count vs) ∷ []) (words_all vs ++ s.after) refl s.here)

  inside_tuple : (i : ℕ) (vs : Values) → Stands ts i (tupled vs) → ComeAll ts (placed_all (i + 2) 0 vs)
  unfolding words
  inside_tuple i vs s = placed_come vs (i + 2) 0 s.after (behind i 2 (pos 2 ∷ pos (count vs) ∷ []) (words_all vs ++ s.after) refl s.here)

  clash : {A : Type 0} → ◌≡◌ {A = ℕ} 0 1 → A
  clash z = absurd (omega arith)

  -- A collection that comes from the target has some of the elements of one that stands there.
  record Some (o : Origin) (us : Valuesᵒ) : Type 0 where
    at : ℕ
    elements : Values
    stands : Stands ts at (collection elements)
    is : o.at ≡ at
    among : Among us (placed_all (at + 2) 0 elements)

  some_of_lem : (o : Origin) (us : Valuesᵒ) → Comes ts (collectionᵒ o us) → Some o us
  unfolding placed
  some_of_lem o us c = go c.index c.place c.whole c.stands c.taken
    where
      go : (i k : ℕ) (v : Value) → Stands ts i v → Taken i k v (collectionᵒ o us) → Some o us
      go i k (int x) s (inl e) = clash cc
      go i k (collection vs) s (inl e) =
          let p : us ≡ placed_all (i + 2) 0 vs = cc in
          let q : o ≡ record { at = i; place = k } = cc in
          record { at = i; elements = vs; stands = s; is = ap (λ (x : Origin). x.at) q; among = subst (λ (x : Valuesᵒ). Among us x) p (all us) }
      go i k (tupled vs) s (inl e) = clash cc
      go i k v s (inr t) =
          let p : us ≡ t.1 = cc t.3 in
          let q : o ≡ record { at = i; place = k } = cc t.3 in
          record {
            at = i;
            elements = t.0;
            stands = subst (Stands ts i) t.2 s;
            is = ap (λ (x : Origin). x.at) q;
            among = subst (λ (x : Valuesᵒ). Among x (placed_all (i + 2) 0 t.0)) (sym p) t.4;
          }

  pub parts_come : (o : Origin) (us : Valuesᵒ) → Comes ts (tupledᵒ o us) → ComeAll ts us
  unfolding placed
  parts_come o us c = go c.index c.place c.whole c.stands c.taken
    where
      go : (i k : ℕ) (v : Value) → Stands ts i v → Taken i k v (tupledᵒ o us) → ComeAll ts us
      go i k (int x) s (inl e) = clash cc
      go i k (collection vs) s (inl e) = clash cc
      go i k (tupled vs) s (inl e) = let p : us ≡ placed_all (i + 2) 0 vs = cc in subst (ComeAll ts) (sym p) (inside_tuple i vs s)
      go i k v s (inr t) = clash (cc t.3)

  -- A part of what comes from the target comes from it.
  pub part_comes : {u v : Valueᵒ} → Part u v → Comes ts v → Comes ts u
  unfolding ComeAll
  part_comes (element {o = o} {vs = vs} a) c =
      let s = some_of_lem o vs c in (among_come ts (among_all s.among a) (inside s.at s.elements s.stands)).0
  part_comes (elements {o = o} {us = us} {vs = vs} a) c =
      let s = some_of_lem o vs c in
      record {
        index = s.at;
        place = o.place;
        whole = collection s.elements;
        stands = s.stands;
        taken = inr (s.elements, us, refl, ap (λ n. collectionᵒ (record { at = n; place = o.place }) us) s.is, among_all s.among a);
      }

  -- It points back.
  pub comes_points : (u : Valueᵒ) → Comes ts u → PointsBack ts u
  unfolding plain origin marks left_of
  comes_points (intᵒ o x) c = go c.index c.place c.whole c.stands c.taken
    where
      go : (i k : ℕ) (v : Value) → Stands ts i v → Taken i k v (intᵒ o x) → PointsBack ts (intᵒ o x)
      go i k v s (inl e) =
          let q = ap (λ (y : Valueᵒ). (origin y).at) e ∙ index_first i k v in
          let p : int x ≡ v = ap plain e ∙ plain_placed i k v in
          record { whole = int x; stands = subst (λ n. Stands ts n (int x)) (sym q) (subst (Stands ts i) (sym p) s); is = refl }
      go i k v s (inr t) = clash (cc t.3)
  comes_points (collectionᵒ o us) c =
      let s = some_of_lem o us c in
      let r = some_marked us (s.at + 2) 0 s.elements s.among in
      let z : 2 ^ 0 * r.0 ≡ r.0 = omega arith in
      record {
        whole = collection s.elements;
        stands = subst (λ n. Stands ts n (collection s.elements)) (sym s.is) s.stands;
        is = ap collection (r.2 ∙ ap (remaining s.elements) (sym (r.1 ∙ z)));
      }
  comes_points (tupledᵒ o us) c = go c.index c.place c.whole c.stands c.taken
    where
      go : (i k : ℕ) (v : Value) → Stands ts i v → Taken i k v (tupledᵒ o us) → PointsBack ts (tupledᵒ o us)
      go i k v s (inl e) =
          let q = ap (λ (y : Valueᵒ). (origin y).at) e ∙ index_first i k v in
          let p : tupled (plain_all us) ≡ v = ap plain e ∙ plain_placed i k v in
          record { whole = tupled (plain_all us); stands = subst (λ n. Stands ts n (tupled (plain_all us))) (sym q) (subst (Stands ts i) (sym p) s); is = refl }
      go i k v s (inr t) = clash (cc t.3)
