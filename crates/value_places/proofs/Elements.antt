-- What stands at a tag by its two words, and where its elements stand. Assumes nothing.
use mathlib.Core.Path.{◌≡◌, refl, sym, ◌∙◌, ap, ap₂}
use mathlib.Core.List.{List, [], ◌∷◌, ◌++◌}
use Prim.Native.Nat.{ℕ, zero, suc, ◌+◌, ◌-◌, ◌<◌, ◌≤◌}
use native.Mathlib.Numerals.{add-one, add-two}
use native.Mathlib.Omega.{arith}
use lib.ListN.{length, get_or, drop, take}
use lib.Seq.{drop-cons, slice, take-append_seam, take-nil}
use native.Mathlib.Nat.{suc-add, zero-add}
use lib.IntN.{ℤ, pos, negsuc}
use Rattle.rules.specs.Forms.{Value, int, collection, tupled, Values, empty, ◌▸◌, count, words, size, size_all}
use Rattle.words.specs.Words.{tag_z, tag_at}
use Rattle.words.proofs.Signed.{get_d_any}
use Rattle.words.specs.Marked.{nth}
use Rattle.value_places.specs.Places.{firsts, node, forest, head_of, value_at, elements, count_by, count_at, Target, Tag, Standing, hops, element_at}
use Rattle.forms.specs.Written.{length_words}
use Rattle.value_places.proofs.Forest.{here, is_here, hop_none, hop_one, standing_less, standing_tag, standing_next}

count_firsts : (n : ℕ) (vs : Values) → count (firsts n vs) ≤ count vs
unfolding firsts count
count_firsts zero vs = omega arith
count_firsts (suc n) empty = omega arith
count_firsts (suc n) (v ▸ vs) = let r = count_firsts n vs in omega arith

nth_firsts : (n j : ℕ) (vs : Values) → j < n → nth (firsts n vs) j ≡ nth vs j
unfolding firsts nth
nth_firsts zero j vs h = absurd (omega arith)
nth_firsts (suc n) j empty h = refl
nth_firsts (suc n) zero (v ▸ vs) h = refl
nth_firsts (suc n) (suc j) (v ▸ vs) h = nth_firsts n j vs (omega arith)

firsts_firsts : (n j : ℕ) (vs : Values) → j ≤ n → firsts j (firsts n vs) ≡ firsts j vs
unfolding firsts
firsts_firsts n zero vs h = refl
firsts_firsts zero (suc j) vs h = absurd (omega arith)
firsts_firsts (suc n) (suc j) empty h = refl
firsts_firsts (suc n) (suc j) (v ▸ vs) h = ap (λ (z : Values). v ▸ z) (firsts_firsts n j vs (omega arith))

forest_node : (t x : ℤ) (l : List ℤ) → forest (t ∷ x ∷ l) ≡ node (tag_z t) x (forest l)
unfolding forest
forest_node t x l = refl

node_elements : (t : ℕ) (x : ℤ) (vs : Values) → (t ≡ 0 → ⊥) → elements (head_of (node t x vs)) ≡ firsts (tag_z x) vs
unfolding elements
node_elements zero x vs f = absurd (f refl)
node_elements (suc zero) x vs f = refl
node_elements (suc (suc t)) x vs f = refl

pub count_some : (t n : ℕ) → (t ≡ 0 → ⊥) → count_by t n ≡ n
count_some zero n f = absurd (f refl)
count_some (suc t) n f = refl

size_elements : (v : Value) → size v ≡ 2 + size_all (elements v)
unfolding size elements
size_elements (int x) = refl
size_elements (collection vs) = refl
size_elements (tupled vs) = refl

-- ---- By the tag.

-- The tag that a value has.
abbrev pub tag_of : Value → ℕ
tag_of (int x) = 0
tag_of (collection vs) = 1
tag_of (tupled vs) = 2

module _ (s : List ℤ) (at : ℕ) (g : Target s) (w : Tag s at) where
  pub second : at + 1 < length s
  second = let h = is_here s at g w in omega (arith, h.fits, h.two)

  two_at : drop at s ≡ get_or s at (negsuc 0) ∷ get_or s (at + 1) (negsuc 0) ∷ drop (at + 2) s
  two_at =
      let l = second in
      let h : suc at < length s = omega arith in
      rw (add-one at, add-two at, drop-cons s at (negsuc 0) w.inside, drop-cons s (suc at) (negsuc 0) h)

  pub forest_at : forest (drop at s) ≡ node (tag_at s at) (get_or s (at + 1) (negsuc 0)) (forest (drop (at + 2) s))
  unfolding tag_at
  forest_at = ap forest two_at ∙ forest_node (get_or s at (negsuc 0)) (get_or s (at + 1) (negsuc 0)) (drop (at + 2) s)

  pub tag_is : tag_at s at ≡ tag_of (value_at s at)
  unfolding words tag_at
  tag_is = go (value_at s at) (sym two_at ∙ (is_here s at g w).stands)
    where
      go : (v : Value) → get_or s at (negsuc 0) ∷ get_or s (at + 1) (negsuc 0) ∷ drop (at + 2) s ≡ words v ++ drop (at + size (value_at s at)) s
          → tag_z (get_or s at (negsuc 0)) ≡ tag_of v
      go (int x) d = let z : get_or s at (negsuc 0) ≡ pos 0 = cc in rw z
      go (collection vs) d = let z : get_or s at (negsuc 0) ≡ pos 1 = cc in rw z
      go (tupled vs) d = let z : get_or s at (negsuc 0) ≡ pos 2 = cc in rw z

  -- an integer, a collection or a tuple
  pub by_tag : (P : Type 0) → (tag_at s at ≡ 0 → P) → (tag_at s at ≡ 1 → P) → (tag_at s at ≡ 2 → P) → P
  by_tag P f h k = go (value_at s at) tag_is
    where
      go : (v : Value) → tag_at s at ≡ tag_of v → P
      go (int x) e = f e
      go (collection vs) e = h e
      go (tupled vs) e = k e

  pub tag_small : tag_at s at < 2147483648
  tag_small = by_tag _ (λ e. omega arith) (λ e. omega arith) (λ e. omega arith)

  pub int_at : tag_at s at ≡ 0 → value_at s at ≡ int (get_or s (at + 1) (pos 0))
  unfolding value_at
  int_at e = ap head_of forest_at ∙ rw e (ap int (get_d_any s (at + 1) (negsuc 0) (pos 0) second))

  pub collection_at : tag_at s at ≡ 1 → value_at s at ≡ collection (elements (value_at s at))
  unfolding elements
  collection_at e = go (value_at s at) (sym e ∙ tag_is)
    where
      go : (v : Value) → 1 ≡ tag_of v → v ≡ collection (elements v)
      go (int x) z = absurd (omega arith)
      go (collection vs) z = refl
      go (tupled vs) z = absurd (omega arith)

  pub tuple_at_lem : tag_at s at ≡ 2 → value_at s at ≡ tupled (elements (value_at s at))
  unfolding elements
  tuple_at_lem e = go (value_at s at) (sym e ∙ tag_is)
    where
      go : (v : Value) → 2 ≡ tag_of v → v ≡ tupled (elements v)
      go (int x) z = absurd (omega arith)
      go (collection vs) z = absurd (omega arith)
      go (tupled vs) z = refl

  module _ (f : tag_at s at ≡ 0 → ⊥) where
    elements_firsts : elements (value_at s at) ≡ firsts (tag_at s (at + 1)) (forest (drop (at + 2) s))
    unfolding value_at tag_at
    elements_firsts = ap (λ (vs : Values). elements (head_of vs)) forest_at ∙ node_elements (tag_at s at) (get_or s (at + 1) (negsuc 0)) (forest (drop (at + 2) s)) f

    -- its second word is its count
    count_second : count (elements (value_at s at)) ≡ tag_at s (at + 1)
    unfolding words tag_at elements
    count_second = go (value_at s at) (λ e. f (tag_is ∙ e)) (sym two_at ∙ (is_here s at g w).stands)
      where
        go : (v : Value) → (tag_of v ≡ 0 → ⊥) → get_or s at (negsuc 0) ∷ get_or s (at + 1) (negsuc 0) ∷ drop (at + 2) s ≡ words v ++ drop (at + size (value_at s at)) s
            → count (elements v) ≡ tag_z (get_or s (at + 1) (negsuc 0))
        go (int x) z d = absurd (z refl)
        go (collection vs) z d = let y : get_or s (at + 1) (negsuc 0) ≡ pos (count vs) = cc in rw y
        go (tupled vs) z d = let y : get_or s (at + 1) (negsuc 0) ≡ pos (count vs) = cc in rw y

  -- an integer or not
  if_some : (P : Type 0) → (tag_at s at ≡ 0 → P) → ((tag_at s at ≡ 0 → ⊥) → P) → P
  if_some P f h = by_tag P f (λ e. h (λ z. omega arith)) (λ e. h (λ z. omega arith))

  pub count_elements : count (elements (value_at s at)) ≡ count_at s at
  unfolding count_at elements count
  count_elements = if_some _
      (λ e. rw (int_at e, e))
      (λ f. count_second f ∙ sym (count_some (tag_at s at) (tag_at s (at + 1)) f))

  pub standing_at : (k : ℕ) → k ≤ count_at s at → Standing s k (at + 2)
  unfolding count_at
  standing_at k h = record {
    even = omega (arith, w.even);
    some = if_some _
        (λ e. omega (arith, rw e at h))
        (λ f. omega (arith, rw (count_some (tag_at s at) (tag_at s (at + 1)) f) at h, count_second f, ap count (elements_firsts f), count_firsts (tag_at s (at + 1)) (forest (drop (at + 2) s))));
  }

  -- the value ends where its elements end
  pub end_at : hops s (count_at s at) (at + 2) ≡ at + size (value_at s at)
  unfolding hops count_at elements size_all firsts
  end_at = rw (size_elements (value_at s at)) (if_some _
      (λ e. rw (int_at e, e) (omega arith))
      (λ f. rw (count_some (tag_at s at) (tag_at s (at + 1)) f, elements_firsts f) (omega arith)))

-- ---- Element j stands where the j elements before it end.

place_tag : (s : List ℤ) (j k e : ℕ) → Target s → Standing s k e → j < k → Tag s (hops s j e)
place_tag s zero k e g r h = rw (sym (hop_none s zero e (omega arith))) (standing_tag s k e g r (omega arith))
place_tag s (suc j) k e g r h =
    let x = standing_less s k (suc j) e r (omega arith) in
    let p : suc j - 1 ≡ j = omega arith in
    rw (hop_one s (suc j) e g x (omega arith), p) (place_tag s j (k - 1) (e + size (value_at s e)) g (standing_next s k e g r (omega arith)) (omega arith))

place_value : (s : List ℤ) (j k e : ℕ) → Target s → Standing s k e → j < k → value_at s (hops s j e) ≡ nth (forest (drop e s)) j
unfolding nth
place_value s zero k e g r h =
    let w = here s e g r.even (omega (arith, r.some)) in
    rw (sym (hop_none s zero e (omega arith)), w.more)
place_value s (suc j) k e g r h =
    let w = here s e g r.even (omega (arith, r.some)) in
    let x = standing_less s k (suc j) e r (omega arith) in
    let p : suc j - 1 ≡ j = omega arith in
    rw (hop_one s (suc j) e g x (omega arith), p, w.more) (place_value s j (k - 1) (e + size (value_at s e)) g (standing_next s k e g r (omega arith)) (omega arith))

module _ (s : List ℤ) (at j : ℕ) (g : Target s) (w : Tag s at) (h : j < count_at s at) where
  pub element_tag : Tag s (element_at s at j)
  unfolding element_at
  element_tag = place_tag s j (count_at s at) (at + 2) g (standing_at s at g w (count_at s at) (omega arith)) h

  pub element_value : value_at s (element_at s at j) ≡ nth (elements (value_at s at)) j
  unfolding element_at count_at
  element_value = place_value s j (count_at s at) (at + 2) g (standing_at s at g w (count_at s at) (omega arith)) h ∙ if_some s at g w _
      (λ e. absurd (omega (arith, rw e at h)))
      (λ f. rw (elements_firsts s at g w f) (sym (nth_firsts (tag_at s (at + 1)) j (forest (drop (at + 2) s)) (omega (arith, rw (count_some (tag_at s at) (tag_at s (at + 1)) f) at h)))))

  -- It stands behind the elements before it.
  pub element_place : element_at s at j ≡ at + 2 + size_all (firsts j (elements (value_at s at)))
  unfolding element_at hops count_at
  element_place = ap (λ (vs : Values). at + 2 + size_all vs) (if_some s at g w _
      (λ e. absurd (omega (arith, rw e at h)))
      (λ f. rw (elements_firsts s at g w f) (sym (firsts_firsts (tag_at s (at + 1)) j (forest (drop (at + 2) s)) (omega (arith, rw (count_some (tag_at s at) (tag_at s (at + 1)) f) at h))))))

-- ---- The words of a value stand from its tag up to its end.

drop_take : (e n : ℕ) (l : List ℤ) → drop e (take (e + n) l) ≡ take n (drop e l)
drop_take zero n l = rw zero-add
drop_take (suc e) n [] = rw (suc-add e n) (sym (take-nil n))
drop_take (suc e) n (x ∷ l) = rw (suc-add e n) (drop_take e n l)

pub slice_words : (s : List ℤ) (e : ℕ) → Target s → Tag s e → slice e (e + size (value_at s e)) s ≡ words (value_at s e)
slice_words s e g w =
    drop_take e (size (value_at s e)) s ∙ ap₂ take (sym (length_words (value_at s e))) (is_here s e g w).stands
    ∙ take-append_seam (words (value_at s e)) (drop (e + size (value_at s e)) s)
