-- What is held: by the tag, whole, and the next element that is left. Assumes nothing.
use mathlib.Core.Path.{◌≡◌, sym, ◌∙◌, ap}
use mathlib.Core.List.{List}
use Prim.Native.Nat.{ℕ, zero, suc, ◌+◌, ◌^◌, ◌<◌, ◌≤◌}
use native.Mathlib.Omega.{arith}
use lib.ListN.{get_or}
use lib.IntN.{ℤ, pos}
use lib.Count.{count_trailing_zeros}
use lib.Pow.{pow_pos, pow_mono}
use Rattle.rules.specs.Forms.{Value, int, collection, empty, ◌▸◌, count}
use Rattle.words.specs.Words.{tag_at}
use Rattle.words.specs.Marks.{clear, digit}
use Rattle.words.specs.Marked.{nth, held}
use Rattle.words.proofs.marks.Places.{low_digit, clear_lt, clear_is, digit_below}
use Rattle.words.proofs.marks.Marked.{marked_low, marked_none, marked_all}
use Rattle.value_places.specs.Places.{value_at, elements, count_by, count_at, marks_by, marks_at, Target, Tag, element_at}
use Rattle.value_places.specs.Held.{Held, held_at, whole_at, left}
use Rattle.value_places.proofs.Elements.{int_at, collection_at, tuple_at_lem, by_tag, count_elements, element_tag, element_value}

module _ (s : List ℤ) (at m : ℕ) (g : Target s) (w : Tag s at) where
  pub held_int : tag_at s at ≡ 0 → held_at s at m ≡ int (get_or s (at + 1) (pos 0))
  unfolding held_at held
  held_int e = rw (int_at s at g w e)

  pub held_collection : tag_at s at ≡ 1 → held_at s at m ≡ collection (left s at m)
  unfolding held_at held left
  held_collection e = ap (λ (v : Value). held v m) (collection_at s at g w e)

  pub held_tuple : tag_at s at ≡ 2 → held_at s at m ≡ value_at s at
  unfolding held_at held
  held_tuple e = ap (λ (v : Value). held v m) (tuple_at_lem s at g w e) ∙ sym (tuple_at_lem s at g w e)

-- Marked are elements that there are: all of a collection's, none of a tuple's parts.
marks_by_lem : (t n : ℕ) → marks_by t n ≤ count_by t n
marks_by_lem zero n = omega arith
marks_by_lem (suc zero) n = omega arith
marks_by_lem (suc (suc t)) n = omega arith

pub marks_count : (s : List ℤ) (at : ℕ) → marks_at s at ≤ count_at s at
unfolding marks_at count_at
marks_count s at = marks_by_lem (tag_at s at) (tag_at s (at + 1))

pub marks_all_lem : (s : List ℤ) (at : ℕ) → tag_at s at ≡ 1 → marks_at s at ≡ count_at s at
unfolding marks_at count_at
marks_all_lem s at e = rw e

-- The marks of a value are at most 64.
pub held_64 : (s : List ℤ) (at m : ℕ) → Target s → Held s at m → m < 2 ^ 64
held_64 s at m g w = let l : marks_at s at ≤ 64 = omega (arith, marks_count s at, g.small at w.tag) in let p = pow_mono l in omega (arith, w.marks)

pub held_tag : (s : List ℤ) (at m : ℕ) → Held s at m → Tag s at
held_tag s at m w = w.tag

-- Fewer marks are marks of it: what a front and a back keep, and what is left when a place is taken.
pub held_less : (s : List ℤ) (at m x : ℕ) → Held s at m → x ≤ m → Held s at x
held_less s at m x w h = record { tag = w.tag; marks = omega (arith, w.marks) }

pub held_clear : (s : List ℤ) (at m k x : ℕ) → Held s at m → x ≡ clear k m → Held s at x
held_clear s at m k x w i = record { tag = w.tag; marks = rw i (clear_lt (marks_at s at) k m w.marks) }

pub held_some : (s : List ℤ) (at m : ℕ) → Target s → Held s at m → m < 2 ^ count (elements (value_at s at))
held_some s at m g w = rw (count_elements s at g w.tag) (let p = pow_mono (marks_count s at) in omega (arith, w.marks))

-- The whole value.
module _ (s : List ℤ) (at : ℕ) (g : Target s) (w : Tag s at) where
  pub whole_held : Held s at (whole_at s at)
  unfolding whole_at
  whole_held = record { tag = w; marks = let p = pow_pos (marks_at s at) in omega arith }

  all_marked : tag_at s at ≡ 1 → left s at (whole_at s at) ≡ elements (value_at s at)
  unfolding left whole_at
  all_marked e = rw (marks_all_lem s at e, ← count_elements s at g w) (marked_all (elements (value_at s at)))

  pub whole_value_lem : held_at s at (whole_at s at) ≡ value_at s at
  whole_value_lem = by_tag s at g w _
      (λ e. held_int s at (whole_at s at) g w e ∙ sym (int_at s at g w e))
      (λ e. held_collection s at (whole_at s at) g w e ∙ ap collection (all_marked e) ∙ sym (collection_at s at g w e))
      (λ e. held_tuple s at (whole_at s at) g w e)

pub left_none : (s : List ℤ) (at m : ℕ) → m ≤ 0 → left s at m ≡ empty
unfolding left
left_none s at m h = let z : m ≡ 0 = omega arith in rw (z, marked_none (elements (value_at s at)))

-- ---- The next element that is left: the lowest mark.

module _ (s : List ℤ) (at m k : ℕ) (g : Target s) (w : Held s at m) (d : k ≡ count_trailing_zeros 64 m) (h : 0 < m) where
  low_is : digit k m ≡ 1
  low_is = rw d (low_digit 64 m h (held_64 s at m g w))

  pub next_in : k < count_at s at
  next_in = omega (arith, digit_below k (marks_at s at) m low_is w.marks, marks_count s at)

  pub next_64 : k < 64
  next_64 = omega (arith, next_in, g.small at w.tag)

  pub next_less : (x : ℕ) → x ≡ clear (count_trailing_zeros 64 m) m → x < m
  next_less x i =
      let c = clear_is (count_trailing_zeros 64 m) m (low_digit 64 m h (held_64 s at m g w)) in
      let p = pow_pos (count_trailing_zeros 64 m) in
      omega (arith, i, c)

  module _ (e : ℕ) (i : e ≡ element_at s at k) where
    pub next_tag : Tag s e
    next_tag = rw i (element_tag s at k g w.tag next_in)

    pub next_value : value_at s e ≡ nth (elements (value_at s at)) (count_trailing_zeros 64 m)
    next_value = rw (i, ← d) (element_value s at k g w.tag next_in)

    pub next_left : (x : ℕ) → x ≡ clear (count_trailing_zeros 64 m) m → left s at m ≡ value_at s e ▸ left s at x
    unfolding left
    next_left x j = rw (next_value, j) (marked_low (elements (value_at s at)) 64 m h (held_some s at m g w) (held_64 s at m g w))
