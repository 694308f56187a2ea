-- The next of the elements or parts that are marked: the lowest. Assumes nothing.
use mathlib.Core.Path.{◌≡◌, ap}
use mathlib.Core.List.{List}
use Prim.Native.Nat.{ℕ, zero, suc, ◌-◌, ◌/◌, ◌^◌, ◌<◌, ◌≤◌}
use native.Mathlib.Omega.{arith}
use lib.IntN.{ℤ}
use lib.Count.{count_trailing_zeros}
use lib.Pow.{pow_pos, pow_mono}
use Rattle.rules.specs.Forms.{Value, int, collection, tupled, Values, empty, ◌▸◌, count}
use Rattle.forms.specs.Written.{deepest, deepest_of}
use Rattle.words.specs.Marks.{clear, digit}
use Rattle.words.specs.Marked.{nth, marked}
use Rattle.words.proofs.marks.Places.{by_digit_lem, low_digit, clear_lt, digit_below}
use Rattle.words.proofs.marks.Marked.{marked_low, marked_all}
use Rattle.value_places.specs.Places.{value_at, elements, count_at, Target, Tag, element_at}
use Rattle.value_places.specs.Held.{Held, left}
use Rattle.value_places.proofs.Elements.{count_elements, element_tag, element_value}
use Rattle.value_places.proofs.Held.{marks_count}
use Rattle.value_equality.specs.Levels.{Marks}

pub marks_held : (s : List ℤ) (at m : ℕ) → Held s at m → Marks s at m
marks_held s at m w = record { tag = w.tag; below = (let p = pow_mono (marks_count s at) in omega (arith, w.marks)) }

pub marks_clear : (s : List ℤ) (at m k : ℕ) → Marks s at m → Marks s at (clear k m)
marks_clear s at m k w = record { tag = w.tag; below = clear_lt (count_at s at) k m w.below }

pub marks_64 : (s : List ℤ) (at m : ℕ) → Target s → Marks s at m → m < 2 ^ 64
marks_64 s at m g w = let p = pow_mono (g.small at w.tag) in omega (arith, w.below)

pub marks_some : (s : List ℤ) (at m : ℕ) → Target s → Marks s at m → m < 2 ^ count (elements (value_at s at))
marks_some s at m g w = rw (count_elements s at g w.tag) w.below

-- All of them.
module _ (s : List ℤ) (at m n : ℕ) (g : Target s) (w : Tag s at) (d : n ≡ count_at s at) (e : m ≡ 2 ^ n - 1) where
  pub marks_all_lem : Marks s at m
  marks_all_lem = record { tag = w; below = rw (e, ← d) (let p = pow_pos n in omega arith) }

  pub left_all : left s at m ≡ elements (value_at s at)
  unfolding left
  left_all = rw (e, d, ← count_elements s at g w) (marked_all (elements (value_at s at)))

-- They are at most 64.
marked_count : (vs : Values) (m : ℕ) → count (marked vs m) ≤ count vs
unfolding marked count
marked_count empty m = omega arith
marked_count (v ▸ vs) m = let r = marked_count vs (m / 2) in by_digit_lem _ m (λ e. rw e (omega arith)) (λ e. rw e (omega arith))

pub left_64 : (s : List ℤ) (at m : ℕ) → Target s → Tag s at → count (left s at m) ≤ 64
unfolding left
left_64 s at m g w = omega (arith, marked_count (elements (value_at s at)) m, count_elements s at g w, g.small at w)

-- An element or a part is less deep than what it stands in.
nth_deep : (vs : Values) (k : ℕ) → k < count vs → deepest (nth vs k) ≤ deepest_of vs
unfolding nth count deepest_of
nth_deep empty k h = absurd (omega arith)
nth_deep (v ▸ vs) zero h = omega arith
nth_deep (v ▸ vs) (suc k) h = let r = nth_deep vs k (omega arith) in omega arith

elements_deep : (v : Value) (k : ℕ) → k < count (elements v) → deepest (nth (elements v) k) < deepest v
unfolding elements deepest count
elements_deep (int x) k h = absurd (omega arith)
elements_deep (collection vs) k h = let r = nth_deep vs k h in omega arith
elements_deep (tupled vs) k h = let r = nth_deep vs k h in omega arith

module _ (s : List ℤ) (at m : ℕ) (g : Target s) (w : Marks s at m) (h : 0 < m) where
  low_one : digit (count_trailing_zeros 64 m) m ≡ 1
  low_one = low_digit 64 m h (marks_64 s at m g w)

  pub low_in : count_trailing_zeros 64 m < count_at s at
  low_in = digit_below (count_trailing_zeros 64 m) (count_at s at) m low_one w.below

  pub low_64 : count_trailing_zeros 64 m < 64
  low_64 = let l = low_in in omega (arith, g.small at w.tag)

  pub low_tag : Tag s (element_at s at (count_trailing_zeros 64 m))
  low_tag = element_tag s at (count_trailing_zeros 64 m) g w.tag low_in

  pub low_value : value_at s (element_at s at (count_trailing_zeros 64 m)) ≡ nth (elements (value_at s at)) (count_trailing_zeros 64 m)
  low_value = element_value s at (count_trailing_zeros 64 m) g w.tag low_in

  pub low_deep : deepest (value_at s (element_at s at (count_trailing_zeros 64 m))) < deepest (value_at s at)
  low_deep = rw low_value (elements_deep (value_at s at) (count_trailing_zeros 64 m) (rw (count_elements s at g w.tag) low_in))

  pub low_left : left s at m ≡ value_at s (element_at s at (count_trailing_zeros 64 m)) ▸ left s at (clear (count_trailing_zeros 64 m) m)
  unfolding left
  low_left = rw low_value (marked_low (elements (value_at s at)) 64 m h (marks_some s at m g w) (marks_64 s at m g w))

  pub low_count : count (left s at m) ≡ suc (count (left s at (clear (count_trailing_zeros 64 m) m)))
  unfolding count
  low_count = ap count low_left
