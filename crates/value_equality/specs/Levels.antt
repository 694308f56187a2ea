-- Document 01, section 4, tag 3: a level of a comparison, what it comes to, and the level once its question is answered.
use Rattle.std.specs.Prelude.{ℕ, ◌^◌, ◌<◌, ◌≡◌, Bool, true, false, cond, List, eqb, ℤ}
use Rattle.std.specs.Int.Count.{count_trailing_zeros}
use Rattle.rules.specs.Forms.{Values, count}
use Rattle.rules.specs.Equality.{equal_parts}
use Rattle.words.specs.Marks.{clear}
use Rattle.matchers.specs.Places.{matcher_end, matchers_at}
use Rattle.value_places.specs.Places.{count_at, Tag, element_at}
use Rattle.value_places.specs.Held.{left}
use Rattle.value_equality.specs.declared.Level.{Level}
use Rattle.value_equality.specs.Equality.{wholes_equal, left_in_order, left_paired, first_equal}

-- ---- As the code goes about it.

unfoldable pub ended_of : ℕ → ℕ → Bool
ended_of x z = cond (eqb x 0) true (eqb z 0)

unfoldable pub outcome_of : ℕ → ℕ → Bool
outcome_of x y = cond (eqb x 0) (eqb y 0) false

unfoldable pub onward_of : List ℤ → ℕ → ℕ → ℕ
onward_of mt kind at = cond (eqb kind 4) (matcher_end mt at) at

-- All of y are to try.
unfoldable pub level_of : (kind at a x b y : ℕ) → Level
level_of kind at a x b y = record { kind = kind; at = at; a = a; x = x; b = b; y = y; z = y }

unfoldable pub settled_of : ℕ → ℕ → Bool → Level
unfolding level_of
settled_of a b true = level_of 2 0 a 0 b 0
settled_of a b false = level_of 2 0 a 0 b 1

-- The two are equal, and taken away; they are not, and another may be tried.
unfoldable pub pair_taken : List ℤ → Level → Level
unfolding onward_of level_of
pair_taken mt l = level_of l.kind (onward_of mt l.kind l.at) l.a (clear (count_trailing_zeros 64 l.x) l.x) l.b (clear (count_trailing_zeros 64 l.z) l.y)

unfoldable pub other_tried : Level → Level
other_tried l = record { kind = l.kind; at = l.at; a = l.a; x = l.x; b = l.b; y = l.y; z = clear (count_trailing_zeros 64 l.z) l.z }

unfoldable pub taken_of : List ℤ → Level → Bool → Level
unfolding pair_taken other_tried settled_of
taken_of mt l true = pair_taken mt l
taken_of mt l false = cond (eqb l.kind 3) (other_tried l) (settled_of l.a l.b false)

-- ---- What it means.

-- The question: an element of each, whole values.
unfoldable pub first_of : List ℤ → Level → ℕ
first_of s l = element_at s l.a (count_trailing_zeros 64 l.x)

unfoldable pub second_of : List ℤ → Level → ℕ
second_of s l = element_at s l.b (count_trailing_zeros 64 l.z)

unfoldable pub question_of : List ℤ → List ℤ → Level → Bool
unfolding first_of second_of
question_of mt s l = wholes_equal mt l.at s (first_of s l) (second_of s l)

-- The lowest of x is marked off with the first of z that equals it, and the others are paired off.
unfoldable pub marked_off : List ℤ → ℕ → List ℤ → ℕ → ℕ → ℕ → ℕ → ℕ → Bool
marked_off mt i s a x b y k = cond (eqb k 64) false (left_paired mt i s a (clear (count_trailing_zeros 64 x) x) b (clear k y))

unfoldable pub paired_from : List ℤ → ℕ → List ℤ → ℕ → ℕ → ℕ → ℕ → ℕ → Bool
unfolding marked_off
paired_from mt i s a x b y z = marked_off mt i s a x b y (first_equal mt i s (element_at s a (count_trailing_zeros 64 x)) b z)

-- Parts that are left, each under the next matcher from an index on.
unfoldable pub parts_of : List ℤ → ℕ → Values → Values → Bool
parts_of mt i vs ws = equal_parts (matchers_at mt (count vs) i) vs ws

unfoldable pub open_to : List ℤ → List ℤ → Level → Bool
unfolding paired_from parts_of
open_to mt s l = cond (eqb l.kind 3) (paired_from mt l.at s l.a l.x l.b l.y l.z)
    (cond (eqb l.kind 4) (parts_of mt l.at (left s l.a l.x) (left s l.b l.y))
    (left_in_order mt l.at s l.a l.x l.b l.y))

unfoldable pub comes_to : List ℤ → List ℤ → Level → Bool
unfolding open_to
comes_to mt s l = cond (eqb l.x 0) (eqb l.y 0) (open_to mt s l)

-- Marks of elements or of parts that there are.
pub record Marks (s : List ℤ) (at m : ℕ) : Type 0 where
  pub tag : Tag s at
  pub below : m < 2 ^ count_at s at

-- The same of two collections, while an element of the first is left.
pub record Both (s : List ℤ) (a x b y : ℕ) : Type 0 where
  pub firsts : 0 < x → Marks s a x
  pub seconds : 0 < x → Marks s b y

-- Elements that there are; and but for a multiset's there is one to try.
pub record Open (s : List ℤ) (l : Level) : Type 0 where
  pub firsts : Marks s l.a l.x
  pub seconds : Marks s l.b l.y
  pub tries : Marks s l.b l.z
  pub one : (l.kind ≡ 3 → ⊥) → l.z ≡ l.y

-- A level on the value at a, that comes to an answer; all of y are to try, and of two tuples the same parts are marked.
pub record Opens (mt s : List ℤ) (a : ℕ) (l : Level) (r : Bool) : Type 0 where
  pub place : l.a ≡ a
  pub opens : 0 < l.x → Open s l
  pub tag : Tag s l.b
  pub comes : comes_to mt s l ≡ r
  pub all : l.z ≡ l.y
  pub parts : l.kind ≡ 4 → l.y ≡ l.x
