-- Comparing where the matcher is integer, as the code asks: two values, the first that equals one, and two multisets by two loops. Assumes nothing.
use mathlib.Core.Path.{◌≡◌, refl, sym, ◌∙◌}
use mathlib.Core.Bool.{Bool, true, false, cond}
use mathlib.Core.List.{List, [], ◌∷◌}
use Prim.Native.Nat.{ℕ, ◌+◌, ◌^◌, ◌<◌, ◌≤◌}
use native.Mathlib.Omega.{arith}
use native.Mathlib.Decide.{dec_le}
use borrow.Author.Rules.{rules}
use borrow.Author.Tests.{eq-eqb, ne_eqb}
use lib.Dec.{eqb}
use lib.ListN.{get_or}
use lib.IntN.{ℤ, pos}
use lib.Count.{count_trailing_zeros}
use Rattle.rules.specs.Numbers.{same}
use Rattle.rules.specs.Forms.{integer}
use Rattle.rules.specs.Equality.{equal}
use Rattle.words.specs.Words.{tag_at}
use Rattle.words.specs.Marks.{clear}
use Rattle.matchers.specs.Places.{matcher_at}
use Rattle.matchers.proofs.Matchers.{matcher_1}
use Rattle.value_places.specs.Places.{value_at, elements, count_at, Target, Tag, element_at}
use Rattle.value_places.proofs.Elements.{second, tag_is, tag_small, int_at}
use Rattle.value_equality.specs.declared.Level.{Level}
use Rattle.value_equality.specs.Equality.{wholes_equal, left_paired, first_equal, integers_equal, first_integer, integers_paired}
use Rattle.value_equality.specs.Levels.{level_of, taken_of, first_of, second_of, question_of, marked_off, paired_from, comes_to, Marks, Both, Open}
use Rattle.value_equality.proofs.First.{first_found}
use Rattle.value_equality.proofs.Marks.{marks_64, marks_clear, low_in, low_tag}
use Rattle.value_equality.proofs.Comparing.{find_out, find_is, pair_is}
use Rattle.value_equality.proofs.Levels.{comes_3}
use Rattle.value_equality.proofs.ByTag.{first_other, second_other}
use Rattle.value_equality.proofs.Table.{Going, to_go, going_stay, stay_less}
use Rattle.value_equality.proofs.Asking.{asked_rules, table_rules}

-- ---- Two whole values.

module _ (s : List ℤ) (a b : ℕ) (g : Target s) (v : Tag s a) (w : Tag s b) where
  pub same_first : (t : ℕ) → t ≡ tag_at s a → (t ≡ 0 → ⊥) → false ≡ integers_equal s a b
  unfolding integers_equal
  same_first t e f = sym (first_other integer (value_at s a) (value_at s b) (λ z. f (e ∙ tag_is s a g v ∙ z)))

  pub same_second : (t : ℕ) → t ≡ tag_at s b → (t ≡ 0 → ⊥) → false ≡ integers_equal s a b
  unfolding integers_equal
  same_second t e f = sym (second_other integer (value_at s a) (value_at s b) (λ z. f (e ∙ tag_is s b g w ∙ z)))

  pub same_words : (t u : ℕ) (r : Bool) → t ≡ tag_at s a → t ≡ 0 → u ≡ tag_at s b → u ≡ 0 → r ≡ same (get_or s (a + 1) (pos 0)) (get_or s (b + 1) (pos 0)) → r ≡ integers_equal s a b
  unfolding integers_equal equal
  same_words t u r p x q y h = h ∙ rw (int_at s a g v (sym p ∙ x), int_at s b g w (sym q ∙ y))

pub ruleset same_rules = (same_first, same_second, same_words, second, tag_small, rules)

pub asked_same : (s : List ℤ) (l : Level) (j k e f : ℕ) (r : Bool) → j ≡ count_trailing_zeros 64 l.x → k ≡ count_trailing_zeros 64 l.z → e ≡ element_at s l.a j → f ≡ element_at s l.b k
    → r ≡ integers_equal s e f → r ≡ integers_equal s (first_of s l) (second_of s l)
unfolding first_of second_of
asked_same s l j k e f r dj dk p q h = h ∙ rw (p, q, dj, dk)

pub ruleset integer_rules = (asked_same, asked_rules)

-- ---- Under a matcher that is integer.

module _ (mt : List ℤ) (i : ℕ) (m : matcher_at mt i ≡ integer) (s : List ℤ) where
  pub as_equal : (a b : ℕ) → integers_equal s a b ≡ wholes_equal mt i s a b
  unfolding wholes_equal integers_equal
  as_equal a b = rw m

  as_first : (e b y : ℕ) → first_integer s e b y ≡ first_equal mt i s e b y
  unfolding first_equal first_integer
  as_first e b y = rw m

  as_left : (a x b y : ℕ) → 0 < x → integers_paired s a x b y ≡ left_paired mt i s a x b y
  unfolding integers_paired left_paired
  as_left a x b y h = rw (ne_eqb x 0 (λ z. omega arith), m)

  as_none : (a x b y : ℕ) → x ≤ 0 → integers_paired s a x b y ≡ comes_to mt s (level_of 3 i a x b y)
  unfolding integers_paired comes_to level_of
  as_none a x b y u = let z : x ≡ 0 = omega arith in rw (eq-eqb x 0 z)

  pub as_paired : (a x b y : ℕ) → Target s → Both s a x b y → integers_paired s a x b y ≡ comes_to mt s (level_of 3 i a x b y)
  unfolding level_of
  as_paired a x b y g o = go (dec_le x 0)
    where
      go : Dec (x ≤ 0) → integers_paired s a x b y ≡ comes_to mt s (level_of 3 i a x b y)
      go (yes u) = as_none a x b y u
      go (no u) =
          let h : 0 < x = omega arith in
          as_left a x b y h ∙ sym (comes_3 (level_of 3 i a x b y) mt s g (o.seconds h) refl refl (o.firsts h))

abbrev one : List ℤ
one = pos 1 ∷ []

one_is : matcher_at one 0 ≡ integer
unfolding tag_at
one_is = matcher_1 one 0 1 refl refl

-- ---- The first that equals the value at e; f is what is to be found.

module _ (s : List ℤ) (e b z f : ℕ) (q : f ≡ first_integer s e b z) where
  pub first_out : z ≤ 0 → 64 ≡ f
  first_out h = sym (q ∙ as_first one 0 one_is s e b z ∙ find_out one s 0 e b z h)

  module _ (g : Target s) (w : Marks s b z) (h : 0 < z) (k x : ℕ) (r : Bool) (d : k ≡ count_trailing_zeros 64 z) (p : x ≡ element_at s b k) (u : r ≡ integers_equal s e x) where
    next_first : f ≡ cond r k (first_integer s e b (clear (count_trailing_zeros 64 z) z))
    next_first =
        q ∙ as_first one 0 one_is s e b z ∙ find_is one s 0 e b z g w h
        ∙ rw (u, p, d, as_equal one 0 one_is s e (element_at s b (count_trailing_zeros 64 z)), as_first one 0 one_is s e b (clear (count_trailing_zeros 64 z) z))

    pub first_here : r ≡ true → k ≡ f
    first_here y = sym (next_first ∙ rw y)

    pub first_on : (z' : ℕ) → r ≡ false → z' ≡ clear (count_trailing_zeros 64 z) z → f ≡ first_integer s e b z'
    first_on z' y c = next_first ∙ rw (y, c)

module _ (s : List ℤ) (b z : ℕ) (w : Marks s b z) where
  pub marked_tag : Tag s b
  marked_tag = w.tag

  pub marked_on : (z' : ℕ) → z' ≡ clear (count_trailing_zeros 64 z) z → Marks s b z'
  marked_on z' c = rw c (marks_clear s b z (count_trailing_zeros 64 z) w)

  module _ (g : Target s) (h : 0 < z) where
    pub marked_in : (k : ℕ) → k ≡ count_trailing_zeros 64 z → k < count_at s b
    marked_in k d = rw d (low_in s b z g w h)

    pub marked_element : (k x : ℕ) → k ≡ count_trailing_zeros 64 z → x ≡ element_at s b k → Tag s x
    marked_element k x d p = rw (p, d) (low_tag s b z g w h)

pub ruleset first_rules = (first_out, first_here, first_on, marked_tag, marked_on, marked_in, marked_element, rules)

-- ---- Two multisets; w is what they are to give, o what is known while one is left.

module _ (s : List ℤ) (a x b y : ℕ) (w : Bool) (q : w ≡ integers_paired s a x b y) where
  pub paired_out : x ≡ 0 → eqb y 0 ≡ w
  unfolding integers_paired
  paired_out h = sym (q ∙ rw (eq-eqb x 0 h))

  module _ (g : Target s) (o : Both s a x b y) (h : 0 < x) (j e k : ℕ) (d : j ≡ count_trailing_zeros 64 x) (p : e ≡ element_at s a j) (u : k ≡ first_integer s e b y) where
    next_pair : w ≡ cond (eqb k 64) false (left_paired one 0 s a (clear (count_trailing_zeros 64 x) x) b (clear k y))
    unfolding paired_from marked_off
    next_pair =
        q ∙ as_left one 0 one_is s a x b y h ∙ pair_is one s 0 a x b y g (o.firsts h) (o.seconds h) h
        ∙ rw (u, p, d, as_first one 0 one_is s (element_at s a (count_trailing_zeros 64 x)) b y)

    pub paired_none : k ≡ 64 → false ≡ w
    paired_none z = sym (next_pair ∙ rw (eq-eqb k 64 z))

    module _ (f : k ≡ 64 → ⊥) (x' y' : ℕ) (m : y' ≡ clear k y) (n : x' ≡ clear (count_trailing_zeros 64 x) x) where
      first_marks : Marks s a x'
      first_marks = rw n (marks_clear s a x (count_trailing_zeros 64 x) (o.firsts h))

      second_marks : Marks s b y'
      second_marks = rw m (marks_clear s b y k (o.seconds h))

      pub paired_both : Both s a x' b y'
      paired_both = record { firsts = λ _. first_marks; seconds = λ _. second_marks }

      pub paired_on : w ≡ integers_paired s a x' b y'
      unfolding level_of
      paired_on =
          next_pair ∙ rw (ne_eqb k 64 f, ← m, ← n)
          (sym (as_paired one 0 one_is s a x' b y' g paired_both ∙ comes_3 (level_of 3 0 a x' b y') one s g second_marks refl refl first_marks))

module _ (s : List ℤ) (a x b y : ℕ) (o : Both s a x b y) (h : 0 < x) where
  pub paired_tag : Tag s a
  paired_tag = (o.firsts h).tag

  pub paired_second : Marks s b y
  paired_second = o.seconds h

  pub paired_in : Target s → (j : ℕ) → j ≡ count_trailing_zeros 64 x → j < count_at s a
  paired_in g j d = marked_in s a x (o.firsts h) g h j d

  pub paired_element : Target s → (j e : ℕ) → j ≡ count_trailing_zeros 64 x → e ≡ element_at s a j → Tag s e
  paired_element g j e d p = marked_element s a x (o.firsts h) g h j e d p

pub paired_64 : (s : List ℤ) (e b y k : ℕ) → k ≡ first_integer s e b y → (k ≡ 64 → ⊥) → k < 64
unfolding first_integer
paired_64 s e b y k u f = (first_found (equal integer (value_at s e)) (elements (value_at s b)) y k u f).1

pub ruleset paired_rules = (paired_out, paired_none, paired_on, paired_both, paired_tag, paired_second, paired_in, paired_element, paired_64, rules)

-- ---- In the comparison.

module _ (s : List ℤ) (kind at a x b y : ℕ) (o : 0 < x → Open s (level_of kind at a x b y)) where
  pub integers_open : Both s a x b y
  unfolding level_of
  integers_open = record { firsts = λ h. (o h).firsts; seconds = λ h. (o h).seconds }

  pub integers_come : (mt : List ℤ) (k : ℕ) (r : Bool) → Target s → kind ≡ 3 → k ≡ tag_at mt at → k ≡ 1 → r ≡ integers_paired s a x b y → r ≡ comes_to mt s (level_of kind at a x b y)
  integers_come mt k r g e t z q = q ∙ as_paired mt at (matcher_1 mt at k t z) s a x b y g integers_open ∙ rw e

module _ (mt s : List ℤ) (w : Bool) (t : List Level) (d : ℕ) (l : Level) (i : Going mt s w t d l) (g : Target s) (h : 0 < l.x) (n : 0 < l.z) where
  pub integers_64 : l.z < 2 ^ 64
  integers_64 = marks_64 s l.b l.z g (i.shape h).tries

  module _ (k : ℕ) (r : Bool) (l' : Level) (e : k ≡ tag_at mt l.at) (z : k ≡ 1) (q : r ≡ integers_equal s (first_of s l) (second_of s l)) (u : l' ≡ taken_of mt l r) where
    pub integers_stay : Going mt s w t d l'
    unfolding question_of
    integers_stay = going_stay mt s w t d l g i h n r (q ∙ as_equal mt l.at (matcher_1 mt l.at k e z) s (first_of s l) (second_of s l)) l' u

    pub integers_less : to_go s t d l' < to_go s t d l
    integers_less = stay_less mt s w t d l g i h n r l' u

pub ruleset compared_rules = (integers_come, integers_64, integers_stay, integers_less, table_rules)
