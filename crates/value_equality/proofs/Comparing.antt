-- Equality of words, of whole values and of what is left of collections and tuples, by the next of each. Assumes nothing.
use mathlib.Core.Path.{◌≡◌, refl, sym, ◌∙◌, ap}
use mathlib.Core.Bool.{Bool, true, false, cond, ◌&&◌}
use mathlib.Core.Option.{none, some}
use mathlib.Core.List.{List, ◌∷◌}
use Prim.Native.Nat.{ℕ, ◌+◌, ◌<◌, ◌≤◌}
use native.Mathlib.Omega.{arith}
use native.Mathlib.Decide.{dec_le, ℕ_discrete}
use borrow.Author.Rules.{rules}
use borrow.Author.Tests.{eq-eqb, ne_eqb}
use lib.Dec.{eqb}
use lib.ListN.{get_or}
use lib.IntN.{ℤ, pos}
use lib.Count.{count_trailing_zeros}
use Rattle.rules.specs.Numbers.{plus}
use Rattle.rules.specs.Forms.{no_matchers, Value, Values, empty, ◌▸◌, count}
use Rattle.rules.specs.Equality.{in_order, equal, equal_parts}
use Rattle.forms.specs.Pairing.{without_first, greedy}
use Rattle.words.specs.Words.{same_to}
use Rattle.words.specs.Marks.{positions, clear}
use Rattle.words.specs.Marked.{nth}
use Rattle.words.proofs.marks.Places.{positions_low, positions_none}
use Rattle.value_places.specs.Places.{value_at, elements, Target, Tag, element_at}
use Rattle.value_places.specs.Held.{whole_at, left}
use Rattle.matchers.specs.Places.{matcher_end, matcher_at}
use Rattle.matchers.proofs.Matchers.{matchers_none, matchers_more}
use Rattle.value_equality.specs.Equality.{equal_at, wholes_equal, left_in_order, left_paired, first_in, first_equal, is_sum}
use Rattle.words.proofs.Same.{same_bits}
use Rattle.value_places.proofs.Held.{whole_value_lem, left_none}
use Rattle.value_equality.specs.Levels.{Marks, marked_off, paired_from, parts_of}
use Rattle.value_equality.proofs.First.{first_opt, left_of, without_first_lem, first_found, first_none}
use Rattle.value_equality.proofs.Marks.{marks_64, marks_some, low_left, low_value}

-- ---- Words.

pub sum_is : (s : List ℤ) (a b : ℕ) (x c c' z : ℤ) (r : Bool) → r ≡ same_to (plus x c') z → x ≡ get_or s (a + 1) (pos 0) → c' ≡ c → z ≡ get_or s (b + 1) (pos 0)
    → r ≡ is_sum s a c b
unfolding is_sum
sum_is s a b x c c' z r e p q u = e ∙ rw (p, q, u)

pub ruleset word_rules = (same_bits, sum_is, rules)

-- ---- Whole values.

pub wholes_equal_lem : (mt s : List ℤ) (i a b : ℕ) → Target s → Tag s a → Tag s b → equal_at mt i s a (whole_at s a) b (whole_at s b) ≡ wholes_equal mt i s a b
unfolding equal_at wholes_equal
wholes_equal_lem mt s i a b g v w = rw (whole_value_lem s a g v, whole_value_lem s b g w)

-- ---- Nothing is left of one of two collections, or tuples.

-- One element is left, at least.
record More (s : List ℤ) (b y : ℕ) : Type 0 where
  v : Value
  vs : Values
  is : left s b y ≡ v ▸ vs

one_left : (s : List ℤ) (b y : ℕ) → Target s → Marks s b y → 0 < y → More s b y
one_left s b y g w h = record { v = _; vs = _; is = low_left s b y g w h }

ends_both : (E : Values → Bool) (s : List ℤ) (b y : ℕ) → Target s → Marks s b y → E empty ≡ true → ((v : Value) (vs : Values) → E (v ▸ vs) ≡ false) → E (left s b y) ≡ eqb y 0
ends_both E s b y g w t f = go (dec_le y 0)
  where
    go : Dec (y ≤ 0) → E (left s b y) ≡ eqb y 0
    go (yes u) = rw (left_none s b y u) (t ∙ sym (eq-eqb y 0 (omega arith)))
    go (no u) = let m = one_left s b y g w (omega arith) in rw m.is (f m.v m.vs ∙ sym (ne_eqb y 0 (λ z. omega arith)))

module _ (mt s : List ℤ) (i a x b y : ℕ) (g : Target s) where
  module _ (w : Marks s b y) (h : x ≤ 0) where
    pub order_out : left_in_order mt i s a x b y ≡ eqb y 0
    unfolding left_in_order in_order
    order_out = rw (left_none s a x h) (ends_both (in_order (equal (matcher_at mt i)) empty) s b y g w refl (λ v vs. refl))

    pub pair_out : left_paired mt i s a x b y ≡ eqb y 0
    unfolding left_paired greedy
    pair_out = rw (left_none s a x h) (ends_both (greedy (equal (matcher_at mt i)) empty) s b y g w refl (λ v vs. refl))

    pub parts_out : parts_of mt i (left s a x) (left s b y) ≡ eqb y 0
    unfolding parts_of equal_parts count
    parts_out = rw (left_none s a x h, matchers_none mt i) (ends_both (equal_parts no_matchers empty) s b y g w refl (λ v vs. refl))

  module _ (w : Marks s a x) (h : 0 < x) (z : y ≤ 0) where
    pub order_short : left_in_order mt i s a x b y ≡ false
    unfolding left_in_order in_order
    order_short = let m = one_left s a x g w h in rw (left_none s b y z, m.is)

    pub parts_short : parts_of mt i (left s a x) (left s b y) ≡ false
    unfolding parts_of equal_parts count
    parts_short = let m = one_left s a x g w h in rw (left_none s b y z, m.is, matchers_more mt (count m.vs) i)

-- ---- The next of both.

abbrev rests : ℕ → ℕ
rests x = clear (count_trailing_zeros 64 x) x

module _ (mt s : List ℤ) (i a x b y : ℕ) (g : Target s) (v : Marks s a x) (w : Marks s b y) (h : 0 < x) (n : 0 < y) where
  pub order_is : left_in_order mt i s a x b y ≡ wholes_equal mt i s (element_at s a (count_trailing_zeros 64 x)) (element_at s b (count_trailing_zeros 64 y)) && left_in_order mt i s a (rests x) b (rests y)
  unfolding left_in_order wholes_equal in_order
  order_is = rw (low_left s a x g v h, low_left s b y g w n)

  pub parts_is : parts_of mt i (left s a x) (left s b y)
      ≡ wholes_equal mt i s (element_at s a (count_trailing_zeros 64 x)) (element_at s b (count_trailing_zeros 64 y)) && parts_of mt (matcher_end mt i) (left s a (rests x)) (left s b (rests y))
  unfolding parts_of wholes_equal equal_parts equal count
  parts_is = rw (low_left s a x g v h, low_left s b y g w n, matchers_more mt (count (left s a (rests x))) i)

-- ---- The first that equals.

first_cons : (f : Value → Bool) (vs : Values) (k : ℕ) (ks : List ℕ) → first_in f vs (k ∷ ks) ≡ cond (f (nth vs k)) k (first_in f vs ks)
unfolding first_in
first_cons f vs k ks = refl

pub find_out : (mt s : List ℤ) (i a b y : ℕ) → y ≤ 0 → first_equal mt i s a b y ≡ 64
unfolding first_equal first_in
find_out mt s i a b y h = let z : y ≡ 0 = omega arith in rw (z, positions_none 64)

pub find_is : (mt s : List ℤ) (i a b y : ℕ) → Target s → Marks s b y → 0 < y
    → first_equal mt i s a b y ≡ cond (wholes_equal mt i s a (element_at s b (count_trailing_zeros 64 y))) (count_trailing_zeros 64 y) (first_equal mt i s a b (rests y))
unfolding first_equal wholes_equal
find_is mt s i a b y g w h =
    let E = equal (matcher_at mt i) (value_at s a) in
    rw (positions_low 64 y h (marks_64 s b y g w), first_cons E (elements (value_at s b)) (count_trailing_zeros 64 y) (positions 64 (rests y)))
    (ap (λ (v : Value). cond (E v) (count_trailing_zeros 64 y) (first_equal mt i s a b (rests y))) (sym (low_value s b y g w h)))

-- ---- Paired off.

module _ (mt s : List ℤ) (i e b y : ℕ) (g : Target s) (w : Marks s b y) where
  without_is : without_first (equal (matcher_at mt i) (value_at s e)) (left s b y)
      ≡ left_of (elements (value_at s b)) y (first_opt (equal (matcher_at mt i) (value_at s e)) (elements (value_at s b)) (positions 64 y))
  unfolding left
  without_is = without_first_lem (equal (matcher_at mt i) (value_at s e)) (elements (value_at s b)) 64 y (marks_some s b y g w) (marks_64 s b y g w)

  left_found : (first_equal mt i s e b y ≡ 64 → ⊥) → without_first (equal (matcher_at mt i) (value_at s e)) (left s b y) ≡ some (left s b (clear (first_equal mt i s e b y) y))
  unfolding left first_equal
  left_found n = without_is ∙ ap (left_of (elements (value_at s b)) y) (first_found (equal (matcher_at mt i) (value_at s e)) (elements (value_at s b)) y (first_equal mt i s e b y) refl n).0

  left_missing : first_equal mt i s e b y ≡ 64 → without_first (equal (matcher_at mt i) (value_at s e)) (left s b y) ≡ none
  unfolding first_equal
  left_missing n = without_is ∙ ap (left_of (elements (value_at s b)) y) (first_none (equal (matcher_at mt i) (value_at s e)) (elements (value_at s b)) y (first_equal mt i s e b y) refl n)

module _ (mt s : List ℤ) (i a x b y : ℕ) (g : Target s) (v : Marks s a x) (w : Marks s b y) (h : 0 < x) where
  pair_by : left_paired mt i s a x b y ≡ elim (without_first (equal (matcher_at mt i) (value_at s (element_at s a (count_trailing_zeros 64 x)))) (left s b y)) as (λ _. Bool) [
    | none ↦ false
    | some us ↦ greedy (equal (matcher_at mt i)) (left s a (rests x)) us
  ]
  unfolding left_paired greedy
  pair_by = rw (low_left s a x g v h)

  pub pair_is : left_paired mt i s a x b y ≡ paired_from mt i s a x b y y
  unfolding paired_from marked_off left_paired
  pair_is = go (ℕ_discrete (first_equal mt i s (element_at s a (count_trailing_zeros 64 x)) b y) 64)
    where
      go : Dec (first_equal mt i s (element_at s a (count_trailing_zeros 64 x)) b y ≡ 64) → left_paired mt i s a x b y ≡ paired_from mt i s a x b y y
      go (yes u) = pair_by ∙ rw (left_missing mt s i (element_at s a (count_trailing_zeros 64 x)) b y g w u, eq-eqb _ 64 u)
      go (no u) = pair_by ∙ rw (left_found mt s i (element_at s a (count_trailing_zeros 64 x)) b y g w u, ne_eqb _ 64 u)
