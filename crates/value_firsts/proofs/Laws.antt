-- The first places as the code asks for them. Assumes nothing.
use Prim.Native.Nat.{ℕ, suc, ◌+◌, ◌-◌, ◌*◌, ◌%◌, ◌^◌, ◌<◌, ◌≤◌}
use mathlib.Core.Path.{◌≡◌, sym, ◌∙◌, ap, subst}
use mathlib.Core.Bool.{Bool, true, false, cond, ◌||◌}
use mathlib.Core.List.{List, []}
use native.Mathlib.Omega.{arith}
use borrow.Author.Rules.{rules}
use native.Mathlib.Nat.{pow-suc, mod-eq_of_lt, mod-le, add-mul-mod_self_left}
use native.Mathlib.Decide.{dec_le}
use lib.Pow.{pow_pos, pow_mono, pow-add}
use lib.Count.{count_leading_zeros, count_trailing_zeros, leading_top}
use lib.IntN.{ℤ}
use Rattle.rules.specs.Search.{any_equal}
use Rattle.rules.specs.Equality.{equal}
use Rattle.words.specs.Words.{tag_at}
use Rattle.words.specs.Marks.{clear}
use Rattle.words.proofs.marks.Places.{positions_low}
use Rattle.matchers.specs.Places.{matcher_at}
use Rattle.matchers.proofs.Matchers.{matcher_1}
use Rattle.value_places.specs.Places.{value_at, elements, count_at, marks_at, Target, Tag, element_at}
use Rattle.value_places.specs.Held.{Held, whole_at}
use Rattle.value_places.proofs.Elements.{count_elements, element_tag, element_value}
use Rattle.value_places.proofs.Held.{marks_count, held_64, held_tag, held_less, held_clear, held_some, whole_held, whole_value_lem, next_in, next_64, next_tag, next_value}
use Rattle.value_equality.specs.Equality.{equal_at, wholes_equal, integers_equal}
use Rattle.value_equality.proofs.Integers.{as_equal}
use Rattle.value_firsts.specs.Firsts.{firsts_of, firsts_at, before_of, before_at, kept_with, Lower}
use Rattle.value_firsts.proofs.Differing.{firsts_le}
use Rattle.value_firsts.proofs.Last.{last_is}

-- ---- The highest mark.

pow_below : (k n : ℕ) → 2 ^ k < 2 ^ n → k < n
pow_below k n h = go (dec_le n k)
  where
    go : Dec (n ≤ k) → k < n
    go (yes l) = let p = pow_mono l in absurd (omega arith)
    go (no l) = omega arith

module _ (m : ℕ) (p : 0 < m) (l : m < 2 ^ 64) where
  pub top_fits : count_leading_zeros 64 m ≤ 63
  top_fits = let j = leading_top 64 m p l in omega (arith, j.1)

  module _ (k : ℕ) (d : k ≡ 63 - count_leading_zeros 64 m) where
    top_is : (2 ^ k ≤ m) × (m < 2 ^ suc k)
    top_is =
        let j = leading_top 64 m p l in
        let e : j.0 ≡ k = omega (arith, j.1) in
        (subst (λ (x : ℕ). 2 ^ x ≤ m) e j.2, subst (λ (x : ℕ). m < 2 ^ suc x) e j.3)

pub ruleset highest_rules = (top_fits, rules)

-- ---- Two whole values.

module _ (mt : List ℤ) (i : ℕ) (s : List ℤ) (a b : ℕ) where
  pub values_integer : (t : ℕ) (r : Bool) → t ≡ tag_at mt i → t ≡ 1 → r ≡ integers_equal s a b → r ≡ wholes_equal mt i s a b
  values_integer t r e h q = q ∙ as_equal mt i (matcher_1 mt i t e h) s a b

  pub values_equal : (x y : ℕ) (r : Bool) → Target s → Tag s a → Tag s b → x ≡ whole_at s a → y ≡ whole_at s b → r ≡ equal_at mt i s a x b y → r ≡ wholes_equal mt i s a b
  unfolding equal_at wholes_equal
  values_equal x y r g v w p q e = e ∙ rw (p, q, whole_value_lem s a g v, whole_value_lem s b g w)

pub values_held : (s : List ℤ) (a x : ℕ) → Target s → Tag s a → x ≡ whole_at s a → Held s a x
values_held s a x g v e = rw e (whole_held s a g v)

pub ruleset value_rules = (values_integer, values_equal, values_held, rules)

-- ---- Whether one before is equal.

module _ (mt : List ℤ) (i : ℕ) (s : List ℤ) (at k : ℕ) (z : ℕ) (v : Bool) (q : v ≡ before_at mt i s at z k) where
  pub before_out : z ≡ 0 → false ≡ v
  unfolding before_at before_of any_equal
  before_out h = sym (q ∙ rw h)

  module _ (g : Target s) (w : Held s at z) (h : 0 < z) (u : k < count_at s at) (e j f : ℕ) (r : Bool) (ee : e ≡ element_at s at k) (d : j ≡ count_trailing_zeros 64 z) (ef : f ≡ element_at s at j)
      (er : r ≡ wholes_equal mt i s f e) where
    next_before : v ≡ (r || before_at mt i s at (clear (count_trailing_zeros 64 z) z) k)
    unfolding before_at before_of any_equal wholes_equal
    next_before = q ∙ rw (positions_low 64 z h (held_64 s at z g w), er, next_value s at z j g w d h f ef, ee, element_value s at k g w.tag u)

    pub before_here : r ≡ true → true ≡ v
    before_here y = sym (next_before ∙ rw y)

    pub before_on : (x : ℕ) → r ≡ false → x ≡ clear (count_trailing_zeros 64 z) z → v ≡ before_at mt i s at x k
    before_on x y c = next_before ∙ rw (y, c)

pub element_at_lem : (s : List ℤ) (at k e m : ℕ) → Target s → Held s at m → k < count_at s at → e ≡ element_at s at k → Tag s e
element_at_lem s at k e m g w u q = rw q (element_tag s at k g w.tag u)

pub ruleset before_rules = (before_out, before_here, before_on, element_at_lem, next_in, next_tag, held_tag, held_clear, rules)

-- ---- A place kept or not.

pub kept_seen : (out k : ℕ) (b : Bool) → b ≡ true → out ≡ kept_with out k b
unfolding kept_with
kept_seen out k b h = rw h

pub kept_first : (out k a : ℕ) (b : Bool) → b ≡ false → a ≡ 2 ^ k → out + a ≡ kept_with out k b
unfolding kept_with
kept_first out k a b h e = rw (h, e)

pub ruleset kept_rules = (kept_seen, kept_first, rules)

-- ---- From the last on.

firsts_few : (mt : List ℤ) (i : ℕ) (s : List ℤ) (at m : ℕ) → firsts_at mt i s at m ≤ m
unfolding firsts_at firsts_of
firsts_few mt i s at m = firsts_le (equal (matcher_at mt i)) [] (elements (value_at s at)) m

-- The highest mark is not among the n lowest digits, where more than these are left.
module _ (n left k : ℕ) (low : 2 ^ k ≤ left) (high : left < 2 ^ suc k) where
  above : left % 2 ^ n < left → n ≤ k
  above h = go (dec_le n k)
    where
      go : Dec (n ≤ k) → n ≤ k
      go (yes l) = l
      go (no l) = let p = pow_mono {i = suc k} {j = n} (omega arith) in let q = mod-eq_of_lt {n = left} {m = 2 ^ n} (omega arith) in absurd (omega arith)

  digits_stay : n ≤ k → (left - 2 ^ k) % 2 ^ n ≡ left % 2 ^ n
  digits_stay l =
      let d = k - n in
      let p : 2 ^ k ≡ 2 ^ n * 2 ^ d = let z : n + d ≡ k = omega arith in ap (λ (x : ℕ). 2 ^ x) (sym z) ∙ pow-add 2 n d in
      let z : left ≡ (left - 2 ^ k) + 2 ^ n * 2 ^ d = omega arith in
      sym (ap (λ (x : ℕ). x % 2 ^ n) z ∙ add-mul-mod_self_left (left - 2 ^ k) (2 ^ n) (2 ^ d))

module _ (s : List ℤ) (at left stop : ℕ) (g : Target s) (w : Held s at left) (lo : Lower left stop) (h : stop < left) (k : ℕ) (d : k ≡ 63 - count_leading_zeros 64 left) where
  top : (2 ^ k ≤ left) × (left < 2 ^ suc k)
  top = top_is left (omega arith) (held_64 s at left g w) k d

  below : k < marks_at s at
  below = pow_below k (marks_at s at) (omega (arith, top.0, w.marks))

  pub top_some : 0 < left
  top_some = omega arith

  pub top_in_lem : k < count_at s at
  top_in_lem = omega (arith, below, marks_count s at)

  pub top_64 : k < 64
  top_64 = omega (arith, top_in_lem, g.small at w.tag)

  pub top_below : (a : ℕ) → a ≡ 2 ^ k → left - a < 2 ^ k
  top_below a e = let p = pow-suc 2 k in omega (arith, top.1)

  pub top_le : (a : ℕ) → a ≡ 2 ^ k → a ≤ left
  top_le a e = omega (arith, top.0)

  pub top_held : (a : ℕ) → Held s at (left - a)
  top_held a = held_less s at left (left - a) w (omega arith)

  pub top_lower : (a : ℕ) → a ≡ 2 ^ k → Lower (left - a) stop
  top_lower a e =
      let q = above lo.digits left k top.0 top.1 (rw lo.are at h) in
      record { digits = lo.digits; are = lo.are ∙ sym (digits_stay lo.digits left k top.0 top.1 q) ∙ ap (λ (x : ℕ). (left - x) % 2 ^ lo.digits) (sym e) }

  pub top_less : (a : ℕ) → a ≡ 2 ^ k → left - a < left
  top_less a e = omega (arith, pow_pos k, top.0)

  pub top_room : (out m : ℕ) → Held s at m → out + left ≤ m → out + 2 ^ k < 2 ^ 64
  top_room out m v l = omega (arith, top.0, held_64 s at m g v)

  pub top_sum : (out m a r : ℕ) (b : Bool) → out + left ≤ m → a ≡ 2 ^ k → r ≡ kept_with out k b → r + (left - a) ≤ m
  unfolding kept_with
  top_sum out m a r true l e q = omega (arith, top.0)
  top_sum out m a r false l e q = omega (arith, top.0)

  module _ (mt : List ℤ) (i m out a r : ℕ) (b : Bool) where
    pub top_again : firsts_at mt i s at m ≡ out + firsts_at mt i s at left → a ≡ 2 ^ k → b ≡ before_at mt i s at (left - a) k → r ≡ kept_with out k b
        → firsts_at mt i s at m ≡ r + firsts_at mt i s at (left - a)
    unfolding firsts_at before_at kept_with
    top_again q e f u =
        let p = pow-suc 2 k in
        let t = left - a in
        let z : t + 2 ^ k ≡ left = omega (arith, top.0) in
        let y = last_is (equal (matcher_at mt i)) (elements (value_at s at)) k t (omega (arith, top.1)) (rw (count_elements s at g w.tag) top_in_lem) (omega (arith, top_64)) in
        q ∙ ap (λ (n : ℕ). out + n) (ap (firsts_of (equal (matcher_at mt i)) (elements (value_at s at))) (sym z) ∙ y ∙ ap (λ (c : Bool). firsts_of (equal (matcher_at mt i)) (elements (value_at s at)) t + cond c 0 (2 ^ k)) (sym f))
        ∙ go b (firsts_of (equal (matcher_at mt i)) (elements (value_at s at)) t) ∙ ap (λ (n : ℕ). n + firsts_of (equal (matcher_at mt i)) (elements (value_at s at)) t) (sym u)
      where
        go : (c : Bool) (x : ℕ) → out + (x + cond c 0 (2 ^ k)) ≡ kept_with out k c + x
        go true x = omega arith
        go false x = omega arith

module _ (mt : List ℤ) (i : ℕ) (s : List ℤ) (at m : ℕ) where
  pub begins : firsts_at mt i s at m ≡ 0 + firsts_at mt i s at m
  begins = omega arith

  -- What is left at the end is what the loop stops at.
  pub firsts_out : (out left stop : ℕ) → firsts_at mt i s at m ≡ out + firsts_at mt i s at left → Lower left stop → left ≤ stop → out + firsts_at mt i s at stop ≡ firsts_at mt i s at m
  firsts_out out left stop e b h =
      let p = mod-le left (2 ^ b.digits) in
      let z : left ≡ stop = omega (arith, b.are) in
      sym (e ∙ ap (λ (x : ℕ). out + firsts_at mt i s at x) z)

pub ruleset above_rules = (top_some, top_in_lem, top_64, top_below, top_le, top_held, top_lower, top_less, top_room, top_sum, top_again, begins, firsts_out, rules)
