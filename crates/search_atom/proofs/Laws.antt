-- The laws that the leaves of a step ask for. Assumes nothing.
use mathlib.Core.Path.{◌≡◌, refl, sym, ◌∙◌, ap}
use mathlib.Core.Bool.{Bool, true, false}
use mathlib.Core.List.{List}
use Prim.Native.Nat.{ℕ, ◌+◌, ◌^◌, ◌<◌, ◌≤◌}
use native.Mathlib.Omega.{arith}
use borrow.Author.Rules.{rules}
use borrow.Author.Tests.{eq-eqb, ne_eqb, lt-ltb, le-ltb, eqb-false}
use lib.ListN.{length, get_or, length-set}
use lib.Dec.{eqb, ltb}
use lib.IntN.{ℤ}
use lib.Count.{count_trailing_zeros}
use Rattle.words.specs.Words.{entries}
use mir.Syntax.{w32}
use lib.Signed.{mag}
use mir.Val.{hbits, of_z}
use Rattle.rules.specs.Numbers.{same}
use Rattle.words.proofs.Same.{same_bits}
use Rattle.words.proofs.marks.Places.{low_lt}
use Rattle.value_places.specs.Places.{Target, Tag, count_at, element_at}
use Rattle.value_places.specs.Held.{whole_at}
use Rattle.value_places.proofs.Elements.{element_tag}
use Rattle.tables.specs.declared.slot.Held.{Held}
use Rattle.tables.specs.Slot.{Tables, view_of, Slotted, Alone, put_held, put_left}
use Rattle.search_atom.specs.Leaves.{when, none_of, stored, is_wide, part_marks, part_held, parts_in, Parts, top_by, now_left, left_in, slot_by}

-- ---- One or the other.

module _ {A : Type 0} (z x y : A) where
  pub when_eq : (m n : ℕ) → m ≡ n → z ≡ x → z ≡ when (eqb m n) x y
  unfolding when
  when_eq m n h e = rw (eq-eqb m n h) e

  pub when_ne : (m n : ℕ) → (m ≡ n → ⊥) → z ≡ y → z ≡ when (eqb m n) x y
  unfolding when
  when_ne m n h e = rw (ne_eqb m n h) e

  pub when_lt : (m n : ℕ) → m < n → z ≡ x → z ≡ when (ltb m n) x y
  unfolding when
  when_lt m n h e = rw (lt-ltb m n h) e

  pub when_le : (m n : ℕ) → n ≤ m → z ≡ y → z ≡ when (ltb m n) x y
  unfolding when
  when_le m n h e = rw (le-ltb m n h) e

  pub when_true : (b c : Bool) → b ≡ c → b ≡ true → z ≡ x → z ≡ when c x y
  unfolding when
  when_true b c i h e = rw (sym i ∙ h) e

  pub when_false : (b c : Bool) → b ≡ c → b ≡ false → z ≡ y → z ≡ when c x y
  unfolding when
  when_false b c i h e = rw (sym i ∙ h) e

pub flag_false : (b c : Bool) → b ≡ c → b ≡ false → c ≡ false
flag_false b c i h = sym i ∙ h

pub ruleset cases = (when_eq, when_ne, when_lt, when_le, when_true, when_false, flag_false, rules)

-- ---- Words.

pub same_named : (x y z : ℤ) → y ≡ z → mag x < 2 ^ hbits w32 → mag y < 2 ^ hbits w32 → eqb (of_z w32 x) (of_z w32 y) ≡ same x z
same_named x y z e f g = same_bits x y f g ∙ ap (same x) e

pub ruleset word_rules = (same_named, rules)

-- ---- Choices.

pub open_low : (o m k : ℕ) → none_of o m ≡ false → (o ≡ 10 → ⊥) → m < 2 ^ 64 → k ≡ count_trailing_zeros 64 m → k < 64
unfolding none_of when
open_low o m k h n l e =
    let g : eqb m 0 ≡ false = rw (ne_eqb o 10 n) at h in
    let d = eqb-false m 0 g in
    rw e (low_lt 64 m (omega arith) l)

pub pow_at : (r k j : ℕ) → r ≡ 2 ^ k → k ≡ j → r ≡ 2 ^ j
pow_at r k j e f = rw f at e

pub ruleset open_rules = (open_low, pow_at, cases)

pub top_is : (more j n top : ℕ) (lows : List ℕ) → more ≡ 0 → n ≡ get_or lows j 0 → n ≡ top_by more j lows top
unfolding top_by
top_is more j n top lows z e = when_eq _ _ _ more 0 z e

pub top_stays : (more j top : ℕ) (lows : List ℕ) → (more ≡ 0 → ⊥) → top ≡ top_by more j lows top
unfolding top_by
top_stays more j top lows n = when_ne _ _ _ more 0 n refl

pub left_none : (more j : ℕ) (t : Tables) → more ≡ 0 → t ≡ left_in more j t
unfolding left_in now_left when
left_none more j t z = rw (eq-eqb more 0 z)

pub left_some : (more j : ℕ) (t u : Tables) → (more ≡ 0 → ⊥) → u ≡ put_left j more t → u ≡ left_in more j t
unfolding left_in now_left when put_left
left_some more j t u n e = e ∙ rw (ne_eqb more 0 n)

pub ruleset leave_rules = (top_is, top_stays, left_none, left_some, cases)

-- An or or a not.

pub slot_own : (o j : ℕ) (from : List ℕ) → o ≡ 15 → j ≡ slot_by o j from
unfolding slot_by
slot_own o j from e = when_eq _ _ _ o 15 e refl

pub slot_named : (o j n : ℕ) (from : List ℕ) → (o ≡ 15 → ⊥) → n ≡ get_or from j 0 → n ≡ slot_by o j from
unfolding slot_by
slot_named o j n from e h = when_ne _ _ _ o 15 e h

pub ruleset slot_rules = (slot_own, slot_named, rules)

-- ---- A tuple's parts.

pub wide_by : (s : List ℤ) (at n k : ℕ) → k ≡ count_at s at → eqb k (n + 1) ≡ is_wide s at n
unfolding is_wide
wide_by s at n k e = rw e

pub ruleset wide_rules = (wide_by, rules)

-- One to three parts, each put by itself.
module _ (s : List ℤ) (at from n : ℕ) (t a : Tables) (z : 0 < n) (p : a ≡ put_held from (part_held s at 1) t) where
  pub parts_one : n < 2 → a ≡ parts_in s at from n t
  unfolding parts_in stored put_held part_held
  parts_one h = let e : n ≡ 1 = omega arith in rw (e, p)

  module _ (b : Tables) (h : 2 ≤ n) (q : b ≡ put_held (from + 1) (part_held s at 2) a) where
    pub parts_two : n < 3 → b ≡ parts_in s at from n t
    unfolding parts_in stored put_held part_held
    parts_two k = let e : n ≡ 2 = omega arith in rw (e, q, p)

    pub parts_three : (c : Tables) → 3 ≤ n → n < 4 → c ≡ put_held (from + 2) (part_held s at 3) b → c ≡ parts_in s at from n t
    unfolding parts_in stored put_held part_held
    parts_three c k m r = let e : n ≡ 3 = omega arith in let d : from + 2 ≡ from + 1 + 1 = omega arith in rw (e, r, q, p, d)

module _ (s : List ℤ) (at i e : ℕ) (p : e ≡ element_at s at i) where
  pub part_tag : Target s → Tag s at → i < count_at s at → Tag s e
  part_tag g w k = rw p (element_tag s at i g w k)

  pub part_put : (pc m : ℕ) (t u : Tables) → m ≡ whole_at s e → u ≡ put_held pc (record { at = e; marks = m }) t → u ≡ put_held pc (part_held s at i) t
  unfolding part_held part_marks
  part_put pc m t u q r = r ∙ rw (q, p)

pub ruleset part_rules = (part_tag, part_put, rules)

-- The slots and the parts are there.
pub long_held : (arg t u : List ℕ) (pc : ℕ) (h : Held) → length (view_of arg t).backs ≡ entries → view_of arg u ≡ put_held pc h (view_of arg t) → length (view_of arg u).backs ≡ entries
unfolding put_held
long_held arg t u pc h l e = ap (λ (v : Tables). length v.backs) e ∙ length-set (view_of arg t).backs pc h.marks ∙ l

module _ (arg t : List ℕ) (from n : ℕ) (h : Parts arg t from n) where
  pub first_slot : 0 < n → Slotted arg t from
  first_slot z = let f = h.fits in record { place = omega arith; slot = h.slot from; long = h.long }

  pub first_alone_lem : 0 < n → Alone arg from
  first_alone_lem z = let e : from + 0 ≡ from = omega arith in rw e at (h.alone 0 z)

  pub second_alone : 2 ≤ n → Alone arg (from + 1)
  second_alone z = h.alone 1 (omega arith)

  pub third_alone : 3 ≤ n → Alone arg (from + 2)
  third_alone z = h.alone 2 (omega arith)

  module _ (u : List ℕ) (x : Held) (e : view_of arg u ≡ put_held from x (view_of arg t)) where
    pub second_slot : 2 ≤ n → Slotted arg u (from + 1)
    second_slot z = let f = h.fits in record { place = omega arith; slot = h.slot (from + 1); long = long_held arg t u from x h.long e }

    pub third_slot : 3 ≤ n → (w : List ℕ) (y : Held) → view_of arg w ≡ put_held (from + 1) y (view_of arg u) → Slotted arg w (from + 2)
    third_slot z w y q =
        let f = h.fits in
        record { place = omega arith; slot = h.slot (from + 2); long = long_held arg u w (from + 1) y (long_held arg t u from x h.long e) q }

module _ (s : List ℤ) (at n : ℕ) (h : n < count_at s at) where
  pub second_part : 0 < n → 1 < count_at s at
  second_part z = omega arith

  pub third_part : 2 ≤ n → 2 < count_at s at
  third_part z = omega arith

  pub fourth_part : 3 ≤ n → 3 < count_at s at
  fourth_part z = omega arith

pub ruleset keep_rules = (parts_one, parts_two, parts_three, first_slot, first_alone_lem, second_alone, third_alone, second_slot, third_slot, second_part, third_part, fourth_part, rules)
