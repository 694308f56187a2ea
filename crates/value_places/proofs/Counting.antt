-- A word read as a number, how many elements a value has, and its entry in the tables, as the code asks. Assumes nothing.
use mathlib.Core.Path.{◌≡◌, refl, sym, ◌∙◌, ap, subst}
use mathlib.Core.List.{List}
use Prim.Native.Nat.{ℕ, zero, suc, ◌+◌, ◌-◌, ◌*◌, ◌/◌, ◌^◌, ◌<◌, ◌≤◌}
use native.Mathlib.Omega.{arith}
use borrow.Author.Rules.{rules}
use lib.Dec.{T}
use lib.ListN.{length, get_or}
use lib.IntN.{ℤ, pos, negsuc, nat_abs}
use lib.Signed.{non_neg}
use mir.Syntax.{w32, w64}
use mir.Val.{Fits}
use Rattle.words.specs.Words.{tag_z, tag_at}
use Rattle.words.proofs.Signed.{get_d_any, inside}
use Rattle.value_places.specs.Places.{count_at, marks_by, marks_at, Target, Tag}
use Rattle.value_places.specs.Held.{whole_at}
use Rattle.value_places.proofs.Elements.{second, tag_small, count_some}
use Rattle.value_places.proofs.Held.{marks_count}

-- ---- A word that is not negative.

module _ (s : List ℤ) (at : ℕ) (h : tag_at s at < 2147483648) where
  pub word_in : at < length s
  word_in = inside s at h

  pub word_mul : length s * 4 < 2 ^ 63 → Fits w64 (at * 4)
  word_mul l = let i = word_in in record { fits = omega arith }

number_is : (y z : ℤ) → y ≡ z → tag_z z < 2147483648 → (T (non_neg y) × Fits w32 (nat_abs y)) × (nat_abs y ≡ tag_z z)
number_is (pos n) z p h = let g : n < 2147483648 = subst (λ (k : ℤ). tag_z k < 2147483648) (sym p) h in ((tt, record { fits = omega arith }), ap tag_z p)
number_is (negsuc n) z p h = absurd (let g : 2147483648 < 2147483648 = subst (λ (k : ℤ). tag_z k < 2147483648) (sym p) h in omega arith)

pub number_at_is : (s : List ℤ) (at : ℕ) (y : ℤ) → y ≡ get_or s at (pos 0) → tag_at s at < 2147483648
    → (T (non_neg y) × Fits w32 (nat_abs y)) × (nat_abs y ≡ tag_at s at)
unfolding tag_at
number_at_is s at y p h = number_is y (get_or s at (negsuc 0)) (p ∙ get_d_any s at (pos 0) (negsuc 0) (inside s at h)) h

pub ruleset number_rules = (word_in, word_mul, rules)

-- ---- How many elements or parts, and how many marks.

marks_other : (t n : ℕ) → (t ≡ 1 → ⊥) → 0 ≡ marks_by t n
marks_other zero n f = refl
marks_other (suc zero) n f = absurd (f refl)
marks_other (suc (suc t)) n f = refl

module _ (s : List ℤ) (at tag : ℕ) (g : Target s) (w : Tag s at) (d : tag ≡ tag_at s at) where
  pub count_int : tag ≡ 0 → 0 ≡ count_at s at
  unfolding count_at
  count_int z = rw (sym d ∙ z)

  module _ (f : tag ≡ 0 → ⊥) where
    count_is : count_at s at ≡ tag_at s (at + 1)
    unfolding count_at
    count_is = count_some (tag_at s at) (tag_at s (at + 1)) (λ z. f (d ∙ z))

    pub count_collection : (r : ℕ) → r ≡ tag_at s (at + 1) → r ≡ count_at s at
    count_collection r e = e ∙ sym count_is

    pub count_small : tag_at s (at + 1) < 2147483648
    count_small = omega (arith, count_is, g.small at w)

  pub count_next : length s < 2 ^ 64 → Fits w64 (at + 1)
  count_next l = let h = second s at g w in record { fits = omega arith }

  pub marks_none : (tag ≡ 1 → ⊥) → 0 ≡ marks_at s at
  unfolding marks_at
  marks_none f = rw (← d) (marks_other tag (tag_at s (at + 1)) f)

  pub marks_collection : (r : ℕ) → tag ≡ 1 → r ≡ tag_at s (at + 1) → r ≡ marks_at s at
  unfolding marks_at
  marks_collection r z e = e ∙ rw (← d, z)

  pub marks_small : tag ≡ 1 → tag_at s (at + 1) < 2147483648
  marks_small z = count_small (λ y. omega arith)

pub whole_is : (s : List ℤ) (at n r : ℕ) → n ≡ marks_at s at → r ≡ 2 ^ n - 1 → r ≡ whole_at s at
unfolding whole_at
whole_is s at n r d e = e ∙ rw d

pub whole_64 : (s : List ℤ) (at n : ℕ) → Target s → Tag s at → n ≡ marks_at s at → n ≤ 64
whole_64 s at n g w d = omega (arith, d, marks_count s at, g.small at w)

pub ruleset count_rules = (tag_small, count_int, count_collection, count_small, count_next, marks_none, marks_collection, marks_small, whole_is, whole_64, rules)

-- The entry of a value in the tables.
pub tag_half : (s : List ℤ) (e : ℕ) → Target s → Tag s e → e / 2 < 512
tag_half s e g w = let h = w.inside in let l = g.short in omega arith
