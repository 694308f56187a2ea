-- Words read one after the other: the sum, zeros, signed words. Assumes nothing.
use Prim.Native.Nat.{ℕ, zero, suc, ◌+◌, ◌-◌, ◌*◌, ◌%◌, ◌≤◌, ◌<◌}
use native.Mathlib.Omega.{arith}
use mathlib.Core.Path.{◌≡◌, refl, sym, ap, ap₂, ◌∙◌}
use mathlib.Core.Bool.{Bool, true, false, ◌&&◌}
use mathlib.Core.List.{List, ◌∷◌}
use Rattle.std.specs.List.{list_all, range_with_len}
use lib.ListN.{get_or, set}
use lib.Seq.{sets}
use lib.Dec.{eqb, ltb}
use lib.IntN.{ℤ, pos, negsuc}
use borrow.Author.Tests.{ltb-true, ltb-false}
use mir.Syntax.{w32}
use mir.Val.{to_z, of_z}
use mir.Facts.{of_z-to_z, to_z_pos, to_z-neg}
use Rattle.book_rules.specs.Sums.{placed, due, said, checked, and_also}
use Rattle.book_rules.specs.Blocks.{zeros, signed, joined}
use Rattle.book_rules.specs.Bytes.{word_at, words_from}
use Rattle.book_rules.specs.Views.{word_of}
use Rattle.book_words.specs.Halves.{Placed, halves, words_of}

-- ---- A word.

pub word_is : (s : List ℕ) (at r : ℕ) → r ≡ get_or s at 0 + get_or s (at + 1) 0 * 256 → r ≡ word_at s at
unfolding word_at
word_is s at r e = let p : at + 1 ≡ suc at = omega arith in turned (get_or s at 0) (get_or s (suc at) 0) (e ∙ ap (λ (i : ℕ). get_or s at 0 + get_or s i 0 * 256) p)
  where
    turned : (x y : ℕ) → r ≡ x + y * 256 → r ≡ x + 256 * y
    turned x y e = omega arith

pub halves_is : (s : List ℕ) (at r : ℕ) → r ≡ get_or s at 0 + get_or s (at + 1) 0 * 256 + get_or s (at + 2) 0 * 65536 + get_or s (at + 3) 0 * 16777216 → r ≡ halves s at
unfolding halves word_at
halves_is s at r e =
    let p : at + 1 ≡ suc at = omega arith in
    let q : at + 3 ≡ suc (at + 2) = omega arith in
    turned (get_or s at 0) (get_or s (suc at) 0) (get_or s (at + 2) 0) (get_or s (suc (at + 2)) 0)
    (e ∙ ap₂ (λ (i j : ℕ). get_or s at 0 + get_or s i 0 * 256 + get_or s (at + 2) 0 * 65536 + get_or s j 0 * 16777216) p q)
  where
    turned : (a b c d : ℕ) → r ≡ a + b * 256 + c * 65536 + d * 16777216 → r ≡ a + 256 * b + 65536 * (c + 256 * d)
    turned a b c d e = omega arith

-- ---- The sum.

one_placed : (s : List ℕ) (at p n m : ℕ) → placed p (suc n) (words_from s at (suc m)) ≡ p * word_at s at + placed (suc p) n (words_from s (2 + at) m)
unfolding placed words_from
one_placed s at p n m = refl

-- What the words from the i-th on add to the sum.
abbrev pub left : List ℕ → ℕ → ℕ
left s i = placed (1 + i) (254 - i) (words_from s (2 * i) (256 - i))

left_step : (s : List ℕ) (i : ℕ) → i < 254 → left s i ≡ (1 + i) * word_at s (2 * i) + left s (i + 1)
left_step s i h =
    let a : 254 - i ≡ suc (254 - (i + 1)) = omega arith in
    let b : 256 - i ≡ suc (256 - (i + 1)) = omega arith in
    let c : 2 + 2 * i ≡ 2 * (i + 1) = omega arith in
    let d : suc (1 + i) ≡ 1 + (i + 1) = omega arith in
    ap₂ (λ (n m : ℕ). placed (1 + i) n (words_from s (2 * i) m)) a b
    ∙ one_placed s (2 * i) (1 + i) (254 - (i + 1)) (256 - (i + 1))
    ∙ ap₂ (λ (p j : ℕ). (1 + i) * word_at s (2 * i) + placed p (254 - (i + 1)) (words_from s j (256 - (i + 1)))) d c

module _ (s : List ℕ) (i sum w x t : ℕ) where
  pub sum_turn : sum + left s i ≡ t → i < 254 → w ≡ word_at s (2 * i) → Placed i w x → sum + x + left s (i + 1) ≡ t
  sum_turn e h k p = let q = left_step s i h in let r : x ≡ (1 + i) * word_at s (2 * i) = p.is ∙ ap (λ (y : ℕ). (1 + i) * y) k in turned (left s i) (left s (i + 1)) ((1 + i) * word_at s (2 * i)) e q r
    where
      turned : (l m y : ℕ) → sum + l ≡ t → l ≡ y + m → x ≡ y → sum + x + m ≡ t
      turned l m y e q r = omega arith

pub sum_due : (s : List ℕ) (i sum : ℕ) → sum + left s i ≡ placed 1 254 (words_of s) → i ≤ 254 → 254 ≤ i → sum % 65537 ≡ due (words_of s)
unfolding due placed
sum_due s i sum e h k =
    let a : 254 - i ≡ 0 = omega arith in
    let b : left s i ≡ 0 = ap (λ (n : ℕ). placed (1 + i) n (words_from s (2 * i) (256 - i))) a in
    ap (λ (n : ℕ). n % 65537) (whole (left s i) b e)
  where
    whole : (l : ℕ) → l ≡ 0 → sum + l ≡ placed 1 254 (words_of s) → sum ≡ placed 1 254 (words_of s)
    whole l z e = omega arith

-- ---- The check.

pub check_is : (s : List ℕ) (a b : ℕ) → a ≡ due (words_of s) → b ≡ halves s 508 → eqb a b ≡ checked (words_of s)
unfolding checked said halves
check_is s a b e f =
    ap₂ eqb e (f ∙ ap₂ (λ (x y : ℕ). x + 65536 * y) (sym (word_of s 0 256 254 (omega arith))) (sym (word_of s 0 256 255 (omega arith))))

-- ---- Zeros.

zeros_step : (s : List ℕ) (at n : ℕ) → zeros (suc n) (words_from s at (suc n)) ≡ and_also (eqb (word_at s at) 0) (zeros n (words_from s (2 + at) n))
unfolding zeros words_from
zeros_step s at n = refl

and_is : (a b : Bool) → and_also a b ≡ a && b
unfolding and_also
and_is true b = refl
and_is false b = refl

-- A test of each place from the i-th on.
pub zeros_all : (s : List ℕ) (at n i : ℕ) → list_all (λ j. eqb (word_at s (at + 2 * j)) 0) (range_with_len i n) ≡ zeros n (words_from s (at + 2 * i) n)
unfolding zeros
zeros_all s at zero i = refl
zeros_all s at (suc n) i =
    let c : 2 + (at + 2 * i) ≡ at + 2 * (i + 1) = omega arith in
    ap (λ (b : Bool). eqb (word_at s (at + 2 * i)) 0 && b) (zeros_all s at n (i + 1))
    ∙ ap (λ (j : ℕ). eqb (word_at s (at + 2 * i)) 0 && zeros n (words_from s j n)) (sym c)
    ∙ sym (and_is (eqb (word_at s (at + 2 * i)) 0) (zeros n (words_from s (2 + (at + 2 * i)) n)))
    ∙ sym (zeros_step s (at + 2 * i) n)

-- ---- Signed words.

pub signed_is : (u : ℕ) → u < 4294967296 → to_z w32 u ≡ signed u
unfolding signed
signed_is u h = by (ltb u 2147483648) refl
  where
    by : (t : Bool) → ltb u 2147483648 ≡ t → to_z w32 u ≡ elim t [ true ↦ pos u | false ↦ negsuc (4294967295 - u) ]
    by true p = to_z_pos w32 (ltb-true u 2147483648 p)
    by false p =
        let l : 2147483648 ≤ u = ltb-false u 2147483648 p in
        let e : 4294967296 - suc (4294967295 - u) ≡ u = omega arith in
        ap (to_z w32) (sym e) ∙ to_z-neg w32 (4294967295 - u) (omega arith)

joined_step : (s : List ℕ) (at n : ℕ) → joined (suc n) (words_from s at (suc (suc (2 * n)))) ≡ signed (word_at s at + 65536 * word_at s (2 + at)) ∷ joined n (words_from s (2 + (2 + at)) (2 * n))
unfolding joined words_from
joined_step s at n = refl

abbrev pub joined_from : List ℕ → ℕ → ℕ → ℕ → List ℤ
joined_from s at n i = joined (n - i) (words_from s (at + 4 * i) (2 * (n - i)))

joined_on : (s : List ℕ) (at n i : ℕ) → i < n → joined_from s at n i ≡ signed (halves s (at + 4 * i)) ∷ joined_from s at n (i + 1)
unfolding halves
joined_on s at n i h =
    let a : n - i ≡ suc (n - (i + 1)) = omega arith in
    let b : 2 * (n - i) ≡ suc (suc (2 * (n - (i + 1)))) = omega arith in
    let c : 2 + (2 + (at + 4 * i)) ≡ at + 4 * (i + 1) = omega arith in
    let d : 2 + (at + 4 * i) ≡ at + 4 * i + 2 = omega arith in
    ap₂ (λ (m l : ℕ). joined m (words_from s (at + 4 * i) l)) a b ∙ joined_step s (at + 4 * i) (n - (i + 1))
    ∙ ap₂ (λ (x j : ℕ). signed (word_at s (at + 4 * i) + 65536 * word_at s x) ∷ joined (n - (i + 1)) (words_from s j (2 * (n - (i + 1))))) d c

module _ (s : List ℕ) (at n i : ℕ) (out whole : List ℤ) where
  pub read_turn : whole ≡ sets out i (joined_from s at n i) → i < n → (u : ℕ) (z : ℤ) → u ≡ halves s (at + 4 * i) → u < 4294967296 → z ≡ to_z w32 u
      → whole ≡ sets (set out i (to_z w32 (of_z w32 z))) (i + 1) (joined_from s at n (i + 1))
  read_turn e h u z k l m =
      let p : suc i ≡ i + 1 = omega arith in
      e ∙ ap (λ (ws : List ℤ). sets out i ws) (joined_on s at n i h)
      ∙ ap₂ (λ (x : ℤ) (j : ℕ). sets (set out i x) j (joined_from s at n (i + 1))) (ap signed (sym k) ∙ sym (signed_is u l) ∙ ap (to_z w32) (sym (ap (of_z w32) m ∙ of_z-to_z {w = w32} {n = u} (record { fits = l })))) p

  pub read_all : whole ≡ sets out i (joined_from s at n i) → n ≤ i → out ≡ whole
  unfolding joined
  read_all e h = let a : n - i ≡ 0 = omega arith in sym (e ∙ ap (λ (m : ℕ). sets out i (joined m (words_from s (at + 4 * i) (2 * m)))) a)

pub read_begins : (s : List ℕ) (at n : ℕ) (out : List ℤ) → sets out 0 (joined n (words_from s at (2 * n))) ≡ sets out 0 (joined_from s at n 0)
read_begins s at n out = let a : at ≡ at + 4 * 0 = omega arith in let b : n ≡ n - 0 = omega arith in ap₂ (λ (j m : ℕ). sets out 0 (joined m (words_from s j (2 * m)))) a b
