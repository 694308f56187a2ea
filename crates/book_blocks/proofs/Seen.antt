-- The words of a block as they stand in the bytes, and parts of them. Assumes nothing.
use Prim.Native.Nat.{ℕ, zero, suc, ◌+◌, ◌-◌, ◌*◌, ◌≤◌, ◌<◌}
use native.Mathlib.Omega.{arith}
use mathlib.Core.Path.{◌≡◌, refl, sym, ap, ap₂, ◌∙◌}
use mathlib.Core.Bool.{Bool}
use mathlib.Core.List.{List, [], ◌∷◌, ◌++◌}
use lib.ListN.{length, drop, take}
use lib.Seq.{sets, sets-eq, take_at, take-take, take-nil}
use lib.Dec.{eqb}
use lib.IntN.{ℤ}
use Rattle.book_rules.specs.Sums.{word, and_also}
use Rattle.book_rules.specs.Blocks.{zeros, signed, joined}
use Rattle.book_rules.specs.Bytes.{word_at, words_from}
use Rattle.book_rules.specs.Views.{word_of}
use Rattle.book_words.specs.Halves.{words_of}

-- Word i of a block stands 2 i bytes on.
pub word_seen : (s : List ℕ) (i : ℕ) → i < 256 → word (words_of s) i ≡ word_at s (2 * i)
word_seen s i h = let e : 0 + 2 * i ≡ 2 * i = omega arith in word_of s 0 256 i h ∙ ap (λ (j : ℕ). word_at s j) e

drop_words : (s : List ℕ) (at n j : ℕ) → j ≤ n → drop j (words_from s at n) ≡ words_from s (at + 2 * j) (n - j)
unfolding words_from
drop_words s at n zero h = let a : at ≡ at + 2 * 0 = omega arith in let b : n ≡ n - 0 = omega arith in ap₂ (λ (i m : ℕ). words_from s i m) a b
drop_words s at zero (suc j) h = absurd (omega arith)
drop_words s at (suc n) (suc j) h =
    let a : 2 + at + 2 * j ≡ at + 2 * suc j = omega arith in
    let b : n - j ≡ suc n - suc j = omega arith in
    drop_words s (2 + at) n j (omega arith) ∙ ap₂ (λ (i m : ℕ). words_from s i m) a b

zeros_front : (s : List ℕ) (at n d : ℕ) → zeros n (words_from s at (n + d)) ≡ zeros n (words_from s at n)
unfolding zeros words_from
zeros_front s at zero d = refl
zeros_front s at (suc n) d =
    let a : suc n + d ≡ suc (n + d) = omega arith in
    ap (λ (m : ℕ). zeros (suc n) (words_from s at m)) a ∙ ap (λ (t : Bool). and_also (eqb (word_at s at) 0) t) (zeros_front s (2 + at) n d)

-- n words from word j on, whatever follows them; m is its byte as the code has it.
pub zeros_seen : (s : List ℕ) (j n m : ℕ) → j + n ≤ 256 → 0 + 2 * j ≡ m → zeros n (drop j (words_of s)) ≡ zeros n (words_from s m n)
zeros_seen s j n m h e =
    let a : 256 - j ≡ n + (256 - j - n) = omega arith in
    ap (zeros n) (drop_words s 0 256 j (omega arith)) ∙ ap₂ (λ (i l : ℕ). zeros n (words_from s i l)) e a ∙ zeros_front s m n (256 - j - n)

-- The words of a withdrawn block.
pub withdrawn_seen : (s : List ℕ) → zeros 251 (drop 3 (words_of s)) ≡ zeros 251 (words_from s 6 251)
withdrawn_seen s = zeros_seen s 3 251 6 (omega arith) (omega arith)

joined_front : (s : List ℕ) (at n d : ℕ) → joined n (words_from s at (2 * n + d)) ≡ joined n (words_from s at (2 * n))
unfolding joined words_from
joined_front s at zero d = refl
joined_front s at (suc n) d =
    let a : 2 * suc n + d ≡ suc (suc (2 * n + d)) = omega arith in
    let b : suc (suc (2 * n)) ≡ 2 * suc n = omega arith in
    ap (λ (m : ℕ). joined (suc n) (words_from s at m)) a
    ∙ ap (λ (zs : List ℤ). signed (word_at s at + 65536 * word_at s (2 + at)) ∷ zs) (joined_front s (2 + (2 + at)) n d)
    ∙ ap (λ (m : ℕ). joined (suc n) (words_from s at m)) b

pub joined_seen : (s : List ℕ) (n : ℕ) → n ≤ 124 → joined n (drop 5 (words_of s)) ≡ joined n (words_from s 10 (2 * n))
joined_seen s n h =
    let a : 251 ≡ 2 * n + (251 - 2 * n) = omega arith in
    ap (joined n) (drop_words s 0 256 5 (omega arith)) ∙ ap (λ (l : ℕ). joined n (words_from s 10 l)) a ∙ joined_front s 10 n (251 - 2 * n)

pub length_joined : (s : List ℕ) (at n : ℕ) → length (joined n (words_from s at (2 * n))) ≡ n
unfolding joined words_from
length_joined s at zero = refl
length_joined s at (suc n) =
    let b : 2 * suc n ≡ suc (suc (2 * n)) = omega arith in
    ap (λ (m : ℕ). length (joined (suc n) (words_from s at m))) b ∙ ap suc (length_joined s (2 + (2 + at)) n)

-- Words written to the start of a slice, and its parts.
start_is : (l zs : List ℤ) → length zs ≤ length l → sets l 0 zs ≡ zs ++ drop (length zs) l
start_is l zs h = let e : 0 + length zs ≡ length zs = omega arith in sets-eq zs l 0 (omega arith) ∙ ap (λ (n : ℕ). zs ++ drop n l) e

part : (m n : ℕ) (l : List ℤ) → take (n - m) (drop m l) ≡ drop m (take n l)
part zero n l = let e : n - 0 ≡ n = omega arith in ap (λ (k : ℕ). take k l) e
part (suc m) zero l = let e : 0 - suc m ≡ 0 = omega arith in ap (λ (k : ℕ). take k (drop (suc m) l)) e
part (suc m) (suc n) [] = take-nil (suc n - suc m)
part (suc m) (suc n) (x ∷ l) = let e : suc n - suc m ≡ n - m = omega arith in ap (λ (k : ℕ). take k (drop m l)) e ∙ part m n l

module _ (l zs : List ℤ) (m n : ℕ) (k : length zs ≡ n) (h : n ≤ length l) where
  whole : take n (sets l 0 zs) ≡ zs
  whole = ap (take n) (start_is l zs (omega arith)) ∙ take_at zs (drop (length zs) l) n k

  pub first_part : m ≤ n → take m (sets l 0 zs) ≡ take m zs
  first_part g = sym (take-take m n (sets l 0 zs) g) ∙ ap (take m) whole

  pub second_part : take (n - m) (drop m (sets l 0 zs)) ≡ drop m zs
  second_part = part m n (sets l 0 zs) ∙ ap (drop m) whole
