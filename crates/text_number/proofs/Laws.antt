-- Numbers, read from left to right: digits, a sign, and the limits. Assumes nothing.
use Rattle.std.proofs.Common.{◌≡◌, refl, sym, ◌∙◌, Bool, true, false, ◌==◌, ◌⊎◌, inl, inr, List, [], ◌∷◌, Some, None, ℕ, ◌+◌, ◌-◌, ◌*◌, ◌^◌, ◌<◌, ◌≤◌, length, get_or, take, drop, arith, add-one, drop-cons, ◌≢◌, ℤ, pos, negsuc, neg_ℤ, ◌-ℤ◌, Result, Ok, Err, OkIff, to_z, of_z, w32, w64, unsigned_abs}
use native.Mathlib.Nat.{pow-suc, pow-le-pow_right}
use borrow.Author.Tests.{lt-ltb, ltb-true, lt-leb, le-leb, eq-eqb, ne_eqb, eqb-true, eqb-false}
use lib.ListN.{drop_of_length-le}
use lib.Seq.{take_all}
use mir.Val.{SFits}
use Rattle.std.specs.Int.{FitsUnsignedBits}
use Rattle.std.specs.Result.{result_ok}
use Rattle.std.proofs.lemmas.Int.{to_z_pos, ints}
use Rattle.rules.specs.Numbers.{in_range}
use Rattle.text_number.specs.Decimal.{◌then◌, given, is_digit, digits, natural, number}
use Rattle.text_number.specs.Word.{at_most}

few : (s : List ℕ) → 1 ≤ length s → length s ≤ 10 → natural s ≡ digits 0 s
unfolding natural given
few s o l = rw (le-leb 1 (length s) o, le-leb (length s) 10 l)

pub none_or_many : (s : List ℕ) (b : Bool) → b ≡ (length s == 0) → (b ≡ true) ⊎ ((b ≡ false) × (10 < length s)) → None ≡ natural s
unfolding natural given
none_or_many s b e (inl t) =
    let z : length s ≡ 0 = eqb-true (length s) 0 (sym e ∙ t) in
    let o : length s < 1 = omega arith in
    rw (lt-leb 1 (length s) o)
none_or_many s b e (inr (f, l)) = let o : 1 ≤ length s = omega arith in rw (le-leb 1 (length s) o, lt-leb (length s) 10 l)

no_digit : (b : ℕ) → (b < 48) ⊎ (57 < b) → is_digit b ≡ false
unfolding is_digit
no_digit b (inl h) = rw (lt-leb 48 b h)
no_digit b (inr h) = let o : 48 ≤ b = omega arith in rw (le-leb 48 b o, lt-leb b 57 h)

a_digit : (b : ℕ) → 48 ≤ b → b ≤ 57 → is_digit b ≡ true
unfolding is_digit
a_digit b h l = rw (le-leb 48 b h, le-leb b 57 l)

-- So far a number was read, and the digits that are left go on from it.
module _ (s : List ℕ) (o : (length s == 0) ≡ false) (m : length s ≤ 10) (i n : ℕ) (e : digits 0 s ≡ digits n (drop i s)) where
  whole : natural s ≡ digits n (drop i s)
  whole = let z = eqb-false (length s) 0 o in few s (omega (arith, z)) m ∙ e

  pub all_read : length s ≤ i → Some n ≡ natural s
  unfolding digits
  all_read h = sym (whole ∙ rw (drop_of_length-le s h))

  pub other_byte : i < length s → (get_or s i 0 < 48) ⊎ (57 < get_or s i 0) → None ≡ natural s
  unfolding digits given
  other_byte l d = sym (whole ∙ rw (drop-cons s i 0 l, no_digit (get_or s i 0) d))

pub digit_more : (s : List ℕ) (i n : ℕ) → digits 0 s ≡ digits n (drop i s) → i < length s → 48 ≤ get_or s i 0 → get_or s i 0 ≤ 57
    → digits 0 s ≡ digits (n * 10 + (get_or s i 0 - 48)) (drop (i + 1) s)
unfolding digits given
digit_more s i n e l lo hi = e ∙ rw (drop-cons s i 0 l, a_digit (get_or s i 0) lo hi, add-one i)

pub digit_below : (i n d : ℕ) → n < 10 ^ i → d ≤ 9 → n * 10 + d < 10 ^ (i + 1)
digit_below i n d h o = rw (add-one i, pow-suc 10 i) (omega arith)

pub below_ten : (i n : ℕ) → n < 10 ^ i → i ≤ 10 → n < 10 ^ 10
below_ten i n h l = let p : 10 ^ i ≤ 10 ^ 10 = pow-le-pow_right (omega arith) l in omega arith

-- ---- A sign and digits.

with_minus : (s : List ℕ) → 1 ≤ length s → get_or s 0 0 ≡ 45 → number s ≡ (natural (take (length s - 1) (drop 1 s)) then λ n. Some (neg_ℤ (pos n)))
unfolding number
with_minus [] o m = absurd (omega arith)
with_minus (b ∷ bs) o m = rw (eq-eqb b 45 m, take_all (length (b ∷ bs) - 1) bs (omega arith))

with_none : (s : List ℕ) → (length s < 1) ⊎ (get_or s 0 0 ≢ 45) → number s ≡ (natural s then λ n. Some (pos n))
unfolding number natural given ◌then◌
with_none [] h = refl
with_none (b ∷ bs) (inl l) = absurd (omega arith)
with_none (b ∷ bs) (inr m) = rw (ne_eqb b 45 m)

module _ (s : List ℕ) (o : 1 ≤ length s) (m : get_or s 0 0 ≡ 45) where
  pub no_minus : None ≡ natural (take (length s - 1) (drop 1 s)) → None ≡ number s
  unfolding ◌then◌
  no_minus e = sym (with_minus s o m ∙ rw (← e))

  pub minus_read : (n : ℕ) → Some n ≡ natural (take (length s - 1) (drop 1 s)) → n < 10 ^ 10 → Some (to_z w64 (of_z w64 (pos 0 -ℤ to_z w64 n))) ≡ number s
  unfolding ◌then◌
  minus_read n e l = sym (with_minus s o m ∙ rw (← e, negated n l))
    where
      negated : (n : ℕ) → n < 10 ^ 10 → neg_ℤ (pos n) ≡ to_z w64 (of_z w64 (pos 0 -ℤ to_z w64 n))
      negated n l = omega (arith, ints)

module _ (s : List ℕ) (h : (length s < 1) ⊎ (get_or s 0 0 ≢ 45)) where
  pub no_plus : None ≡ natural s → None ≡ number s
  unfolding ◌then◌
  no_plus e = sym (with_none s h ∙ rw (← e))

  pub plus_read : (n : ℕ) → Some n ≡ natural s → n < 10 ^ 10 → Some (to_z w64 n) ≡ number s
  unfolding ◌then◌
  plus_read n e l = sym (with_none s h ∙ rw (← e, to_z_pos w64 n (omega arith)))

-- ---- Within limits.

fits_word : (z : ℤ) → SFits w32 z → in_range z ≡ true
unfolding in_range
fits_word (pos n) f = lt-ltb n (2 ^ 31) f.sfits
fits_word (negsuc n) f = lt-ltb n (2 ^ 31) f.sfits

word_fits : (z : ℤ) → in_range z ≡ true → SFits w32 z
unfolding in_range
word_fits (pos n) e = record { sfits = ltb-true n (2 ^ 31) e }
word_fits (negsuc n) e = record { sfits = ltb-true n (2 ^ 31) e }

pub word_of : {E : Type 0} (z : ℤ) (r : Result ℤ E) → OkIff r (SFits w32 z) z → result_ok r ≡ given (in_range z) (Some z)
unfolding given
word_of z (Ok x) (f, e) = rw (fits_word z f, e)
word_of z (Err e) h = go (in_range z) refl
  where
    go : (b : Bool) → in_range z ≡ b → None ≡ given b (Some z)
    go true i = absurd (h (word_fits z i))
    go false i = refl

pub within_most : (most n : ℕ) (z : ℤ) → FitsUnsignedBits 64 z → n ≡ unsigned_abs z → n ≤ most → Some n ≡ at_most most z
unfolding at_most given
within_most most n (pos k) f e l = rw (e, le-leb k most (omega (arith, e)))
within_most most n (negsuc k) f e l = absurd f

pub above_most : (most n : ℕ) (z : ℤ) → n ≡ unsigned_abs z → most < n → None ≡ at_most most z
unfolding at_most given
above_most most n (pos k) e l = rw (lt-leb k most (omega (arith, e)))
above_most most n (negsuc k) e l = refl

pub no_count : (most : ℕ) (z : ℤ) → SFits w64 z → ¬ (FitsUnsignedBits 64 z) → None ≡ at_most most z
unfolding at_most given
no_count most (pos k) f h = let l = f.sfits in absurd (h (omega arith))
no_count most (negsuc k) f h = refl
