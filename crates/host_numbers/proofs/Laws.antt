-- The eight bytes of a number, one after the other. Assumes nothing.
use Prim.Native.Nat.{ℕ, zero, suc, ◌+◌, ◌*◌, ◌/◌, ◌%◌, ◌^◌, ◌<◌}
use native.Mathlib.Omega.{arith}
use mathlib.Core.Path.{◌≡◌, refl, sym, ap, ◌∙◌}
use mathlib.Core.List.{List, [], ◌∷◌, ◌++◌}
use lib.ListN.{length, take, drop, get_or, length-append}
use borrow.Rule.Slice.PartMut.{put_mid}
use mir.Syntax.{w64}
use Rattle.std.proofs.Math.Nat.{div-one, div-div-eq-div-mul, pow-suc}
use Rattle.std.proofs.Math.Seq.{take-suc, take-length, take-append_seam, drop-append_seam}
use Rattle.std.proofs.lemmas.List.{append_assoc, append-nil, drop-drop, length-take-le}
use Rattle.std.specs.Int.{byte_at, bytes_low_first, to_le_bytes}
use Rattle.host_numbers.specs.Numbers.{digits, bytes_of, over}

-- The library's bytes of a number are its digits.
byte_is : (i n : ℕ) → byte_at i n ≡ n / 256 ^ i % 256
byte_is zero n = ap (λ m. m % 256) (sym (div-one n))
byte_is (suc i) n = refl

low_first : (i k n : ℕ) → bytes_low_first i k n ≡ digits k (n / 256 ^ i)
unfolding digits
low_first i zero n = refl
low_first i (suc k) n =
    let d : n / 256 ^ suc i ≡ n / 256 ^ i / 256 = ap (λ m. n / m) (pow-suc 256 i) ∙ sym (div-div-eq-div-mul n (256 ^ i) 256) in
    rw (byte_is i n, low_first (suc i) k n, d)

bytes_are : (n : ℕ) → to_le_bytes w64 n ≡ digits 8 n
bytes_are n = low_first 0 8 n ∙ ap (digits 8) (div-one n)

-- ---- Number after number.

length_digits : (n x : ℕ) → length (digits n x) ≡ n
unfolding digits
length_digits zero x = refl
length_digits (suc n) x = ap suc (length_digits n (x / 256))

length_bytes : (xs : List ℕ) → length (bytes_of xs) ≡ 8 * length xs
unfolding bytes_of
length_bytes [] = refl
length_bytes (x ∷ xs) = let a = length-append (digits 8 x) (bytes_of xs) in let d = length_digits 8 x in let i = length_bytes xs in omega arith

bytes_after : (xs : List ℕ) (x : ℕ) → bytes_of (xs ++ (x ∷ [])) ≡ bytes_of xs ++ digits 8 x
unfolding bytes_of
bytes_after [] x = append-nil (digits 8 x)
bytes_after (y ∷ xs) x = rw (bytes_after xs x) (sym (append_assoc (digits 8 y) (bytes_of xs) (digits 8 x)))

pub begins : (xs lent : List ℕ) → lent ≡ over (bytes_of (take 0 xs)) lent
unfolding over bytes_of
begins xs lent = refl

pub ends : (xs lent out : List ℕ) (i : ℕ) → i ≡ length xs → out ≡ over (bytes_of (take i xs)) lent → out ≡ over (bytes_of xs) lent
ends xs lent out i e h = rw (e, take-length xs) at h

spliced : (before bytes lent : List ℕ) → length bytes ≡ 8 → put_mid (length before) 8 (over before lent) bytes ≡ over (before ++ bytes) lent
unfolding over
spliced before bytes lent e =
    let behind = drop (length before) lent in
    let l : length (before ++ bytes) ≡ length before + 8 = length-append before bytes ∙ ap (λ n. length before + n) e in
    rw (take-append_seam before behind, drop-append_seam before behind, drop-drop 8 (length before) lent, l, append_assoc before bytes)

-- One number more, over what the slice held behind those before it.
pub more : (xs lent out : List ℕ) (i k : ℕ) (bytes : List ℕ) → i < length xs → out ≡ over (bytes_of (take i xs)) lent → k ≡ 8 → bytes ≡ to_le_bytes w64 (get_or xs i 0)
    → put_mid (8 * i) k out bytes ≡ over (bytes_of (take (i + 1) xs)) lent
more xs lent out i k bytes h e q b =
    let x = get_or xs i 0 in
    let before = bytes_of (take i xs) in
    let long : length before ≡ 8 * i = length_bytes (take i xs) ∙ ap (λ n. 8 * n) (length-take-le i xs (omega arith)) in
    let next : i + 1 ≡ suc i = omega arith in
    let all : bytes_of (take (i + 1) xs) ≡ before ++ digits 8 x = ap bytes_of (ap (λ n. take n xs) next ∙ take-suc xs i 0 h) ∙ bytes_after (take i xs) x in
    let told : bytes ≡ digits 8 x = b ∙ bytes_are x in
    rw (all, e, q, told, ← long) (spliced before (digits 8 x) lent (length_digits 8 x))
