-- Printing numbers, as the code asks: the last digit behind the others. Assumes nothing.
use mathlib.Core.Path.{◌≡◌, refl, sym, ◌∙◌, ap}
use mathlib.Core.Bool.{Bool, true, false}
use mathlib.Core.List.{List, [], ◌∷◌, ◌++◌}
use Prim.Native.Nat.{ℕ, zero, suc, ◌+◌, ◌-◌, ◌*◌, ◌/◌, ◌%◌, ◌^◌, ◌<◌, ◌≤◌}
use native.Mathlib.Nat.{pow-suc}
use native.Mathlib.Omega.{arith}
use borrow.Author.Rules.{rules, sfits_of}
use borrow.Author.Tests.{lt-ltb, le-ltb, ltb-true, ltb-false}
use lib.Dec.{ltb}
use lib.ListN.{length, get_or, take, drop, set, length-append, length-take, length-drop, length-set}
use lib.Seq.{take_all}
use lib.IntN.{ℤ, pos, negsuc}
use mir.Syntax.{w32, w64}
use mir.Val.{Fits, SFits, to_z, of_z}
use mir.Facts.{to_z-of_z}
use Rattle.text_print.specs.Decimal.{last_digits, decimal, numeral, further_of, line_of}
use Rattle.text_print.specs.Meaning.{Wrote}
use Rattle.text_print.proofs.Written.{same_long, and_then, one_byte, Left, left_some, left_none}
use Rattle.std.proofs.Common.{map, unsigned_abs}
use Rattle.std.proofs.lemmas.List.{at_drop_more, at_drop_all}
use lib.Signed.{lt_z}

-- ---- Digits.

-- Twenty digits are enough.
enough_by : (k n : ℕ) (t : Bool) → ltb n 10 ≡ t → (10 ≤ n → last_digits (suc k) (n / 10) ≡ last_digits k (n / 10))
    → last_digits (suc (suc k)) n ≡ last_digits (suc k) n
unfolding last_digits
enough_by k n true e ih = rw e
enough_by k n false e ih = rw (e, ih (ltb-false n 10 e))

enough : (k n : ℕ) → n < 10 ^ suc k → last_digits (suc (suc k)) n ≡ last_digits (suc k) n
enough zero n h = enough_by 0 n (ltb n 10) refl (λ o. absurd (let p : n < 10 = h in omega arith))
enough (suc k) n h =
    let p : n < 10 ^ suc k * 10 = rw (pow-suc 10 (suc k)) at h in
    enough_by (suc k) n (ltb n 10) refl (λ o. enough k (n / 10) (omega arith))

decimal_one : (n : ℕ) → n < 10 → decimal n ≡ (48 + n) ∷ []
unfolding decimal last_digits
decimal_one n h = rw (lt-ltb n 10 h)

decimal_more : (n : ℕ) → 10 ≤ n → n < 2 ^ 64 → decimal n ≡ decimal (n / 10) ++ ((48 + n % 10) ∷ [])
unfolding decimal last_digits
decimal_more n h l = rw (le-ltb n 10 h, enough 18 (n / 10) (let p : n / 10 < 10 ^ 19 = omega arith in p))

digits_short : (k n : ℕ) (t : Bool) → ltb n 10 ≡ t → length (last_digits k (n / 10)) ≤ k → length (last_digits (suc k) n) ≤ suc k
unfolding last_digits
digits_short k n true e h = rw e (omega arith)
digits_short k n false e h = rw (e, length-append (last_digits k (n / 10)) ((48 + n % 10) ∷ [])) (omega arith)

all_short : (k n : ℕ) → length (last_digits k n) ≤ k
unfolding last_digits
all_short zero n = omega arith
all_short (suc k) n = digits_short k n (ltb n 10) refl (all_short k (n / 10))

decimal_short : (n : ℕ) → length (decimal n) ≤ 20
unfolding decimal
decimal_short n = all_short 20 n

module _ (l : List ℕ) (at n : ℕ) (b : at + length (decimal n) ≤ length l) where
  pub first_in_lem : n < 10 → at < length l
  first_in_lem h = let e : length (decimal n) ≡ 1 = ap length (decimal_one n h) in omega arith

  module _ (h : 10 ≤ n) (f : n < 2 ^ 64) where
    longer : length (decimal n) ≡ length (decimal (n / 10)) + 1
    longer = ap length (decimal_more n h f) ∙ length-append (decimal (n / 10)) ((48 + n % 10) ∷ [])

    pub others_in : at + length (decimal (n / 10)) ≤ length l
    others_in = let e = longer in omega arith

    pub last_in : (m : List ℕ) (e : ℕ) → Wrote l m at e (decimal (n / 10)) → e < length m
    last_in m e w = let k = longer in let p = same_long l m at e (decimal (n / 10)) w in let q = w.ends in omega arith

    pub end_fits : (m : List ℕ) (e : ℕ) → Wrote l m at e (decimal (n / 10)) → length l < 2 ^ 64 → Fits w64 (e + 1)
    end_fits m e w s = let k = longer in let q = w.ends in record { fits = omega arith }

pub wrote_one : (l : List ℕ) (at n d : ℕ) → n < 10 → d ≡ 48 + n → Wrote l (set l at d) at (at + 1) (decimal n)
wrote_one l at n d h e = rw (decimal_one n h, ← e) (one_byte l at d)

pub wrote_more : (l m : List ℕ) (at e n d : ℕ) → 10 ≤ n → n < 2 ^ 64 → Wrote l m at e (decimal (n / 10)) → d ≡ 48 + n % 10
    → Wrote l (set m e d) at (e + 1) (decimal n)
wrote_more l m at e n d h f w q =
    rw (decimal_more n h f, ← q) (and_then l m (set m e d) at e (e + 1) (decimal (n / 10)) (d ∷ []) w (one_byte m e d))

pub ruleset decimal_rules = (first_in_lem, others_in, last_in, end_fits, wrote_one, wrote_more, rules)

pub numeral_short : (x : ℤ) → length (numeral x) ≤ 21
unfolding numeral
numeral_short (pos n) = let h = decimal_short n in omega arith
numeral_short (negsuc n) = let h = decimal_short (suc n) in omega arith

-- ---- A sign and digits. (The machine reads a word back from its bits before it hands it on.)

module _ (x : ℤ) (f : SFits w32 x) (u v : ℕ) (q : u ≡ v) (e : v ≡ unsigned_abs (to_z w32 (of_z w32 x))) where
  pub minus_is : lt_z (to_z w32 (of_z w32 x)) (pos 0) ≡ true → numeral x ≡ 45 ∷ decimal u
  unfolding numeral
  minus_is h = below x (q ∙ rw (to_z-of_z f) at e) (rw (to_z-of_z f) at h)
    where
      below : (x : ℤ) → u ≡ unsigned_abs x → lt_z x (pos 0) ≡ true → numeral x ≡ 45 ∷ decimal u
      below (pos n) k h = absurd (let l = ltb-true n 0 h in omega arith)
      below (negsuc n) k h = rw k

  pub plus_is : lt_z (to_z w32 (of_z w32 x)) (pos 0) ≡ false → numeral x ≡ decimal u
  unfolding numeral
  plus_is h = above x (q ∙ rw (to_z-of_z f) at e) (rw (to_z-of_z f) at h)
    where
      above : (x : ℤ) → u ≡ unsigned_abs x → lt_z x (pos 0) ≡ false → numeral x ≡ decimal u
      above (pos n) k h = rw k
      above (negsuc n) k h = cc

module _ (l : List ℕ) (at u : ℕ) (x : ℤ) (e : numeral x ≡ 45 ∷ decimal u) where
  pub minus_in : at + length (numeral x) ≤ length l → at < length l
  minus_in b = let d = ap length e in omega arith

  pub rest_in : at + length (numeral x) ≤ length l → at + 1 + length (decimal u) ≤ length (set l at 45)
  rest_in b = let d = ap length e in rw (length-set l at 45) (omega arith)

  pub wrote_minus : (m : List ℕ) (r : ℕ) → Wrote (set l at 45) m (at + 1) r (decimal u) → Wrote l m at r (numeral x)
  wrote_minus m r w = rw e (and_then l (set l at 45) m at (at + 1) r (45 ∷ []) (decimal u) (one_byte l at 45) w)

-- ---- Lines.

module _ {A : Type 0} (number : A → ℤ) (ws : List A) (l : List ℕ) (at : ℕ) (out : List ℕ) (o i : ℕ)
    (a : Left l at (further_of (map number ws)) out o (further_of (map number (drop i ws)))) (b : o + 22 * (length ws - i) + 1 ≤ length out) where
  module _ (h : i < length ws) (x : A) (is : x ≡ get_or ws i x) where
    pub next_in : o + 1 + length (numeral (number x)) ≤ length (set out o 32)
    next_in = let k = numeral_short (number x) in rw (length-set out o 32) (omega arith)

    module _ (m : List ℕ) (r : ℕ) (w : Wrote (set out o 32) m (o + 1) r (numeral (number x))) where
      pub next_room : r + 22 * (length ws - (i + 1)) + 1 ≤ length m
      next_room =
          let k = numeral_short (number x) in
          let p = same_long (set out o 32) m (o + 1) r (numeral (number x)) w in
          let q = length-set out o 32 in
          let e = w.ends in
          omega arith

      pub next_left : Left l at (further_of (map number ws)) m r (further_of (map number (drop (i + 1) ws)))
      unfolding further_of
      next_left =
          let d : Wrote out m o r (32 ∷ numeral (number x)) = and_then out (set out o 32) m o (o + 1) r (32 ∷ []) (numeral (number x)) (one_byte out o 32) w in
          let f = at_drop_more (λ zs. further_of (map number zs)) ws i x h in
          let g : further_of (map number (drop i ws)) ≡ (32 ∷ numeral (number x)) ++ further_of (map number (drop (i + 1) ws)) =
          f ∙ ap (λ z. further_of (number z ∷ map number (drop (i + 1) ws))) (sym is) in
          left_some l out m at o r (further_of (map number ws)) (32 ∷ numeral (number x)) d (further_of (map number (drop (i + 1) ws))) (rw g at a)

  pub none_left : length ws ≤ i → Wrote l (set out o 10) at (o + 1) (further_of (map number ws))
  unfolding further_of
  none_left h =
      let c : Left l at (further_of (map number ws)) out o (10 ∷ []) = rw (at_drop_all (λ zs. further_of (map number zs)) ws i h) at a in
      left_none l out (set out o 10) at o (o + 1) (further_of (map number ws)) (10 ∷ []) (one_byte out o 10) c

module _ {A : Type 0} (number : A → ℤ) (ws : List A) (h : 0 < length ws) (x : A) (is : x ≡ get_or ws 0 x) (l : List ℕ) (at : ℕ) where
  pub first_in : at + 22 * length ws ≤ length l → at + length (numeral (number x)) ≤ length l
  first_in b = let k = numeral_short (number x) in omega arith

  module _ (m : List ℕ) (o : ℕ) (w : Wrote l m at o (numeral (number x))) where
    pub others_room : at + 22 * length ws ≤ length l → o + 22 * length (take (length ws - 1) (drop 1 ws)) + 1 ≤ length m
    others_room b =
        let k = numeral_short (number x) in
        let p = same_long l m at o (numeral (number x)) w in
        let e = w.ends in
        let t = length-take (length ws - 1) (drop 1 ws) in
        let d = length-drop 1 ws in
        let q : length (take (length ws - 1) (drop 1 ws)) ≤ length ws - 1 = omega arith in
        omega arith

    pub line_wrote : (n : List ℕ) (r : ℕ) → Wrote m n o r (further_of (map number (take (length ws - 1) (drop 1 ws)))) → Wrote l n at r (line_of (map number ws))
    unfolding line_of
    line_wrote n r v = rw (line_is ws h is) (and_then l m n at o r (numeral (number x)) (further_of (map number (take (length ws - 1) (drop 1 ws)))) w v)
      where
        line_is : (ws : List A) → 0 < length ws → x ≡ get_or ws 0 x → line_of (map number ws) ≡ numeral (number x) ++ further_of (map number (take (length ws - 1) (drop 1 ws)))
        line_is [] h is = absurd (omega arith)
        line_is (y ∷ ys) h is = rw (is, take_all (length (y ∷ ys) - 1) ys (omega arith))

-- A line with numbers has at most 22 bytes for each.
further_short : (zs : List ℤ) → length (further_of zs) ≤ 22 * length zs + 1
unfolding further_of
further_short [] = omega arith
further_short (z ∷ zs) =
    let a = length-append (numeral z) (further_of zs) in
    let k = numeral_short z in
    let h = further_short zs in
    omega arith

pub line_short : (zs : List ℤ) → 0 < length zs → length (line_of zs) ≤ 22 * length zs
unfolding line_of
line_short [] h = absurd (omega arith)
line_short (z ∷ zs) h =
    let a = length-append (numeral z) (further_of zs) in
    let k = numeral_short z in
    let f = further_short zs in
    omega arith
