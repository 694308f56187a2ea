-- Laws of what specs/Sums.antt defines.
use Rattle.std.specs.Prelude.{ℕ, zero, suc, ◌+◌, ◌-◌, ◌*◌, ◌/◌, ◌%◌, ◌<◌, ◌≤◌, ◌≡◌, refl, List, [], ◌∷◌, length, set, T, ◌≢◌}
use Rattle.std.proofs.Common.{arith, sym, ap, ◌∙◌, subst, length-set, get_or-set_same, get_or-set_other, eqb→eq}
use Rattle.std.proofs.Math.Decide.{ℕ_discrete, dec_lt}
use Rattle.book_rules.specs.Sums.{Alike, Apart, Weight, checked, due, early, exchanged, first_last, high, last_first, little, low, much, no_multiple, placed, said, same_place, word}

-- ---- The sum after a store.

placed_set : (p n : ℕ) (ws : List ℕ) (i y : ℕ) → i < n → i < length ws → placed p n (set ws i y) + (p + i) * word ws i ≡ placed p n ws + (p + i) * y
unfolding placed
placed_set p zero ws i y h k = absurd (omega arith)
placed_set p (suc n) [] i y h k = absurd (omega arith)
placed_set p (suc n) (w ∷ ws) zero y h k = omega arith
placed_set p (suc n) (w ∷ ws) (suc i) y h k = let ih = placed_set (suc p) n ws i y (omega arith) (omega arith) in omega arith

placed_beyond : (p n : ℕ) (ws : List ℕ) (i y : ℕ) → n ≤ i → placed p n (set ws i y) ≡ placed p n ws
unfolding placed
placed_beyond p zero ws i y h = refl
placed_beyond p (suc n) [] i y h = refl
placed_beyond p (suc n) (w ∷ ws) zero y h = absurd (omega arith)
placed_beyond p (suc n) (w ∷ ws) (suc i) y h = ap (λ (x : ℕ). p * w + x) (placed_beyond (suc p) n ws i y (omega arith))

-- With the check's halves at the weights -1 and -65536, that is 65536 and 1, a block whose check holds sums up to a multiple of 65537.
whole : List ℕ → ℕ
whole ws = placed 1 254 ws + 65536 * word ws 254 + word ws 255

-- A check that holds is the number itself, and not only up to multiples: high halves over 1 never pass (reading 70).
pub check_whole : (ws : List ℕ) → T (checked ws) → placed 1 254 ws % 65537 ≡ word ws 254 + 65536 * word ws 255
unfolding checked due said
check_whole ws h = eqb→eq (due ws) (said ws) h

multiple : (ws : List ℕ) → T (checked ws) → (k : ℕ) × (whole ws ≡ 65537 * k)
unfolding whole
multiple ws h =
    let e = check_whole ws h in
    (placed 1 254 ws / 65537 + word ws 254 + word ws 255, omega arith)

weight : (i : ℕ) → i < 256 → (c : ℕ) × Weight i c
weight i h = elim (dec_lt i 254) [
  | yes a ↦ (suc i, early a refl)
  | no a ↦ elim (ℕ_discrete i 254) [ yes b ↦ (65536, low b refl) | no b ↦ (1, high (omega arith) refl) ]
]

whole_set : (ws : List ℕ) (i y c : ℕ) → length ws ≡ 256 → Weight i c → whole (set ws i y) + c * word ws i ≡ whole ws + c * y
unfolding whole
whole_set ws i y c l (early a e) =
    let s = placed_set 1 254 ws i y a (omega arith) in
    let p : word (set ws i y) 254 ≡ word ws 254 = get_or-set_other ws i 254 y 0 (omega arith) in
    let q : word (set ws i y) 255 ≡ word ws 255 = get_or-set_other ws i 255 y 0 (omega arith) in
    let f : c * word ws i ≡ suc i * word ws i = ap (λ (x : ℕ). x * word ws i) e in
    let g : c * y ≡ suc i * y = ap (λ (x : ℕ). x * y) e in
    omega arith
whole_set ws i y c l (low a e) = rw (a, e) (
    let s = placed_beyond 1 254 ws 254 y (omega arith) in
    let p : word (set ws 254 y) 254 ≡ y = get_or-set_same ws 254 y 0 (omega arith) in
    let q : word (set ws 254 y) 255 ≡ word ws 255 = get_or-set_other ws 254 255 y 0 (omega arith) in
    omega arith)
whole_set ws i y c l (high a e) = rw (a, e) (
    let s = placed_beyond 1 254 ws 255 y (omega arith) in
    let p : word (set ws 255 y) 255 ≡ y = get_or-set_same ws 255 y 0 (omega arith) in
    let q : word (set ws 255 y) 254 ≡ word ws 254 = get_or-set_other ws 255 254 y 0 (omega arith) in
    omega arith)

-- ---- (a) A change within one word.

weight_apart : (i c : ℕ) → Weight i c → Apart c
weight_apart i c (early a e) = little (omega arith) (omega arith)
weight_apart i c (low a e) = much (omega arith) (omega arith)
weight_apart i c (high a e) = little (omega arith) (omega arith)

-- Sums that differ by e times a difference of two words cannot both be multiples.
unequal_sums : (e x y k l : ℕ) → Apart e → x < 65536 → y < 65536 → x ≢ y → 65537 * l + e * x ≡ 65537 * k + e * y → ⊥
unequal_sums e x y k l a hx hy ne h = elim (dec_lt x y) [
  | yes p ↦ no_multiple e (y - x) k l a (omega arith) (omega arith) (up x y p h)
  | no p ↦ no_multiple e (x - y) l k a (omega arith) (omega arith) (down x y (omega arith) h)
]
  where
    up : (x y : ℕ) → x < y → 65537 * l + e * x ≡ 65537 * k + e * y → 65537 * l ≡ 65537 * k + e * (y - x)
    up x y p h = omega (arith, ap (λ (z : ℕ). e * z) (sub_add x y p))
      where
        sub_add : (x y : ℕ) → x < y → x + (y - x) ≡ y
        sub_add x y p = omega arith

    down : (x y : ℕ) → y < x → 65537 * l + e * x ≡ 65537 * k + e * y → 65537 * k ≡ 65537 * l + e * (x - y)
    down x y p h = omega (arith, ap (λ (z : ℕ). e * z) (sub_add x y p))
      where
        sub_add : (x y : ℕ) → y < x → y + (x - y) ≡ x
        sub_add x y p = omega arith

pub change_noticed : (ws : List ℕ) (i y : ℕ) → length ws ≡ 256 → i < 256 → word ws i < 65536 → y < 65536 → word ws i ≢ y
    → T (checked ws) → T (checked (set ws i y)) → ⊥
change_noticed ws i y l h hx hy ne before after =
    let w = weight i h in
    let a = multiple ws before in
    let b = multiple (set ws i y) after in
    let s = whole_set ws i y w.0 l w.1 in
    unequal_sums w.0 (word ws i) y a.0 b.0 (weight_apart i w.0 w.1) hx hy ne
    (ap (λ (z : ℕ). z + w.0 * word ws i) (sym b.1) ∙ s ∙ ap (λ (z : ℕ). z + w.0 * y) a.1)

alike : (i j c : ℕ) → Weight i c → Weight j c → Alike i j
alike i j c (early a e) (early b f) = same_place (omega arith)
alike i j c (early a e) (low b f) = absurd (omega arith)
alike i j c (early a e) (high b f) = first_last (omega arith) b
alike i j c (low a e) (early b f) = absurd (omega arith)
alike i j c (low a e) (low b f) = same_place (omega arith)
alike i j c (low a e) (high b f) = absurd (omega arith)
alike i j c (high a e) (early b f) = last_first a (omega arith)
alike i j c (high a e) (low b f) = absurd (omega arith)
alike i j c (high a e) (high b f) = same_place (omega arith)

gap_apart : (i j c e : ℕ) → Weight i c → Weight j (c + e) → 0 < e → Apart e
gap_apart i j c e (early a p) (early b q) h = little h (omega arith)
gap_apart i j c e (early a p) (low b q) h = much (omega arith) (omega arith)
gap_apart i j c e (early a p) (high b q) h = absurd (omega arith)
gap_apart i j c e (low a p) (early b q) h = absurd (omega arith)
gap_apart i j c e (low a p) (low b q) h = absurd (omega arith)
gap_apart i j c e (low a p) (high b q) h = absurd (omega arith)
gap_apart i j c e (high a p) (early b q) h = little h (omega arith)
gap_apart i j c e (high a p) (low b q) h = much (omega arith) (omega arith)
gap_apart i j c e (high a p) (high b q) h = absurd (omega arith)

-- The sum after an exchange.
whole_exchanged : (ws : List ℕ) (i j c d : ℕ) → length ws ≡ 256 → i ≢ j → Weight i c → Weight j d
    → whole (exchanged ws i j) + c * word ws i + d * word ws j ≡ whole ws + c * word ws j + d * word ws i
unfolding exchanged
whole_exchanged ws i j c d l ne wi wj =
    let x = word ws i in
    let y = word ws j in
    let once = set ws i y in
    let s = whole_set ws i y c l wi in
    let t = whole_set once j x d (length-set ws i y ∙ l) wj in
    let o : word once j ≡ y = get_or-set_other ws i j y 0 (λ e. ne (sym e)) in
    summed (whole ws) (whole once) (whole (set once j x)) (c * x) (c * y) (d * x) (d * y) s (ap (λ (z : ℕ). whole (set once j x) + d * z) (sym o) ∙ t)
  where
    summed : (a b e cx cy dx dy : ℕ) → b + cx ≡ a + cy → e + dy ≡ b + dx → e + cx + dy ≡ a + cy + dx
    summed a b e cx cy dx dy p q = omega arith

pub exchange_noticed : (ws : List ℕ) (i j : ℕ) → length ws ≡ 256 → i < 256 → j < 256 → word ws i < 65536 → word ws j < 65536 → word ws i ≢ word ws j
    → T (checked ws) → T (checked (exchanged ws i j)) → Alike i j
exchange_noticed ws i j l hi hj hx hy ne before after = by_weights (weight i hi) (weight j hj)
  where
    a : (k : ℕ) × (whole ws ≡ 65537 * k)
    a = multiple ws before

    b : (k : ℕ) × (whole (exchanged ws i j) ≡ 65537 * k)
    b = multiple (exchanged ws i j) after

    sums : (c d : ℕ) → i ≢ j → Weight i c → Weight j d → 65537 * b.0 + c * word ws i + d * word ws j ≡ 65537 * a.0 + c * word ws j + d * word ws i
    sums c d n wi wj = ap (λ (z : ℕ). z + c * word ws i + d * word ws j) (sym b.1) ∙ whole_exchanged ws i j c d l n wi wj
        ∙ ap (λ (z : ℕ). z + c * word ws j + d * word ws i) a.1

    cut : (x y c e k m : ℕ) → 65537 * k + c * x + (c + e) * y ≡ 65537 * m + c * y + (c + e) * x → 65537 * m + e * x ≡ 65537 * k + e * y
    cut x y c e k m h = omega arith

    turn : (x y c e k m : ℕ) → 65537 * k + (c + e) * x + c * y ≡ 65537 * m + (c + e) * y + c * x → 65537 * k + e * x ≡ 65537 * m + e * y
    turn x y c e k m h = omega arith

    distinct : i ≢ j
    distinct e = ne (ap (λ (z : ℕ). word ws z) e)

    above : (c e : ℕ) → 0 < e → Weight i c → Weight j (c + e) → ⊥
    above c e h wi wj = unequal_sums e (word ws i) (word ws j) b.0 a.0 (gap_apart i j c e wi wj h) hx hy ne
        (cut (word ws i) (word ws j) c e b.0 a.0 (sums c (c + e) distinct wi wj))

    below : (c e : ℕ) → 0 < e → Weight i (c + e) → Weight j c → ⊥
    below c e h wi wj = unequal_sums e (word ws i) (word ws j) a.0 b.0 (gap_apart j i c e wj wi h) hx hy ne
        (turn (word ws i) (word ws j) c e b.0 a.0 (sums (c + e) c distinct wi wj))

    plus : (c d : ℕ) → c < d → c + (d - c) ≡ d
    plus c d h = omega arith

    by_weights : (c : ℕ) × Weight i c → (d : ℕ) × Weight j d → Alike i j
    by_weights u v = elim (ℕ_discrete u.0 v.0) [
      | yes p ↦ alike i j v.0 (subst (λ (z : ℕ). Weight i z) p u.1) v.1
      | no p ↦ elim (dec_lt u.0 v.0) [
        | yes q ↦ absurd (above u.0 (v.0 - u.0) (omega arith) u.1 (subst (λ (z : ℕ). Weight j z) (sym (plus u.0 v.0 q)) v.1))
        | no q ↦ absurd (below v.0 (u.0 - v.0) (omega arith) (subst (λ (z : ℕ). Weight i z) (sym (plus v.0 u.0 (omega arith))) u.1) v.1)
      ]
    ]
