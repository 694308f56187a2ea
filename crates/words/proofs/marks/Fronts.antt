-- The fronts and backs of a join, over plain numbers: the next longer front. Assumes nothing.
use mathlib.Core.Path.{◌≡◌, refl, sym, ◌∙◌, ap, ap₂}
use mathlib.Core.List.{List, [], ◌∷◌, map}
use Prim.Native.Nat.{ℕ, zero, suc, ◌+◌, ◌*◌, ◌/◌, ◌%◌, ◌^◌, ◌<◌}
use native.Mathlib.Nat.{pow-suc}
use native.Mathlib.Omega.{arith}
use lib.Count.{count_trailing_zeros}
use Rattle.words.specs.Marks.{clear, Split, under, splits, raise, Longer}
use Rattle.words.proofs.marks.Places.{by_digit_lem, half_lt, half_pos, double_half, double_digit, digit_2, even_half, even_digit, low_even, low_odd}

split_is : {f g b c : ℕ} → f ≡ g → b ≡ c → ◌≡◌ {A = Split} (record { front = f; back = b }) (record { front = g; back = c })
split_is p q = ap₂ (λ (x y : ℕ). record { front = x; back = y }) p q

-- Two maps over the splits that agree at each.
map_is : (f g : Split → Split) → ((s : Split) → f s ≡ g s) → (l : List Split) → map f l ≡ map g l
map_is f g e [] = refl
map_is f g e (s ∷ l) = ap₂ (λ (x : Split) (y : List Split). x ∷ y) (e s) (map_is f g e l)

map_map : (f g : Split → Split) (l : List Split) → map f (map g l) ≡ map (λ (s : Split). f (g s)) l
map_map f g [] = refl
map_map f g (s ∷ l) = ap (λ (y : List Split). f (g s) ∷ y) (map_map f g l)

under_raise : (a : ℕ) (l : List Split) → map (under 0) (map (raise a) l) ≡ map (raise (a * 2)) (map (under 0) l)
unfolding under raise
under_raise a l =
    map_map (under 0) (raise a) l ∙ map_is _ _ (λ s. split_is (let f = s.front in omega arith) refl) l ∙ sym (map_map (raise (a * 2)) (under 0) l)

under_one : (l : List Split) → map (under 1) l ≡ map (raise 1) (map (under 0) l)
unfolding under raise
under_one l = map_is _ _ (λ s. split_is (let f = s.front in omega arith) refl) l ∙ sym (map_map (raise 1) (under 0) l)

pub raise_raise : (a b : ℕ) (l : List Split) → map (raise a) (map (raise b) l) ≡ map (raise (a + b)) l
unfolding raise
raise_raise a b l = map_map (raise a) (raise b) l ∙ map_is _ _ (λ s. split_is (let f = s.front in omega arith) refl) l

pub raise_none : (l : List Split) → map (raise 0) l ≡ l
unfolding raise
raise_none [] = refl
raise_none (s ∷ l) = ap₂ (λ (x : Split) (y : List Split). x ∷ y) (split_is (let f = s.front in omega arith) refl) (raise_none l)

pub splits_none : (k : ℕ) → splits k 0 ≡ record { front = 0; back = 0 } ∷ []
unfolding splits under
splits_none zero = refl
splits_none (suc k) = rw (splits_none k)

pub splits_low : (k m : ℕ) → 0 < m → m < 2 ^ k
    → splits k m ≡ record { front = 0; back = m } ∷ map (raise (2 ^ count_trailing_zeros k m)) (splits k (clear (count_trailing_zeros k m) m))
unfolding splits under clear
splits_low zero m h l = absurd (omega arith)
splits_low (suc k) m h l = by_digit_lem _ m
    (λ e.
    let t = count_trailing_zeros k (m / 2) in
    let b : m / 2 * 2 ≡ m = omega arith in
    rw (low_even k m e, double_digit (clear t (m / 2)) (m % 2) (digit_2 m), double_half (clear t (m / 2)) (m % 2) (digit_2 m), e, splits_low k (m / 2) (half_pos m h e) (half_lt k m l), pow-suc 2 t)
    (ap₂ (λ (x : Split) (y : List Split). x ∷ y) (split_is refl b) (under_raise (2 ^ t) (splits k (clear t (m / 2))))))
    (λ e.
    rw (low_odd k m e, e, even_digit m, even_half m)
    (ap (λ (y : List Split). record { front = 0; back = m } ∷ y) (under_one (splits k (m / 2)))))

-- The choices that are left of a join: these two parts first.
pub splits_next : (f b f' b' : ℕ) → 0 < b → b < 2 ^ 64 → Longer f b f' b'
    → map (raise f) (splits 64 b) ≡ record { front = f + 0; back = b } ∷ map (raise f') (splits 64 b')
unfolding raise
splits_next f b f' b' h l w =
    rw (splits_low 64 b h l, w.front, w.back)
    (ap (λ (y : List Split). record { front = f + 0; back = b } ∷ y) (raise_raise f (2 ^ count_trailing_zeros 64 b) (splits 64 (clear (count_trailing_zeros 64 b) b))))

-- The last: nothing is left of the back.
pub splits_last : (f : ℕ) → map (raise f) (splits 64 0) ≡ record { front = f + 0; back = 0 } ∷ []
unfolding raise
splits_last f = rw (splits_none 64)
