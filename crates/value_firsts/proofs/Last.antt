-- The last marked element is kept exactly if none before it is equal; the others are kept as if it were not there. Assumes nothing.
use Prim.Native.Nat.{ℕ, zero, suc, ◌+◌, ◌*◌, ◌/◌, ◌%◌, ◌^◌, ◌<◌, ◌≤◌}
use mathlib.Core.Path.{◌≡◌, refl, ◌∙◌, ap}
use mathlib.Core.Bool.{Bool, true, false, cond}
use mathlib.Core.List.{List, [], ◌∷◌, ◌++◌, map, append-nil, append_assoc}
use native.Mathlib.Omega.{arith}
use native.Mathlib.Nat.{pow-suc}
use Rattle.rules.specs.Forms.{Value, Values, empty, ◌▸◌, count}
use Rattle.rules.specs.Search.{any_equal}
use Rattle.words.specs.Marks.{positions}
use Rattle.words.specs.Marked.{nth}
use Rattle.words.proofs.marks.Places.{by_digit_lem, positions_none}
use Rattle.value_firsts.specs.Firsts.{firsts_from, firsts_of, before_of}
use Rattle.value_firsts.proofs.Differing.{map_map, firsts_le}

pub none_kept : (eq : Value → Value → Bool) (before : List Value) (vs : Values) → firsts_from eq before vs 0 ≡ 0
none_kept eq before vs = let h = firsts_le eq before vs 0 in omega arith

-- One digit more, below.
sums : (x y c : ℕ) (b : Bool) (p q : ℕ) → x ≡ y + cond b 0 p → q ≡ 2 * p → x * 2 + c ≡ y * 2 + c + cond b 0 q
sums x y c true p q e h = omega arith
sums x y c false p q e h = omega arith

module _ (eq : Value → Value → Bool) where
  module _ (before : List Value) (v : Value) (vs : Values) (m : ℕ) where
    even : m % 2 ≡ 0 → firsts_from eq before (v ▸ vs) m ≡ firsts_from eq before vs (m / 2) * 2 + 0
    unfolding firsts_from
    even e = rw e (omega arith)

    odd : m % 2 ≡ 1 → firsts_from eq before (v ▸ vs) m ≡ firsts_from eq (before ++ (v ∷ [])) vs (m / 2) * 2 + cond (any_equal eq before v) 0 1
    unfolding firsts_from
    odd e = rw e

    seen_even : (n k : ℕ) → m % 2 ≡ 0 → any_equal eq (before ++ map (nth (v ▸ vs)) (positions (suc n) m)) (nth (v ▸ vs) (suc k)) ≡ any_equal eq (before ++ map (nth vs) (positions n (m / 2))) (nth vs k)
    unfolding positions nth
    seen_even n k e = rw (e, map_map (nth (v ▸ vs)) suc (positions n (m / 2)))

    seen_odd : (n k : ℕ) → m % 2 ≡ 1
        → any_equal eq (before ++ map (nth (v ▸ vs)) (positions (suc n) m)) (nth (v ▸ vs) (suc k)) ≡ any_equal eq ((before ++ (v ∷ [])) ++ map (nth vs) (positions n (m / 2))) (nth vs k)
    unfolding positions nth
    seen_odd n k e = rw (e, map_map (nth (v ▸ vs)) suc (positions n (m / 2)), append_assoc before (v ∷ []) (map (nth vs) (positions n (m / 2))))

  last_kept : (before : List Value) (vs : Values) (n k t : ℕ) → t < 2 ^ k → k < count vs → k ≤ n
      → firsts_from eq before vs (t + 2 ^ k) ≡ firsts_from eq before vs t + cond (any_equal eq (before ++ map (nth vs) (positions n t)) (nth vs k)) 0 (2 ^ k)
  unfolding count nth
  last_kept before empty n k t l h g = absurd (omega arith)
  last_kept before (v ▸ vs) n zero t l h g =
      let z : t ≡ 0 = omega arith in
      rw (z, positions_none n, append-nil before, even before v vs 0 refl, odd before v vs 1 refl, none_kept eq (before ++ (v ∷ [])) vs, none_kept eq before vs) refl
  last_kept before (v ▸ vs) zero (suc k) t l h g = absurd (omega arith)
  last_kept before (v ▸ vs) (suc n) (suc k) t l h g =
      let p = pow-suc 2 k in
      let q : (t + 2 ^ suc k) / 2 ≡ t / 2 + 2 ^ k = omega arith in
      let d : (t + 2 ^ suc k) % 2 ≡ t % 2 = omega arith in
      by_digit_lem _ t
      (λ e. even before v vs (t + 2 ^ suc k) (d ∙ e)
      ∙ sums _ (firsts_from eq before vs (t / 2)) 0 (any_equal eq (before ++ map (nth vs) (positions n (t / 2))) (nth vs k)) (2 ^ k) (2 ^ suc k) (ap (firsts_from eq before vs) q ∙ last_kept before vs n k (t / 2) (omega arith) (omega arith) (omega arith)) (omega arith)
      ∙ rw (even before v vs t e, seen_even before v vs t n k e))
      (λ e. odd before v vs (t + 2 ^ suc k) (d ∙ e)
      ∙ sums _ (firsts_from eq (before ++ (v ∷ [])) vs (t / 2)) (cond (any_equal eq before v) 0 1) (any_equal eq ((before ++ (v ∷ [])) ++ map (nth vs) (positions n (t / 2))) (nth vs k)) (2 ^ k) (2 ^ suc k) (ap (firsts_from eq (before ++ (v ∷ [])) vs) q ∙ last_kept (before ++ (v ∷ [])) vs n k (t / 2) (omega arith) (omega arith) (omega arith)) (omega arith)
      ∙ rw (odd before v vs t e, seen_odd before v vs t n k e))

  pub last_is : (vs : Values) (k t : ℕ) → t < 2 ^ k → k < count vs → k ≤ 64 → firsts_of eq vs (t + 2 ^ k) ≡ firsts_of eq vs t + cond (before_of eq vs t k) 0 (2 ^ k)
  unfolding firsts_of before_of
  last_is vs k t l h g = last_kept [] vs 64 k t l h g
