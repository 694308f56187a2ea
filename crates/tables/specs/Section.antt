-- A table in sections of n numbers each: what is read from a section is what stands in the list, and a number that is put in one section leaves the others.
use Rattle.std.specs.Prelude.{ℕ, zero, suc, ◌+◌, ◌-◌, ◌*◌, ◌<◌, ◌≤◌, ◌≡◌, refl, List, ◌∷◌, length, drop, get_or, set, replicate}
use native.Mathlib.Omega.{arith}
use Rattle.std.proofs.Common.{sym, ◌∙◌, drop-set-lt}
use Rattle.std.proofs.Math.Path.{ap}
use Rattle.std.proofs.Math.ListN.{take, length-drop}
use Rattle.std.proofs.Math.Seq.{get_or-take, get_or-drop, take-set-lt, take-set-le, length-take-le}
use Rattle.std.proofs.lemmas.List.{drop-set-add}

unfoldable pub section : (n c : ℕ) → List ℕ → List ℕ
section n c t = take n (drop (c * n) t)

module _ (n c : ℕ) (t : List ℕ) where
  pub section_at : (j : ℕ) → j < n → get_or (section n c t) j 0 ≡ get_or t (c * n + j) 0
  unfolding section
  section_at j h = get_or-take n (drop (c * n) t) j 0 h ∙ get_or-drop (c * n) t j 0

  pub section_put : (j v : ℕ) → j < n → section n c (set t (c * n + j) v) ≡ set (section n c t) j v
  unfolding section
  section_put j v h = ap (take n) (drop-set-add (c * n) t j v) ∙ take-set-lt n (drop (c * n) t) j v h

  -- A number that is put before or after it.
  pub section_after : (i v : ℕ) → i < c * n → section n c (set t i v) ≡ section n c t
  unfolding section
  section_after i v h = ap (take n) (drop-set-lt (c * n) t i v h)

  pub section_before : (i v : ℕ) → c * n + n ≤ i → section n c (set t i v) ≡ section n c t
  unfolding section
  section_before i v h =
      let e : c * n + (i - c * n) ≡ i = omega arith in
      ap (λ k. take n (drop (c * n) (set t k v))) (sym e)
      ∙ ap (take n) (drop-set-add (c * n) t (i - c * n) v)
      ∙ take-set-le n (drop (c * n) t) (i - c * n) v (omega arith)

  pub section_long : c * n + n ≤ length t → length (section n c t) ≡ n
  unfolding section
  section_long l = length-take-le n (drop (c * n) t) (let d = length-drop (c * n) t in omega arith)

-- Of zeros.
pub drop_zeros : (k m : ℕ) → drop {A = ℕ} k (replicate (m + k) 0) ≡ replicate m 0
drop_zeros zero m = let e : m + 0 ≡ m = omega arith in rw e
drop_zeros (suc k) m = let e : m + suc k ≡ suc (m + k) = omega arith in rw e (drop_zeros k m)

take_zeros : (m r : ℕ) → take {A = ℕ} m (replicate (r + m) 0) ≡ replicate m 0
take_zeros zero r = refl
take_zeros (suc m) r = let e : r + suc m ≡ suc (r + m) = omega arith in rw e (ap (λ l. 0 ∷ l) (take_zeros m r))

pub section_zeros : (n c k r : ℕ) → k ≡ r + n + c * n → section n c (replicate k 0) ≡ replicate n 0
unfolding section
section_zeros n c k r e = rw e (ap (take n) (drop_zeros (c * n) (r + n)) ∙ take_zeros n r)
