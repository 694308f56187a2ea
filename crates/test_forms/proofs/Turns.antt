-- A loop over forms in a row, for any work f on one of them, as the code asks it. Assumes nothing.
use mathlib.Core.Path.{◌≡◌, refl, sym, ◌∙◌}
use mathlib.Core.Bool.{Bool, true, false, cond}
use mathlib.Core.List.{List}
use Prim.Native.Nat.{ℕ, zero, suc, ◌+◌, ◌-◌, ◌^◌, ◌<◌, ◌≤◌}
use native.Mathlib.Omega.{arith}
use borrow.Author.Tests.{leb-true, ltb-false, le-leb, le-ltb}
use mir.Syntax.{w64}
use mir.Val.{Fits}
use lib.Dec.{ltb, leb}
use lib.ListN.{length}
use lib.IntN.{ℤ}
use Rattle.std.specs.Prelude.{Result, Ok, Err}
use Rattle.forms.specs.Written.{IsWidth}
use Rattle.words.specs.Words.{tag_at}
use Rattle.words.proofs.Signed as signed
use Rattle.test_forms.specs.Ends.{onward, in_row, within}

module _ (f : ℕ → Result ℕ ℕ) (n e : ℕ) where
  row_out : n ≤ 0 → in_row f n e ≡ Ok e
  unfolding in_row
  row_out h = let z : n ≡ 0 = omega arith in rw z

  row_on : 0 < n → (r : Result ℕ ℕ) → r ≡ f e → in_row f n e ≡ onward r (in_row f (n - 1))
  unfolding in_row
  row_on h r q = rw q (go n h)
    where
      go : (k : ℕ) → 0 < k → in_row f k e ≡ onward (f e) (in_row f (k - 1))
      go zero l = absurd (omega arith)
      go (suc k) l = let p : suc k - 1 ≡ k = omega arith in rw p

-- v is what the forms that are left after k of n are to give.
module _ (f : ℕ → Result ℕ ℕ) (n k e : ℕ) (v : Result ℕ ℕ) (i : v ≡ in_row f (n - k) e) where
  pub row_end : n ≤ k → Ok e ≡ v
  row_end h = sym (i ∙ row_out f (n - k) e (omega arith))

  pub row_turn : k < n → (r : Result ℕ ℕ) → r ≡ f e → (x : ℕ) → r ≡ Ok x → v ≡ in_row f (n - (k + 1)) x
  unfolding onward
  row_turn h r q x w = let p : n - (k + 1) ≡ n - k - 1 = omega arith in rw p (i ∙ row_on f (n - k) e (omega arith) r q ∙ rw w)

  pub row_bad : k < n → (r : Result ℕ ℕ) → r ≡ f e → (p : ℕ) → r ≡ Err p → Err p ≡ v
  unfolding onward
  row_bad h r q p w = sym (i ∙ row_on f (n - k) e (omega arith) r q ∙ rw w)

-- ---- Bounds.

pub width_most : (n : ℕ) → within 2 n 4 ≡ true → (2 ≤ n) × (n ≤ 4)
unfolding within
width_most n = go (ltb n 2) refl
  where
    go : (b : Bool) → ltb n 2 ≡ b → cond b false (leb n 4) ≡ true → (2 ≤ n) × (n ≤ 4)
    go true e h = let z : ◌≡◌ {A = ℕ} 0 1 = cc in absurd (omega arith)
    go false e h = (ltb-false n 2 e, leb-true n 4 h)

pub is_width : (k : ℕ) → IsWidth k → within 2 k 4 ≡ true
unfolding IsWidth within
is_width k h = rw (le-ltb k 2 h.0, le-leb k 4 h.1)

pub width_low : (n : ℕ) → within 2 n 4 ≡ true → n < 2147483648
width_low n h = let x = (width_most n h).1 in omega arith

pub next_two : (s : List ℤ) (at n : ℕ) → n ≡ tag_at s (at + 1) → n < 2147483648 → length s < 2 ^ 64 → Fits w64 (at + 2)
next_two s at n e h l = let x = signed.within s (at + 1) n e h in record { fits = omega arith }

pub depth_pos : (d : ℕ) → (d ≡ 0 → ⊥) → 1 ≤ d
depth_pos d h = omega arith

pub depth_less : (d m : ℕ) → (d ≡ 0 → ⊥) → d ≡ m → d - 1 < m
depth_less d m h e = omega arith
