-- Document 02, No. 7: every call on a damaged book tells the damage.
use Prim.Native.Nat.{ℕ, zero, suc, ◌+◌, ◌<◌, ◌≤◌, max}
use native.Mathlib.Omega.{arith}
use Rattle.std.specs.Prelude.{◌≡◌, ◌≢◌, get_or, set}
use Rattle.std.proofs.Common.{sym, ◌∙◌, subst}
use Rattle.std.proofs.Math.Path.{ap}
use mathlib.Core.List.{List, []}
use Rattle.std.proofs.Math.ListN.{length, take}
use Rattle.book_rules.specs.Sums.{word, exchanged}
use Rattle.book_rules.specs.Blocks.{Block, Entry, or_else, verdict}
use Rattle.book_rules.specs.Books.{Book, in_use, walk, fault, unless_refused, total, read, withdraw, add_fault, add}
use Rattle.book_rules.specs.Noticed.{Sized, Refused, by_check, by_number, good_checked}
use Rattle.book_rules.proofs.Noticed.{change_refused, exchange_refused_anyhow}
use Rattle.book_rules.proofs.Walks.{get_d_take, stored, take_stored, walk_at, walk_told}
use Rattle.book_rules.proofs.Kept.{good_walk, good_lent, in_use_long}

unfoldable pub damaged : Book → ℕ → Block → Book
damaged b k c = record { lent = set b.lent k c; used = b.used }

module _ (b : Book) (good : fault b ≡ 0) (k : ℕ) (low : k < b.used) where
  unfoldable pub own : Block
  own = get_or b.lent k []

  damaged_in_use : (c : Block) → in_use (damaged b k c) ≡ stored (in_use b) k c
  unfolding damaged
  damaged_in_use c = ap (λ (n : ℕ). take n (set b.lent k c)) (reach b.used k low)
      ∙ take_stored b.used k b.lent c (below b.used k low) (inside b.used k (length b.lent) low (good_lent b good))
    where
      reach : (u i : ℕ) → i < u → u ≡ max u (suc i)
      reach u i h = omega arith

      below : (u i : ℕ) → i < u → i ≤ u
      below u i h = omega arith

      inside : (u i n : ℕ) → i < u → u ≤ n → i < n
      inside u i n h l = omega arith

  pub own_good : (ys : List Block) × (verdict (0 + k) ys own ≡ 0)
  unfolding own
  own_good =
      let r = walk_at 0 [] (in_use b) k (seen (in_use_long b (good_lent b good))) (good_walk b good) in
      (r.0, ap (λ (c : Block). verdict (0 + k) r.0 c) (sym (get_d_take b.used k b.lent low)) ∙ r.1)
    where
      seen : length (in_use b) ≡ b.used → k < length (in_use b)
      seen n = omega arith

  module _ (P : ℕ → Type 0) (zero-not : P 0 → ⊥) where
    damage_told : (c : Block) → ((ys : List Block) → P (verdict (0 + k) ys c)) → P (fault (damaged b k c))
    unfolding fault
    damage_told c h = carried (walk 0 [] (in_use (damaged b k c))) _
        (subst (λ (y : List Block). P (walk 0 [] y)) (sym (damaged_in_use c)) (walk_told P zero-not 0 [] (in_use b) k c (seen (in_use_long b (good_lent b good))) h (good_walk b good)))
      where
        seen : length (in_use b) ≡ b.used → k < length (in_use b)
        seen n = omega arith

        carried : (a r : ℕ) → P a → P (or_else a r)
        carried zero r p = absurd (zero-not p)
        carried (suc a) r p = unfold or_else in p

  pub change_told : (i y : ℕ) → Sized own → i < 256 → y < 65536 → word own i ≢ y → fault (damaged b k (set own i y)) ≡ 12
  change_told i y s hi hy ne = damage_told (λ (n : ℕ). n ≡ 12) (λ z. clash z) (set own i y)
      (λ ys. change_refused (0 + k) ys own i y s hi hy ne (good_checked (0 + k) own_good.0 own own_good.1))
    where
      clash : ◌≡◌ {A = ℕ} 0 12 → ⊥
      clash z = omega arith

  pub exchange_told : (i j : ℕ) → Sized own → i < 256 → j < 256 → word own i ≢ word own j → Refused (fault (damaged b k (exchanged own i j)))
  exchange_told i j s hi hj ne = damage_told Refused never (exchanged own i j)
      (λ ys. exchange_refused_anyhow (0 + k) own_good.0 ys own i j s hi hj ne own_good.1)
    where
      never : Refused 0 → ⊥
      never (by_check z) = omega arith
      never (by_number z) = omega arith

-- A book with a fault: each call answers it, and changes nothing.
pub fault_told : (b : Book) (n : ℕ) → fault b ≡ suc n
    → ((total b).answer ≡ suc n) × ((x : ℕ) → (read x b).answer ≡ suc n) × ((x : ℕ) → (withdraw x b).answer ≡ suc n) × ((e : Entry) → (add e b).answer ≡ suc n)
unfolding total read withdraw add add_fault unless_refused or_else
fault_told b n h = (rw h, (λ x. rw h), (λ x. rw h), (λ e. rw h))
