-- The needs of the functions over a lent table, as the code asks for them.
use Prim.Native.Nat.{ℕ, ◌+◌, ◌*◌, ◌/◌, ◌%◌, ◌^◌, ◌≤◌, ◌<◌}
use native.Mathlib.Omega.{arith}
use borrow.Author.Rules.{rules}
use mathlib.Core.Path.{◌≡◌, refl, sym, ap, ap₂, ◌∙◌}
use mathlib.Core.List.{List}
use lib.ListN.{length, set, length-set}
use lib.Dec.{eqb}
use borrow.Author.Tests.{eqb-true, eqb-false}
use mathlib.Core.Bool.{Bool, true, false}
use lib.IntN.{ℤ}
use mir.Syntax.{w32}
use mir.Val.{to_z}
use Rattle.tables.specs.declared.slot.Held.{Held}
use Rattle.round_table.specs.Entries.{halves, word_at, entry_at, put_entry, Small, put_long, put_same, put_other, Copied}

by_place : (P : Type 0) (i j : ℕ) → (j ≡ i → P) → ((j ≡ i → ⊥) → P) → P
by_place P i j f g = go (eqb j i) (eqb-true j i) (eqb-false j i)
  where
    go : (b : Bool) → (b ≡ true → j ≡ i) → (b ≡ false → j ≡ i → ⊥) → P
    go true a b = f (a refl)
    go false a b = g (b refl)

-- Copying: k of n are done.
pub record Copying (old new : List ℤ) (from to n k : ℕ) : Type 0 where
  pub most : k ≤ n
  pub is : Copied old new from to k

module _ {old new : List ℤ} {from to n k : ℕ} where
  pub copy_from : Copying old new from to n k → k < n → to + n ≤ from → 3 * (from + n) ≤ length old → 3 * (from + k) + 2 < length new
  copy_from c h a b = let l = c.is.long in omega arith

  pub copy_to : Copying old new from to n k → k < n → to + n ≤ from → 3 * (from + n) ≤ length old → 3 * (to + k) + 2 < length new
  copy_to c h a b = let l = c.is.long in omega arith

  pub copy_out : Copying old new from to n k → n ≤ k → Copied old new from to n
  copy_out c h = let m = c.most in let e : k ≡ n = omega arith in rw (sym e) c.is

pub copy_none : (t : List ℤ) (from to n : ℕ) → Copying t t from to n 0
copy_none t from to n = record { most = omega arith; is = record { long = refl; same = λ k h. absurd (omega arith); low = λ k h. refl; high = λ k h. refl } }

-- An entry as it is read.
pub entry_read : (ws : List ℤ) (i a' a b c m : ℕ) → a' ≡ a → a ≡ word_at ws (3 * i) → b ≡ word_at ws (3 * i + 1) → c ≡ word_at ws (3 * i + 2) → m ≡ halves b c
    → ◌≡◌ {A = Held} (record { at = a'; marks = m }) (entry_at ws i)
unfolding entry_at
entry_read ws i a' a b c m z p q r s j = record { at = (z ∙ p) j; marks = (s ∙ ap₂ halves q r) j }

pub entry_small : (a' a m : ℕ) → a' ≡ a → a < 4294967296 → m < 2 ^ 64 → Small (record { at = a'; marks = m })
entry_small a' a m z h k = record { at = omega arith; marks = k }

-- An entry as it is written.
pub entry_put : (ws t₁ t₂ t₃ : List ℤ) (i : ℕ) (h : Held) → t₁ ≡ set ws (3 * i) (to_z w32 (h.at % 4294967296)) → t₂ ≡ set t₁ (3 * i + 1) (to_z w32 (h.marks % 4294967296))
    → t₃ ≡ set t₂ (3 * i + 2) (to_z w32 (h.marks / 4294967296 % 4294967296)) → t₃ ≡ put_entry ws i h
unfolding put_entry
entry_put ws t₁ t₂ t₃ i h p q r =
    r ∙ ap (λ t. set t (3 * i + 2) (to_z w32 (h.marks / 4294967296 % 4294967296))) (q ∙ ap (λ t. set t (3 * i + 1) (to_z w32 (h.marks % 4294967296))) p)

pub long_put : (ws t : List ℤ) (i : ℕ) (h : Held) → t ≡ put_entry ws i h → length t ≡ length ws
long_put ws t i h p = rw p (put_long ws i h)

pub long_set : (ws t : List ℤ) (i : ℕ) (z : ℤ) (n : ℕ) → t ≡ set ws i z → n < length ws → n < length t
long_set ws t i z n p h = rw (p, length-set ws i z) h

pub same_set : (ws t : List ℤ) (i : ℕ) (z : ℤ) → t ≡ set ws i z → length t ≡ length ws
same_set ws t i z p = rw p (length-set ws i z)

pub copy_next : (old new next : List ℤ) (from to n k : ℕ) (h : Held) → Copying old new from to n k → k < n → to + n ≤ from → 3 * (from + n) ≤ length old
    → h ≡ entry_at new (from + k) → Small h → next ≡ put_entry new (to + k) h → Copying old next from to n (k + 1)
copy_next old new next from to n k h c l a b q s p = record {
  most = omega arith;
  is = rw p (record {
    long = put_long new (to + k) h ∙ c.is.long;
    same = λ i m. by i m;
    low = λ i m. put_other new (to + k) i h there (λ z. omega arith) ∙ c.is.low i m;
    high = λ i m. put_other new (to + k) i h there (λ z. omega arith) ∙ c.is.high i (omega arith);
  });
}
  where
    there : 3 * (to + k) + 2 < length new
    there = copy_to c l a b

    by : (i : ℕ) → i < k + 1 → entry_at (put_entry new (to + k) h) (to + i) ≡ entry_at old (from + i)
    by i m = by_place _ k i
        (λ z. rw (z, put_same new (to + k) h there s) (q ∙ c.is.high (from + k) (omega arith)))
        (λ z. put_other new (to + k) (to + i) h there (λ y. z (omega arith)) ∙ c.is.same i (omega arith))

pub ruleset own_rules = (rules, entry_read, entry_small, entry_put, long_put, long_set, copy_from, copy_to, copy_out, copy_none, copy_next, arith)
