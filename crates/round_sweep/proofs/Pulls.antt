-- Lists moved to earlier places, as the code asks for it.
use Prim.Native.Nat.{ℕ, suc, ◌+◌, ◌-◌, ◌*◌, ◌≤◌, ◌<◌}
use native.Mathlib.Omega.{arith}
use borrow.Author.Rules.{rules}
use borrow.Author.Tests.{eqb-true, eqb-false}
use mathlib.Core.Path.{◌≡◌, refl, sym, ap, ◌∙◌}
use mathlib.Core.Bool.{Bool, true, false}
use mathlib.Core.List.{List}
use lib.ListN.{length}
use lib.Dec.{eqb}
use lib.IntN.{ℤ}
use Rattle.round_table.specs.Entries.{entry_at, Copied}
use Rattle.round_sweep.specs.Pulls.{Pulled}

-- k lists are moved, and what stands behind them is as it was.
pub record Pulling (old new : List ℤ) (many fresh left used k : ℕ) : Type 0 where
  pub most : k ≤ left
  pub is : Pulled old new many fresh k used
  pub high : (j : ℕ) → 275 * (fresh + k) ≤ j → entry_at new j ≡ entry_at old j

pub pull_same : (t : List ℤ) (many fresh left used : ℕ) → fresh ≡ many → Pulled t t many fresh left used
pull_same t many fresh left used h = record { long = refl; low = λ k l. refl; moved = λ q k l m. ap (λ n. entry_at t (275 * (n + q) + k)) h }

pub pull_none : (t : List ℤ) (many fresh left used : ℕ) → Pulling t t many fresh left used 0
pull_none t many fresh left used = record { most = omega arith; is = record { long = refl; low = λ k l. refl; moved = λ q k l m. absurd (omega arith) }; high = λ j h. refl }

module _ {old new : List ℤ} {many fresh left used k : ℕ} (P : Pulling old new many fresh left used k) where
  pub pull_apart : fresh ≤ many → (fresh ≡ many → ⊥) → used ≤ 272 → (fresh + k) * 275 + (3 + used) ≤ (many + k) * 275
  pull_apart a b c = omega arith

  pub pull_there : k < left → used ≤ 272 → 825 * (many + left) ≤ length old → 3 * ((many + k) * 275 + (3 + used)) ≤ length new
  pull_there a b c = let l = P.is.long in omega arith

  pub pull_out : left ≤ k → Pulled old new many fresh left used
  pull_out h = let m = P.most in let e : k ≡ left = omega arith in rw (sym e) P.is

  pub pull_long : length new ≡ length old
  pull_long = P.is.long

  pub pull_next : k < left → fresh ≤ many → (fresh ≡ many → ⊥) → used ≤ 272 → (next : List ℤ) → Copied new next ((many + k) * 275) ((fresh + k) * 275) (3 + used) → Pulling old next many fresh left used (k + 1)
  pull_next l a b u next c = record {
    most = omega arith;
    is = record {
      long = c.long ∙ P.is.long;
      low = λ j h. c.low j (omega arith) ∙ P.is.low j h;
      moved = λ q j h m. go q j h m (eqb q k) (eqb-true q k) (eqb-false q k);
    };
    high = λ j h. c.high j (omega arith) ∙ P.high j (omega arith);
  }
    where
      go : (q j : ℕ) → q < k + 1 → j < 3 + used → (t : Bool) → (t ≡ true → q ≡ k) → (t ≡ false → q ≡ k → ⊥) → entry_at next (275 * (fresh + q) + j) ≡ entry_at old (275 * (many + q) + j)
      go q j h m true f g =
          let e = f refl in
          let x : 275 * (fresh + q) + j ≡ (fresh + k) * 275 + j = omega arith in
          let y : (many + k) * 275 + j ≡ 275 * (many + q) + j = omega arith in
          ap (entry_at next) x ∙ c.same j m ∙ ap (entry_at new) y ∙ P.high (275 * (many + q) + j) (omega arith)
      go q j h m false f g = let n = g refl in let z : q < k = lower n in c.low (275 * (fresh + q) + j) (omega arith) ∙ P.is.moved q j z m
        where
          lower : (q ≡ k → ⊥) → q < k
          lower n = omega arith

pub ruleset own_rules = (rules, pull_same, pull_none, pull_apart, pull_there, pull_out, pull_long, pull_next, arith)
