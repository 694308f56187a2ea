-- What stops a run, by how it stands, and its number. Assumes nothing.
use Prim.Native.Nat.{ℕ}
use mathlib.Core.Path.{◌≡◌, refl}
use mathlib.Core.Bool.{Bool, true, false, cond}
use lib.Dec.{eqb}
use borrow.Author.Rules.{rules}
use Rattle.std.specs.Prelude.{Some, None}
use borrow.Author.Tests.{ne_eqb}
use Rattle.search_atom.specs.Leaves.{when}
use Rattle.search.specs.Run.{answer_of}
use Rattle.search.specs.Stops.{number_of, stop_of}
use Rattle.search.specs.declared.stop.Stop.TheVariants.{Budget, Room}

pub stop_full : (n : ℕ) → n ≡ 3 → Some Room ≡ stop_of n
unfolding stop_of
stop_full n h = rw h refl

pub stop_done : (n : ℕ) → n ≡ 0 → None ≡ stop_of n
unfolding stop_of
stop_done n h = rw h refl

pub stop_spent : (n : ℕ) → (n ≡ 3 → ⊥) → (n ≡ 0 → ⊥) → Some Budget ≡ stop_of n
unfolding stop_of
stop_spent n a b = rw (ne_eqb n 3 a, ne_eqb n 0 b) refl

pub ruleset stop_rules = (stop_full, stop_done, stop_spent, rules)

-- Its number is the answer.
pub stop_number : (n : ℕ) → number_of (stop_of n) ≡ answer_of n
unfolding stop_of answer_of when
stop_number n = go (eqb n 3) (eqb n 0)
  where
    go : (a b : Bool) → number_of (cond a (Some Room) (cond b None (Some Budget))) ≡ when a 8 (when b 0 7)
    go true b = refl
    go false true = refl
    go false false = refl
