-- What is known of the target itself serves wherever a frame divides it, and else nothing is known. Assumes nothing.
use Prim.Native.Nat.{ℕ, ◌+◌}
use mathlib.Core.Path.{◌≡◌, refl}
use mathlib.Core.Bool.{Bool, true, false}
use mathlib.Core.List.{List}
use lib.Dec.{eqb}
use lib.IntN.{ℤ}
use borrow.Author.Rules.{rules}
use borrow.Author.Tests.{eq-eqb, ne_eqb, eqb-true}
use Rattle.search_atom.specs.Leaves.{when}
use Rattle.value_firsts.specs.Firsts.{Fresh}
use Rattle.value_firsts.proofs.Freshly.{fresh_none}
use Rattle.search.specs.Narrow.{fresh_at}

pub fresh_here : (i at f : ℕ) → i ≡ 0 → at ≡ 0 → f ≡ fresh_at i at f
unfolding fresh_at when
fresh_here i at f p q = rw (eq-eqb i 0 p, eq-eqb at 0 q)

pub fresh_elsewhere : (i at f : ℕ) → i ≡ 0 → (at ≡ 0 → ⊥) → 0 ≡ fresh_at i at f
unfolding fresh_at when
fresh_elsewhere i at f p q = rw (eq-eqb i 0 p, ne_eqb at 0 q)

pub fresh_otherwise : (i at f : ℕ) → (i ≡ 0 → ⊥) → 0 ≡ fresh_at i at f
unfolding fresh_at when
fresh_otherwise i at f p = rw (ne_eqb i 0 p)

pub ruleset fresh_at_rules = (fresh_here, fresh_elsewhere, fresh_otherwise, rules)

pub fresh_known : (mt : List ℤ) (s : List ℤ) (i at f k : ℕ) → Fresh mt 1 s 0 f → k ≡ fresh_at i at f → Fresh mt (i + 1) s at k
unfolding fresh_at when
fresh_known mt s i at f k h e = go (eqb i 0) refl (eqb at 0) refl e
  where
    go : (a : Bool) → eqb i 0 ≡ a → (b : Bool) → eqb at 0 ≡ b → k ≡ when a (when b f 0) 0 → Fresh mt (i + 1) s at k
    go true p true q z = rw (z, eqb-true i 0 p, eqb-true at 0 q) h
    go true p false q z = fresh_none mt (i + 1) s at k z
    go false p b q z = fresh_none mt (i + 1) s at k z
