-- The size of the table and of a state, as the code asks for it.
use Prim.Native.Nat.{ℕ, ◌+◌, ◌/◌, ◌≤◌, ◌<◌}
use native.Mathlib.Omega.{arith}
use native.Mathlib.Nat.{min-eq_left, min-eq_right}
use borrow.Author.Tests.{ltb-true, ltb-false}
use mathlib.Core.Path.{◌≡◌, refl, sym, ap, ◌∙◌}
use mathlib.Core.Bool.{Bool, true, false}
use mathlib.Core.List.{List}
use lib.ListN.{get_or}
use lib.Dec.{ltb}
use Rattle.round_rules.specs.Rounds.{limit_of, states_in}
use Rattle.round_run.specs.Sizes.{Numbered}

pub limit_most : (words n : ℕ) → n ≡ words / 825 → 256 < n → 256 ≡ limit_of (states_in 825 words)
unfolding limit_of states_in
limit_most words n p h = sym (min-eq_left (let z = p in omega arith))

pub limit_table : (words n : ℕ) → n ≡ words / 825 → n ≤ 256 → n ≡ limit_of (states_in 825 words)
unfolding limit_of states_in
limit_table words n p h = p ∙ sym (min-eq_right (let z = p in omega arith))

pub scan_none : (arg : List ℕ) → Numbered arg 0 16
scan_none arg = record { lines = λ i h. absurd (omega arith); variables = omega arith; most = omega arith }

pub scan_next : (arg : List ℕ) (pc u a v : ℕ) → Numbered arg pc u → a ≡ get_or arg pc 0 → u ≤ v → a < v → v ≤ 272 → Numbered arg (pc + 1) v
scan_next arg pc u a v n q l m k = record {
  lines = λ i h. go i h (ltb i pc) (ltb-true i pc) (ltb-false i pc);
  variables = let z = n.variables in omega arith;
  most = k;
}
  where
    go : (i : ℕ) → i < pc + 1 → (b : Bool) → (b ≡ true → i < pc) → (b ≡ false → pc ≤ i) → get_or arg i 0 < v
    go i h true f g = let z = n.lines i (f refl) in omega arith
    go i h false f g = let y = g refl in let e : i ≡ pc = omega arith in let z = ap (λ j. get_or arg j 0) e in omega arith

pub scan_below : (arg : List ℕ) (pc u a : ℕ) → Numbered arg pc u → ((i : ℕ) → get_or arg i 0 < 272) → a ≡ get_or arg pc 0 → a < 272
scan_below arg pc u a n f q = let z = f pc in omega arith

pub scan_all : (arg : List ℕ) (pc u : ℕ) → Numbered arg pc u → 650 ≤ pc → Numbered arg 650 u
scan_all arg pc u n h = record { lines = λ i l. n.lines i (omega arith); variables = n.variables; most = n.most }
