-- The scan line by line, as the code asks for it. Assumes nothing.
use Prim.Native.Nat.{ℕ, suc, ◌+◌, ◌-◌, ◌≤◌, ◌<◌}
use native.Mathlib.Omega.{arith}
use mathlib.Core.Path.{◌≡◌, sym, ◌∙◌}
use mathlib.Core.Bool.{Bool, true, false, cond}
use mathlib.Core.List.{List}
use lib.Dec.{eqb}
use lib.ListN.{get_or}
use borrow.Author.Tests.{eq-eqb, ne_eqb}
use borrow.Author.Rules.{rules}
use Rattle.words.specs.Words.{entries}
use Rattle.review_count.specs.Scan.{line_fails, none_from}

-- ---- The lines.

line : (pc : ℕ) (op : List ℕ) → pc < entries
    → none_from op pc (entries - pc) ≡ cond (eqb (get_or op pc 0) 0) true (cond (line_fails (get_or op pc 0)) false (none_from op (pc + 1) (entries - (pc + 1))))
unfolding none_from
line pc op h = let q : entries - pc ≡ suc (entries - (pc + 1)) = omega arith in rw q

module _ (n : Bool) (pc : ℕ) (op : List ℕ) (i : n ≡ none_from op pc (entries - pc)) where
  pub out : entries ≤ pc → true ≡ n
  unfolding none_from
  out h = let z : entries - pc ≡ 0 = omega arith in sym (i ∙ rw z)

  module _ (o : ℕ) (y : o ≡ get_or op pc 0) where
    here : pc < entries → n ≡ cond (eqb o 0) true (cond (line_fails o) false (none_from op (pc + 1) (entries - (pc + 1))))
    here h = i ∙ rw (← y) at (line pc op h)

    pub at_end : pc < entries → o ≡ 0 → true ≡ n
    at_end h q = sym (here h ∙ rw (eq-eqb o 0 q))

    module _ (b : Bool) (e : b ≡ line_fails o) where
      pub fails : pc < entries → (o ≡ 0 → ⊥) → b ≡ true → false ≡ n
      fails h q t = let f : line_fails o ≡ true = sym e ∙ t in sym (here h ∙ rw (ne_eqb o 0 q, f))

      pub turn : pc < entries → (o ≡ 0 → ⊥) → b ≡ false → n ≡ none_from op (pc + 1) (entries - (pc + 1))
      turn h q t = let f : line_fails o ≡ false = sym e ∙ t in here h ∙ rw (ne_eqb o 0 q, f)

pub ruleset own_rules = (out, at_end, fails, turn, rules)
