-- The rows of the tag table, one by one. Assumes nothing.
use mathlib.Core.Path.{◌≡◌, refl, sym, ◌∙◌}
use mathlib.Core.Bool.{Bool}
use mathlib.Core.List.{List, [], ◌∷◌}
use mathlib.Core.Option.{Option, none, some}
use Prim.Native.Nat.{ℕ, zero, suc, ◌≤◌}
use native.Mathlib.Omega.{arith}
use borrow.Author.Tests.{le-ltb, lt-leb}
use lib.ListN.{get_elem?}
use Rattle.std.specs.Prelude.{Result, Ok, Err, Some, None, ok_or}
use Rattle.std.specs.Prelude as code
use Rattle.rules.specs.Reading.{PatternTag, alone, operand, operands, inner, parts, wide, matcher_tags, pattern_tags}
use Rattle.test_forms.specs.Ends.{within}
use Rattle.test_forms.specs.Table.{row_of, taken_of, taken_in, row_in}
use Rattle.test_forms.specs.declared.table.Row.{Row}
use Rattle.test_forms.specs.declared.table.Row.TheVariants.{Known, Wide}
use Rattle.test_forms.proofs.Known.{past}

-- Two tests of a matcher's tag that agree on the five tags and on every other number.
agree : (f g : ℕ → Bool) → f 0 ≡ g 0 → f 1 ≡ g 1 → f 2 ≡ g 2 → f 3 ≡ g 3 → f 4 ≡ g 4 → ((m : ℕ) → 5 ≤ m → f m ≡ g m) → (m : ℕ) → f m ≡ g m
agree f g a b c d e h zero = a
agree f g a b c d e h (suc zero) = b
agree f g a b c d e h (suc (suc zero)) = c
agree f g a b c d e h (suc (suc (suc zero))) = d
agree f g a b c d e h (suc (suc (suc (suc zero)))) = e
agree f g a b c d e h (suc (suc (suc (suc (suc m))))) = h (suc (suc (suc (suc (suc m))))) (omega arith)

none_above : (low high m t : ℕ) → low ≤ 4 → high ≤ 4 → 5 ≤ m → within low m high ≡ taken_of m t
unfolding within taken_of taken_in matcher_tags
none_above low high m t l h g = rw (le-ltb m low (omega arith), lt-leb m high (omega arith), past (matcher_tags 4) m g)

unfoldable pub five : (ℕ → Bool) → List Bool
five f = f 0 ∷ f 1 ∷ f 2 ∷ f 3 ∷ f 4 ∷ []

-- A row of the table, whose matcher tags are those from low to high.
pub row_is : (m : ℕ) (b : Bool) (t low high : ℕ) → low ≤ 4 → high ≤ 4 → five (λ k. within low k high) ≡ five (λ k. taken_of k t) → b ≡ within low m high
    → row_in (get_elem? pattern_tags t) b ≡ row_of m t
unfolding row_of five
row_is m b t low high l h p e = rw (e ∙ agree (λ k. within low k high) (λ k. taken_of k t) (cc) (cc) (cc) (cc) (cc) (λ k. none_above low high k t l h) m)

-- The same of a row that has no width, as the code has it.
pub row_at : (m t : ℕ) (row : ℕ × ℕ × ℕ × ℕ) (b : Bool) → b ≡ within row.2 m row.3 → (k o p low high : ℕ) → t ≡ k → row ≡ (o, p, low, high)
    → low ≤ 4 → high ≤ 4 → five (λ n. within low n high) ≡ five (λ n. taken_of n k)
    → ((f : Bool) → Some (Known o p f) ≡ row_in (get_elem? pattern_tags k) f) → Some (Known row.0 row.1 b) ≡ row_of m t
row_at m t row b e k o p low high q r l h same known =
    let z : b ≡ within low m high = rw r at e in
    rw (q, r) (known b ∙ row_is m b k low high l h same z)

-- The numbers that are no tag.
pub row_none : (m t : ℕ) → 11 ≤ t → None ≡ row_of m t
unfolding row_of row_in pattern_tags
row_none m t h = rw (past pattern_tags t h)

-- What `ok_or` hands on.
pub told_row : {T : Type 0} (o : code.Option T) (i : ℕ) (r : Result T ℕ) → r ≡ ok_or o i → (x : T) → r ≡ Ok x → (k : T) → x ≡ k → o ≡ Some k
told_row None i r e x w k q = cc
told_row (Some y) i r e x w k q = cc

pub told_none : {T : Type 0} (o : code.Option T) (i : ℕ) (r : Result T ℕ) → r ≡ ok_or o i → (j : ℕ) → r ≡ Err j → (o ≡ None) × (j ≡ i)
told_none None i r e j w = (refl, cc)
told_none (Some y) i r e j w = (cc, cc)

-- No tag has more than two operands or, with no width, more than two parts.
Few : code.Option Row → Type 0
Few None = Unit {0}
Few (Some (Known o b f)) = (o ≤ 2) × (b ≤ 2)
Few (Some (Wide f)) = Unit {0}

few : (m t : ℕ) → Few (row_of m t)
unfolding row_of row_in Few
few m t = go (get_elem? pattern_tags t) (taken_of m t)
  where
    go : (x : Option PatternTag) (f : Bool) → Few (row_in x f)
    go none f = tt
    go (some (alone p)) f = (omega arith, omega arith)
    go (some (operand g)) f = (omega arith, omega arith)
    go (some (operands g)) f = (omega arith, omega arith)
    go (some (inner g)) f = (omega arith, omega arith)
    go (some (parts g)) f = (omega arith, omega arith)
    go (some (wide g)) f = tt

module _ (m t : ℕ) (row : code.Option Row) (x : row ≡ row_of m t) (o b : ℕ) (f : Bool) (g : row ≡ Some (Known o b f)) where
  fews : (o ≤ 2) × (b ≤ 2)
  unfolding Few
  fews = let h = few m t in rw (sym x ∙ g) at h

  pub few_operands : o ≤ 2
  few_operands = fews.0

  pub few_parts : b ≤ 2
  few_parts = fews.1
