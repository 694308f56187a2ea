-- Test 2 by the word at the place, as the code asks it: each premise is a fact that a place of the code has at hand. Assumes nothing.
use mathlib.Core.Path.{◌≡◌, refl, sym, ◌∙◌, ap}
use mathlib.Core.Bool.{Bool, true, false, cond}
use mathlib.Core.List.{List}
use Prim.Native.Nat.{ℕ, zero, suc, ◌+◌, ◌*◌, ◌-◌, ◌<◌, ◌≤◌}
use native.Mathlib.Numerals.{add-one}
use native.Mathlib.Omega.{arith}
use borrow.Author.Rules.{rules}
use borrow.Author.Tests.{le-leb, lt-leb, eq-eqb, ne_eqb}
use mir.Syntax.{w32}
use mir.Val.{Fits}
use lib.ListN.{length, get_or, drop, drop_of_length-le}
use lib.Seq.{drop-cons, get_or-drop}
use lib.IntN.{ℤ, negsuc}
use Rattle.std.specs.Prelude.{Result, Ok, Err, Option, Some, None}
use Rattle.rules.specs.Reading.{read_pattern}
use Rattle.words.specs.Words.{tag_z, tag_at}
use Rattle.test_forms.specs.Tests.{tested}
use Rattle.test_forms.specs.Ends.{within}
use Rattle.test_forms.specs.Table.{row_of, by_row}
use Rattle.test_forms.specs.Patterns.{width_in, reads_p, pattern_of}
use Rattle.test_forms.specs.declared.table.Row.{Row}
use Rattle.test_forms.specs.declared.table.Row.TheVariants.{Known, Wide}
use Rattle.test_forms.proofs.pattern.Walked.{read_is}
use Rattle.test_forms.proofs.Turns.{width_most}
use Rattle.test_forms.proofs.table.Laws.{few_operands, few_parts}

module _ (s : List ℤ) (at : ℕ) (h : at < length s) where
  skips : (o n : ℕ) → 0 < o → reads_p o n at (drop at s) ≡ reads_p (o - 1) n (at + 1) (drop (at + 1) s)
  unfolding reads_p
  skips zero n q = absurd (omega arith)
  skips (suc o) n q = let p : suc o - 1 ≡ o = omega arith in rw (p, drop-cons s at (negsuc 0) h, add-one at)

  spare : (o n : ℕ) → o ≤ 0 → n ≡ 0 → reads_p o n at (drop at s) ≡ Err at
  unfolding reads_p
  spare zero zero q r = rw (drop-cons s at (negsuc 0) h)
  spare zero (suc n) q r = absurd (omega arith)
  spare (suc o) n q r = absurd (omega arith)

  width_at_lem : width_in (drop (suc at) s) ≡ tag_at s (at + 1)
  unfolding width_in tag_at
  width_at_lem = let z : suc at + 0 ≡ at + 1 = omega arith in ap tag_z (get_or-drop (suc at) s 0 (negsuc 0) ∙ ap (λ (k : ℕ). get_or s k (negsuc 0)) z)

  -- By the row of the tag there.
  by_row_lem : (t : ℕ) → t ≡ tag_at s at → (row : Option Row) → row ≡ row_of 0 t → (o n : ℕ) → o ≤ 0 → (n ≡ 0 → ⊥) → reads_p o n at (drop at s)
      ≡ by_row row
      (Err at)
      (λ a b. reads_p a (n - 1 + b) (at + 1) (drop (at + 1) s))
      (cond (within 2 (tag_at s (at + 1)) 4) (reads_p 1 (n - 1 + tag_at s (at + 1)) (at + 1) (drop (at + 1) s)) (Err (at + 1)))
  unfolding reads_p tag_at
  by_row_lem t e row x zero zero q r = absurd (r refl)
  by_row_lem t e row x zero (suc n) q r =
      let p : suc n - 1 ≡ n = omega arith in rw (← width_at_lem, p, add-one at, x, e, drop-cons s at (negsuc 0) h)
  by_row_lem t e row x (suc o) n q r = absurd (omega arith)

module _ (s : List ℤ) (at : ℕ) (h : length s ≤ at) where
  ends : (o n : ℕ) → o + n ≡ 0 → reads_p o n at (drop at s) ≡ Ok tt
  unfolding reads_p
  ends o n q = rw (drop_of_length-le s h, eq-eqb (o + n) 0 q)

  short : (o n : ℕ) → (o + n ≡ 0 → ⊥) → reads_p o n at (drop at s) ≡ Err at
  unfolding reads_p
  short o n q = rw (drop_of_length-le s h, ne_eqb (o + n) 0 q)

-- ---- The whole test.

pub ret_long : (s : List ℤ) → 256 < length s → Err 256 ≡ tested (read_pattern s)
unfolding pattern_of
ret_long s l = sym (read_is s ∙ rw (lt-leb (length s) 256 l))

pub ret_walk : (s : List ℤ) (v : Result (Unit {0}) ℕ) → length s ≤ 256 → v ≡ reads_p 0 1 0 s → v ≡ tested (read_pattern s)
unfolding pattern_of
ret_walk s v l e = e ∙ sym (read_is s ∙ rw (le-leb (length s) 256 l))

pub ruleset whole_rules = (ret_long, ret_walk, rules)

-- ---- Returns.

module _ (v : Result (Unit {0}) ℕ) (s : List ℤ) (at o n : ℕ) (i : v ≡ reads_p o n at (drop at s)) where
  pub ret_spare : at < length s → o ≤ 0 → n ≡ 0 → Err at ≡ v
  ret_spare h q r = sym (i ∙ spare s at h o n q r)

  module _ (t : ℕ) (h : at < length s) (q : o ≤ 0) (r : n ≡ 0 → ⊥) (e : t ≡ tag_at s at) (row : Option Row) (x : row ≡ row_of 0 t) where
    pub ret_wrong : row ≡ None → Err at ≡ v
    unfolding by_row
    ret_wrong g = sym (i ∙ by_row_lem s at h t e row x o n q r ∙ rw g)

    pub ret_width : (f : Bool) → row ≡ Some (Wide f) → (k : ℕ) → k ≡ tag_at s (at + 1) → (b : Bool) → b ≡ within 2 k 4 → b ≡ false
        → Err (at + 1) ≡ v
    unfolding by_row
    ret_width f g k w b y z = sym (i ∙ by_row_lem s at h t e row x o n q r ∙ rw (g, ← w, ← y, z))

  pub ret_whole : length s ≤ at → o + n ≡ 0 → Ok tt ≡ v
  ret_whole h q = sym (i ∙ ends s at h o n q)

  pub ret_short : length s ≤ at → at ≤ length s → (o + n ≡ 0 → ⊥) → Err (length s) ≡ v
  ret_short h l q = let e : length s ≡ at = omega arith in rw e (sym (i ∙ short s at h o n q))

pub ruleset own_rules = (ret_spare, ret_wrong, ret_width, ret_whole, ret_short, rules)

-- ---- Turns: what is left to read decides, and each word adds at most three patterns to come.

abbrev pub Stands : List ℤ → (at o n : ℕ) → Type 0
Stands s at o n = (reads_p 0 1 0 s ≡ reads_p o n at (drop at s)) × (n ≤ 3 * at + 1) × (o ≤ 2)

module _ (s : List ℤ) (at o n : ℕ) (i : Stands s at o n) (h : at < length s) (a b : ℕ) where
  pub turn_skip : 0 < o → a ≡ o - 1 → b ≡ n → Stands s (at + 1) a b
  turn_skip q e f = (rw (e, f) (i.0 ∙ skips s at h o n q), omega arith, omega arith)

  module _ (t : ℕ) (q : o ≤ 0) (r : n ≡ 0 → ⊥) (e : t ≡ tag_at s at) (row : Option Row) (x : row ≡ row_of 0 t) where
    pub turn_known : (operands parts : ℕ) (f : Bool) → row ≡ Some (Known operands parts f) → a ≡ operands → b ≡ n - 1 + parts → Stands s (at + 1) a b
    unfolding by_row
    turn_known operands parts f g y z =
        let l = few_operands 0 t row x operands parts f g in
        let m = few_parts 0 t row x operands parts f g in
        (rw (y, z) (i.0 ∙ by_row_lem s at h t e row x o n q r ∙ rw g), omega arith, omega arith)

    pub turn_wide : (f : Bool) → row ≡ Some (Wide f) → (k : ℕ) → k ≡ tag_at s (at + 1) → (w : Bool) → w ≡ within 2 k 4 → w ≡ true
        → a ≡ 1 → b ≡ n - 1 + k → Stands s (at + 1) a b
    unfolding by_row
    turn_wide f g k u w v d y z =
        let m = (width_most k (sym v ∙ d)).1 in
        (rw (y, z) (i.0 ∙ by_row_lem s at h t e row x o n q r ∙ rw (g, ← u, ← v, d)), omega arith, omega arith)

-- ---- Bounds.

pub fits_need : (s : List ℤ) (n b at : ℕ) → b ≤ 4 → n ≤ 3 * at + 1 → at < length s → length s ≤ 256 → Fits w32 (n - 1 + b)
fits_need s n b at l h k m = record { fits = omega arith }

pub few_known : (m t : ℕ) (row : Option Row) → row ≡ row_of m t → (a b : ℕ) (f : Bool) → row ≡ Some (Known a b f) → b ≤ 4
few_known m t row x a b f g = let l = few_parts m t row x a b f g in omega arith

pub few_wide : (k : ℕ) (b : Bool) → b ≡ within 2 k 4 → b ≡ true → k ≤ 4
few_wide k b y z = (width_most k (sym y ∙ z)).1
