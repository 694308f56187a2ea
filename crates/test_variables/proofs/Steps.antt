-- Test 3 by the word at the place, as the code asks it: each premise is a fact that a place of the code has at hand. Assumes nothing.
use mathlib.Core.Path.{◌≡◌, refl, sym, ◌∙◌, ap}
use mathlib.Core.Bool.{Bool, true, false, ◌&&◌, cond}
use mathlib.Core.List.{List}
use Prim.Native.Nat.{ℕ, zero, suc, ◌+◌, ◌*◌, ◌-◌, ◌<◌, ◌≤◌}
use native.Mathlib.Numerals.{add-one}
use native.Mathlib.Omega.{arith}
use borrow.Author.Rules.{rules}
use borrow.Author.Tests.{le-leb, lt-leb, le-ltb, ne_eqb, ltb-true}
use lib.Dec.{eqb, ltb}
use lib.ListN.{length, get_or, drop, drop_of_length-le}
use lib.Seq.{drop-cons, get_or-drop}
use lib.IntN.{ℤ, pos, negsuc}
use Rattle.rules.specs.Numbers.{same}
use Rattle.rules.specs.Variables.{is_next, is_left}
use Rattle.words.specs.Words.{tag_z, tag_at}
use Rattle.test_forms.specs.Ends.{within}
use Rattle.test_forms.specs.Table.{row_of, by_row}
use Rattle.test_forms.specs.Patterns.{width_in}
use Rattle.test_variables.specs.Variables.{allowed_at, allowed_tag, and_next, inside_after, vars_p, vars_of}
use Rattle.std.specs.Prelude.{Option, Some, None, Result, Ok, Err}
use Rattle.test_forms.specs.declared.table.Row.{Row}
use Rattle.test_forms.specs.declared.table.Row.TheVariants.{Known, Wide}
use Rattle.test_forms.proofs.table.Laws.{few_operands}
use Rattle.test_forms.proofs.pattern.Steps.{few_known, few_wide}

-- ---- An operand and its tag: a negative one has a tag that no number of variables reaches.

next_tag : (w : ℤ) (n : ℕ) → n ≤ 16 → is_next w n ≡ (eqb (tag_z w) n && ltb n 16)
unfolding is_next same
next_tag (pos v) n h = refl
next_tag (negsuc v) n h = rw (ne_eqb 2147483648 n (λ e. omega arith))

left_tag : (w : ℤ) (n : ℕ) → n ≤ 16 → is_left w n ≡ ltb (tag_z w) n
unfolding is_left
left_tag (pos v) n h = refl
left_tag (negsuc v) n h = rw (le-ltb 2147483648 n (omega arith))

allowed_tag_lem : (t : ℕ) (w : ℤ) (d n : ℕ) → n ≤ 16 → allowed_at t w d n ≡ allowed_tag t (tag_z w) d n
unfolding allowed_at allowed_tag
allowed_tag_lem t w d n h = rw (next_tag w n h, left_tag w n h)

-- ---- The walk by the word at the place.

module _ (s : List ℤ) (at : ℕ) (h : at < length s) where
  skips : (o n d : ℕ) → 0 < o → vars_p o n d at (drop at s) ≡ vars_p (o - 1) n d (at + 1) (drop (at + 1) s)
  unfolding vars_p
  skips zero n d q = absurd (omega arith)
  skips (suc o) n d q = let p : suc o - 1 ≡ o = omega arith in rw (p, add-one at, drop-cons s at (negsuc 0) h)

  module _ (t v : ℕ) (e : t ≡ tag_at s at) (g : v ≡ tag_at s (at + 1)) (o n d : ℕ) (q : o ≤ 0) (l : n ≤ 16) where
    operand : tag_z (get_or (drop (suc at) s) 0 (negsuc 0)) ≡ v
    unfolding tag_at
    operand =
        let z : suc at + 0 ≡ at + 1 = omega arith in
        ap tag_z (get_or-drop (suc at) s 0 (negsuc 0) ∙ ap (λ (k : ℕ). get_or s k (negsuc 0)) z) ∙ sym g

    by_allowed : (b : Bool) → allowed_tag t v d n ≡ b → allowed_at t (get_or (drop (suc at) s) 0 (negsuc 0)) d n ≡ b
    by_allowed b x = allowed_tag_lem t (get_or (drop (suc at) s) 0 (negsuc 0)) d n l ∙ rw operand x

    refused : allowed_tag t v d n ≡ false → vars_p o n d at (drop at s) ≡ Err at
    unfolding vars_p tag_at
    refused x = go o q
      where
        go : (k : ℕ) → k ≤ 0 → vars_p k n d at (drop at s) ≡ Err at
        go zero z = rw (drop-cons s at (negsuc 0) h, ← e, by_allowed false x)
        go (suc k) z = absurd (omega arith)

    -- By the row of the tag, where it may stand here.
    unfoldable next : Option Row → Result ℕ ℕ
    next row = by_row row (Err at) (λ a b. vars_p a (and_next t n) (inside_after t b d) (at + 1) (drop (at + 1) s))
        (cond (within 2 v 4) (vars_p 1 n (inside_after t v d) (at + 1) (drop (at + 1) s)) (Err (at + 1)))

    by_row_lem : allowed_tag t v d n ≡ true → (row : Option Row) → row ≡ row_of 0 t → vars_p o n d at (drop at s) ≡ next row
    unfolding vars_p tag_at width_in next
    by_row_lem y row x = go o q
      where
        go : (k : ℕ) → k ≤ 0 → vars_p k n d at (drop at s) ≡ next row
        go zero z = rw (x, drop-cons s at (negsuc 0) h, ← e, by_allowed true y, operand, add-one at)
        go (suc k) z = absurd (omega arith)

over : (s : List ℤ) (at o n d : ℕ) → length s ≤ at → vars_p o n d at (drop at s) ≡ Ok n
unfolding vars_p
over s at o n d h = rw (drop_of_length-le s h)

-- ---- The length.

pub ret_long : (s : List ℤ) → 256 < length s → Err 256 ≡ vars_of s
unfolding vars_of
ret_long s l = rw (lt-leb (length s) 256 l)

in_time : (s : List ℤ) (w : Result ℕ ℕ) → length s ≤ 256 → w ≡ vars_p 0 0 0 0 s → w ≡ vars_of s
unfolding vars_of
in_time s w l e = rw (le-leb (length s) 256 l) e

-- A variable that may stand here is not the seventeenth.
pub bound_next : (t v d n : ℕ) (b : Bool) → b ≡ allowed_tag t v d n → b ≡ true → t ≡ 1 → n + 1 ≤ 16
unfolding allowed_tag
bound_next t v d n b x y u = go (eqb d 0) (eqb v n) (ltb n 16) refl (sym y ∙ x ∙ rw u)
  where
    go : (a p r : Bool) → ltb n 16 ≡ r → true ≡ (a && (p && r)) → n + 1 ≤ 16
    go a p true z e = let m = ltb-true n 16 z in omega arith
    go true true false z e = let c : ◌≡◌ {A = ℕ} 0 1 = cc in absurd (omega arith)
    go true false false z e = let c : ◌≡◌ {A = ℕ} 0 1 = cc in absurd (omega arith)
    go false p false z e = let c : ◌≡◌ {A = ℕ} 0 1 = cc in absurd (omega arith)

-- ---- Bounds: each word adds at most four patterns inside an or or a not.

pub few_inside : (t b d r at : ℕ) → r ≡ inside_after t b d → b ≤ 4 → d ≤ 4 * at → r ≤ 4 * (at + 1)
unfolding inside_after
few_inside t b zero r at e l h = rw e (go (within 9 t 10))
  where
    go : (x : Bool) → cond x b 0 ≤ 4 * (at + 1)
    go true = omega arith
    go false = omega arith
few_inside t b (suc d) r at e l h = omega arith

pub room_inside : (s : List ℤ) (b d at : ℕ) → b ≤ 4 → d ≤ 4 * at → at < length s → length s ≤ 256 → d + b < 4294967296
room_inside s b d at l h k m = omega arith

-- ---- As the code asks: what is left to read decides, and each word adds at most four patterns inside an or or a not.

pub record Stands (s : List ℤ) (at o n d : ℕ) : Type 0 where
  pub rest : vars_p 0 0 0 0 s ≡ vars_p o n d at (drop at s)
  pub few : n ≤ 16
  pub operands : o ≤ 2
  pub inner : d ≤ 4 * at

module _ (s : List ℤ) (at o n d : ℕ) (i : Stands s at o n d) where
  pub ret_end : length s ≤ 256 → length s ≤ at → Ok n ≡ vars_of s
  ret_end m h = in_time s _ m (sym (i.rest ∙ over s at o n d h))

  pub turn_skip : at < length s → 0 < o → (a b c : ℕ) → a ≡ o - 1 → b ≡ n → c ≡ d → Stands s (at + 1) a b c
  turn_skip h q a b c x y z = record {
    rest = rw (x, y, z) (i.rest ∙ skips s at h o n d q);
    few = omega (arith, i.few);
    operands = omega (arith, i.operands);
    inner = omega (arith, i.inner);
  }

  module _ (h : at < length s) (t v : ℕ) (e : t ≡ tag_at s at) (g : v ≡ tag_at s (at + 1)) (q : o ≤ 0) (b : Bool) (x : b ≡ allowed_tag t v d n) where
    pub ret_refused : length s ≤ 256 → b ≡ false → Err at ≡ vars_of s
    ret_refused m y = in_time s _ m (sym (i.rest ∙ refused s at h t v e g o n d q i.few (sym x ∙ y)))

    module _ (y : b ≡ true) (row : Option Row) (j : row ≡ row_of 0 t) where
      told : vars_p 0 0 0 0 s ≡ next s at h t v e g o n d q i.few row
      told = i.rest ∙ by_row_lem s at h t v e g o n d q i.few (sym x ∙ y) row j

      pub ret_unknown : length s ≤ 256 → row ≡ None → Err at ≡ vars_of s
      unfolding by_row next
      ret_unknown m k = in_time s _ m (sym (told ∙ rw k))

      module _ (f : Bool) (k : row ≡ Some (Wide f)) (c : Bool) (u : c ≡ within 2 v 4) where
        pub ret_width : length s ≤ 256 → c ≡ false → Err (at + 1) ≡ vars_of s
        unfolding by_row next
        ret_width m z = in_time s _ m (sym (told ∙ rw (k, ← u, z)))

        pub turn_wide : c ≡ true → (r l p : ℕ) → l ≡ 1 → p ≡ n → r ≡ inside_after t v d → Stands s (at + 1) l p r
        unfolding by_row next
        turn_wide z r l p o' p' a = record {
          rest = rw (o', p', a) (told ∙ rw (k, ← u, z));
          few = omega (arith, i.few);
          operands = omega arith;
          inner = few_inside t v d r at a (few_wide v c u z) i.inner;
        }

      module _ (a c : ℕ) (f : Bool) (k : row ≡ Some (Known a c f)) (r l p : ℕ) (z : r ≡ inside_after t c d) (w : l ≡ a) where
        pub turn_variable : t ≡ 1 → p ≡ n + 1 → Stands s (at + 1) l p r
        unfolding by_row next and_next
        turn_variable u m = record {
          rest = rw (w, m, z) (told ∙ rw (k, u, add-one n));
          few = (let y = bound_next t v d n b x y u in omega arith);
          operands = (let y = few_operands 0 t row j a c f k in omega arith);
          inner = few_inside t c d r at z (few_known 0 t row j a c f k) i.inner;
        }

        pub turn_other : (t ≡ 1 → ⊥) → p ≡ n → Stands s (at + 1) l p r
        unfolding by_row next and_next
        turn_other u m = record {
          rest = rw (w, m, z) (told ∙ rw (k, ne_eqb t 1 u));
          few = omega (arith, i.few);
          operands = (let y = few_operands 0 t row j a c f k in omega arith);
          inner = few_inside t c d r at z (few_known 0 t row j a c f k) i.inner;
        }

pub stands_first : (s : List ℤ) → Stands s 0 0 0 0
stands_first s = record { rest = refl; few = omega arith; operands = omega arith; inner = omega arith }

-- ---- What is to come in an or or a not.

module _ (t b d : ℕ) where
  pub ret_opens : d ≡ 0 → (c : Bool) → c ≡ within 9 t 10 → c ≡ true → b ≡ inside_after t b d
  unfolding inside_after
  ret_opens e c x y = rw (e, ← x, y)

  pub ret_outside : d ≡ 0 → (c : Bool) → c ≡ within 9 t 10 → c ≡ false → 0 ≡ inside_after t b d
  unfolding inside_after
  ret_outside e c x y = rw (e, ← x, y)

  pub ret_inside : (d ≡ 0 → ⊥) → d - 1 + b ≡ inside_after t b d
  unfolding inside_after
  ret_inside h = go d h
    where
      go : (k : ℕ) → (k ≡ 0 → ⊥) → k - 1 + b ≡ inside_after t b k
      go zero z = absurd (z refl)
      go (suc k) z = let e : suc k - 1 ≡ k = omega arith in rw e

pub ruleset inside_rules = (ret_opens, ret_outside, ret_inside, rules)
