-- The definitions by the tests of the code. Assumes nothing.
use Prim.Native.Nat.{ℕ, zero, suc, ◌+◌, ◌-◌, ◌%◌, ◌^◌, ◌<◌, ◌≤◌}
use native.Mathlib.Decide.{dec_lt}
use mathlib.Core.Path.{◌≡◌, refl, sym, ap, ◌∙◌}
use mathlib.Core.Bool.{Bool, true, false, cond}
use mathlib.Core.List.{List, [], ◌∷◌}
use native.Mathlib.Omega.{arith}
use borrow.Author.Rules.{rules}
use borrow.Author.Tests.{ne_eqb, lt-ltb, le-ltb, eq-eqb}
use lib.Dec.{eqb, ltb}
use lib.ListN.{length, get_or, drop, set, length-drop, drop_of_length-le, get_or-eq_default}
use lib.Seq.{get_or-drop, map-set_same}
use lib.IntN.{ℤ, pos, negsuc}
use mir.Syntax.{w8}
use mir.Val.{Fits}
use Rattle.words.specs.Words.{tag_z, tag_at}
use Rattle.matchers.specs.Places.{width_of, parts_by, spans, spans_wide, matcher_end}
use Rattle.program_rules.specs.Lines.{ops_under, op_of, operands_of, beyond_two, reserved_by, arg_of, con_of, first_under, second_under}
use Rattle.program_rules.specs.Made.{cond_le}
use Rattle.program_rules.specs.Stack.{stack, popped}
use Rattle.program_parts.specs.declared.Part.{Part}
use Rattle.program_parts.specs.declared.Parts.{Parts}
use Rattle.program_parts.specs.Parts.{no_part, unders, slots, behinds, stack_of, pushed, Ended}
use Rattle.std.specs.Prelude.{Some, None}
use Rattle.std.proofs.Math.ListN.{get_or-map}
use Rattle.std.proofs.lemmas.List.{map-set}

-- ---- Tables.

pub op_none : (t k : ℕ) → (t ≡ 0 → ⊥) → (t ≡ 1 → ⊥) → (t ≡ 2 → ⊥) → (t ≡ 3 → ⊥) → (t ≡ 4 → ⊥) → (t ≡ 5 → ⊥) → (t ≡ 6 → ⊥) → (t ≡ 7 → ⊥) → (t ≡ 8 → ⊥) → (t ≡ 9 → ⊥) → (t ≡ 10 → ⊥) → 0 ≡ op_of t k
unfolding op_of ops_under
op_none zero k a b c d e f g h i j l = absurd (a refl)
op_none (suc zero) k a b c d e f g h i j l = absurd (b refl)
op_none (suc (suc zero)) k a b c d e f g h i j l = absurd (c refl)
op_none (suc (suc (suc zero))) k a b c d e f g h i j l = absurd (d refl)
op_none (suc (suc (suc (suc zero)))) k a b c d e f g h i j l = absurd (e refl)
op_none (suc (suc (suc (suc (suc zero))))) k a b c d e f g h i j l = absurd (f refl)
op_none (suc (suc (suc (suc (suc (suc zero)))))) k a b c d e f g h i j l = absurd (g refl)
op_none (suc (suc (suc (suc (suc (suc (suc zero))))))) k a b c d e f g h i j l = absurd (h refl)
op_none (suc (suc (suc (suc (suc (suc (suc (suc zero)))))))) k a b c d e f g h i j l = absurd (i refl)
op_none (suc (suc (suc (suc (suc (suc (suc (suc (suc zero))))))))) k a b c d e f g h i j l = absurd (j refl)
op_none (suc (suc (suc (suc (suc (suc (suc (suc (suc (suc zero)))))))))) k a b c d e f g h i j l = absurd (l refl)
op_none (suc (suc (suc (suc (suc (suc (suc (suc (suc (suc (suc t))))))))))) k a b c d e f g h i j l = refl

-- ---- Operands, read at an index.

pub tag_drop : (p : List ℤ) (at i x : ℕ) → at + i ≡ x → tag_at (drop at p) i ≡ tag_at p x
unfolding tag_at
tag_drop p at i x e = ap tag_z (get_or-drop at p i (negsuc 0) ∙ ap (λ b. get_or p b (negsuc 0)) e)

pub word_none : (p : List ℤ) (at : ℕ) → length p ≤ at → pos 0 ≡ get_or p at (pos 0)
word_none p at h = sym (get_or-eq_default p (pos 0) h)

pub arg_none : (n : ℕ) (ws : List ℤ) → n ≡ 0 → 0 ≡ arg_of n ws
unfolding arg_of
arg_none n ws e = rw e

pub arg_some : (p : List ℤ) (at n t : ℕ) → (n ≡ 0 → ⊥) → t ≡ tag_at p at → t % 16 ≡ arg_of n (drop at p)
unfolding arg_of
arg_some p at n t h e = rw (ne_eqb n 0 h, tag_drop p at 0 at (omega arith), e)

pub con_none : (n : ℕ) (ws : List ℤ) → n ≡ 0 → pos 0 ≡ con_of n ws
unfolding con_of
con_none n ws e = rw e

pub con_some : (p : List ℤ) (at n : ℕ) (z : ℤ) → (n ≡ 0 → ⊥) → z ≡ get_or p (at + (n - 1)) (pos 0) → z ≡ con_of n (drop at p)
unfolding con_of
con_some p at n z h e = rw (ne_eqb n 0 h) (e ∙ sym (get_or-drop at p (n - 1) (pos 0)))

pub ruleset operand_rules = (word_none, arg_none, arg_some, con_none, con_some, rules)

pub operands_le : (o : ℕ) → operands_of o ≤ 2
unfolding operands_of
operands_le o =
    cond_le (eqb o 11) _ _ (omega arith) (cond_le (ltb o 3) _ _ (omega arith) (cond_le (ltb o 5) _ _ (omega arith) (cond_le (ltb o 7) _ _ (omega arith) (omega arith))))

-- ---- Tuples.

pub reserved_tuple : (p : List ℤ) (at o k r : ℕ) → o ≡ 11 → k ≡ tag_at p at → r ≡ beyond_two k → r ≡ reserved_by o (drop at p)
unfolding reserved_by
reserved_tuple p at o k r z e h = h ∙ rw (z, e, tag_drop p at 0 at (omega arith))

pub reserved_other : (o : ℕ) (ws : List ℤ) → (o ≡ 11 → ⊥) → 0 ≡ reserved_by o ws
unfolding reserved_by
reserved_other o ws h = rw (ne_eqb o 11 h)

pub ruleset reserved_rules = (reserved_tuple, reserved_other, rules)

either_le : (b : Bool) (x y m : ℕ) → x ≤ m → y ≤ m → elim b as (λ _. ℕ) [ true ↦ x | false ↦ y ] ≤ m
either_le true x y m p q = p
either_le false x y m p q = q

mutual
  unfolding spans

  spans_le : (ws : List ℤ) (n : ℕ) → spans ws n ≤ length ws + 1
  spans_le [] n = omega arith
  spans_le (t ∷ ws) zero = omega arith
  spans_le (t ∷ ws) (suc n) =
      either_le (eqb (tag_z t) 4) (2 + spans_wide ws n) (1 + spans ws (parts_by (tag_z t) 0 + n)) _
      (let h = wide_le ws n in omega arith) (let h = spans_le ws (parts_by (tag_z t) 0 + n) in omega arith)

  wide_le : (ws : List ℤ) (n : ℕ) → spans_wide ws n ≤ length ws
  wide_le [] n = omega arith
  wide_le (k ∷ ws) n = let h = spans_le ws (width_of (tag_z k) + n) in omega arith

-- The index of a matcher's end is a byte.
end_byte : (ms : List ℤ) (i : ℕ) → length ms ≤ 64 → i < 256 → matcher_end ms i < 256
unfolding matcher_end
end_byte ms i l h = go (dec_lt i (length ms))
  where
    go : Dec (i < length ms) → i + spans (drop i ms) 1 < 256
    go (yes a) = let b = spans_le (drop i ms) 1 in let c = length-drop i ms in omega arith
    go (no a) = let b : length ms ≤ i = omega arith in let c : spans (drop i ms) 1 ≡ 0 = rw (drop_of_length-le ms b) in omega arith

pub end_fits : (ms : List ℤ) (i j e : ℕ) → length ms ≤ 64 → i < 2 ^ 8 → j ≡ i → e ≡ matcher_end ms j → e < 2 ^ 8
end_fits ms i j e l h z q = let b = end_byte ms i l h in rw (q, z) b

pub end_is : (ms : List ℤ) (i j e : ℕ) → j ≡ i → e ≡ matcher_end ms j → e ≡ matcher_end ms i
end_is ms i j e z q = q ∙ ap (matcher_end ms) z

pub ruleset end_rules = (end_fits, end_is, rules)

-- ---- The matchers of parts.

pub under_high : (o i : ℕ) → 13 < o → i ≡ first_under o i
unfolding first_under
under_high o i h = rw (lt-ltb 13 o h)

pub under_join : (o i : ℕ) → o ≡ 10 → i ≡ first_under o i
unfolding first_under
under_join o i e = rw e

pub under_tuple : (o i : ℕ) → o ≡ 11 → i + 2 ≡ first_under o i
unfolding first_under
under_tuple o i e = rw e

pub under_cons : (o i : ℕ) → o ≤ 13 → (o ≡ 10 → ⊥) → (o ≡ 11 → ⊥) → i + 1 ≡ first_under o i
unfolding first_under
under_cons o i y h l = rw (le-ltb 13 o y, ne_eqb o 10 h, ne_eqb o 11 l)

pub under_fits : (o i : ℕ) → o ≤ 13 → (o ≡ 10 → ⊥) → ((o ≡ 10 → ⊥) → o ≤ 13 → i + 2 < 256) → Fits w8 (i + 1)
under_fits o i y h l = let b = l h y in record { fits = omega arith }

pub under_two : (o i : ℕ) → o ≡ 11 → ((o ≡ 10 → ⊥) → o ≤ 13 → i + 2 < 256) → Fits w8 (i + 2)
under_two o i e l = let b = l (λ z. omega arith) (omega arith) in record { fits = omega arith }

pub second_tuple : (ms : List ℤ) (o i r : ℕ) → o ≡ 11 → r ≡ matcher_end ms (i + 2) → r ≡ second_under ms o i
unfolding second_under
second_tuple ms o i r e h = h ∙ rw e

pub second_other : (ms : List ℤ) (o i : ℕ) → (o ≡ 11 → ⊥) → i ≡ second_under ms o i
unfolding second_under
second_other ms o i h = rw (ne_eqb o 11 h)

pub ruleset under_rules = (under_high, under_join, under_tuple, under_cons, under_fits, under_two, second_tuple, second_other, rules)

-- ---- The stack.

pop_last : (ms : List ℤ) (u s n : List ℕ) (d : ℕ) → get_or n d 0 ≡ 0 → stack u s n (d - 1) ≡ popped ms (stack u s n d)
unfolding popped
pop_last ms u s n d e = rw e

pop_else : (ms : List ℤ) (u s n : List ℕ) (d : ℕ) → get_or n d 0 ≡ 3 → stack u s (set n d 4) d ≡ popped ms (stack u s n d)
unfolding popped
pop_else ms u s n d e = rw e

pop_next : (ms : List ℤ) (u s n : List ℕ) (d i : ℕ) → (get_or n d 0 ≡ 0 → ⊥) → (get_or n d 0 ≡ 3 → ⊥) → i ≡ matcher_end ms (get_or u d 0)
    → stack (set u d i) (set s d (get_or s d 0 + 1)) (set n d (get_or n d 0 - 1)) d ≡ popped ms (stack u s n d)
unfolding popped
pop_next ms u s n d i h g e = rw (ne_eqb (get_or n d 0) 0 h, ne_eqb (get_or n d 0) 3 g, e)

module _ (w : Parts) where
  abbrev d : ℕ
  d = w.depth

  abbrev on_top : Part
  on_top = get_or w.waiting w.depth no_part

  slot_is : get_or (slots w.waiting) d 0 ≡ on_top.slot
  slot_is = get_or-map (λ (p : Part). p.slot) w.waiting d no_part

  under_is : get_or (unders w.waiting) d 0 ≡ on_top.under
  under_is = get_or-map (λ (p : Part). p.under) w.waiting d no_part

  behind_is : get_or (behinds w.waiting) d 0 ≡ on_top.behind
  behind_is = get_or-map (λ (p : Part). p.behind) w.waiting d no_part

  pub push_is : (p : Part) → stack_of (record { waiting = set w.waiting (d + 1) p; depth = d + 1 }) ≡ pushed p (stack_of w)
  push_is p i = stack
      (map-set (λ (q : Part). q.under) w.waiting (d + 1) p i)
      (map-set (λ (q : Part). q.slot) w.waiting (d + 1) p i)
      (map-set (λ (q : Part). q.behind) w.waiting (d + 1) p i)
      (d + 1)

  pub end_low : get_or (behinds w.waiting) 0 0 ≡ 0 → 3 < on_top.behind → 1 ≤ d
  end_low e h = go d (rw behind_is h)
    where
      go : (k : ℕ) → 3 < get_or (behinds w.waiting) k 0 → 1 ≤ k
      go zero g = absurd (omega arith)
      go (suc k) g = omega arith

  pub end_none : on_top.behind ≤ 3 → Ended (stack_of w) None (stack_of w)
  end_none h = (rw behind_is h, refl)

  pub end_some : 3 < on_top.behind → Ended (stack_of w) (Some on_top) (stack_of (record { waiting = w.waiting; depth = d - 1 }))
  end_some h = (rw behind_is h, sym behind_is, sym slot_is, refl, sym under_is)

  pub pop_to_lower : (ms : List ℤ) → on_top.behind ≡ 0 → stack_of (record { waiting = w.waiting; depth = d - 1 }) ≡ popped ms (stack_of w)
  pop_to_lower ms e = pop_last ms _ _ _ d (behind_is ∙ e)

  pub pop_to_end : (ms : List ℤ) → on_top.behind ≡ 3
      → stack_of (record { waiting = set w.waiting d (record { slot = on_top.slot; under = on_top.under; behind = 4 }); depth = d }) ≡ popped ms (stack_of w)
  pop_to_end ms e =
      (λ i. stack
      (map-set_same (λ (q : Part). q.under) w.waiting d (record { slot = on_top.slot; under = on_top.under; behind = 4 }) no_part refl i)
      (map-set_same (λ (q : Part). q.slot) w.waiting d (record { slot = on_top.slot; under = on_top.under; behind = 4 }) no_part refl i)
      (map-set (λ (q : Part). q.behind) w.waiting d (record { slot = on_top.slot; under = on_top.under; behind = 4 }) i)
      d)
      ∙ pop_else ms _ _ _ d (behind_is ∙ e)

  pub pop_to_next : (ms : List ℤ) (j : ℕ) → (on_top.behind ≡ 0 → ⊥) → (on_top.behind ≡ 3 → ⊥) → j ≡ matcher_end ms on_top.under
      → stack_of (record { waiting = set w.waiting d (record { slot = on_top.slot + 1; under = j; behind = on_top.behind - 1 }); depth = d }) ≡ popped ms (stack_of w)
  pop_to_next ms j h g e =
      (λ i. stack
      (map-set (λ (q : Part). q.under) w.waiting d (record { slot = on_top.slot + 1; under = j; behind = on_top.behind - 1 }) i)
      ((map-set (λ (q : Part). q.slot) w.waiting d (record { slot = on_top.slot + 1; under = j; behind = on_top.behind - 1 }) ∙ ap (λ x. set (slots w.waiting) d (x + 1)) (sym slot_is)) i)
      ((map-set (λ (q : Part). q.behind) w.waiting d (record { slot = on_top.slot + 1; under = j; behind = on_top.behind - 1 }) ∙ ap (λ x. set (behinds w.waiting) d (x - 1)) (sym behind_is)) i)
      d)
      ∙ pop_next ms _ _ _ d j (λ z. h (sym behind_is ∙ z)) (λ z. g (sym behind_is ∙ z)) (e ∙ ap (matcher_end ms) (sym under_is))

pub ruleset pop_rules = (push_is, end_low, end_none, end_some, pop_to_lower, pop_to_end, pop_to_next, rules)

pub by_same : {A : Type 0} (o k : ℕ) (x y : A) → o ≡ k → x ≡ cond (eqb o k) x y
by_same o k x y e = rw (e, eq-eqb k k refl)

pub by_other : {A : Type 0} (o k : ℕ) (x y : A) → (o ≡ k → ⊥) → y ≡ cond (eqb o k) x y
by_other o k x y h = rw (ne_eqb o k h)

pub by_fits : (pc : ℕ) → pc < 1000 → pc < 2 ^ 16
by_fits pc h = omega arith

pub ruleset by_rules = (by_same, by_other, by_fits, rules)
