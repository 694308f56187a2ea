-- Where a matcher ends, as the code asks. Assumes nothing.
use mathlib.Core.Path.{◌≡◌, refl, ◌∙◌, ap}
use mathlib.Core.Bool.{Bool, true, false, cond}
use mathlib.Core.List.{List, [], ◌∷◌}
use Prim.Native.Nat.{ℕ, zero, suc, ◌+◌, ◌-◌, ◌*◌, ◌^◌, ◌<◌, ◌≤◌}
use native.Mathlib.Numerals.{add-one, add-two}
use native.Mathlib.Omega.{arith}
use native.Mathlib.Decide.{dec_lt}
use borrow.Author.Rules.{rules}
use borrow.Author.Tests.{ne_eqb, eqb-true, eqb-false, lt-ltb, le-ltb}
use lib.Dec.{eqb}
use lib.ListN.{length, drop, drop_of_length-le}
use lib.Seq.{drop-cons}
use lib.IntN.{ℤ, negsuc}
use mir.Syntax.{w64}
use mir.Val.{Fits}
use Rattle.words.specs.Words.{tag_at}
use Rattle.words.proofs.Signed.{within}
use Rattle.matchers.specs.Places.{width_of, width_at, parts_by, parts_at, words_by, words_at, spans, spans_wide, matcher_end}

-- ---- A width.

module _ (ms : List ℤ) (at k : ℕ) (e : k ≡ tag_at ms at) where
  pub width_none : 4 < k → 0 ≡ width_at ms at
  unfolding width_at width_of
  width_none h = rw (← e, lt-ltb 4 k h)

  pub width_is : k ≤ 4 → k ≡ width_at ms at
  unfolding width_at width_of
  width_is h = rw (← e, le-ltb 4 k h)

width_small : (k : ℕ) → width_of k ≤ 4
unfolding width_of
width_small k = go (dec_lt 4 k)
  where
    go : Dec (4 < k) → width_of k ≤ 4
    go (yes h) = rw (lt-ltb 4 k h) (omega arith)
    go (no h) = let l : k ≤ 4 = omega arith in rw (le-ltb 4 k l) l

-- ---- A tag's own words, and its parts.

parts_small : (t k : ℕ) → parts_by t k ≤ 4
parts_small zero k = omega arith
parts_small (suc zero) k = omega arith
parts_small (suc (suc zero)) k = omega arith
parts_small (suc (suc (suc zero))) k = omega arith
parts_small (suc (suc (suc (suc zero)))) k = width_small k
parts_small (suc (suc (suc (suc (suc t))))) k = omega arith

parts_other : (t k : ℕ) → (t ≡ 4 → ⊥) → (t ≡ 2 → ⊥) → (t ≡ 3 → ⊥) → 0 ≡ parts_by t k
parts_other zero k x y z = refl
parts_other (suc zero) k x y z = refl
parts_other (suc (suc zero)) k x y z = absurd (y refl)
parts_other (suc (suc (suc zero))) k x y z = absurd (z refl)
parts_other (suc (suc (suc (suc zero)))) k x y z = absurd (x refl)
parts_other (suc (suc (suc (suc (suc t))))) k x y z = refl

-- The word after it counts for a tuple only.
parts_same : (t k j : ℕ) → (t ≡ 4 → ⊥) → parts_by t k ≡ parts_by t j
parts_same zero k j x = refl
parts_same (suc zero) k j x = refl
parts_same (suc (suc zero)) k j x = refl
parts_same (suc (suc (suc zero))) k j x = refl
parts_same (suc (suc (suc (suc zero)))) k j x = absurd (x refl)
parts_same (suc (suc (suc (suc (suc t))))) k j x = refl

module _ (ms : List ℤ) (at t : ℕ) (e : t ≡ tag_at ms at) where
  pub parts_wide : (r : ℕ) → t ≡ 4 → r ≡ width_at ms (at + 1) → r ≡ parts_at ms at
  unfolding parts_at width_at
  parts_wide r z h = h ∙ rw (← e, z)

  pub parts_list : t ≡ 2 → 1 ≡ parts_at ms at
  unfolding parts_at
  parts_list z = rw (← e, z)

  pub parts_multiset : t ≡ 3 → 1 ≡ parts_at ms at
  unfolding parts_at
  parts_multiset z = rw (← e, z)

  pub parts_none : (t ≡ 4 → ⊥) → (t ≡ 2 → ⊥) → (t ≡ 3 → ⊥) → 0 ≡ parts_at ms at
  unfolding parts_at
  parts_none x y z = rw (← e) (parts_other t (tag_at ms (at + 1)) x y z)

  pub parts_next : t ≡ 4 → length ms < 2 ^ 64 → Fits w64 (at + 1)
  parts_next z l = let h = within ms at t e (omega arith) in record { fits = omega arith }

  pub words_two : t ≡ 4 → 2 ≡ words_at ms at
  unfolding words_at words_by
  words_two z = rw (← e, z)

  pub words_one : (t ≡ 4 → ⊥) → 1 ≡ words_at ms at
  unfolding words_at words_by
  words_one z = rw (← e, ne_eqb t 4 z)

pub ruleset tag_rules = (width_none, width_is, parts_wide, parts_list, parts_multiset, parts_none, parts_next, words_two, words_one, rules)

-- ---- Word by word.

pub spans_none : (ws : List ℤ) → spans ws 0 ≡ 0
unfolding spans
spans_none [] = refl
spans_none (t ∷ ws) = refl

wide_is : (ms : List ℤ) (j n : ℕ) → spans_wide (drop j ms) n ≡ spans (drop (suc j) ms) (width_of (tag_at ms j) + n)
unfolding spans tag_at
wide_is ms j n = go (dec_lt j (length ms))
  where
    go : Dec (j < length ms) → spans_wide (drop j ms) n ≡ spans (drop (suc j) ms) (width_of (tag_at ms j) + n)
    go (yes h) = rw (drop-cons ms j (negsuc 0) h)
    go (no h) =
        let a : length ms ≤ j = omega arith in
        let b : length ms ≤ suc j = omega arith in
        rw (drop_of_length-le ms a, drop_of_length-le ms b)

step_is : (ms : List ℤ) (at n : ℕ) → at < length ms → spans (drop at ms) (suc n) ≡ words_at ms at + spans (drop (at + words_at ms at) ms) (parts_at ms at + n)
unfolding spans tag_at words_at words_by parts_at
step_is ms at n h = rw (drop-cons ms at (negsuc 0) h) (go (eqb (tag_at ms at) 4) refl)
  where
    go : (b : Bool) → eqb (tag_at ms at) 4 ≡ b
        → elim b as (λ _. ℕ) [ true ↦ 2 + spans_wide (drop (suc at) ms) n | false ↦ 1 + spans (drop (suc at) ms) (parts_by (tag_at ms at) 0 + n) ]
        ≡ words_by (tag_at ms at) + spans (drop (at + words_by (tag_at ms at)) ms) (parts_by (tag_at ms at) (tag_at ms (at + 1)) + n)
    go true e = let z = eqb-true (tag_at ms at) 4 e in rw (z, add-two at, add-one at, wide_is ms (suc at) n)
    go false e = let z = eqb-false (tag_at ms at) 4 e in rw (e, add-one at, parts_same (tag_at ms at) 0 (tag_at ms (suc at)) z)

-- ---- The loop.

pub end_start : (ms : List ℤ) (i : ℕ) → matcher_end ms i ≡ i + spans (drop i ms) 1
unfolding matcher_end
end_start ms i = refl

pub end_out : (ms : List ℤ) (at left x : ℕ) → x ≡ at + spans (drop at ms) left → length ms ≤ at → at ≡ x
unfolding spans
end_out ms at left x e h = let z : spans (drop at ms) left ≡ 0 = rw (drop_of_length-le ms h) in omega arith

pub end_none : (ms : List ℤ) (at left x : ℕ) → x ≡ at + spans (drop at ms) left → left ≡ 0 → at ≡ x
end_none ms at left x e z = let s = spans_none (drop at ms) in let y = rw z at e in omega arith

one_or_two : (t : ℕ) → (1 ≤ words_by t) × (words_by t ≤ 2)
unfolding words_by
one_or_two t = go (eqb t 4)
  where
    go : (b : Bool) → (1 ≤ cond b 2 1) × (cond b 2 1 ≤ 2)
    go true = (omega arith, omega arith)
    go false = (omega arith, omega arith)

module _ (ms : List ℤ) (at k : ℕ) (h : at < length ms) (w : k ≡ words_at ms at) where
  some_words : 1 ≤ k
  unfolding words_at
  some_words = rw w (one_or_two (tag_at ms at)).0

  few_words : k ≤ 2
  unfolding words_at
  few_words = rw w (one_or_two (tag_at ms at)).1

  pub end_less : length ms - (at + k) < length ms - at
  end_less = omega (arith, some_words)

  pub end_at : length ms * 4 < 2 ^ 63 → Fits w64 (at + k)
  end_at l = record { fits = omega (arith, few_words) }

module _ (ms : List ℤ) (at left n : ℕ) (h : at < length ms) (p : n ≡ parts_at ms at) where
  few_parts : n ≤ 4
  unfolding parts_at
  few_parts = rw p (parts_small (tag_at ms at) (tag_at ms (at + 1)))

  pub end_left : left ≤ 4 * at + 1 → length ms * 4 < 2 ^ 63 → Fits w64 (left - 1 + n)
  end_left b l = record { fits = omega (arith, few_parts) }

  module _ (k : ℕ) (z : left ≡ 0 → ⊥) (w : k ≡ words_at ms at) where
    pub end_turn : (x : ℕ) → x ≡ at + spans (drop at ms) left → x ≡ at + k + spans (drop (at + k) ms) (left - 1 + n)
    end_turn x e =
        let l : left ≡ suc (left - 1) = omega arith in
        let c : parts_at ms at + (left - 1) ≡ left - 1 + n = omega arith in
        let s : spans (drop at ms) left ≡ k + spans (drop (at + k) ms) (left - 1 + n) = ap (spans (drop at ms)) l ∙ step_is ms at (left - 1) h ∙ rw (← w, c) in
        omega arith

    pub end_bound : left ≤ 4 * at + 1 → left - 1 + n ≤ 4 * (at + k) + 1
    end_bound b = omega (arith, some_words ms at k h w, few_parts)

pub end_some : (left : ℕ) → (left ≡ 0 → ⊥) → 1 ≤ left
end_some left z = omega arith

pub end_first : (i : ℕ) → 1 ≤ 4 * i + 1
end_first i = omega arith

pub ruleset end_rules = (end_start, end_out, end_none, end_turn, end_less, end_bound, end_left, end_at, end_some, end_first, rules)
