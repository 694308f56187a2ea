-- Test 1 as the code asks it: each premise is a fact that a place of the code has at hand. Assumes nothing.
use mathlib.Core.Path.{◌≡◌, sym, ◌∙◌}
use mathlib.Core.Bool.{Bool, true, false, not}
use mathlib.Core.List.{List}
use Prim.Native.Nat.{ℕ, ◌+◌, ◌-◌, ◌^◌, ◌<◌, ◌≤◌}
use native.Mathlib.Omega.{arith}
use borrow.Author.Rules.{rules}
use borrow.Author.Tests.{not-true, not-false}
use mir.Syntax.{w64}
use mir.Val.{Fits}
use lib.ListN.{length}
use lib.IntN.{ℤ}
use Rattle.std.specs.Prelude.{Result, Ok, Err}
use Rattle.rules.specs.Reading.{matcher, read_matcher}
use Rattle.words.specs.Words.{tag_at}
use Rattle.words.proofs.Signed.{within}
use Rattle.test_forms.specs.Tests.{tested}
use Rattle.test_forms.specs.Ends as ends
use Rattle.test_forms.specs.Ends.{in_row, whole_at}
use Rattle.test_forms.specs.Matchers.{matcher_from}
use Rattle.test_forms.proofs.Slice.{too_long, in_time, at_bad, at_left_over, at_all}
use Rattle.test_forms.proofs.Turns.{row_end, row_turn, row_bad, width_low, next_two, depth_pos, depth_less}
use Rattle.test_forms.proofs.matcher.Laws.{matcher_along, leaf, other, deep, inside, wrong, row}

-- ---- Returns before the parts.

module _ (s : List ℤ) (at t k : ℕ) (e : t ≡ tag_at s at) where
  pub ret_other : 4 < t → Err at ≡ matcher_from s k at
  ret_other h = sym (other s at t e k h)

  pub ret_leaf : t < 2 → Ok (at + 1) ≡ matcher_from s k at
  ret_leaf h = sym (leaf s at t e k h)

  module _ (g : 2 ≤ t) where
    pub ret_deep : k ≡ 0 → Err at ≡ matcher_from s k at
    ret_deep z = sym (deep s at t e k z g)

    module _ (z : k ≡ 0 → ⊥) where
      pub ret_inside : t < 4 → (r : Result ℕ ℕ) → r ≡ matcher_from s (k - 1) (at + 1) → r ≡ matcher_from s k at
      ret_inside h r x = x ∙ sym (inside s at t e k z g h)

      module _ (l : 4 ≤ t) (m : t ≤ 4) (n : ℕ) (q : n ≡ tag_at s (at + 1)) (b : Bool) (w : b ≡ ends.within 2 n 4) where
        pub ret_width : not b ≡ true → Err (at + 1) ≡ matcher_from s k at
        ret_width y = sym (wrong s at t e n q k z (omega arith) (sym w ∙ not-true b y))

        pub loop_in : not b ≡ false → matcher_from s k at ≡ in_row (matcher_from s (k - 1)) n (at + 2)
        loop_in y = row s at t e n q k z (omega arith) (sym w ∙ not-false b y)

-- ---- The parts.

module _ (s : List ℤ) (k n i e : ℕ) (v : Result ℕ ℕ) (p : v ≡ in_row (matcher_from s k) (n - i) e) where
  pub loop_out : n ≤ i → Ok e ≡ v
  loop_out = row_end (matcher_from s k) n i e v p

  pub loop_turn : i < n → (r : Result ℕ ℕ) → r ≡ matcher_from s k e → (x : ℕ) → r ≡ Ok x → v ≡ in_row (matcher_from s k) (n - (i + 1)) x
  loop_turn = row_turn (matcher_from s k) n i e v p

  pub loop_bad : i < n → (r : Result ℕ ℕ) → r ≡ matcher_from s k e → (q : ℕ) → r ≡ Err q → Err q ≡ v
  loop_bad = row_bad (matcher_from s k) n i e v p

-- ---- Bounds.

pub next_1 : (s : List ℤ) (at t : ℕ) → t ≡ tag_at s at → t ≤ 4 → length s < 2 ^ 64 → Fits w64 (at + 1)
next_1 s at t e h l = let x = within s at t e (omega arith) in record { fits = omega arith }

pub next_2 : (s : List ℤ) (at n : ℕ) → n ≡ tag_at s (at + 1) → (b : Bool) → b ≡ ends.within 2 n 4 → not b ≡ false → length s < 2 ^ 64 → Fits w64 (at + 2)
next_2 s at n e b w y l = next_two s at n e (width_low n (sym w ∙ not-false b y)) l

pub ruleset own_rules = (ret_other, ret_leaf, ret_deep, ret_inside, ret_width, loop_in, loop_out, loop_turn, loop_bad, next_1, next_2, depth_pos, depth_less, rules)

-- ---- The whole test.

pub ret_long : (s : List ℤ) → 64 < length s → Err 64 ≡ tested (read_matcher s)
unfolding read_matcher
ret_long s h = too_long 64 (matcher 4) s h

module _ (s : List ℤ) (h : length s ≤ 64) (e : Result ℕ ℕ) (q : e ≡ matcher_from s 4 0) where
  by_end : (v : Result (Unit {0}) ℕ) → v ≡ whole_at s e → v ≡ tested (read_matcher s)
  unfolding read_matcher matcher_from
  by_end = in_time 64 (matcher 4) s (matcher_along s 4) h e q

  pub ret_bad : (i : ℕ) → e ≡ Err i → Err i ≡ tested (read_matcher s)
  ret_bad i w = by_end (Err i) (at_bad s e i w)

  pub ret_left_over : (at : ℕ) → e ≡ Ok at → at < length s → Err at ≡ tested (read_matcher s)
  ret_left_over at w l = by_end (Err at) (at_left_over s e at w l)

  pub ret_all : (at : ℕ) → e ≡ Ok at → length s ≤ at → Ok tt ≡ tested (read_matcher s)
  ret_all at w l = by_end (Ok tt) (at_all s e at w l)

pub ruleset whole_rules = (ret_long, ret_bad, ret_left_over, ret_all, rules)
