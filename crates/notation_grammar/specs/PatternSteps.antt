-- A step in the pattern of a rule, where no pattern is whole.
use Rattle.std.specs.Prelude.{ℕ, suc, ◌≤◌, ◌<◌, ◌≡◌, Bool, cond, length, T, ℤ, pos}
use Rattle.std.proofs.Common.{arith, sym}
use Rattle.std.proofs.Math.Path.{refl, subst}
use Rattle.std.proofs.Math.Bool.{true, false}
use Rattle.std.proofs.Math.Option.{Option}
use mathlib.Core.List.{List, [], ◌∷◌, ◌++◌}
use Rattle.rules.specs.Forms.{Value, Matcher, Pattern, constant, value}
use Rattle.forms.specs.Written.{pattern_words}
use Rattle.notation_rules.specs.Tokens.{code, look, minus', numeral, blame}
use Rattle.notation_rules.specs.Patterns as P
use Rattle.notation_rules.specs.Patterns.{want, bracket, hashed, negative, inner, named, signed, shutting, ◌on◌, have}
use Rattle.notation_step.specs.Stepped.{View, view, puts, putting_some, pushed, piled, start_of, too_large, appended, appending, taking, action_of, row_of, reach_of, refused, stepped}
use Rattle.notation_step.specs.declared.Waiting.{Waiting}
use Rattle.notation_same.specs.Chars.{token_of}
use Rattle.notation_grammar.specs.Over.{over}
use Rattle.notation_grammar.specs.Waits.{under, Held}
use Rattle.notation_grammar.specs.Acts.{standing, At, new}
use Rattle.notation_grammar.specs.Acts as A
use Rattle.notation_grammar.specs.One.{in_pattern, on_step, step_of}
use Rattle.notation_grammar.specs.Figures.{large_plain, large_minus, word_plain, word_minus, in_range_lem}
use Rattle.notation_grammar.specs.Shapes.{cause_of, listed, all, pattern_wait, units_words, both_words, AtPattern, InPattern, Stands, Follows}
use Rattle.notation_grammar.specs.Steps.{tok, Small, by_named, any_row, from_place, ranges}

module _ (lent : List ℤ) (n : ℕ) (more : n < 16384) (stack : List Waiting) (size : length stack ≡ 16384) (number : ℕ) (u : Option Value) (m : Matcher) (fs : List P.Frame) (deep : length (all pattern_wait fs) ≤ n)
    (held : Held n stack (both_words u m) (all pattern_wait fs)) (start : ℕ) where
  abbrev acted : (place : ℕ) → List ℤ → (a : ℕ) → View
  acted place item a =
      taking stack (over (under (both_words u m) (all pattern_wait fs) ++ item) lent) (standing place (length (units_words u)) (length (both_words u m)) (both_words u m) (all pattern_wait fs) item start) a number

  abbrev pub gone : (place : ℕ) → List ℤ → (k : ℕ) → View
  gone place item k =
      stepped stack (over (under (both_words u m) (all pattern_wait fs) ++ item) lent) (standing place (length (units_words u)) (length (both_words u m)) (both_words u m) (all pattern_wait fs) item start) k number

  by_place : (place : ℕ) (item : List ℤ) (k : ℕ) → k < 24 → reach_of place k ≡ 9 → row_of place 0 ≡ place → row_of place 1 ≡ place → row_of place 2 ≡ place → row_of place 3 ≡ place
      → gone place item k ≡ acted place item (action_of place k)
  by_place place item k l e a b c d =
      from_place n stack (over (under (both_words u m) (all pattern_wait fs) ++ item) lent) (both_words u m) (length (units_words u)) (length (both_words u m)) place (all pattern_wait fs) held start item place k number l e
      (any_row place place (all pattern_wait fs) a b c d)

  -- ---- The acts.
  moves : (place next : ℕ) (item : List ℤ) (b : Bool) → (T b → start ≡ length (under (both_words u m) (all pattern_wait fs)))
      → AtPattern lent (suc n) u m next fs item b
      (view (standing next (length (units_words u)) (length (both_words u m)) (both_words u m) (all pattern_wait fs) item start) stack (over (under (both_words u m) (all pattern_wait fs) ++ item) lent))
  moves place next item b t = A.moved lent n more stack size (both_words u m) (length (units_words u)) (length (both_words u m)) place (all pattern_wait fs) deep held next start item b t

  anything_read : AtPattern lent (suc n) u m 20 fs (pos 0 ∷ []) true (acted 11 [] 417)
  unfolding taking appending too_large new pattern_words
  anything_read = A.begins lent n more stack size (both_words u m) (length (units_words u)) (length (both_words u m)) 11 (all pattern_wait fs) deep held 417 number start refl refl

  not_read : AtPattern lent (suc n) u m 11 (P.denied ∷ fs) [] false (acted 11 [] 166745)
  unfolding taking appending too_large new pattern_words all pattern_wait
  not_read = A.opens lent n more stack size (both_words u m) (length (units_words u)) (length (both_words u m)) 11 (all pattern_wait fs) deep held 166745 number start refl

  group : AtPattern lent (suc n) u m 11 (P.opened [] ∷ fs) [] false (acted 11 [] 32857)
  unfolding taking appending too_large new pattern_words all pattern_wait listed
  group = A.opens lent n more stack size (both_words u m) (length (units_words u)) (length (both_words u m)) 11 (all pattern_wait fs) deep held 32857 number start refl

  hash_read : AtPattern lent (suc n) u m 13 fs [] false (acted 11 [] 105)
  unfolding taking appending appended too_large putting_some puts pushed piled start_of view
  hash_read = moves 11 13 [] false (λ x. absurd x)

  bracket_read : AtPattern lent (suc n) u m 12 fs [] false (acted 11 [] 97)
  unfolding taking appending appended too_large putting_some puts pushed piled start_of view
  bracket_read = moves 11 12 [] false (λ x. absurd x)

  variable_read : number < 16 → AtPattern lent (suc n) u m 20 fs (pos 1 ∷ (pos number ∷ [])) true (acted 11 [] 12961)
  unfolding taking appending too_large new pattern_words
  variable_read h = subst (λ x. AtPattern lent (suc n) u m 20 fs (pos 1 ∷ (x ∷ [])) true (acted 11 [] 12961)) (word_plain 3 number refl (omega arith))
      (A.begins lent n more stack size (both_words u m) (length (units_words u)) (length (both_words u m)) 11 (all pattern_wait fs) deep held 12961 number start refl refl)

  nil_read : AtPattern lent (suc n) u m 20 fs (pos 4 ∷ []) true (acted 12 [] 1441)
  unfolding taking appending too_large new pattern_words
  nil_read = A.begins lent n more stack size (both_words u m) (length (units_words u)) (length (both_words u m)) 12 (all pattern_wait fs) deep held 1441 number start refl refl

  minus_read : AtPattern lent (suc n) u m 14 fs [] false (acted 13 [] 113)
  unfolding taking appending appended too_large putting_some puts pushed piled start_of view
  minus_read = moves 13 14 [] false (λ x. absurd x)

  inner_read : AtPattern lent (suc n) u m 15 fs [] false (acted 13 [] 121)
  unfolding taking appending appended too_large putting_some puts pushed piled start_of view
  inner_read = moves 13 15 [] false (λ x. absurd x)

  use_read : number < 16 → AtPattern lent (suc n) u m 20 fs (pos 3 ∷ (pos number ∷ (pos 0 ∷ []))) true (acted 13 [] 29857)
  unfolding taking appending too_large new pattern_words
  use_read h = subst (λ x. AtPattern lent (suc n) u m 20 fs (pos 3 ∷ (x ∷ (pos 0 ∷ []))) true (acted 13 [] 29857)) (word_plain 3 number refl (omega arith))
      (A.begins lent n more stack size (both_words u m) (length (units_words u)) (length (both_words u m)) 13 (all pattern_wait fs) deep held 29857 number start refl refl)

  named_read : number < 16 → AtPattern lent (suc n) u m 16 fs (pos 3 ∷ (pos number ∷ [])) true (acted 15 [] 13441)
  unfolding taking appending too_large new pattern_words
  named_read h = subst (λ x. AtPattern lent (suc n) u m 16 fs (pos 3 ∷ (x ∷ [])) true (acted 15 [] 13441)) (word_plain 3 number refl (omega arith))
      (A.begins lent n more stack size (both_words u m) (length (units_words u)) (length (both_words u m)) 15 (all pattern_wait fs) deep held 13441 number start refl refl)

  constant_read : Follows lent (suc n) (step_of (in_pattern u m (hashed on fs)) (tok 23 number)) (acted 13 [] 5025)
  unfolding step_of token_of P.take P.at_number taking appending refused view new Follows Stands InPattern pattern_words
  constant_read = ranges lent (suc n) (in_pattern u m) _ (pos number) (have (constant (pos number)) fs) (too_large 1 number) _ _ (large_plain number) refl
      (λ h. subst (λ x. AtPattern lent (suc n) u m 20 fs (pos 2 ∷ (x ∷ [])) true
      (appended stack (over (under (both_words u m) (all pattern_wait fs) ++ []) lent) (standing 13 (length (units_words u)) (length (both_words u m)) (both_words u m) (all pattern_wait fs) [] start) 5025 number))
      (word_plain 1 number refl (in_range_lem number h))
      (A.begins lent n more stack size (both_words u m) (length (units_words u)) (length (both_words u m)) 13 (all pattern_wait fs) deep held 5025 number start refl refl))

  below_zero : Follows lent (suc n) (step_of (in_pattern u m (negative on fs)) (tok 23 number)) (acted 14 [] 9121)
  unfolding step_of token_of P.take P.at_number numeral taking appending refused view new Follows Stands InPattern pattern_words
  below_zero = ranges lent (suc n) (in_pattern u m) _ (minus' number) (have (constant (minus' number)) fs) (too_large 2 number) _ _ (large_minus number) refl
      (λ h. subst (λ x. AtPattern lent (suc n) u m 20 fs (pos 2 ∷ (x ∷ [])) true
      (appended stack (over (under (both_words u m) (all pattern_wait fs) ++ []) lent) (standing 14 (length (units_words u)) (length (both_words u m)) (both_words u m) (all pattern_wait fs) [] start) 9121 number))
      (word_minus number h)
      (A.begins lent n more stack size (both_words u m) (length (units_words u)) (length (both_words u m)) 14 (all pattern_wait fs) deep held 9121 number start refl refl))

  -- ---- The places.
  pub want_step : (k : ℕ) → k < 24 → Small k number → Follows lent (suc n) (step_of (in_pattern u m (want on fs)) (tok k number)) (gone 11 [] k)
  unfolding step_of token_of P.take P.at_mark P.at_binding P.at_use P.at_number look code on_step blame Follows Stands InPattern cause_of taking action_of refused view row_of reach_of pattern_words
  want_step k l z = subst (Follows lent (suc n) (step_of (in_pattern u m (want on fs)) (tok k number))) (sym (by_place 11 [] k l refl refl refl refl refl))
      (by_named number (λ k. Follows lent (suc n) (step_of (in_pattern u m (want on fs)) (tok k number)) (acted 11 [] (action_of 11 k))) anything_read hash_read not_read refl refl refl group refl bracket_read refl refl refl refl refl refl refl refl refl refl refl refl variable_read (λ h. refl) refl k l z)

  pub bracket_step : (k : ℕ) → k < 24 → Small k number → Follows lent (suc n) (step_of (in_pattern u m (bracket on fs)) (tok k number)) (gone 12 [] k)
  unfolding step_of token_of P.take P.at_mark P.at_binding P.at_use P.at_number look code on_step blame Follows Stands InPattern cause_of taking action_of refused view row_of reach_of pattern_words
  bracket_step k l z = subst (Follows lent (suc n) (step_of (in_pattern u m (bracket on fs)) (tok k number))) (sym (by_place 12 [] k l refl refl refl refl refl))
      (by_named number (λ k. Follows lent (suc n) (step_of (in_pattern u m (bracket on fs)) (tok k number)) (acted 12 [] (action_of 12 k))) refl refl refl refl refl refl refl refl refl nil_read refl refl refl refl refl refl refl refl refl refl refl (λ h. refl) (λ h. refl) refl k l z)

  pub hashed_step : (k : ℕ) → k < 24 → Small k number → Follows lent (suc n) (step_of (in_pattern u m (hashed on fs)) (tok k number)) (gone 13 [] k)
  unfolding step_of token_of P.take P.at_mark P.at_binding P.at_use P.at_number look code on_step blame Follows Stands InPattern cause_of taking action_of refused view row_of reach_of pattern_words
  hashed_step k l z = subst (Follows lent (suc n) (step_of (in_pattern u m (hashed on fs)) (tok k number))) (sym (by_place 13 [] k l refl refl refl refl refl))
      (by_named number (λ k. Follows lent (suc n) (step_of (in_pattern u m (hashed on fs)) (tok k number)) (acted 13 [] (action_of 13 k))) refl refl refl refl minus_read refl inner_read refl refl refl refl refl refl refl refl refl refl refl refl refl refl (λ h. refl) use_read constant_read k l z)

  pub negative_step : (k : ℕ) → k < 24 → Small k number → Follows lent (suc n) (step_of (in_pattern u m (negative on fs)) (tok k number)) (gone 14 [] k)
  unfolding step_of token_of P.take P.at_mark P.at_binding P.at_use P.at_number look code on_step blame Follows Stands InPattern cause_of taking action_of refused view row_of reach_of pattern_words
  negative_step k l z = subst (Follows lent (suc n) (step_of (in_pattern u m (negative on fs)) (tok k number))) (sym (by_place 14 [] k l refl refl refl refl refl))
      (by_named number (λ k. Follows lent (suc n) (step_of (in_pattern u m (negative on fs)) (tok k number)) (acted 14 [] (action_of 14 k))) refl refl refl refl refl refl refl refl refl refl refl refl refl refl refl refl refl refl refl refl refl (λ h. refl) (λ h. refl) below_zero k l z)

  pub inner_step : (k : ℕ) → k < 24 → Small k number → Follows lent (suc n) (step_of (in_pattern u m (inner on fs)) (tok k number)) (gone 15 [] k)
  unfolding step_of token_of P.take P.at_mark P.at_binding P.at_use P.at_number look code on_step blame Follows Stands InPattern cause_of taking action_of refused view row_of reach_of pattern_words
  inner_step k l z = subst (Follows lent (suc n) (step_of (in_pattern u m (inner on fs)) (tok k number))) (sym (by_place 15 [] k l refl refl refl refl refl))
      (by_named number (λ k. Follows lent (suc n) (step_of (in_pattern u m (inner on fs)) (tok k number)) (acted 15 [] (action_of 15 k))) refl refl refl refl refl refl refl refl refl refl refl refl refl refl refl refl refl refl refl refl refl (λ h. refl) named_read refl k l z)

  -- Inside `#( .. )`, where the words begin is known.
  module _ (starts : start ≡ length (under (both_words u m) (all pattern_wait fs))) where
    module _ (v : ℤ) where
      signed_read : (b : Bool) → AtPattern lent (suc n) u m (cond b 18 17) fs (pos 3 ∷ (v ∷ [])) true (acted 16 (pos 3 ∷ (v ∷ [])) (cond b 145 137))
      unfolding taking appending appended too_large putting_some puts pushed piled start_of view
      signed_read true = moves 16 18 (pos 3 ∷ (v ∷ [])) true (λ x. starts)
      signed_read false = moves 16 17 (pos 3 ∷ (v ∷ [])) true (λ x. starts)

      plus_read : Follows lent (suc n) (step_of (in_pattern u m (signed v false on fs)) (tok 23 number)) (acted 17 (pos 3 ∷ (v ∷ [])) 4249)
      unfolding step_of token_of P.take P.at_number numeral taking appending refused view new Follows Stands InPattern pattern_words
      plus_read = ranges lent (suc n) (in_pattern u m) _ (pos number) (shutting (value v (pos number)) on fs) (too_large 1 number) _ _ (large_plain number) refl
          (λ h. subst (λ x. AtPattern lent (suc n) u m 19 fs (pos 3 ∷ (v ∷ (x ∷ []))) true
          (appended stack (over (under (both_words u m) (all pattern_wait fs) ++ (pos 3 ∷ (v ∷ []))) lent)
          (standing 17 (length (units_words u)) (length (both_words u m)) (both_words u m) (all pattern_wait fs) (pos 3 ∷ (v ∷ [])) start) 4249 number))
          (word_plain 1 number refl (in_range_lem number h))
          (A.goes_on_lem lent n more stack size (both_words u m) (length (units_words u)) (length (both_words u m)) 17 (all pattern_wait fs) deep held 4249 number start (pos 3 ∷ (v ∷ [])) refl refl starts))

      less_read : Follows lent (suc n) (step_of (in_pattern u m (signed v true on fs)) (tok 23 number)) (acted 18 (pos 3 ∷ (v ∷ [])) 8345)
      unfolding step_of token_of P.take P.at_number numeral taking appending refused view new Follows Stands InPattern pattern_words
      less_read = ranges lent (suc n) (in_pattern u m) _ (minus' number) (shutting (value v (minus' number)) on fs) (too_large 2 number) _ _ (large_minus number) refl
          (λ h. subst (λ x. AtPattern lent (suc n) u m 19 fs (pos 3 ∷ (v ∷ (x ∷ []))) true
          (appended stack (over (under (both_words u m) (all pattern_wait fs) ++ (pos 3 ∷ (v ∷ []))) lent)
          (standing 18 (length (units_words u)) (length (both_words u m)) (both_words u m) (all pattern_wait fs) (pos 3 ∷ (v ∷ [])) start) 8345 number))
          (word_minus number h)
          (A.goes_on_lem lent n more stack size (both_words u m) (length (units_words u)) (length (both_words u m)) 18 (all pattern_wait fs) deep held 8345 number start (pos 3 ∷ (v ∷ [])) refl refl starts))

      pub named_step : (k : ℕ) → k < 24 → Small k number → Follows lent (suc n) (step_of (in_pattern u m (named v on fs)) (tok k number)) (gone 16 (pos 3 ∷ (v ∷ [])) k)
      unfolding step_of token_of P.take P.at_mark P.at_binding P.at_use P.at_number look code on_step blame Follows Stands InPattern cause_of taking action_of refused view row_of reach_of pattern_words
      named_step k l z = subst (Follows lent (suc n) (step_of (in_pattern u m (named v on fs)) (tok k number))) (sym (by_place 16 (pos 3 ∷ (v ∷ [])) k l refl refl refl refl refl))
          (by_named number (λ k. Follows lent (suc n) (step_of (in_pattern u m (named v on fs)) (tok k number)) (acted 16 (pos 3 ∷ (v ∷ [])) (action_of 16 k))) refl refl refl (signed_read false) (signed_read true) refl refl refl refl refl refl refl refl refl refl refl refl refl refl refl refl (λ h. refl) (λ h. refl) refl k l z)

      pub plus_step : (k : ℕ) → k < 24 → Small k number → Follows lent (suc n) (step_of (in_pattern u m (signed v false on fs)) (tok k number)) (gone 17 (pos 3 ∷ (v ∷ [])) k)
      unfolding step_of token_of P.take P.at_mark P.at_binding P.at_use P.at_number look code on_step blame Follows Stands InPattern cause_of taking action_of refused view row_of reach_of pattern_words
      plus_step k l z = subst (Follows lent (suc n) (step_of (in_pattern u m (signed v false on fs)) (tok k number))) (sym (by_place 17 (pos 3 ∷ (v ∷ [])) k l refl refl refl refl refl))
          (by_named number (λ k. Follows lent (suc n) (step_of (in_pattern u m (signed v false on fs)) (tok k number)) (acted 17 (pos 3 ∷ (v ∷ [])) (action_of 17 k))) refl refl refl refl refl refl refl refl refl refl refl refl refl refl refl refl refl refl refl refl refl (λ h. refl) (λ h. refl) plus_read k l z)

      pub less_step : (k : ℕ) → k < 24 → Small k number → Follows lent (suc n) (step_of (in_pattern u m (signed v true on fs)) (tok k number)) (gone 18 (pos 3 ∷ (v ∷ [])) k)
      unfolding step_of token_of P.take P.at_mark P.at_binding P.at_use P.at_number look code on_step blame Follows Stands InPattern cause_of taking action_of refused view row_of reach_of pattern_words
      less_step k l z = subst (Follows lent (suc n) (step_of (in_pattern u m (signed v true on fs)) (tok k number))) (sym (by_place 18 (pos 3 ∷ (v ∷ [])) k l refl refl refl refl refl))
          (by_named number (λ k. Follows lent (suc n) (step_of (in_pattern u m (signed v true on fs)) (tok k number)) (acted 18 (pos 3 ∷ (v ∷ [])) (action_of 18 k))) refl refl refl refl refl refl refl refl refl refl refl refl refl refl refl refl refl refl refl refl refl (λ h. refl) (λ h. refl) less_read k l z)

    shut_read : (p : Pattern) → AtPattern lent (suc n) u m 20 fs (pattern_words p) true (acted 19 (pattern_words p) 161)
    unfolding taking appending appended too_large putting_some puts pushed piled start_of view
    shut_read p = moves 19 20 (pattern_words p) true (λ x. starts)

    pub shutting_step : (p : Pattern) (k : ℕ) → k < 24 → Small k number → Follows lent (suc n) (step_of (in_pattern u m (shutting p on fs)) (tok k number)) (gone 19 (pattern_words p) k)
    unfolding step_of token_of P.take P.at_mark P.at_binding P.at_use P.at_number look code on_step blame Follows Stands InPattern cause_of taking action_of refused view row_of reach_of pattern_words
    shutting_step p k l z = subst (Follows lent (suc n) (step_of (in_pattern u m (shutting p on fs)) (tok k number))) (sym (by_place 19 (pattern_words p) k l refl refl refl refl refl))
        (by_named number (λ k. Follows lent (suc n) (step_of (in_pattern u m (shutting p on fs)) (tok k number)) (acted 19 (pattern_words p) (action_of 19 k))) refl refl refl refl refl refl refl (shut_read p) refl refl refl refl refl refl refl refl refl refl refl refl refl (λ h. refl) (λ h. refl) refl k l z)
