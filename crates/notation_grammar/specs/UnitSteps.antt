-- A step in the units of a rule, and before it.
use Rattle.std.specs.Prelude.{ℕ, suc, ◌+◌, ◌≤◌, ◌<◌, ◌≡◌, Bool, cond, length, ltb, ℤ, pos}
use Rattle.std.proofs.Common.{arith, sym, ap, ◌∙◌, ne_eqb}
use Rattle.std.proofs.Math.Path.{refl, subst}
use Rattle.std.proofs.Math.Bool.{true, false}
use Rattle.std.proofs.Math.Option.{some}
use mathlib.Core.List.{List, [], ◌∷◌, ◌++◌}
use Rattle.std.proofs.Math.Dec.{eqb}
use Rattle.rules.specs.Forms.{Value, int, collection, empty, ◌▸◌, words}
use Rattle.notation_rules.specs.Tokens.{misplaced, Mark, comma, closing, underscore, hash, bang, plus, minus, opening, left, right, anything, integers, list_of, multiset_of, matching, by, with', code, look, minus', numeral, blame}
use Rattle.notation_rules.specs.Targets as U
use Rattle.notation_rules.specs.Matchers as M
use Rattle.notation_rules.specs.Rules.{is_mark}
use Rattle.notation_step.specs.Stepped.{View, view, puts, putting_some, pushed, piled, start_of, bits_of, too_large, appended, appending, taking, action_of, row_of, reach_of, refused, bare_by, sectioned, crowded_by, stepped}
use Rattle.notation_step.specs.declared.Waiting.{Waiting}
use Rattle.notation_same.specs.Chars.{token_of}
use Rattle.notation_grammar.specs.Over.{over}
use Rattle.notation_grammar.specs.Waits.{under, Held}
use Rattle.notation_grammar.specs.Acts.{standing, At, at, new}
use Rattle.notation_grammar.specs.Acts as A
use Rattle.notation_grammar.specs.Closes as C
use Rattle.notation_grammar.specs.Closes.{shade_by}
use Rattle.notation_grammar.specs.One.{begins, in_units, stops, handed, after_part, on_step, step_of}
use Rattle.notation_grammar.specs.Figures.{large_plain, large_minus, word_plain, word_minus, in_range_lem}
use Rattle.notation_grammar.specs.Shapes.{cause_of, listed, units_closed, all, unit_wait, units_words, InMatcher, wants, InUnits, Stands, Follows}
use Rattle.notation_grammar.specs.Steps.{tok, by_kind, any_row, from_place, ranges, parts, misses, roomy}

module _ (lent : List ℤ) (n : ℕ) (more : n < 16384) (stack : List Waiting) (size : length stack ≡ 16384) (start value : ℕ) where
  -- The code's view at a place, by the number of an action or the kind of the token.
  abbrev acted : (place : ℕ) → List U.Frame → List ℤ → (a : ℕ) → View
  acted place fs item a = taking stack (over (under [] (all unit_wait fs) ++ item) lent) (standing place 0 0 [] (all unit_wait fs) item start) a value

  abbrev pub gone : (place : ℕ) → List U.Frame → List ℤ → (k : ℕ) → View
  gone place fs item k = stepped stack (over (under [] (all unit_wait fs) ++ item) lent) (standing place 0 0 [] (all unit_wait fs) item start) k value

  by_row_lem : (place r : ℕ) (fs : List U.Frame) (item : List ℤ) (k : ℕ) → Held n stack [] (all unit_wait fs) → k < 24 → reach_of place k ≡ 9 → row_of place (shade_by (all unit_wait fs)) ≡ r
      → gone place fs item k ≡ acted place fs item (action_of r k)
  by_row_lem place r fs item k h l e f = from_place n stack (over (under [] (all unit_wait fs) ++ item) lent) [] 0 0 place (all unit_wait fs) h start item r k value l e f

  module _ (fs : List U.Frame) (deep : length (all unit_wait fs) ≤ n) (held : Held n stack [] (all unit_wait fs)) where
    -- A number.
    plain : Follows lent (suc n) (step_of (in_units (U.want fs)) (tok 23 value)) (acted 1 fs [] 4385)
    unfolding step_of token_of U.take U.at_number taking appending refused view new Follows Stands InUnits words
    plain = ranges lent (suc n) in_units _ (pos value) (U.have (int (pos value)) fs) (too_large 1 value) _ _ (large_plain value) refl
        (λ h. subst (λ x. At lent (suc n) 4 0 0 [] (all unit_wait fs) (pos 0 ∷ (x ∷ [])) true (appended stack (over (under [] (all unit_wait fs) ++ []) lent) (standing 1 0 0 [] (all unit_wait fs) [] start) 4385 value))
        (word_plain 1 value refl (in_range_lem value h)) (A.begins lent n more stack size [] 0 0 1 (all unit_wait fs) deep held 4385 value start refl refl))

    below_zero : Follows lent (suc n) (step_of (in_units (U.negative fs)) (tok 23 value)) (acted 3 fs [] 8481)
    unfolding step_of token_of U.take U.at_number numeral taking appending refused view new Follows Stands InUnits words
    below_zero = ranges lent (suc n) in_units _ (minus' value) (U.have (int (minus' value)) fs) (too_large 2 value) _ _ (large_minus value) refl
        (λ h. subst (λ x. At lent (suc n) 4 0 0 [] (all unit_wait fs) (pos 0 ∷ (x ∷ [])) true (appended stack (over (under [] (all unit_wait fs) ++ []) lent) (standing 3 0 0 [] (all unit_wait fs) [] start) 8481 value))
        (word_minus value h) (A.begins lent n more stack size [] 0 0 3 (all unit_wait fs) deep held 8481 value start refl refl))

    -- A minus, a bracket.
    dash : At lent (suc n) 3 0 0 [] (all unit_wait fs) [] false (acted 1 fs [] 25)
    unfolding taking appending appended too_large putting_some puts pushed piled start_of view
    dash = A.moved lent n more stack size [] 0 0 1 (all unit_wait fs) deep held 3 start [] false (λ x. absurd x)

    round : At lent (suc n) 1 0 0 [] (all unit_wait (U.round [] ∷ fs)) [] false (acted 1 fs [] 32777)
    unfolding taking appending too_large new all unit_wait listed
    round = A.opens lent n more stack size [] 0 0 1 (all unit_wait fs) deep held 32777 value start refl

    square : At lent (suc n) 1 0 0 [] (all unit_wait (U.square [] ∷ fs)) [] false (acted 1 fs [] 294921)
    unfolding taking appending too_large new all unit_wait listed
    square = A.opens lent n more stack size [] 0 0 1 (all unit_wait fs) deep held 294921 value start refl

    pub negative_step : (k : ℕ) → k < 24 → Follows lent (suc n) (step_of (in_units (U.negative fs)) (tok k value)) (gone 3 fs [] k)
    unfolding step_of token_of U.take U.at_mark U.at_number U.ending look after_part on_step blame Follows cause_of taking action_of refused view reach_of row_of
    negative_step k l = subst (Follows lent (suc n) (step_of (in_units (U.negative fs)) (tok k value)))
        (sym (by_row_lem 3 3 fs [] k held l refl (any_row 3 3 (all unit_wait fs) refl refl refl refl)))
        (by_kind (λ k. Follows lent (suc n) (step_of (in_units (U.negative fs)) (tok k value)) (acted 3 fs [] (action_of 3 k)))
        refl refl refl refl refl refl refl refl refl refl refl refl refl refl refl refl refl refl refl refl refl refl refl below_zero k l)

  -- Before a value.
  module _ (fs : List U.Frame) where
    abbrev Wanted : (r k : ℕ) → Type 0
    Wanted r k = Follows lent (suc n) (step_of (in_units (U.want fs)) (tok k value)) (acted 1 fs [] (action_of r k))

  want_row : (r : ℕ) (fs : List U.Frame) (k : ℕ) → Held n stack [] (all unit_wait fs) → k < 24 → row_of 1 (shade_by (all unit_wait fs)) ≡ r → Wanted fs r k
      → Follows lent (suc n) (step_of (in_units (U.want fs)) (tok k value)) (gone 1 fs [] k)
  unfolding reach_of
  want_row r fs k h l e = subst (Follows lent (suc n) (step_of (in_units (U.want fs)) (tok k value))) (sym (by_row_lem 1 r fs [] k h l refl e))

  empties : (fs : List U.Frame) → length (all unit_wait (U.square [] ∷ fs)) ≤ n → Held n stack [] (all unit_wait (U.square [] ∷ fs))
      → At lent (suc n) 4 0 0 [] (all unit_wait fs) (words (collection empty)) true (acted 1 (U.square [] ∷ fs) [] 549)
  unfolding taking all unit_wait listed bits_of bare_by words
  empties fs d h = C.closes lent n more stack size [] 0 0 1 8 0 [] (all unit_wait fs) d h start [] 549 0

  pub want_step : (fs : List U.Frame) (k : ℕ) → length (all unit_wait fs) ≤ n → Held n stack [] (all unit_wait fs) → k < 24
      → Follows lent (suc n) (step_of (in_units (U.want fs)) (tok k value)) (gone 1 fs [] k)
  unfolding step_of token_of U.take U.at_mark U.emptied U.ending look code after_part on_step blame Follows Stands InUnits cause_of taking action_of refused view row_of shade_by all unit_wait
  want_step [] k d h l = want_row 1 [] k h l refl
      (by_kind (Wanted [] 1) refl refl refl refl (dash [] d h) refl (round [] d h) refl (square [] d h) refl refl refl refl refl refl refl refl refl refl refl refl refl refl (plain [] d h) k l)
  want_step (U.square [] ∷ fs) k d h l = want_row 2 (U.square [] ∷ fs) k h l refl
      (by_kind (Wanted (U.square [] ∷ fs) 2) refl refl refl refl (dash (U.square [] ∷ fs) d h) refl (round (U.square [] ∷ fs) d h) refl (square (U.square [] ∷ fs) d h) (empties fs d h)
      refl refl refl refl refl refl refl refl refl refl refl refl refl (plain (U.square [] ∷ fs) d h) k l)
  want_step (U.square (u ∷ us) ∷ fs) k d h l = want_row 1 (U.square (u ∷ us) ∷ fs) k h l (ap (λ b. row_of 1 (cond b 3 2)) (ne_eqb (suc (length us)) 0 (λ e. absurd (omega arith))))
      (by_kind (Wanted (U.square (u ∷ us) ∷ fs) 1) refl refl refl refl (dash (U.square (u ∷ us) ∷ fs) d h) refl (round (U.square (u ∷ us) ∷ fs) d h) refl (square (U.square (u ∷ us) ∷ fs) d h)
      refl refl refl refl refl refl refl refl refl refl refl refl refl refl (plain (U.square (u ∷ us) ∷ fs) d h) k l)
  want_step (U.round us ∷ fs) k d h l = want_row 1 (U.round us ∷ fs) k h l refl
      (by_kind (Wanted (U.round us ∷ fs) 1) refl refl refl refl (dash (U.round us ∷ fs) d h) refl (round (U.round us ∷ fs) d h) refl (square (U.round us ∷ fs) d h)
      refl refl refl refl refl refl refl refl refl refl refl refl refl refl (plain (U.round us ∷ fs) d h) k l)

  -- After a value.
  module _ (x : Value) where
    abbrev Had : (fs : List U.Frame) (r k : ℕ) → Type 0
    Had fs r k = Follows lent (suc n) (step_of (in_units (U.have x fs)) (tok k value)) (acted 4 fs (words x) (action_of r k))

    have_row : (r : ℕ) (fs : List U.Frame) (k : ℕ) → Held n stack [] (all unit_wait fs) → k < 24 → row_of 4 (shade_by (all unit_wait fs)) ≡ r → Had fs r k
        → Follows lent (suc n) (step_of (in_units (U.have x fs)) (tok k value)) (gone 4 fs (words x) k)
    unfolding reach_of
    have_row r fs k h l e = subst (Follows lent (suc n) (step_of (in_units (U.have x fs)) (tok k value))) (sym (by_row_lem 4 r fs (words x) k h l refl e))

    to_matcher : InMatcher lent (suc n) (some x) (M.want false []) (acted 4 [] (words x) 62)
    unfolding taking sectioned view all under units_words
    to_matcher = wants false [] refl (A.sections lent n more stack size [] 0 0 4 7 start (words x))

    module _ (us : List Value) (fs : List U.Frame) (d : suc (length (all unit_wait fs)) ≤ n) where
      module _ (h : Held n stack [] (all unit_wait (U.square us ∷ fs))) where
        more_square : At lent (suc n) 1 0 0 [] (all unit_wait (U.square (x ∷ us) ∷ fs)) [] false (acted 4 (U.square us ∷ fs) (words x) 12)
        unfolding taking crowded_by all unit_wait listed
        more_square = C.commas lent n more stack size [] 0 0 4 8 (length us) (listed words us) (all unit_wait fs) d h start (words x) 12 refl

        close_square : At lent (suc n) 4 0 0 [] (all unit_wait fs) (words (collection (U.onto us (x ▸ empty)))) true (acted 4 (U.square us ∷ fs) (words x) 547)
        unfolding taking bare_by all unit_wait words Held
        close_square = let b = h.3 in subst (λ w. At lent (suc n) 4 0 0 [] (all unit_wait fs) w true (acted 4 (U.square us ∷ fs) (words x) 547)) (units_closed 1 us x (omega arith))
            (C.closes lent n more stack size [] 0 0 4 8 (length us) (listed words us) (all unit_wait fs) d h start (words x) 547 1)

      module _ (h : Held n stack [] (all unit_wait (U.round us ∷ fs))) where
        more_round : crowded_by 0 (length us) ≡ false → At lent (suc n) 1 0 0 [] (all unit_wait (U.round (x ∷ us) ∷ fs)) [] false (acted 4 (U.round us ∷ fs) (words x) 12)
        unfolding taking all unit_wait listed
        more_round e = C.commas lent n more stack size [] 0 0 4 0 (length us) (listed words us) (all unit_wait fs) d h start (words x) 12 e

        full_round : crowded_by 0 (length us) ≡ true → (acted 4 (U.round us ∷ fs) (words x) 12).stand.cause ≡ 9
        unfolding taking view all unit_wait listed
        full_round e = C.crowds lent n more stack size [] 0 0 4 0 (length us) (listed words us) (all unit_wait fs) d h start (words x) 12 e

    close_round : (us : List Value) (fs : List U.Frame) → suc (length (all unit_wait fs)) ≤ n → Held n stack [] (all unit_wait (U.round us ∷ fs))
        → At lent (suc n) 4 0 0 [] (all unit_wait fs) (words (U.grouped us x)) true (acted 4 (U.round us ∷ fs) (words x) 803)
    unfolding taking bare_by all unit_wait words Held listed U.grouped
    close_round [] fs d h = C.closes lent n more stack size [] 0 0 4 0 0 [] (all unit_wait fs) d h start (words x) 803 1
    close_round (u ∷ us) fs d h = let b = h.3 in
        subst (λ w. At lent (suc n) 4 0 0 [] (all unit_wait fs) w true (acted 4 (U.round (u ∷ us) ∷ fs) (words x) 803))
        (ap (λ t. C.head_by t 2 (bits_of 0 (suc (length us) + 1)) ((listed words us ++ words u) ++ words x)) (ne_eqb (suc (length us)) 0 (λ e. absurd (omega arith))) ∙ units_closed 2 (u ∷ us) x (omega arith))
        (C.closes lent n more stack size [] 0 0 4 0 (suc (length us)) (listed words (u ∷ us)) (all unit_wait fs) d h start (words x) 803 1)

    pub have_step : (fs : List U.Frame) (k : ℕ) → length (all unit_wait fs) ≤ n → Held n stack [] (all unit_wait fs) → k < 24
        → Follows lent (suc n) (step_of (in_units (U.have x fs)) (tok k value)) (gone 4 fs (words x) k)
    unfolding step_of token_of U.take U.at_mark U.at_number U.parted U.parts U.ending look code handed is_mark after_part on_step blame Follows Stands InUnits cause_of taking action_of refused view row_of shade_by all unit_wait
    have_step [] k d h l = have_row 4 [] k h l refl
        (by_kind (Had [] 4) refl refl refl refl refl refl refl refl refl refl refl refl refl refl refl to_matcher refl refl refl refl refl refl refl refl k l)
    have_step (U.square us ∷ fs) k d h l = have_row 5 (U.square us ∷ fs) k h l (go (eqb (length us) 0))
        (by_kind (Had (U.square us ∷ fs) 5) refl refl refl refl refl (more_square us fs d h) refl refl refl (close_square us fs d h) refl refl refl refl refl refl refl refl refl refl refl refl refl refl k l)
      where
        go : (b : Bool) → row_of 4 (cond b 3 2) ≡ 5
        go true = refl
        go false = refl
    have_step (U.round us ∷ fs) k d h l = have_row 6 (U.round us ∷ fs) k h l refl
        (by_kind (Had (U.round us ∷ fs) 6) (q underscore refl refl) (q hash refl refl) (q bang refl refl) (q plus refl refl) (q minus refl refl)
        (parts lent (suc n) in_units (stops misplaced) (ltb (suc (length us)) 4) (U.have (U.grouped us x) fs) (U.want (U.round (x ∷ us) ∷ fs)) (acted 4 (U.round us ∷ fs) (words x) 12)
        (λ e. more_round us fs d h (roomy (length us) true e)) (λ e. full_round us fs d h (roomy (length us) false e)))
        (q opening refl refl) (close_round us fs d h) (q left refl refl) (q right refl refl) (q anything refl refl) (q integers refl refl) (q list_of refl refl) (q multiset_of refl refl) (q matching refl refl)
        (q by refl refl) (q with' refl refl) refl refl refl refl refl refl refl k l)
      where
        q : (m : Mark) → eqb (code closing) (code m) ≡ false → eqb (code comma) (code m) ≡ false
            → Follows lent (suc n) (on_step in_units (stops misplaced) (look (U.parted x (U.round us ∷ fs)) m)) (acted 4 (U.round us ∷ fs) (words x) 0)
        q m e f = misses lent (suc n) in_units (stops misplaced) (ltb (suc (length us)) 4) (U.have (U.grouped us x) fs) (U.want (U.round (x ∷ us) ∷ fs)) m (acted 4 (U.round us ∷ fs) (words x) 0) e f refl

  -- Before the rule.
  pub begin_step : (k : ℕ) → k < 24 → Follows lent (suc n) (step_of begins (tok k value)) (gone 0 [] [] k)
  unfolding step_of token_of code handed is_mark blame Follows Stands InUnits cause_of taking appending appended too_large putting_some puts pushed piled start_of action_of refused sectioned view row_of reach_of shade_by all unit_wait under units_words Held
  begin_step k l = subst (Follows lent (suc n) (step_of begins (tok k value))) (sym (by_row_lem 0 0 [] [] k tt l refl refl))
      (by_kind (λ k. Follows lent (suc n) (step_of begins (tok k value)) (acted 0 [] [] (action_of 0 k))) refl refl refl refl refl refl refl refl refl refl refl refl refl refl
      (A.moved lent n more stack size [] 0 0 0 [] (omega arith) tt 1 start [] false (λ x. absurd x)) (wants false [] refl (A.sections lent n more stack size [] 0 0 0 7 start [])) refl refl refl refl refl refl refl refl k l)
