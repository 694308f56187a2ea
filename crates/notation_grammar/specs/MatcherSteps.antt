-- A step in the matcher of a rule.
use Rattle.std.specs.Prelude.{ℕ, suc, ◌+◌, ◌-◌, ◌≤◌, ◌<◌, ◌≡◌, Bool, length, ltb, pos}
use native.Mathlib.Omega.{arith}
use Rattle.std.proofs.Math.Path.{refl, ap, subst}
use Rattle.std.proofs.Common.{sym, ◌∙◌, ne_eqb}
use Rattle.std.proofs.Math.Bool.{true, false, cond}
use Rattle.std.proofs.Math.Option.{Option}
use mathlib.Core.List.{List, [], ◌∷◌, ◌++◌, append_assoc}
use Rattle.std.proofs.lemmas.Bool.{lt-leb}
use Rattle.std.proofs.Math.Dec.{eqb}
use Rattle.std.proofs.Math.IntN.{ℤ}
use Rattle.rules.specs.Forms.{Value, Matcher, something, integer, list, multiset}
use Rattle.forms.specs.Written.{matcher_words}
use Rattle.notation_rules.specs.Tokens.{misplaced, Mark, comma, closing, underscore, hash, bang, plus, minus, opening, left, right, anything, integers, list_of, multiset_of, matching, by, with', code, look, blame}
use Rattle.notation_rules.specs.Matchers as M
use Rattle.notation_rules.specs.Patterns.{want, ◌on◌}
use Rattle.notation_rules.specs.Rules.{is_mark}
use Rattle.notation_step.specs.Stepped.{View, view, bits_of, too_large, appending, taking, action_of, action_at, row_of, reach_of, settled, refused, bare_by, sectioned, crowded_by, stepped}
use Rattle.notation_step.specs.declared.Waiting.{Waiting}
use Rattle.notation_same.specs.Chars.{token_of}
use Rattle.notation_grammar.specs.Over.{over}
use Rattle.notation_grammar.specs.Waits.{under, Held}
use Rattle.notation_grammar.specs.Acts.{standing, At, new}
use Rattle.notation_grammar.specs.Acts as A
use Rattle.notation_grammar.specs.Closes as C
use Rattle.notation_grammar.specs.Closes.{shade_by, shade_is}
use Rattle.notation_grammar.specs.One.{in_matcher, stops, handed, after_part, on_step, step_of}
use Rattle.notation_grammar.specs.Shapes.{cause_of, listed, matchers_closed, all, matcher_wait, units_words, both_words, AtMatcher, InMatcher, wants, has, InPattern, Stands, Follows}
use Rattle.notation_grammar.specs.Steps.{tok, by_kind, any_row, from_place, parts, misses, roomy}

-- Nothing waits, or a bracket does.
data Open : List M.Frame → Type 0 where
  nothing : Open []
  one : (ks : List Matcher) (fs : List M.Frame) → Open (M.opened ks ∷ fs)

module _ (lent : List ℤ) (n : ℕ) (more : n < 16384) (stack : List Waiting) (size : length stack ≡ 16384) (value : ℕ) (u : Option Value) where
  abbrev acted : (place start : ℕ) → List M.Frame → List ℤ → (a : ℕ) → View
  acted place start fs item a =
      taking stack (over (under (units_words u) (all matcher_wait fs) ++ item) lent) (standing place 0 (length (units_words u)) (units_words u) (all matcher_wait fs) item start) a value

  abbrev pub gone : (place start : ℕ) → List M.Frame → List ℤ → (k : ℕ) → View
  gone place start fs item k =
      stepped stack (over (under (units_words u) (all matcher_wait fs) ++ item) lent) (standing place 0 (length (units_words u)) (units_words u) (all matcher_wait fs) item start) k value

  -- ---- Before a matcher.
  module _ (start : ℕ) (fs : List M.Frame) (deep : length (all matcher_wait fs) ≤ n) (held : Held n stack (units_words u) (all matcher_wait fs)) (place : ℕ) where
    group : InMatcher lent (suc n) u (M.want false (M.opened [] ∷ fs)) (acted place start fs [] 32825)
    unfolding taking appending too_large new all matcher_wait listed
    group = wants false (M.opened [] ∷ fs) refl (A.opens lent n more stack size (units_words u) 0 (length (units_words u)) place (all matcher_wait fs) deep held 32825 value start refl)

    anything_read : InMatcher lent (suc n) u (M.ended something fs) (acted place start fs [] 329)
    unfolding taking appending too_large new matcher_words
    anything_read = has something fs refl (A.begins lent n more stack size (units_words u) 0 (length (units_words u)) place (all matcher_wait fs) deep held 329 value start refl refl)

    integer_read : InMatcher lent (suc n) u (M.ended integer fs) (acted place start fs [] 585)
    unfolding taking appending too_large new matcher_words
    integer_read = has integer fs refl (A.begins lent n more stack size (units_words u) 0 (length (units_words u)) place (all matcher_wait fs) deep held 585 value start refl refl)

    list_read : InMatcher lent (suc n) u (M.want true (M.lists ∷ fs)) (acted place start fs [] 197441)
    unfolding taking appending too_large new all matcher_wait
    list_read = wants true (M.lists ∷ fs) refl (A.opens lent n more stack size (units_words u) 0 (length (units_words u)) place (all matcher_wait fs) deep held 197441 value start refl)

    multiset_read : InMatcher lent (suc n) u (M.want true (M.multisets ∷ fs)) (acted place start fs [] 197697)
    unfolding taking appending too_large new all matcher_wait
    multiset_read = wants true (M.multisets ∷ fs) refl (A.opens lent n more stack size (units_words u) 0 (length (units_words u)) place (all matcher_wait fs) deep held 197697 value start refl)

  pub want_step : (b : Bool) (start : ℕ) (fs : List M.Frame) (k : ℕ) → length (all matcher_wait fs) ≤ n → Held n stack (units_words u) (all matcher_wait fs) → k < 24
      → Follows lent (suc n) (step_of (in_matcher u (M.want b fs)) (tok k value)) (gone (cond b 8 7) start fs [] k)
  unfolding step_of token_of M.take M.at_mark M.ending look code after_part on_step blame Follows Stands cause_of taking action_of refused view row_of reach_of
  want_step true start fs k d h l = subst (Follows lent (suc n) (step_of (in_matcher u (M.want true fs)) (tok k value)))
      (sym (from_place n stack (over (under (units_words u) (all matcher_wait fs) ++ []) lent) (units_words u) 0 (length (units_words u)) 8 (all matcher_wait fs) h start [] 8 k value l refl (any_row 8 8 (all matcher_wait fs) refl refl refl refl)))
      (by_kind (λ k. Follows lent (suc n) (step_of (in_matcher u (M.want true fs)) (tok k value)) (acted 8 start fs [] (action_of 8 k))) refl refl refl refl refl refl (group start fs d h 8) refl refl refl
      (anything_read start fs d h 8) (integer_read start fs d h 8) refl refl refl refl refl refl refl refl refl refl refl refl k l)
  want_step false start fs k d h l = subst (Follows lent (suc n) (step_of (in_matcher u (M.want false fs)) (tok k value)))
      (sym (from_place n stack (over (under (units_words u) (all matcher_wait fs) ++ []) lent) (units_words u) 0 (length (units_words u)) 7 (all matcher_wait fs) h start [] 7 k value l refl (any_row 7 7 (all matcher_wait fs) refl refl refl refl)))
      (by_kind (λ k. Follows lent (suc n) (step_of (in_matcher u (M.want false fs)) (tok k value)) (acted 7 start fs [] (action_of 7 k))) refl refl refl refl refl refl (group start fs d h 7) refl refl refl
      (anything_read start fs d h 7) (integer_read start fs d h 7) (list_read start fs d h 7) (multiset_read start fs d h 7) refl refl refl refl refl refl refl refl refl refl k l)

  -- ---- After a matcher, the words that waited for it end.
  record Rest (start : ℕ) (fs : List M.Frame) (m : Matcher) : Type 0 where
    it : Matcher
    frames : List M.Frame
    begin : ℕ
    open' : Open frames
    is_ended : M.ended m fs ≡ M.have it frames
    starts : begin ≡ length (under (units_words u) (all matcher_wait frames))
    stand : settled stack (standing 9 0 (length (units_words u)) (units_words u) (all matcher_wait fs) (matcher_words m) start) 0
        ≡ standing 9 0 (length (units_words u)) (units_words u) (all matcher_wait frames) (matcher_words it) begin
    same : under (units_words u) (all matcher_wait fs) ++ matcher_words m ≡ under (units_words u) (all matcher_wait frames) ++ matcher_words it
    held : Held n stack (units_words u) (all matcher_wait frames)
    deep : length (all matcher_wait frames) ≤ length (all matcher_wait fs)

  rest : (fs : List M.Frame) (m : Matcher) (start : ℕ) → start ≡ length (under (units_words u) (all matcher_wait fs)) → Held n stack (units_words u) (all matcher_wait fs) → Rest start fs m
  unfolding M.ended all matcher_wait matcher_words under Held
  rest [] m start e h =
      record { it = m; frames = []; begin = start; open' = nothing; is_ended = refl; starts = e; stand = C.settles_all n stack 9 0 (length (units_words u)) (units_words u) start (matcher_words m) 0; same = refl; held = tt; deep = omega arith }
  rest (M.lists ∷ fs) m start e h =
      let r = rest fs (list m) (length (under (units_words u) (all matcher_wait fs))) refl h.4 in
      let d = r.deep in
      record {
        it = r.it;
        frames = r.frames;
        begin = r.begin;
        open' = r.open';
        is_ended = r.is_ended;
        starts = r.starts;
        stand = C.ends n stack 9 0 (length (units_words u)) (units_words u) start (matcher_words m) 5 0 0 (pos 2 ∷ []) (all matcher_wait fs) h refl ∙ r.stand;
        same = append_assoc (under (units_words u) (all matcher_wait fs)) (pos 2 ∷ []) (matcher_words m) ∙ r.same;
        held = r.held;
        deep = omega arith;
      }
  rest (M.multisets ∷ fs) m start e h =
      let r = rest fs (multiset m) (length (under (units_words u) (all matcher_wait fs))) refl h.4 in
      let d = r.deep in
      record {
        it = r.it;
        frames = r.frames;
        begin = r.begin;
        open' = r.open';
        is_ended = r.is_ended;
        starts = r.starts;
        stand = C.ends n stack 9 0 (length (units_words u)) (units_words u) start (matcher_words m) 5 0 0 (pos 3 ∷ []) (all matcher_wait fs) h refl ∙ r.stand;
        same = append_assoc (under (units_words u) (all matcher_wait fs)) (pos 3 ∷ []) (matcher_words m) ∙ r.same;
        held = r.held;
        deep = omega arith;
      }
  rest (M.opened ks ∷ fs) m start e h =
      record {
        it = m;
        frames = M.opened ks ∷ fs;
        begin = start;
        open' = one ks fs;
        is_ended = refl;
        starts = e;
        stand = C.stays n stack 9 0 (length (units_words u)) (units_words u) start (matcher_words m) 0 (length ks) 0 (listed matcher_words ks) (all matcher_wait fs) h refl;
        same = refl;
        held = h;
        deep = omega arith;
      }

  from_read : (start : ℕ) (fs : List M.Frame) (m : Matcher) (r : Rest start fs m) (k : ℕ) → k < 24
      → gone 9 start fs (matcher_words m) k ≡ acted 9 r.begin r.frames (matcher_words r.it) (action_of (row_of 9 (shade_by (all matcher_wait r.frames))) k)
  unfolding stepped action_at reach_of
  from_read start fs m r k l =
      let c : List ℤ = under (units_words u) (all matcher_wait fs) ++ matcher_words m in
      let s = standing 9 0 (length (units_words u)) (units_words u) (all matcher_wait fs) (matcher_words m) start in
      let t = standing 9 0 (length (units_words u)) (units_words u) (all matcher_wait r.frames) (matcher_words r.it) r.begin in
      ap (λ b. cond b (view (refused s (k - 24)) stack (over c lent)) (taking stack (over c lent) (settled stack s 0) (action_at stack (settled stack s 0) k) value)) (lt-leb 24 k l)
      ∙ ap (λ x. taking stack (over c lent) x (action_at stack x k) value) r.stand
      ∙ ap (λ x. taking stack (over c lent) t (action_of (row_of 9 x) k) value) (shade_is n stack (units_words u) (all matcher_wait r.frames) r.held)
      ∙ ap (λ x. taking stack (over x lent) t (action_of (row_of 9 (shade_by (all matcher_wait r.frames))) k) value) r.same

  module _ (start : ℕ) (m : Matcher) where
    abbrev Had : (fs : List M.Frame) (r k : ℕ) → Type 0
    Had fs r k = Follows lent (suc n) (step_of (in_matcher u (M.have m fs)) (tok k value)) (acted 9 start fs (matcher_words m) (action_of r k))

    to_pattern : InPattern lent (suc n) u m (want on []) (acted 9 start [] (matcher_words m) 94)
    unfolding taking sectioned view all under InPattern both_words
    to_pattern = A.sections lent n more stack size (units_words u) 0 (length (units_words u)) 9 11 start (matcher_words m)

    module _ (ks : List Matcher) (fs : List M.Frame) (d : suc (length (all matcher_wait fs)) ≤ n) (h : Held n stack (units_words u) (all matcher_wait (M.opened ks ∷ fs))) where
      more_parts : crowded_by 0 (length ks) ≡ false → InMatcher lent (suc n) u (M.want false (M.opened (m ∷ ks) ∷ fs)) (acted 9 start (M.opened ks ∷ fs) (matcher_words m) 60)
      unfolding taking all matcher_wait listed
      more_parts e = wants false (M.opened (m ∷ ks) ∷ fs) refl
          (C.commas lent n more stack size (units_words u) 0 (length (units_words u)) 9 0 (length ks) (listed matcher_words ks) (all matcher_wait fs) d h start (matcher_words m) 60 e)

      full : crowded_by 0 (length ks) ≡ true → (acted 9 start (M.opened ks ∷ fs) (matcher_words m) 60).stand.cause ≡ 9
      unfolding taking view all matcher_wait listed
      full e = C.crowds lent n more stack size (units_words u) 0 (length (units_words u)) 9 0 (length ks) (listed matcher_words ks) (all matcher_wait fs) d h start (matcher_words m) 60 e

    close : (ks : List Matcher) (fs : List M.Frame) → suc (length (all matcher_wait fs)) ≤ n → Held n stack (units_words u) (all matcher_wait (M.opened ks ∷ fs))
        → AtMatcher lent (suc n) u 9 fs (matcher_words (M.grouped ks m)) true (acted 9 start (M.opened ks ∷ fs) (matcher_words m) 1355)
    unfolding taking bare_by all matcher_wait matcher_words Held listed M.grouped
    close [] fs d h = C.closes lent n more stack size (units_words u) 0 (length (units_words u)) 9 0 0 [] (all matcher_wait fs) d h start (matcher_words m) 1355 1
    close (i ∷ ks) fs d h = let b = h.3 in
        subst (λ w. AtMatcher lent (suc n) u 9 fs w true (acted 9 start (M.opened (i ∷ ks) ∷ fs) (matcher_words m) 1355))
        (ap (λ t. C.head_by t 4 (bits_of 0 (suc (length ks) + 1)) ((listed matcher_words ks ++ matcher_words i) ++ matcher_words m)) (ne_eqb (suc (length ks)) 0 (λ e. absurd (omega arith)))
        ∙ matchers_closed 4 (i ∷ ks) m (omega arith))
        (C.closes lent n more stack size (units_words u) 0 (length (units_words u)) 9 0 (suc (length ks)) (listed matcher_words (i ∷ ks)) (all matcher_wait fs) d h start (matcher_words m) 1355 1)

    read_open : (fs : List M.Frame) → Open fs → length (all matcher_wait fs) ≤ n → Held n stack (units_words u) (all matcher_wait fs) → (k : ℕ) → k < 24 → Had fs (row_of 9 (shade_by (all matcher_wait fs))) k
    unfolding step_of token_of M.take M.at_mark M.parted M.parts M.ending look code handed is_mark after_part on_step blame Follows Stands cause_of taking action_of refused view row_of shade_by all matcher_wait
    read_open fs nothing d h k l = by_kind (Had [] 9) refl refl refl refl refl refl refl refl refl refl refl refl refl refl refl refl to_pattern refl refl refl refl refl refl refl k l
    read_open fs (one ks gs) d h k l =
        by_kind (Had (M.opened ks ∷ gs) 10) (q underscore refl refl) (q hash refl refl) (q bang refl refl) (q plus refl refl) (q minus refl refl)
        (parts lent (suc n) (in_matcher u) (stops misplaced) (ltb (suc (length ks)) 4) (M.ended (M.grouped ks m) gs) (M.want false (M.opened (m ∷ ks) ∷ gs)) (acted 9 start (M.opened ks ∷ gs) (matcher_words m) 60)
        (λ e. more_parts ks gs d h (roomy (length ks) true e)) (λ e. full ks gs d h (roomy (length ks) false e)))
        (q opening refl refl) (has (M.grouped ks m) gs refl (close ks gs d h)) (q left refl refl) (q right refl refl) (q anything refl refl) (q integers refl refl) (q list_of refl refl) (q multiset_of refl refl)
        (q matching refl refl) (q by refl refl) (q with' refl refl) refl refl refl refl refl refl refl k l
      where
        q : (t : Mark) → eqb (code closing) (code t) ≡ false → eqb (code comma) (code t) ≡ false
            → Follows lent (suc n) (on_step (in_matcher u) (stops misplaced) (look (M.parted m (M.opened ks ∷ gs)) t)) (acted 9 start (M.opened ks ∷ gs) (matcher_words m) 0)
        q t e f = misses lent (suc n) (in_matcher u) (stops misplaced) (ltb (suc (length ks)) 4) (M.ended (M.grouped ks m) gs) (M.want false (M.opened (m ∷ ks) ∷ gs)) t (acted 9 start (M.opened ks ∷ gs) (matcher_words m) 0) e f refl

  pub have_step : (start : ℕ) (fs : List M.Frame) (m : Matcher) (k : ℕ) → length (all matcher_wait fs) ≤ n → Held n stack (units_words u) (all matcher_wait fs) → start ≡ length (under (units_words u) (all matcher_wait fs)) → k < 24
      → Follows lent (suc n) (step_of (in_matcher u (M.ended m fs)) (tok k value)) (gone 9 start fs (matcher_words m) k)
  have_step start fs m k d h e l =
      let r = rest fs m start e h in
      let i = r.deep in
      subst (λ x. Follows lent (suc n) (step_of (in_matcher u x) (tok k value)) (gone 9 start fs (matcher_words m) k)) (sym r.is_ended)
      (subst (Follows lent (suc n) (step_of (in_matcher u (M.have r.it r.frames)) (tok k value))) (sym (from_read start fs m r k l))
      (read_open r.begin r.it r.frames r.open' (omega arith) r.held k l))
