-- A step in the pattern of a rule, after a pattern: a sign, a comma, a bracket's end.
use Rattle.std.specs.Prelude.{ℕ, suc, ◌+◌, ◌-◌, ◌≤◌, ◌<◌, ◌≡◌, Bool, length, ltb}
use Rattle.std.proofs.Common.{arith, sym, ◌∙◌, ne_eqb}
use Rattle.std.proofs.Math.Path.{refl, ap, subst}
use Rattle.std.proofs.Math.Bool.{true, false, cond}
use Rattle.std.proofs.Math.Option.{Option}
use mathlib.Core.List.{List, [], ◌∷◌, ◌++◌}
use Rattle.std.proofs.lemmas.Bool.{lt-leb}
use Rattle.std.proofs.Math.Dec.{eqb}
use Rattle.std.proofs.Math.IntN.{ℤ}
use Rattle.rules.specs.Forms.{Value, Matcher, Pattern}
use Rattle.forms.specs.Written.{pattern_words}
use Rattle.notation_rules.specs.Tokens.{misplaced, consing, joining, anding, oring, Mark, comma, closing, underscore, hash, bang, plus, minus, opening, left, right, anything, integers, list_of, multiset_of, matching, by, with', code, look, blame}
use Rattle.notation_rules.specs.Patterns as P
use Rattle.notation_rules.specs.Patterns.{want, ◌on◌, have}
use Rattle.notation_step.specs.Stepped.{View, view, bits_of, taking, action_of, action_at, row_of, reach_of, settled, refused, bare_by, crowded_by, stepped}
use Rattle.notation_step.specs.declared.Waiting.{Waiting}
use Rattle.notation_same.specs.Chars.{token_of}
use Rattle.notation_grammar.specs.Over.{over}
use Rattle.notation_grammar.specs.Waits.{Wait, wait, under, Held}
use Rattle.notation_grammar.specs.Acts.{standing, At}
use Rattle.notation_grammar.specs.Acts as A
use Rattle.notation_grammar.specs.Closes as C
use Rattle.notation_grammar.specs.Closes.{shade_by, shade_is}
use Rattle.notation_grammar.specs.One.{in_pattern, Next, stops, on_step, step_of}
use Rattle.notation_grammar.specs.Shapes.{cause_of, listed, patterns_closed, all, sign_tag, pattern_wait, units_words, both_words, AtPattern, InPattern, Stands, Follows}
use Rattle.notation_grammar.specs.Steps.{tok, by_kind, parts, misses, roomy}
use Rattle.notation_grammar.proofs.PatternReads.{Open, nothing, one, is_open, Rest, rest, stood}

-- The row after a pattern, with a bracket that waits last or without, does the same with a sign.
any_action : (k a : ℕ) (gs : List Wait) → action_of 20 k ≡ a → action_of 21 k ≡ a → action_of (row_of 20 (shade_by gs)) k ≡ a
unfolding shade_by row_of
any_action k a [] e f = e
any_action k a (wait i n ws ∷ gs) e f = go (eqb i 0) (eqb i 8) (eqb n 0)
  where
    go : (x y z : Bool) → action_of (row_of 20 (cond x 1 (cond y (cond z 3 2) 0))) k ≡ a
    go true y z = f
    go false true true = e
    go false true false = e
    go false false z = e

module _ (lent : List ℤ) (n : ℕ) (more : n < 16384) (stack : List Waiting) (size : length stack ≡ 16384) (number : ℕ) (u : Option Value) (m : Matcher) where
  abbrev acted : (start : ℕ) → List P.Frame → Pattern → (a : ℕ) → View
  acted start fs p a = taking stack (over (under (both_words u m) (all pattern_wait fs) ++ pattern_words p) lent) (stood n stack u m fs p start) a number

  abbrev pub gone : (start : ℕ) → List P.Frame → Pattern → (k : ℕ) → View
  gone start fs p k = stepped stack (over (under (both_words u m) (all pattern_wait fs) ++ pattern_words p) lent) (stood n stack u m fs p start) k number

  -- What the notation does once all that is tighter has ended.
  abbrev after : List P.Frame → Pattern → (k : ℕ) → Next
  after fs p k = on_step (in_pattern u m) (stops (blame (tok k number))) (P.after (tok k number) p fs)

  reaches : (r start : ℕ) (fs : List P.Frame) (p : Pattern) (t : Rest n stack u m r start fs p) (k : ℕ) → k < 24 → reach_of 20 k ≡ r → P.reach (tok k number) ≡ r
      → Follows lent (suc n) (after t.frames t.it k) (acted t.begin t.frames t.it (action_of (row_of 20 (shade_by (all pattern_wait t.frames))) k))
      → Follows lent (suc n) (step_of (in_pattern u m (have p fs)) (tok k number)) (gone start fs p k)
  unfolding step_of P.take stepped action_at
  reaches r start fs p t k l e f h =
      let c : List ℤ = under (both_words u m) (all pattern_wait fs) ++ pattern_words p in
      let s = stood n stack u m fs p start in
      let v = stood n stack u m t.frames t.it t.begin in
      subst (λ x. Follows lent (suc n) (on_step (in_pattern u m) (stops (blame (tok k number))) (P.collapse x (P.after (tok k number)) p fs)) (gone start fs p k)) (sym f)
      (subst (λ x. Follows lent (suc n) (on_step (in_pattern u m) (stops (blame (tok k number))) x) (gone start fs p k)) (sym (t.is_collapsed (P.after (tok k number))))
      (subst (Follows lent (suc n) (after t.frames t.it k))
      (sym (ap (λ b. cond b (view (refused s (k - 24)) stack (over c lent)) (taking stack (over c lent) (settled stack s (reach_of 20 k)) (action_at stack (settled stack s (reach_of 20 k)) k) number)) (lt-leb 24 k l)
      ∙ ap (λ x. taking stack (over c lent) (settled stack s x) (action_at stack (settled stack s x) k) number) e
      ∙ ap (λ x. taking stack (over c lent) x (action_at stack x k) number) t.stand
      ∙ ap (λ x. taking stack (over c lent) v (action_of (row_of 20 x) k) number) (shade_is n stack (both_words u m) (all pattern_wait t.frames) t.held)
      ∙ ap (λ x. taking stack (over x lent) v (action_of (row_of 20 (shade_by (all pattern_wait t.frames))) k) number) t.same)) h))

  module _ (start : ℕ) (p : Pattern) where
    -- ---- A sign.
    module _ (fs : List P.Frame) (deep : length (all pattern_wait fs) ≤ n) (held : Held n stack (both_words u m) (all pattern_wait fs)) (starts : start ≡ length (under (both_words u m) (all pattern_wait fs))) where
      cons_read : AtPattern lent (suc n) u m 11 (P.waiting consing p ∷ fs) [] false (acted start fs p 132698)
      unfolding taking all pattern_wait P.level sign_tag
      cons_read = A.signs lent n more stack size (both_words u m) (length (units_words u)) (length (both_words u m)) 20 (all pattern_wait fs) deep held 132698 start (pattern_words p) refl starts

      join_read : AtPattern lent (suc n) u m 11 (P.waiting joining p ∷ fs) [] false (acted start fs p 132954)
      unfolding taking all pattern_wait P.level sign_tag
      join_read = A.signs lent n more stack size (both_words u m) (length (units_words u)) (length (both_words u m)) 20 (all pattern_wait fs) deep held 132954 start (pattern_words p) refl starts

      and_read : AtPattern lent (suc n) u m 11 (P.waiting anding p ∷ fs) [] false (acted start fs p 100698)
      unfolding taking all pattern_wait P.level sign_tag
      and_read = A.signs lent n more stack size (both_words u m) (length (units_words u)) (length (both_words u m)) 20 (all pattern_wait fs) deep held 100698 start (pattern_words p) refl starts

      or_read : AtPattern lent (suc n) u m 11 (P.waiting oring p ∷ fs) [] false (acted start fs p 68186)
      unfolding taking all pattern_wait P.level sign_tag
      or_read = A.signs lent n more stack size (both_words u m) (length (units_words u)) (length (both_words u m)) 20 (all pattern_wait fs) deep held 68186 start (pattern_words p) refl starts

    -- ---- In a bracket.
    module _ (qs : List Pattern) (fs : List P.Frame) (d : suc (length (all pattern_wait fs)) ≤ n) (h : Held n stack (both_words u m) (all pattern_wait (P.opened qs ∷ fs))) where
      more_parts : crowded_by 0 (length qs) ≡ false → AtPattern lent (suc n) u m 11 (P.opened (p ∷ qs) ∷ fs) [] false (acted start (P.opened qs ∷ fs) p 92)
      unfolding taking all pattern_wait listed
      more_parts e = C.commas lent n more stack size (both_words u m) (length (units_words u)) (length (both_words u m)) 20 0 (length qs) (listed pattern_words qs) (all pattern_wait fs) d h start (pattern_words p) 92 e

      full : crowded_by 0 (length qs) ≡ true → (acted start (P.opened qs ∷ fs) p 92).stand.cause ≡ 9
      unfolding taking view all pattern_wait listed
      full e = C.crowds lent n more stack size (both_words u m) (length (units_words u)) (length (both_words u m)) 20 0 (length qs) (listed pattern_words qs) (all pattern_wait fs) d h start (pattern_words p) 92 e

    close : (qs : List Pattern) (fs : List P.Frame) → suc (length (all pattern_wait fs)) ≤ n → Held n stack (both_words u m) (all pattern_wait (P.opened qs ∷ fs))
        → AtPattern lent (suc n) u m 20 fs (pattern_words (P.grouped qs p)) true (acted start (P.opened qs ∷ fs) p 2211)
    unfolding taking bare_by all pattern_wait pattern_words Held listed P.grouped
    close [] fs d h = C.closes lent n more stack size (both_words u m) (length (units_words u)) (length (both_words u m)) 20 0 0 [] (all pattern_wait fs) d h start (pattern_words p) 2211 1
    close (q ∷ qs) fs d h = let b = h.3 in
        subst (λ w. AtPattern lent (suc n) u m 20 fs w true (acted start (P.opened (q ∷ qs) ∷ fs) p 2211))
        (ap (λ t. C.head_by t 7 (bits_of 0 (suc (length qs) + 1)) ((listed pattern_words qs ++ pattern_words q) ++ pattern_words p)) (ne_eqb (suc (length qs)) 0 (λ e. absurd (omega arith)))
        ∙ patterns_closed 7 (q ∷ qs) p (omega arith))
        (C.closes lent n more stack size (both_words u m) (length (units_words u)) (length (both_words u m)) 20 0 (suc (length qs)) (listed pattern_words (q ∷ qs)) (all pattern_wait fs) d h start (pattern_words p) 2211 1)

    abbrev Had : (fs : List P.Frame) (r k : ℕ) → Type 0
    Had fs r k = Follows lent (suc n) (after fs p k) (acted start fs p (action_of r k))

    read_open : (fs : List P.Frame) → Open fs → length (all pattern_wait fs) ≤ n → Held n stack (both_words u m) (all pattern_wait fs) → start ≡ length (under (both_words u m) (all pattern_wait fs)) → (k : ℕ) → k < 24
        → Had fs (row_of 20 (shade_by (all pattern_wait fs))) k
    unfolding token_of P.after P.parted P.parts look code on_step blame Follows Stands InPattern cause_of taking action_of refused view row_of shade_by all pattern_wait
    read_open fs nothing d h s k l = by_kind (Had [] 20) refl refl refl refl refl refl refl refl refl refl refl refl refl refl refl refl refl
        (cons_read [] d h s) (join_read [] d h s) (and_read [] d h s) (or_read [] d h s) refl refl refl k l
    read_open fs (one qs gs) d h s k l =
        by_kind (Had (P.opened qs ∷ gs) 21) (w underscore refl refl) (w hash refl refl) (w bang refl refl) (w plus refl refl) (w minus refl refl)
        (parts lent (suc n) (in_pattern u m) (stops misplaced) (ltb (suc (length qs)) 4) (have (P.grouped qs p) gs) (want on P.opened (p ∷ qs) ∷ gs) (acted start (P.opened qs ∷ gs) p 92)
        (λ e. more_parts qs gs d h (roomy (length qs) true e)) (λ e. full qs gs d h (roomy (length qs) false e)))
        (w opening refl refl) (close qs gs d h) (w left refl refl) (w right refl refl) (w anything refl refl) (w integers refl refl) (w list_of refl refl) (w multiset_of refl refl)
        (w matching refl refl) (w by refl refl) (w with' refl refl)
        (cons_read (P.opened qs ∷ gs) d h s) (join_read (P.opened qs ∷ gs) d h s) (and_read (P.opened qs ∷ gs) d h s) (or_read (P.opened qs ∷ gs) d h s) refl refl refl k l
      where
        w : (t : Mark) → eqb (code closing) (code t) ≡ false → eqb (code comma) (code t) ≡ false
            → Follows lent (suc n) (on_step (in_pattern u m) (stops misplaced) (look (P.parted p (P.opened qs ∷ gs)) t)) (acted start (P.opened qs ∷ gs) p 0)
        w t e f = misses lent (suc n) (in_pattern u m) (stops misplaced) (ltb (suc (length qs)) 4) (have (P.grouped qs p) gs) (want on P.opened (p ∷ qs) ∷ gs) t (acted start (P.opened qs ∷ gs) p 0) e f refl

  pub have_step : (start : ℕ) (fs : List P.Frame) (p : Pattern) → length (all pattern_wait fs) ≤ n → Held n stack (both_words u m) (all pattern_wait fs) → start ≡ length (under (both_words u m) (all pattern_wait fs))
      → (k : ℕ) → k < 24 → Follows lent (suc n) (step_of (in_pattern u m (have p fs)) (tok k number)) (gone start fs p k)
  unfolding token_of reach_of P.reach P.level P.after on_step Follows Stands InPattern action_of
  have_step start fs p d h s =
      by_kind (λ k. Follows lent (suc n) (step_of (in_pattern u m (have p fs)) (tok k number)) (gone start fs p k)) (z 0 (omega arith) refl refl) (z 1 (omega arith) refl refl) (z 2 (omega arith) refl refl)
      (z 3 (omega arith) refl refl) (z 4 (omega arith) refl refl) (z 5 (omega arith) refl refl) (z 6 (omega arith) refl refl) (z 7 (omega arith) refl refl) (z 8 (omega arith) refl refl)
      (z 9 (omega arith) refl refl) (z 10 (omega arith) refl refl) (z 11 (omega arith) refl refl) (z 12 (omega arith) refl refl) (z 13 (omega arith) refl refl) (z 14 (omega arith) refl refl)
      (z 15 (omega arith) refl refl) (z 16 (omega arith) refl refl) (sg 3 17 132698 (omega arith) refl refl refl refl (λ t i. cons_read t.begin t.it t.frames i t.held t.starts))
      (sg 3 18 132954 (omega arith) refl refl refl refl (λ t i. join_read t.begin t.it t.frames i t.held t.starts))
      (sg 2 19 100698 (omega arith) refl refl refl refl (λ t i. and_read t.begin t.it t.frames i t.held t.starts))
      (sg 1 20 68186 (omega arith) refl refl refl refl (λ t i. or_read t.begin t.it t.frames i t.held t.starts))
      (z 21 (omega arith) refl refl) (z 22 (omega arith) refl refl) (z 23 (omega arith) refl refl)
    where
      z : (k : ℕ) → k < 24 → reach_of 20 k ≡ 0 → P.reach (tok k number) ≡ 0 → Follows lent (suc n) (step_of (in_pattern u m (have p fs)) (tok k number)) (gone start fs p k)
      z k l e f = let t = rest n stack u m 0 fs p start s h in let i = t.deep in
          reaches 0 start fs p t k l e f (read_open t.begin t.it t.frames (is_open t.frames t.loose) (omega arith) t.held t.starts k l)

      sg : (r k a : ℕ) → k < 24 → reach_of 20 k ≡ r → P.reach (tok k number) ≡ r → action_of 20 k ≡ a → action_of 21 k ≡ a
          → ((t : Rest n stack u m r start fs p) → length (all pattern_wait t.frames) ≤ n → Follows lent (suc n) (after t.frames t.it k) (acted t.begin t.frames t.it a))
          → Follows lent (suc n) (step_of (in_pattern u m (have p fs)) (tok k number)) (gone start fs p k)
      sg r k a l e f b c g = let t = rest n stack u m r fs p start s h in let i = t.deep in
          reaches r start fs p t k l e f (subst (λ x. Follows lent (suc n) (after t.frames t.it k) (acted t.begin t.frames t.it x)) (sym (any_action k a (all pattern_wait t.frames) b c)) (g t (omega arith)))
