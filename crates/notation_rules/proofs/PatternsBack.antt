-- Laws of what specs/PatternsBack.antt defines.
use Rattle.std.specs.Prelude.{ℕ, zero, suc, ◌+◌, ◌≤◌, ◌<◌, ◌≡◌, length, T, ℤ, pos, negsuc}
use Rattle.std.proofs.Common.{arith, ◌∙◌}
use Rattle.std.proofs.Math.Path.{refl, ap}
use Rattle.std.proofs.Math.Bool.{true, false}
use mathlib.Core.List.{List, [], ◌∷◌}
use Rattle.rules.specs.Forms.{Pattern, wildcard, variable, constant, value, nil, cons, join, tuple, both, either, never, Patterns, no_patterns, ◌▸ᵖ◌, countᵖ}
use Rattle.rules.specs.Numbers.{in_range}
use Rattle.notation_rules.specs.Tokens.{Outcome, refused, Sign, consing, joining, anding, oring}
use Rattle.notation_rules.specs.Tokens.{bang, comma, opening, closing}
use Rattle.notation_rules.specs.Tokens.{Token, mark, sign, number, next, no, bad, ◌⇒◌, code, look, minus', numeral, ranged_in}
use Rattle.notation_rules.specs.Tokens.{stopped, run, run_next}
use Rattle.notation_rules.specs.Patterns.{level, build, wrap, write_constant, write_value, write, write_parts, write_rest}
use Rattle.notation_rules.specs.Patterns.{Frame, waiting, denied, opened, want, hashed, negative, signed, shutting, Mode, ◌on◌, have}
use Rattle.notation_rules.specs.Patterns.{depth, finish, collapse, onto, grouped, parts, parted, at_mark, at_binding, at_use, at_number, reach, after, take, alone, ending, patterns}
use Rattle.notation_rules.specs.PatternsBack.{Fine, FineAll, at_most, follow, test, top, width}

collapse_stay : {A : Type 0} (l : ℕ) (k : Pattern → List Frame → A) (p : Pattern) (fs : List Frame) → top fs ≤ l → collapse l k p fs ≡ k p fs
unfolding collapse top
collapse_stay l k p [] h = refl
collapse_stay l k p (f ∷ fs) h = test (λ r. r ≡ k p (f ∷ fs)) l (depth f) (λ g. absurd (omega arith)) (λ g. refl)

collapse_end : {A : Type 0} (l : ℕ) (k : Pattern → List Frame → A) (p : Pattern) (f : Frame) (fs : List Frame) → l < depth f
    → collapse l k p (f ∷ fs) ≡ collapse l k (finish f p) fs
unfolding collapse
collapse_end l k p f fs h = test (λ r. r ≡ collapse l k (finish f p) fs) l (depth f) (λ g. refl) (λ g. absurd (omega arith))

-- A comma or a closing bracket follows each part.
follow_rest : (ps : Patterns) (ts : List Token) → follow (write_rest ps ts) < 1
unfolding follow write_rest reach
follow_rest no_patterns ts = omega arith
follow_rest (p ▸ᵖ ps) ts = omega arith

-- Up to three parts before it, a comma can be taken up.
comma_next : (p : Pattern) (qs : List Pattern) (fs : List Frame) → suc (length qs) < 4 → after (mark comma) p (opened qs ∷ fs) ≡ next (want on opened (p ∷ qs) ∷ fs)
unfolding after parted parts look code
comma_next p qs fs h = test (λ e. look (closing ⇒ have (grouped qs p) fs ∷ e ∷ []) comma ≡ next (want on opened (p ∷ qs) ∷ fs)) (suc (length qs)) 4
    (λ g. refl) (λ g. absurd (omega arith))

module _ {B : Type 0} (k : Pattern → List Token → Outcome B) where
  -- A frame that is tighter than what follows can be ended before that is seen.
  run_end : (p : Pattern) (f : Frame) (fs : List Frame) (ts : List Token) → follow ts < depth f
      → run patterns k (have p (f ∷ fs)) ts ≡ run patterns k (have (finish f p) fs) ts
  unfolding run patterns take ending follow
  run_end p f fs [] h = ap (λ o. stopped k o []) (collapse_end 0 alone p f fs h)
  run_end p f fs (t ∷ ts) h =
      ap (λ o. elim o as (λ _. Outcome B) [ next m ↦ run patterns k m ts | no ↦ stopped k (collapse 0 alone p (f ∷ fs)) (t ∷ ts) | bad c ↦ refused c (suc (length ts)) ]) (collapse_end (reach t) (after t) p f fs h)
      ∙ ap (λ e. elim (collapse (reach t) (after t) (finish f p) fs) as (λ _. Outcome B) [ next m ↦ run patterns k m ts | no ↦ stopped k e (t ∷ ts) | bad c ↦ refused c (suc (length ts)) ]) (collapse_end 0 alone p f fs (omega arith))

  -- After a pattern, with nothing tighter waiting, a token is taken up at once.
  run_after : (t : Token) (p : Pattern) (fs : List Frame) (ts : List Token) (m : Mode) → top fs ≤ reach t → after t p fs ≡ next m
      → run patterns k (have p fs) (t ∷ ts) ≡ run patterns k m ts
  unfolding patterns take
  run_after t p fs ts m h e = run_next patterns k (have p fs) m t ts (collapse_stay (reach t) (after t) p fs h ∙ e)

  -- The writing w is read as p wherever nothing tighter than n waits and what follows is looser than n.
  abbrev pub Reads : ℕ → Pattern → (List Token → List Token) → Type 0
  Reads n p w = (fs : List Frame) (ts : List Token) → top fs ≤ n → follow ts < n → run patterns k (want on fs) (w ts) ≡ run patterns k (have p fs) ts

  bracketed : (j : ℕ) (p : Pattern) (w : List Token → List Token) → 0 < j → Reads j p w → (fs : List Frame) (ts : List Token)
      → run patterns k (want on fs) (mark opening ∷ w (mark closing ∷ ts)) ≡ run patterns k (have p fs) ts
  unfolding run patterns take at_mark look code top follow reach depth after parted grouped
  bracketed j p w z r fs ts = r (opened [] ∷ fs) (mark closing ∷ ts) (omega arith) (omega arith)
      ∙ run_after (mark closing) p (opened [] ∷ fs) ts (have p fs) (omega arith) refl

  wrapped : (j n : ℕ) (p : Pattern) (w : List Token → List Token) → 0 < j → Reads j p w → Reads n p (wrap j n w)
  unfolding wrap
  wrapped j n p w z r fs ts a b = test (λ us. run patterns k (want on fs) us ≡ run patterns k (have p fs) ts) j n
      (λ h. bracketed j p w z r fs ts)
      (λ h. r fs ts (omega arith) (omega arith))

  binary : (s : Sign) (p q : Pattern) (v w : List Token → List Token) → Reads (suc (level s)) p v → Reads (level s) q w
      → Reads (level s) (build s p q) (λ ts. v (sign s ∷ w ts))
  unfolding top follow reach depth after finish
  binary s p q v w f g fs ts a b =
      f fs (sign s ∷ w ts) (omega arith) (omega arith)
      ∙ run_after (sign s) p fs (w ts) (want on waiting s p ∷ fs) (omega arith) refl
      ∙ g (waiting s p ∷ fs) ts (omega arith) b
      ∙ run_end q (waiting s p) fs ts b

  -- `#`, a number and what is built of it; and in brackets after a name.
  constant_back : (c : ℤ) → T (in_range c) → (fs : List Frame) (ts : List Token) → run patterns k (want on fs) (write_constant c ts) ≡ run patterns k (have (constant c) fs) ts
  unfolding write_constant run patterns take at_mark look code at_number numeral minus'
  constant_back (pos n) h fs ts = run_next patterns k (hashed on fs) (have (constant (pos n)) fs) (number n) ts (ranged_in (pos n) _ h)
  constant_back (negsuc n) h fs ts = run_next patterns k (negative on fs) (have (constant (negsuc n)) fs) (number (suc n)) ts (ranged_in (negsuc n) _ h)

  value_back : (v c : ℤ) → T (in_range c) → (fs : List Frame) (ts : List Token) → run patterns k (want on fs) (write_value v c ts) ≡ run patterns k (have (value v c) fs) ts
  unfolding write_value run patterns take at_mark look code at_use at_number numeral minus'
  value_back v (pos zero) h fs ts = refl
  value_back v (pos (suc n)) h fs ts =
      run_next patterns k (signed v false on fs) (shutting (value v (pos (suc n))) on fs) (number (suc n)) (mark closing ∷ ts) (ranged_in (pos (suc n)) _ h)
  value_back v (negsuc n) h fs ts =
      run_next patterns k (signed v true on fs) (shutting (value v (negsuc n)) on fs) (number (suc n)) (mark closing ∷ ts) (ranged_in (negsuc n) _ h)

  mutual
    unfolding Fine FineAll width write write_parts write_rest level build run patterns take at_mark at_binding look code top follow reach depth after parted grouped onto finish countᵖ

    pub back : (p : Pattern) (n : ℕ) → Fine p → Reads n p (write n p)
    back wildcard n h = λ fs ts a b. refl
    back nil n h = λ fs ts a b. refl
    back (variable v) n h = λ fs ts a b. refl
    back (constant c) n h = λ fs ts a b. constant_back c h fs ts
    back (value v c) n h = λ fs ts a b. value_back v c h fs ts
    back (cons p q) n h = wrapped 3 n (cons p q) (λ us. write 4 p (sign consing ∷ write 3 q us)) (omega arith)
        (binary consing p q (write 4 p) (write 3 q) (back p 4 h.0) (back q 3 h.1))
    back (join p q) n h = wrapped 3 n (join p q) (λ us. write 4 p (sign joining ∷ write 3 q us)) (omega arith)
        (binary joining p q (write 4 p) (write 3 q) (back p 4 h.0) (back q 3 h.1))
    back (both p q) n h = wrapped 2 n (both p q) (λ us. write 3 p (sign anding ∷ write 2 q us)) (omega arith)
        (binary anding p q (write 3 p) (write 2 q) (back p 3 h.0) (back q 2 h.1))
    back (either p q) n h = wrapped 1 n (either p q) (λ us. write 2 p (sign oring ∷ write 1 q us)) (omega arith)
        (binary oring p q (write 2 p) (write 1 q) (back p 2 h.0) (back q 1 h.1))
    back (never p) n h = wrapped 4 n (never p) (λ us. mark bang ∷ write 4 p us) (omega arith)
        (λ fs ts a b. back p 4 h (denied ∷ fs) ts (omega arith) b ∙ run_end p denied fs ts b)
    back (tuple ps) n h = λ fs ts a b. back_parts ps fs ts h.0 h.1

    back_parts : (ps : Patterns) (fs : List Frame) (ts : List Token) → T (width (countᵖ ps)) → FineAll ps
        → run patterns k (want on opened [] ∷ fs) (write_parts ps ts) ≡ run patterns k (have (tuple ps) fs) ts
    back_parts no_patterns fs ts l h = absurd l
    back_parts (p ▸ᵖ ps) fs ts l h = back p 1 h.0 (opened [] ∷ fs) (write_rest ps ts) (omega arith) (follow_rest ps ts) ∙ back_second ps p fs ts l h.1

    back_second : (ps : Patterns) (p : Pattern) (fs : List Frame) (ts : List Token) → T (width (suc (countᵖ ps))) → FineAll ps
        → run patterns k (have p (opened [] ∷ fs)) (write_rest ps ts) ≡ run patterns k (have (tuple (p ▸ᵖ ps)) fs) ts
    back_second no_patterns p fs ts l h = absurd l
    back_second (q ▸ᵖ ps) p fs ts l h =
        let most = at_most (suc (suc (countᵖ ps))) l in
        run_after (mark comma) p (opened [] ∷ fs) (write 1 q (write_rest ps ts)) (want on opened (p ∷ []) ∷ fs) (omega arith) (comma_next p [] fs (omega arith))
        ∙ back q 1 h.0 (opened (p ∷ []) ∷ fs) (write_rest ps ts) (omega arith) (follow_rest ps ts)
        ∙ back_rest ps q p [] fs ts (omega arith) h.1

    -- The parts that follow, after the part p and at least one before it.
    back_rest : (ps : Patterns) (p q : Pattern) (qs : List Pattern) (fs : List Frame) (ts : List Token) → 2 + length qs + countᵖ ps ≤ 4 → FineAll ps
        → run patterns k (have p (opened (q ∷ qs) ∷ fs)) (write_rest ps ts) ≡ run patterns k (have (tuple (onto (q ∷ qs) (p ▸ᵖ ps))) fs) ts
    back_rest no_patterns p q qs fs ts l h = run_after (mark closing) p (opened (q ∷ qs) ∷ fs) ts (have (tuple (onto (q ∷ qs) (p ▸ᵖ no_patterns))) fs) (omega arith) refl
    back_rest (r ▸ᵖ ps) p q qs fs ts l h =
        run_after (mark comma) p (opened (q ∷ qs) ∷ fs) (write 1 r (write_rest ps ts)) (want on opened (p ∷ (q ∷ qs)) ∷ fs) (omega arith) (comma_next p (q ∷ qs) fs (omega arith))
        ∙ back r 1 h.0 (opened (p ∷ (q ∷ qs)) ∷ fs) (write_rest ps ts) (omega arith) (follow_rest ps ts)
        ∙ back_rest ps r p (q ∷ qs) fs ts (omega arith) h.1

  -- ---- The brackets are needed: without them the same tokens are another pattern.
  looser : (n j : ℕ) (p : Pattern) (w : List Token → List Token) → n ≤ j → Reads j p w → Reads n p w
  looser n j p w h r fs ts a b = r fs ts (omega arith) (omega arith)

  -- `p s q t r` groups to the right where t is as tight as s or tighter, so the left group keeps its brackets;
  pub grouped_right : (s t : Sign) (p q r : Pattern) (u v w : List Token → List Token) → level s ≤ level t
      → Reads (suc (level s)) p u → Reads (suc (level t)) q v → Reads (level t) r w
      → Reads (level s) (build s p (build t q r)) (λ ts. u (sign s ∷ v (sign t ∷ w ts)))
  grouped_right s t p q r u v w h f g i =
      binary s p (build t q r) u (λ ts. v (sign t ∷ w ts)) f (looser (level s) (level t) (build t q r) (λ ts. v (sign t ∷ w ts)) h (binary t q r v w g i))

  -- and to the left where t is looser, so the right group keeps them.
  pub grouped_left : (s t : Sign) (p q r : Pattern) (u v w : List Token → List Token) → level t < level s
      → Reads (suc (level s)) p u → Reads (level s) q v → Reads (level t) r w
      → Reads (level t) (build t (build s p q) r) (λ ts. u (sign s ∷ v (sign t ∷ w ts)))
  grouped_left s t p q r u v w h f g i =
      binary t (build s p q) r (λ ts. u (sign s ∷ v ts)) w
      (looser (suc (level t)) (level s) (build s p q) (λ ts. u (sign s ∷ v ts)) h (binary s p q u v f g)) i
