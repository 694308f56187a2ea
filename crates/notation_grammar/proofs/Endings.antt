-- Where the text ends, the code says what the notation says: a rule, or why it may not end there.
use Rattle.std.specs.Prelude.{ℕ, suc, ◌%◌, Bool, get_or, ltb, leb, ℤ}
use Rattle.std.proofs.Common.{arith, sym, ◌∙◌, lt-ltb}
use Rattle.std.proofs.Math.Path.{◌≡◌, refl, ap, subst}
use Rattle.std.proofs.Math.Bool.{true, false, cond}
use Rattle.std.proofs.Math.Option.{Option}
use mathlib.Core.List.{List, [], ◌∷◌, ◌++◌}
use Rattle.std.proofs.Math.ListN.{length}
use Rattle.rules.specs.Forms.{Value, Matcher, list, multiset, Pattern}
use Rattle.forms.specs.Written.{pattern_words}
use Rattle.notation_rules.specs.Tokens.{consing, joining, anding, oring, Outcome, done, refused}
use Rattle.notation_rules.specs.Targets as U
use Rattle.notation_rules.specs.Matchers as M
use Rattle.notation_rules.specs.Patterns as P
use Rattle.notation_rules.specs.Patterns.{want, bracket, hashed, negative, inner, named, signed, shutting, ◌on◌, have}
use Rattle.notation_rules.specs.Rules.{Rule, rule}
use Rattle.notation_step.specs.Stepped.{View, view, settled, ends}
use Rattle.notation_step.specs.Stepped as Code
use Rattle.notation_step.specs.declared.Waiting.{Waiting}
use Rattle.notation_grammar.specs.Over.{over}
use Rattle.notation_grammar.specs.Waits.{Wait, wait, under, Held}
use Rattle.notation_grammar.specs.Acts.{standing, At}
use Rattle.notation_grammar.specs.Closes as C
use Rattle.notation_grammar.specs.One.{Mode, begins, in_units, in_matcher, in_pattern, lacking, ruled, end_of}
use Rattle.notation_grammar.specs.Shapes.{cause_of, all, unit_wait, matcher_wait, pattern_wait, units_words, both_words, InMatcher, wants, has, InUnits, InPattern, Stands}
use Rattle.notation_grammar.proofs.PatternReads.{Open, nothing, one, is_open, Rest, rest}

-- Whether a bracket waits.
unfoldable pub bracket_in : List Wait → Bool
bracket_in [] = false
bracket_in (wait k c ws ∷ gs) = cond (leb (k % 8) 0) true (bracket_in gs)

waits_still : (n : ℕ) (stack : List Waiting) (place m p : ℕ) (base : List ℤ) (gs : List Wait) (item : List ℤ) (start : ℕ) → Held n stack base gs
    → ltb 0 (settled stack (standing place m p base gs item start) 0).top ≡ bracket_in gs
unfolding bracket_in Held
waits_still n stack place m p base [] item start h = ap (λ s. ltb 0 s.top) (C.settles_all n stack place m p base start item 0)
waits_still n stack place m p base (wait k c ws ∷ gs) item start h = go (leb (k % 8) 0) refl (waits_still n stack place m p base gs (ws ++ item) (length (under base gs)) h.4)
  where
    go : (b : Bool) → leb (k % 8) 0 ≡ b → ltb 0 (settled stack (standing place m p base gs (ws ++ item) (length (under base gs))) 0).top ≡ bracket_in gs
        → ltb 0 (settled stack (standing place m p base (wait k c ws ∷ gs) item start) 0).top ≡ cond b true (bracket_in gs)
    go true e i = ap (λ s. ltb 0 s.top) (C.stays n stack place m p base start item k c 0 ws gs h e) ∙ lt-ltb 0 (suc (length gs)) (omega arith)
    go false e i = ap (λ s. ltb 0 s.top) (C.ends n stack place m p base start item k c 0 ws gs h e) ∙ i

module _ (lent : List ℤ) (n : ℕ) where
  -- What the code says at the end of a text.
  unfoldable pub Finished : Outcome Rule → View → Type 0
  unfolding Code.end_of cause_of units_words both_words pattern_words over
  Finished (refused c r) v = (Code.end_of v.stack v.stand ≡ cause_of c) × (r ≡ 0)
  Finished (done (rule u m p)) v = (Code.end_of v.stack v.stand ≡ 0) × (v.stand.matcher ≡ length (units_words u)) × (v.stand.pattern ≡ length (both_words u m))
      × (v.stand.len ≡ length (both_words u m ++ pattern_words p)) × (v.words ≡ over (both_words u m ++ pattern_words p) lent)

  end_is : {place m p : ℕ} {base : List ℤ} {gs : List Wait} {item : List ℤ} {b : Bool} {v : View} → At lent n place m p base gs item b v
      → Code.end_of v.stack v.stand ≡ cond (bracket_in gs) 4 (get_or ends (place % 22) 0)
  unfolding Code.end_of view
  end_is {place} {m} {p} {base} {gs} {item} {b} {v} a =
      ap (λ x. Code.end_of x.stack x.stand) a.same ∙ ap (λ x. cond x 4 (get_or ends (place % 22) 0)) (waits_still n a.stack place m p base gs item a.start a.held)

  -- ---- In each part.
  units_lack : (fs : List U.Frame) → cond (bracket_in (all unit_wait fs)) 4 3 ≡ cause_of (U.lacking fs)
  unfolding bracket_in all unit_wait U.lacking cause_of
  units_lack [] = refl
  units_lack (U.square us ∷ fs) = refl
  units_lack (U.round us ∷ fs) = refl

  matcher_lacks : (fs : List M.Frame) → cond (bracket_in (all matcher_wait fs)) 4 3 ≡ cause_of (M.lacking fs)
  unfolding bracket_in all matcher_wait M.lacking cause_of
  matcher_lacks [] = refl
  matcher_lacks (M.lists ∷ fs) = matcher_lacks fs
  matcher_lacks (M.multisets ∷ fs) = matcher_lacks fs
  matcher_lacks (M.opened ks ∷ fs) = refl

  pattern_lacks : (fs : List P.Frame) → cond (bracket_in (all pattern_wait fs)) 4 3 ≡ cause_of (P.lacking fs)
  unfolding bracket_in all pattern_wait P.level P.lacking cause_of
  pattern_lacks [] = refl
  pattern_lacks (P.waiting consing p ∷ fs) = pattern_lacks fs
  pattern_lacks (P.waiting joining p ∷ fs) = pattern_lacks fs
  pattern_lacks (P.waiting anding p ∷ fs) = pattern_lacks fs
  pattern_lacks (P.waiting oring p ∷ fs) = pattern_lacks fs
  pattern_lacks (P.denied ∷ fs) = pattern_lacks fs
  pattern_lacks (P.opened qs ∷ fs) = refl

  four : (b : Bool) → ◌≡◌ {A = ℕ} (cond b 4 4) 4
  four true = refl
  four false = refl

  units_end : (x : U.Mode) (v : View) → InUnits lent n x v → Finished (lacking (U.ending x)) v
  unfolding InUnits U.ending lacking Finished cause_of bracket_in all unit_wait U.lacking
  units_end (U.want fs) v a = (end_is a ∙ units_lack fs, refl)
  units_end (U.negative fs) v a = (end_is a ∙ units_lack fs, refl)
  units_end (U.have x []) v a = (end_is a, refl)
  units_end (U.have x (U.square us ∷ fs)) v a = (end_is a, refl)
  units_end (U.have x (U.round us ∷ fs)) v a = (end_is a, refl)

  -- The code's cause where a matcher was read.
  read_lacks : (fs : List M.Frame) (m : Matcher) (v : View) → Code.end_of v.stack v.stand ≡ cond (bracket_in (all matcher_wait fs)) 4 3 → Finished (lacking (M.ending (M.ended m fs))) v
  unfolding M.ended M.ending M.lacking lacking Finished cause_of bracket_in all matcher_wait
  read_lacks [] m v e = (e, refl)
  read_lacks (M.lists ∷ fs) m v e = read_lacks fs (list m) v e
  read_lacks (M.multisets ∷ fs) m v e = read_lacks fs (multiset m) v e
  read_lacks (M.opened ks ∷ fs) m v e = (e, refl)

  matcher_end_lem : (u : Option Value) (x : M.Mode) (v : View) → InMatcher lent n u x v → Finished (lacking (M.ending x)) v
  unfolding M.ending lacking Finished
  matcher_end_lem u x v (wants true fs e a) = subst (λ y. Finished (lacking (M.ending y)) v) (sym e) (end_is a ∙ matcher_lacks fs, refl)
  matcher_end_lem u x v (wants false fs e a) = subst (λ y. Finished (lacking (M.ending y)) v) (sym e) (end_is a ∙ matcher_lacks fs, refl)
  matcher_end_lem u x v (has m fs e a) = subst (λ y. Finished (lacking (M.ending y)) v) (sym e) (read_lacks fs m v (end_is a))

  module _ (u : Option Value) (m : Matcher) where
    -- A pattern that is whole, and nothing waits; or a bracket does.
    whole_end : (stack : List Waiting) (start : ℕ) (fs : List P.Frame) (p : Pattern) (t : Rest n stack u m 0 start fs p) → Open t.frames
        → Finished (ruled u m (P.alone t.it t.frames)) (view (standing 20 (length (units_words u)) (length (both_words u m)) (both_words u m) (all pattern_wait fs) (pattern_words p) start) stack (over (under (both_words u m) (all pattern_wait fs) ++ pattern_words p) lent))
    unfolding Finished ruled P.alone P.lacking cause_of view Code.end_of all under
    whole_end stack start fs p t o = go t.it t.frames o (ap {B = ℕ} (λ s. cond (ltb 0 s.top) 4 0) t.stand) t.same
      where
        go : (q : Pattern) (gs : List P.Frame) → Open gs
            → ◌≡◌ {A = ℕ} (cond (ltb 0 (settled stack (standing 20 (length (units_words u)) (length (both_words u m)) (both_words u m) (all pattern_wait fs) (pattern_words p) start) 0).top) 4 0) (cond (ltb 0 (length (all pattern_wait gs))) 4 0)
            → under (both_words u m) (all pattern_wait fs) ++ pattern_words p ≡ under (both_words u m) (all pattern_wait gs) ++ pattern_words q
            → Finished (ruled u m (P.alone q gs)) (view (standing 20 (length (units_words u)) (length (both_words u m)) (both_words u m) (all pattern_wait fs) (pattern_words p) start) stack (over (under (both_words u m) (all pattern_wait fs) ++ pattern_words p) lent))
        go q gs nothing e w = (e, refl, refl, ap length w, ap (λ x. over x lent) w)
        go q gs (one qs hs) e w = (e ∙ ap {B = ℕ} (λ b. cond b 4 0) (lt-ltb 0 (suc (length (all pattern_wait hs))) (omega arith)), refl)

    pattern_end : (x : P.Mode) (v : View) → InPattern lent n u m x v → Finished (ruled u m (P.ending x)) v
    unfolding InPattern P.ending P.unfinished ruled Finished cause_of
    pattern_end (want on fs) v a = (end_is a ∙ pattern_lacks fs, refl)
    pattern_end (bracket on fs) v a = (end_is a ∙ four (bracket_in (all pattern_wait fs)), refl)
    pattern_end (hashed on fs) v a = (end_is a ∙ pattern_lacks fs, refl)
    pattern_end (negative on fs) v a = (end_is a ∙ pattern_lacks fs, refl)
    pattern_end (inner on fs) v a = (end_is a ∙ four (bracket_in (all pattern_wait fs)), refl)
    pattern_end (named z on fs) v a = (end_is a ∙ four (bracket_in (all pattern_wait fs)), refl)
    pattern_end (signed z true on fs) v a = (end_is a ∙ four (bracket_in (all pattern_wait fs)), refl)
    pattern_end (signed z false on fs) v a = (end_is a ∙ four (bracket_in (all pattern_wait fs)), refl)
    pattern_end (shutting p on fs) v a = (end_is a ∙ four (bracket_in (all pattern_wait fs)), refl)
    pattern_end (have p fs) v a =
        let t = rest n a.stack u m 0 fs p a.start (a.starts tt) a.held in
        subst (Finished (ruled u m (P.collapse 0 P.alone p fs))) (sym a.same)
        (subst (λ e. Finished (ruled u m e) (view (standing 20 (length (units_words u)) (length (both_words u m)) (both_words u m) (all pattern_wait fs) (pattern_words p) a.start) a.stack (over (under (both_words u m) (all pattern_wait fs) ++ pattern_words p) lent)))
        (sym (t.is_collapsed P.alone)) (whole_end a.stack a.start fs p t (is_open t.frames t.loose)))

  pub finished : (x : Mode) (v : View) → Stands lent n x v → Finished (end_of x) v
  unfolding Stands end_of Finished cause_of bracket_in all
  finished begins v a = (end_is a, refl)
  finished (in_units x) v a = units_end x v a
  finished (in_matcher u x) v a = matcher_end_lem u x v a
  finished (in_pattern u m x) v a = pattern_end u m x v a
