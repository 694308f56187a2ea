-- A step in the pattern of a rule, after a pattern.
use Rattle.std.specs.Prelude.{ℕ, ◌%◌, ◌≤◌, ◌<◌, ◌≡◌, Bool, cond, length, ltb, leb, T, ℤ, pos}
use Rattle.std.proofs.Common.{arith, mod-eq_of_lt, sym, ◌∙◌, le-leb, le-ltb, ltb-true, ltb-false}
use Rattle.std.proofs.Math.Path.{refl, ap, subst}
use Rattle.std.proofs.Math.Bool.{true, false}
use Rattle.std.proofs.Math.Option.{Option}
use mathlib.Core.List.{List, [], ◌∷◌, ◌++◌, append_assoc}
use Rattle.std.proofs.lemmas.Bool.{lt-leb}
use Rattle.rules.specs.Forms.{Value, Matcher, Pattern, never}
use Rattle.forms.specs.Written.{pattern_words}
use Rattle.notation_rules.specs.Tokens.{Sign, consing, joining, anding, oring}
use Rattle.notation_rules.specs.Patterns as P
use Rattle.notation_rules.specs.Patterns.{want, ◌on◌, have}
use Rattle.notation_step.specs.Stepped.{settled}
use Rattle.notation_step.specs.declared.Stand.{Stand}
use Rattle.notation_step.specs.declared.Waiting.{Waiting}
use Rattle.notation_grammar.specs.Waits.{wait, under, Held}
use Rattle.notation_grammar.specs.Acts.{standing}
use Rattle.notation_grammar.specs.Closes as C
use Rattle.notation_grammar.specs.Closes.{shade_by, shade_is}
use Rattle.notation_grammar.specs.Shapes.{listed, all, sign_tag, pattern_wait, units_words, both_words}

-- Nothing waits that is tighter; with nothing tighter than a bracket, a bracket or nothing.
unfoldable pub Loose : ℕ → List P.Frame → Type 0
unfolding P.depth
Loose r [] = T true
Loose r (f ∷ fs) = ltb r (P.depth f) ≡ false

pub data Open : List P.Frame → Type 0 where
  nothing : Open []
  one : (qs : List Pattern) (fs : List P.Frame) → Open (P.opened qs ∷ fs)

never_both : {A : Type 0} → ◌≡◌ {A = Bool} true false → A
never_both e = let z : ◌≡◌ {A = ℕ} 0 1 = cc in absurd (omega arith)

pub is_open : (fs : List P.Frame) → Loose 0 fs → Open fs
unfolding Loose P.depth P.level
is_open [] h = nothing
is_open (P.waiting consing p ∷ fs) h = never_both h
is_open (P.waiting joining p ∷ fs) h = never_both h
is_open (P.waiting anding p ∷ fs) h = never_both h
is_open (P.waiting oring p ∷ fs) h = never_both h
is_open (P.denied ∷ fs) h = never_both h
is_open (P.opened qs ∷ fs) h = one qs fs

-- What waits is as tight as its sign.
level_small : (s : Sign) → P.level s < 8
unfolding P.level
level_small consing = omega arith
level_small joining = omega arith
level_small anding = omega arith
level_small oring = omega arith

tighter : (k r : ℕ) (b : Bool) → k < 8 → ltb r k ≡ b → leb (k % 8) r ≡ cond b false true
tighter k r true h e = let l = ltb-true r k e in ap (λ x. leb x r) (mod-eq_of_lt h) ∙ lt-leb k r (omega arith)
tighter k r false h e = let l = ltb-false r k e in ap (λ x. leb x r) (mod-eq_of_lt h) ∙ le-leb k r (omega arith)

built : (s : Sign) (p q : Pattern) → (pos (sign_tag s) ∷ pattern_words p) ++ pattern_words q ≡ pattern_words (P.build s p q)
unfolding sign_tag pattern_words P.build
built consing p q = refl
built joining p q = refl
built anding p q = refl
built oring p q = refl

module _ (n : ℕ) (stack : List Waiting) (u : Option Value) (m : Matcher) where
  abbrev pub stood : (fs : List P.Frame) (p : Pattern) (start : ℕ) → Stand
  stood fs p start = standing 20 (length (units_words u)) (length (both_words u m)) (both_words u m) (all pattern_wait fs) (pattern_words p) start

  -- All that is tighter than r ends, in the code and in the notation.
  pub record Rest (r start : ℕ) (fs : List P.Frame) (p : Pattern) : Type 1 where
    pub it : Pattern
    pub frames : List P.Frame
    pub begin : ℕ
    pub loose : Loose r frames
    pub is_collapsed : {A : Type 0} (k : Pattern → List P.Frame → A) → P.collapse r k p fs ≡ k it frames
    pub starts : begin ≡ length (under (both_words u m) (all pattern_wait frames))
    pub stand : settled stack (stood fs p start) r ≡ stood frames it begin
    pub same : under (both_words u m) (all pattern_wait fs) ++ pattern_words p ≡ under (both_words u m) (all pattern_wait frames) ++ pattern_words it
    pub held : Held n stack (both_words u m) (all pattern_wait frames)
    pub deep : length (all pattern_wait frames) ≤ length (all pattern_wait fs)

  -- One that is tighter, with its words.
  ended : (r start k c : ℕ) (ws : List ℤ) (f : P.Frame) (fs : List P.Frame) (p : Pattern) → pattern_wait f ≡ wait k c ws → Held n stack (both_words u m) (wait k c ws ∷ all pattern_wait fs)
      → ltb r (P.depth f) ≡ true → leb (k % 8) r ≡ false → ws ++ pattern_words p ≡ pattern_words (P.finish f p) → Rest r (length (under (both_words u m) (all pattern_wait fs))) fs (P.finish f p) → Rest r start (f ∷ fs) p
  unfolding P.collapse all under
  ended r start k c ws f fs p e h b l w t =
      let d = t.deep in
      record {
        it = t.it;
        frames = t.frames;
        begin = t.begin;
        loose = t.loose;
        is_collapsed = λ {A} g. ap (λ x. elim x as (λ _. A) [ true ↦ P.collapse r g (P.finish f p) fs | false ↦ g p (f ∷ fs) ]) b ∙ t.is_collapsed g;
        starts = t.starts;
        stand = ap (λ x. settled stack (standing 20 (length (units_words u)) (length (both_words u m)) (both_words u m) (x ∷ all pattern_wait fs) (pattern_words p) start) r) e
            ∙ C.ends n stack 20 (length (units_words u)) (length (both_words u m)) (both_words u m) start (pattern_words p) k c r ws (all pattern_wait fs) h l
            ∙ ap (λ x. settled stack (standing 20 (length (units_words u)) (length (both_words u m)) (both_words u m) (all pattern_wait fs) x (length (under (both_words u m) (all pattern_wait fs)))) r) w ∙ t.stand;
        same = ap (λ x. under (both_words u m) (x ∷ all pattern_wait fs) ++ pattern_words p) e ∙ append_assoc (under (both_words u m) (all pattern_wait fs)) ws (pattern_words p)
            ∙ ap (λ x. under (both_words u m) (all pattern_wait fs) ++ x) w ∙ t.same;
        held = t.held;
        deep = omega arith;
      }

  kept : (r start k c : ℕ) (ws : List ℤ) (f : P.Frame) (fs : List P.Frame) (p : Pattern) → pattern_wait f ≡ wait k c ws → Held n stack (both_words u m) (wait k c ws ∷ all pattern_wait fs)
      → ltb r (P.depth f) ≡ false → leb (k % 8) r ≡ true → start ≡ length (under (both_words u m) (all pattern_wait (f ∷ fs))) → Rest r start (f ∷ fs) p
  unfolding P.collapse all Loose
  kept r start k c ws f fs p e h b l s =
      record {
        it = p;
        frames = f ∷ fs;
        begin = start;
        loose = b;
        is_collapsed = λ {A} g. ap (λ x. elim x as (λ _. A) [ true ↦ P.collapse r g (P.finish f p) fs | false ↦ g p (f ∷ fs) ]) b;
        starts = s;
        stand = subst (λ x. settled stack (standing 20 (length (units_words u)) (length (both_words u m)) (both_words u m) (x ∷ all pattern_wait fs) (pattern_words p) start) r
            ≡ standing 20 (length (units_words u)) (length (both_words u m)) (both_words u m) (x ∷ all pattern_wait fs) (pattern_words p) start) (sym e)
            (C.stays n stack 20 (length (units_words u)) (length (both_words u m)) (both_words u m) start (pattern_words p) k c r ws (all pattern_wait fs) h l);
        same = refl;
        held = subst (λ x. Held n stack (both_words u m) (x ∷ all pattern_wait fs)) (sym e) h;
        deep = omega arith;
      }

  either : (r start k c : ℕ) (ws : List ℤ) (f : P.Frame) (fs : List P.Frame) (p : Pattern) → pattern_wait f ≡ wait k c ws → Held n stack (both_words u m) (wait k c ws ∷ all pattern_wait fs) → k ≡ P.depth f → k < 8
      → start ≡ length (under (both_words u m) (all pattern_wait (f ∷ fs))) → ws ++ pattern_words p ≡ pattern_words (P.finish f p)
      → Rest r (length (under (both_words u m) (all pattern_wait fs))) fs (P.finish f p) → Rest r start (f ∷ fs) p
  either r start k c ws f fs p e h d l s w t = go (ltb r (P.depth f)) refl
    where
      go : (b : Bool) → ltb r (P.depth f) ≡ b → Rest r start (f ∷ fs) p
      go true q = ended r start k c ws f fs p e h q (tighter k r true l (ap (ltb r) d ∙ q)) w t
      go false q = kept r start k c ws f fs p e h q (tighter k r false l (ap (ltb r) d ∙ q)) s

  pub rest : (r : ℕ) (fs : List P.Frame) (p : Pattern) (start : ℕ) → start ≡ length (under (both_words u m) (all pattern_wait fs)) → Held n stack (both_words u m) (all pattern_wait fs) → Rest r start fs p
  unfolding P.collapse P.depth P.finish all pattern_wait pattern_words Held Loose
  rest r [] p start e h =
      record {
        it = p;
        frames = [];
        begin = start;
        loose = tt;
        is_collapsed = λ g. refl;
        starts = e;
        stand = C.settles_all n stack 20 (length (units_words u)) (length (both_words u m)) (both_words u m) start (pattern_words p) r;
        same = refl;
        held = tt;
        deep = omega arith;
      }
  rest r (P.waiting s q ∷ fs) p start e h = either r start (P.level s) 0 (pos (sign_tag s) ∷ pattern_words q) (P.waiting s q) fs p refl h refl (level_small s) e (built s q p)
      (rest r fs (P.build s q p) (length (under (both_words u m) (all pattern_wait fs))) refl h.4)
  rest r (P.denied ∷ fs) p start e h = either r start 4 0 (pos 10 ∷ []) P.denied fs p refl h refl (omega arith) e refl
      (rest r fs (never p) (length (under (both_words u m) (all pattern_wait fs))) refl h.4)
  rest r (P.opened qs ∷ fs) p start e h = kept r start 0 (length qs) (listed pattern_words qs) (P.opened qs) fs p refl h (le-ltb r 0 (omega arith)) (le-leb 0 r (omega arith)) e
