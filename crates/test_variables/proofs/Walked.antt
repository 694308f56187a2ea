-- Walking a pattern's words finds what the rule on variables finds of the pattern. Assumes nothing.
use mathlib.Core.Path.{◌≡◌, refl, sym, ◌∙◌, ap}
use mathlib.Core.Bool.{Bool, true, false, ◌&&◌}
use mathlib.Core.List.{List, [], ◌++◌, append_assoc, append-nil}
use Prim.Native.Nat.{ℕ, suc, ◌+◌}
use native.Mathlib.Numerals.{add-one, add-two}
use native.Mathlib.Omega.{arith}
use borrow.Author.Rules.{rules}
use borrow.Author.Tests.{le-leb, ne_eqb}
use lib.Dec.{eqb}
use lib.ListN.{length}
use lib.IntN.{ℤ}
use Rattle.rules.specs.Forms.{Pattern, wildcard, variable, constant, value, nil, cons, join, tuple, both, either, never, Patterns, no_patterns, ◌▸ᵖ◌, countᵖ, span, span_all}
use Rattle.rules.specs.Reading.{Verdict, ok, fault, ◌then◌, pattern_tags, read_pattern}
use Rattle.rules.specs.Variables.{variables, variables_all, is_next, is_left}
use Rattle.forms.specs.Written.{pattern_words, pattern_words_all, Widthsᵖ, WidthsAllᵖ}
use Rattle.forms.specs.ReadPattern.{pattern_read}
use Rattle.test_forms.specs.Tests.{tested}
use Rattle.test_forms.specs.Ends.{within}
use Rattle.test_forms.specs.Table.{row_of, by_row}
use Rattle.test_forms.specs.Patterns.{width_in}
use Rattle.test_variables.specs.Variables.{counted, allowed_at, and_next, inside_after, vars_p, vars_of}
use Rattle.std.specs.Prelude.{Result, Ok, Err}
use Rattle.test_forms.proofs.After.{after, after_then, after_same, after_demand}
use Rattle.test_forms.proofs.Turns.{is_width}

-- ---- What is to come in an or or a not: k patterns and then e others; none where neither is around.

unfoldable deep : Bool → (k e : ℕ) → ℕ
deep true k e = 0
deep false k e = k + e

deep_may : (may : Bool) (e : ℕ) → eqb (deep may 1 e) 0 ≡ may
unfolding deep
deep_may true e = refl
deep_may false e = ne_eqb (1 + e) 0 (λ z. omega arith)

deep_first : (may : Bool) (k e : ℕ) → deep may (suc k) e ≡ deep may 1 (k + e)
unfolding deep
deep_first true k e = refl
deep_first false k e = omega arith

deep_rest : (may : Bool) (k e : ℕ) → deep may 0 (k + e) ≡ deep may k e
unfolding deep
deep_rest true k e = refl
deep_rest false k e = omega arith

deep_none : (e : ℕ) → deep false 0 e ≡ e
unfolding deep
deep_none e = omega arith

-- A tag that opens neither, and one that does.
add_one_left : (e : ℕ) → 1 + e ≡ suc e
add_one_left e = omega arith

passes : (may : Bool) (t b e : ℕ) → within 9 t 10 ≡ false → inside_after t b (deep may 1 e) ≡ deep may b e
unfolding deep inside_after
passes true t b e h = rw h
passes false t b e h = let z : e + b ≡ b + e = omega arith in rw (add_one_left e) z

opens : (may : Bool) (t b e : ℕ) → within 9 t 10 ≡ true → inside_after t b (deep may 1 e) ≡ deep false b (deep may 0 e)
unfolding deep inside_after
opens true t b e h = let z : b ≡ b + 0 = omega arith in rw h z
opens false t b e h = let z : e + b ≡ b + (0 + e) = omega arith in rw (add_one_left e) z

-- ---- The walk.

Follows : Pattern → Bool → Type 0
Follows a may = (e n p : ℕ) (ws : List ℤ)
    → vars_p 0 n (deep may 1 e) p (pattern_words a ++ ws) ≡ after Err (variables a may p n) (λ k. vars_p 0 k (deep may 0 e) (p + span a) ws)

-- The two parts of a cons, a join, an and or an or.
two : (a b : Pattern) (may : Bool) → Follows a may → Follows b may → (e n p : ℕ) (ws : List ℤ)
    → vars_p 0 n (deep may 2 e) (suc p) ((pattern_words a ++ pattern_words b) ++ ws)
    ≡ after Err (variables a may (p + 1) n then λ k. variables b may (p + 1 + span a) k) (λ i. vars_p 0 i (deep may 0 e) (p + (1 + span a + span b)) ws)
unfolding Follows
two a b may f g e n p ws =
    let z : p + 1 + span a + span b ≡ p + (1 + span a + span b) = omega arith in
    rw (append_assoc (pattern_words a) (pattern_words b) ws, ← add-one p, after_then Err (variables a may (p + 1) n), deep_first may 1 e)
    (f (1 + e) n (p + 1) (pattern_words b ++ ws)
    ∙ after_same Err (variables a may (p + 1) n) _ _ (λ k. rw (← z, deep_rest may 1 e) (g e k (p + 1 + span a) ws)))

-- The part of a not.
one : (a : Pattern) → Follows a false → (e n p : ℕ) (ws : List ℤ)
    → vars_p 0 n (deep false 1 e) (suc p) (pattern_words a ++ ws)
    ≡ after Err (variables a false (p + 1) n) (λ i. vars_p 0 i e (p + (1 + span a)) ws)
unfolding Follows
one a f e n p ws =
    let z : p + 1 + span a ≡ p + (1 + span a) = omega arith in
    let y = f e n (p + 1) ws in
    let x = rw (deep_none e, z) at y in rw (← add-one p) x

FollowsAll : Patterns → Bool → Type 0
FollowsAll ps may = (e n p : ℕ) (ws : List ℤ)
    → vars_p 0 n (deep may (countᵖ ps) e) p (pattern_words_all ps ++ ws)
    ≡ after Err (variables_all ps may p n) (λ k. vars_p 0 k (deep may 0 e) (p + span_all ps) ws)

mutual
  unfolding Follows FollowsAll vars_p pattern_words Widthsᵖ variables span countᵖ after row_of by_row pattern_tags allowed_at and_next width_in

  walked : (a : Pattern) → Widthsᵖ a → (may : Bool) → Follows a may
  walked wildcard w may e n p ws = rw (passes may 0 0 e refl, add-one p)
  walked nil w may e n p ws = rw (passes may 4 0 e refl, add-one p)
  walked (variable v) w may e n p ws =
      rw (passes may 1 0 e refl, deep_may may e, ← add-two p)
      (after_demand Err (may && is_next v n) p (suc n) (λ k. vars_p 0 k (deep may 0 e) (p + 2) ws))
  walked (constant c) w may e n p ws = rw (passes may 2 0 e refl, add-two p)
  walked (value v c) w may e n p ws =
      let z : suc (suc (suc p)) ≡ p + 3 = omega arith in
      rw (passes may 3 0 e refl, z) (after_demand Err (is_left v n) p n (λ k. vars_p 0 k (deep may 0 e) (p + 3) ws))
  walked (cons a b) w may e n p ws =
      ap (λ (d : ℕ). vars_p 0 n d (suc p) ((pattern_words a ++ pattern_words b) ++ ws)) (passes may 5 2 e refl)
      ∙ two a b may (walked a w.0 may) (walked b w.1 may) e n p ws
  walked (join a b) w may e n p ws =
      ap (λ (d : ℕ). vars_p 0 n d (suc p) ((pattern_words a ++ pattern_words b) ++ ws)) (passes may 6 2 e refl)
      ∙ two a b may (walked a w.0 may) (walked b w.1 may) e n p ws
  walked (both a b) w may e n p ws =
      ap (λ (d : ℕ). vars_p 0 n d (suc p) ((pattern_words a ++ pattern_words b) ++ ws)) (passes may 8 2 e refl)
      ∙ two a b may (walked a w.0 may) (walked b w.1 may) e n p ws
  walked (either a b) w may e n p ws =
      let y = two a b false (walked a w.0 false) (walked b w.1 false) (deep may 0 e) n p ws in
      ap (λ (d : ℕ). vars_p 0 n d (suc p) ((pattern_words a ++ pattern_words b) ++ ws)) (opens may 9 2 e refl) ∙ (rw (deep_none (deep may 0 e)) at y)
  walked (never a) w may e n p ws =
      ap (λ (d : ℕ). vars_p 0 n d (suc p) (pattern_words a ++ ws)) (opens may 10 1 e refl) ∙ one a (walked a w false) (deep may 0 e) n p ws
  walked (tuple ps) w may e n p ws =
      let z : p + (2 + span_all ps) ≡ p + 2 + span_all ps = omega arith in
      rw (is_width (countᵖ ps) w.0, passes may 7 (countᵖ ps) e refl, z, ← add-two p) (walked_all ps w.1 may e n (p + 2) ws)

  -- The parts of a tuple.
  walked_all : (ps : Patterns) → WidthsAllᵖ ps → (may : Bool) → FollowsAll ps may
  walked_all no_patterns w may e n p ws = let z : p + 0 ≡ p = omega arith in rw z
  walked_all (a ▸ᵖ ps) w may e n p ws =
      let z : p + (span a + span_all ps) ≡ p + span a + span_all ps = omega arith in
      rw (append_assoc (pattern_words a) (pattern_words_all ps) ws, z, after_then Err (variables a may p n), deep_first may (countᵖ ps) e)
      (walked a w.0 may (countᵖ ps + e) n p (pattern_words_all ps ++ ws)
      ∙ after_same Err (variables a may p n) _ _ (λ k. rw (deep_rest may (countᵖ ps) e) (walked_all ps w.1 may e k (p + span a) ws)))

at_end : (x : Verdict ℕ) → after Err x (λ k. Ok k) ≡ counted x
unfolding after counted
at_end (ok k) = refl
at_end (fault i) = refl

pub of_pattern : (s : List ℤ) (a : Pattern) → read_pattern s ≡ ok a → vars_of s ≡ counted (variables a true 0 0)
unfolding vars_of vars_p Follows deep
of_pattern s a e =
    let r = (pattern_read s a).0 e in
    rw (le-leb (length s) 256 r.1, r.0, ← append-nil (pattern_words a)) (walked a r.2 true 0 0 0 [] ∙ at_end (variables a true 0 0))

-- ---- The whole test, as the code asks it.

module _ (s : List ℤ) (v : Result (Unit {0}) ℕ) (e : v ≡ tested (read_pattern s)) where
  pub ret_passed : (u : Unit {0}) → v ≡ Ok u → (r : Result ℕ ℕ) → r ≡ vars_of s → r ≡ counted (read_pattern s then λ p. variables p true 0 0)
  unfolding tested ◌then◌
  ret_passed u f r x = go (read_pattern s) refl (sym f ∙ e)
    where
      go : (y : Verdict Pattern) → read_pattern s ≡ y → Ok u ≡ tested y → r ≡ counted (y then λ p. variables p true 0 0)
      go (ok a) g h = x ∙ of_pattern s a g
      go (fault i) g h = let z : ◌≡◌ {A = ℕ} 0 1 = cc in absurd (omega arith)

  pub ret_fault : (i : ℕ) → v ≡ Err i → Err i ≡ counted (read_pattern s then λ p. variables p true 0 0)
  unfolding tested ◌then◌ counted
  ret_fault i f = go (read_pattern s) (sym f ∙ e)
    where
      go : (y : Verdict Pattern) → Err i ≡ tested y → Err i ≡ counted (y then λ p. variables p true 0 0)
      go (ok a) h = let z : ◌≡◌ {A = ℕ} 0 1 = cc in absurd (omega arith)
      go (fault j) h = let q : i ≡ j = cc in ap Err q

pub ruleset own_rules = (ret_passed, ret_fault, rules)
