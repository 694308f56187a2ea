-- The notation's reader of a rule, three machines one behind the other, as one machine.
use Rattle.std.specs.Prelude.{suc, ◌≡◌, refl, Bool, true, false, List, [], ◌∷◌, length}
use Rattle.std.proofs.Math.Option.{Option, none, some}
use Rattle.rules.specs.Forms.{Matcher, Pattern, Value}
use Rattle.notation_rules.specs.Tokens.{Cause, cut_short, Outcome, done, refused, Mark, matching, by, with', Token, Step, next, no, bad, Ended, is, lacks, blame, stopped, whole, run}
use Rattle.notation_rules.specs.Targets as U
use Rattle.notation_rules.specs.Matchers as M
use Rattle.notation_rules.specs.Patterns as P
use Rattle.notation_rules.specs.Patterns.{want, ◌on◌}
use Rattle.notation_rules.specs.Rules.{Rule, rule, is_mark, expect, the_pattern, the_matcher, the_rule}

-- Where the reader stands: before the rule, in its units, in its matcher, in its pattern; with what was read.
pub data Mode : Type 0 where
  begins : Mode
  in_units : U.Mode → Mode
  in_matcher : Option Value → M.Mode → Mode
  in_pattern : Option Value → Matcher → P.Mode → Mode

pub data Next : Type 0 where
  goes : Mode → Next
  stops : Cause → Next

-- A word that leads to the next part.
unfoldable pub handed : Mark → Token → Mode → Next
unfolding is_mark blame
handed m t x = elim (is_mark m t) [ true ↦ goes x | false ↦ stops (blame t) ]

unfoldable pub after_part : {A : Type 0} → (A → Next) → Token → Ended A → Next
unfolding blame
after_part k t (is a) = k a
after_part k t (lacks c) = stops (blame t)

unfoldable pub on_step : {A : Type 0} → (A → Mode) → Next → Step A → Next
on_step f o (next a) = goes (f a)
on_step f o no = o
on_step f o (bad c) = stops c

unfoldable pub step_of : Mode → Token → Next
unfolding is_mark handed after_part on_step blame U.take U.ending M.take M.ending P.take
step_of begins t = elim (is_mark matching t) [ true ↦ goes (in_units (U.want [])) | false ↦ handed by t (in_matcher none (M.want false [])) ]
step_of (in_units x) t = on_step in_units (after_part (λ v. handed by t (in_matcher (some v) (M.want false []))) t (U.ending x)) (U.take x t)
step_of (in_matcher u x) t = on_step (in_matcher u) (after_part (λ m. handed with' t (in_pattern u m (want on []))) t (M.ending x)) (M.take x t)
step_of (in_pattern u m x) t = on_step (in_pattern u m) (stops (blame t)) (P.take x t)

-- The text ends: in a part that is whole, the next one lacks.
unfoldable pub lacking : {A : Type 0} → Ended A → Outcome Rule
lacking (is a) = refused cut_short 0
lacking (lacks c) = refused c 0

unfoldable pub ruled : Option Value → Matcher → Ended Pattern → Outcome Rule
ruled u m (is p) = done (rule u m p)
ruled u m (lacks c) = refused c 0

unfoldable pub end_of : Mode → Outcome Rule
unfolding lacking ruled U.ending M.ending P.ending
end_of begins = refused cut_short 0
end_of (in_units x) = lacking (U.ending x)
end_of (in_matcher u x) = lacking (M.ending x)
end_of (in_pattern u m x) = ruled u m (P.ending x)

unfoldable pub run_all : Mode → List Token → Outcome Rule
unfolding step_of end_of
run_all x [] = end_of x
run_all x (t ∷ ts) = elim (step_of x t) [ goes y ↦ run_all y ts | stops c ↦ refused c (suc (length ts)) ]

-- ---- It is the notation's.
abbrev chosen : List Token → Next → Outcome Rule
chosen ts o = elim o as (λ _. Outcome Rule) [ goes y ↦ run_all y ts | stops c ↦ refused c (suc (length ts)) ]

pattern_all : (u : Option Value) (m : Matcher) (x : P.Mode) (ts : List Token) → run P.patterns (λ p. whole (rule u m p)) x ts ≡ run_all (in_pattern u m x) ts
unfolding run stopped whole run_all step_of end_of ruled on_step P.patterns
pattern_all u m x [] = go (P.ending x)
  where
    go : (e : Ended Pattern) → stopped (λ p. whole (rule u m p)) e [] ≡ ruled u m e
    go (is p) = refl
    go (lacks c) = refl
pattern_all u m x (t ∷ ts) = go (P.take x t) (λ y. pattern_all u m y ts)
  where
    at : (e : Ended Pattern) → stopped (λ p. whole (rule u m p)) e (t ∷ ts) ≡ refused (blame t) (suc (length ts))
    at (is p) = refl
    at (lacks c) = refl

    go : (o : Step P.Mode) → ((y : P.Mode) → run P.patterns (λ p. whole (rule u m p)) y ts ≡ run_all (in_pattern u m y) ts)
        → ◌≡◌ {A = Outcome Rule} (elim o as (λ _. Outcome Rule) [ next y ↦ run P.patterns (λ p. whole (rule u m p)) y ts | no ↦ stopped (λ p. whole (rule u m p)) (P.ending x) (t ∷ ts) | bad c ↦ refused c (suc (length ts)) ])
        (chosen ts (on_step (in_pattern u m) (stops (blame t)) o))
    go (next y) i = i y
    go no i = at (P.ending x)
    go (bad c) i = refl

-- What a part's end goes on with.
expected : (k : Mark) (f : List Token → Outcome Rule) (t : Token) (ts : List Token) (x : Mode) → f ts ≡ run_all x ts → expect k f (t ∷ ts) ≡ chosen ts (handed k t x)
unfolding expect handed
expected k f t ts x e = go (is_mark k t)
  where
    go : (b : Bool) → ◌≡◌ {A = Outcome Rule} (elim b as (λ _. Outcome Rule) [ true ↦ f ts | false ↦ refused (blame t) (suc (length ts)) ])
        (chosen ts (elim b as (λ _. Next) [ true ↦ goes x | false ↦ stops (blame t) ]))
    go true = e
    go false = refl

matcher_all : (u : Option Value) (x : M.Mode) (ts : List Token) → run M.matchers (λ m. the_pattern u m) x ts ≡ run_all (in_matcher u x) ts
unfolding run stopped run_all step_of end_of lacking on_step after_part M.matchers the_pattern expect
matcher_all u x [] = go (M.ending x)
  where
    go : (e : Ended Matcher) → stopped (λ m. the_pattern u m) e [] ≡ lacking e
    go (is m) = refl
    go (lacks c) = refl
matcher_all u x (t ∷ ts) = go (M.take x t) (λ y. matcher_all u y ts)
  where
    k : Matcher → Next
    k m = handed with' t (in_pattern u m (want on []))

    at : (e : Ended Matcher) → stopped (λ m. the_pattern u m) e (t ∷ ts) ≡ chosen ts (after_part k t e)
    at (is m) = expected with' (run P.patterns (λ p. whole (rule u m p)) (want on [])) t ts (in_pattern u m (want on [])) (pattern_all u m (want on []) ts)
    at (lacks c) = refl

    go : (o : Step M.Mode) → ((y : M.Mode) → run M.matchers (λ m. the_pattern u m) y ts ≡ run_all (in_matcher u y) ts)
        → ◌≡◌ {A = Outcome Rule} (elim o as (λ _. Outcome Rule) [ next y ↦ run M.matchers (λ m. the_pattern u m) y ts | no ↦ stopped (λ m. the_pattern u m) (M.ending x) (t ∷ ts) | bad c ↦ refused c (suc (length ts)) ])
        (chosen ts (on_step (in_matcher u) (after_part k t (M.ending x)) o))
    go (next y) i = i y
    go no i = at (M.ending x)
    go (bad c) i = refl

units_all : (x : U.Mode) (ts : List Token) → run U.targets (λ v. the_matcher (some v)) x ts ≡ run_all (in_units x) ts
unfolding run stopped run_all step_of end_of lacking on_step after_part U.targets the_matcher expect
units_all x [] = go (U.ending x)
  where
    go : (e : Ended Value) → stopped (λ v. the_matcher (some v)) e [] ≡ lacking e
    go (is v) = refl
    go (lacks c) = refl
units_all x (t ∷ ts) = go (U.take x t) (λ y. units_all y ts)
  where
    k : Value → Next
    k v = handed by t (in_matcher (some v) (M.want false []))

    at : (e : Ended Value) → stopped (λ v. the_matcher (some v)) e (t ∷ ts) ≡ chosen ts (after_part k t e)
    at (is v) = expected by (run M.matchers (λ m. the_pattern (some v) m) (M.want false [])) t ts (in_matcher (some v) (M.want false [])) (matcher_all (some v) (M.want false []) ts)
    at (lacks c) = refl

    go : (o : Step U.Mode) → ((y : U.Mode) → run U.targets (λ v. the_matcher (some v)) y ts ≡ run_all (in_units y) ts)
        → ◌≡◌ {A = Outcome Rule} (elim o as (λ _. Outcome Rule) [ next y ↦ run U.targets (λ v. the_matcher (some v)) y ts | no ↦ stopped (λ v. the_matcher (some v)) (U.ending x) (t ∷ ts) | bad c ↦ refused c (suc (length ts)) ])
        (chosen ts (on_step in_units (after_part k t (U.ending x)) o))
    go (next y) i = i y
    go no i = at (U.ending x)
    go (bad c) i = refl

pub rule_all : (ts : List Token) → the_rule ts ≡ run_all begins ts
unfolding the_rule the_matcher expect run_all step_of end_of
rule_all [] = refl
rule_all (t ∷ ts) = go (is_mark matching t)
  where
    go : (b : Bool) → ◌≡◌ {A = Outcome Rule} (elim b as (λ _. Outcome Rule) [ true ↦ run U.targets (λ v. the_matcher (some v)) (U.want []) ts | false ↦ the_matcher none (t ∷ ts) ])
        (chosen ts (elim b as (λ _. Next) [ true ↦ goes (in_units (U.want [])) | false ↦ handed by t (in_matcher none (M.want false [])) ]))
    go true = units_all (U.want []) ts
    go false = expected by (run M.matchers (λ m. the_pattern none m) (M.want false [])) t ts (in_matcher none (M.want false [])) (matcher_all none (M.want false []) ts)
