-- What is read can be written: its numbers and widths are in the limits, and its names are those of the text, from left to right.
use Rattle.std.specs.Prelude.{ℕ, suc, ◌≡◌, refl, Bool, true, false, List, [], ◌∷◌, length, T}
use Rattle.std.proofs.Common.{arith, sym, ap, ◌∙◌, subst}
use Rattle.std.proofs.Math.Option.{Option, none, some}
use Rattle.rules.specs.Forms.{Matcher}
use Rattle.rules.specs.Forms.{Pattern}
use Rattle.rules.specs.Forms.{Value}
use Rattle.notation_rules.specs.Tokens.{Outcome, done, refused, Mark, matching, by, with'}
use Rattle.notation_rules.specs.Tokens.{Token, mark, sign, binds, uses, number, wrong, blame, whole, run}
use Rattle.notation_rules.specs.NamesBack.{events, Numbered, event, events_of}
use Rattle.notation_rules.proofs.NamesBack.{resolve_numbered}
use Rattle.notation_rules.specs.PatternsBack as B
use Rattle.notation_rules.specs.Patterns.{want, ◌on◌}
use Rattle.notation_rules.specs.Patterns as P
use Rattle.notation_rules.specs.Targets as U
use Rattle.notation_rules.specs.Matchers as M
use Rattle.notation_rules.specs.Names.{resolve}
use Rattle.notation_rules.specs.Letters.{tokens_of}
use Rattle.notation_rules.specs.Places
use Rattle.notation_rules.specs.Rules.{Rule, rule, is_mark, expect, the_pattern, the_matcher, the_rule, read_text}
use Rattle.notation_rules.proofs.RulesBack.{FineUnits, Fine}
use Rattle.notation_rules.specs.KeptMachine.{run_kept}
use Rattle.notation_rules.proofs.KeptPatterns.{SoundPlace, SoundFrames, Sound, of_frames, of_place, of_mode, stepping, ends}
use Rattle.notation_rules.specs.KeptUnits.{nothing, Brackets, Target, value_step, value_ends, Words, Matched, matcher_step, matcher_ends}

-- ---- The rule.
-- A mark has no name.
quiet : (m : Mark) (t : Token) (ts : List Token) → T (is_mark m t) → events_of ts ≡ events_of (t ∷ ts)
unfolding is_mark events_of event
quiet m (mark n) ts h = refl
quiet m (sign s) ts h = absurd h
quiet m (binds v) ts h = absurd h
quiet m (uses v) ts h = absurd h
quiet m (number n) ts h = absurd h
quiet m (wrong c) ts h = absurd h

expected : {A : Type 0} (m : Mark) (k : List Token → Outcome A) (ts : List Token) (a : A) → expect m k ts ≡ done a → (us : List Token) × k us ≡ done a × events_of us ≡ events_of ts
unfolding expect
expected m k [] a h = let z : ◌≡◌ {A = ℕ} 0 1 = cc in absurd (omega arith)
expected {A} m k (t ∷ ts) a h = go (is_mark m t) (λ g. quiet m t ts g) h
  where
    go : (b : Bool) → (T b → events_of ts ≡ events_of (t ∷ ts)) → ◌≡◌ {A = Outcome A} (elim b as (λ _. Outcome A) [ true ↦ k ts | false ↦ refused (blame t) (suc (length ts)) ]) (done a)
        → (us : List Token) × k us ≡ done a × events_of us ≡ events_of (t ∷ ts)
    go true q e = (ts, e, q tt)
    go false q e = let z : ◌≡◌ {A = ℕ} 0 1 = cc in absurd (omega arith)

finished : {A : Type 0} (a b : A) (rest : List Token) → whole a rest ≡ done b → rest ≡ [] × a ≡ b
unfolding whole
finished a b [] h = (refl, cc)
finished a b (t ∷ ts) h = let z : ◌≡◌ {A = ℕ} 0 1 = cc in absurd (omega arith)

pattern_kept : (v : Option Value) (m : Matcher) (ts : List Token) (r : Rule) → the_pattern v m ts ≡ done r → (p : Pattern) × rule v m p ≡ r × B.Fine p × events p [] ≡ events_of ts
unfolding the_pattern P.patterns Sound SoundPlace SoundFrames of_mode of_frames of_place events_of
pattern_kept v m ts r h =
    let x = expected with' (run P.patterns (λ p. whole (rule v m p)) (want on [])) ts r h in
    let y = run_kept P.patterns Sound B.Fine of_mode events stepping ends (λ p. whole (rule v m p)) r (want on []) x.0 (tt, tt) x.1 in
    let z = finished (rule v m y.0) r y.1 y.2 in
    (y.0, z.1, y.3, ap (λ us. events y.0 (events_of us)) (sym z.0) ∙ y.4 ∙ x.2)

matcher_kept : (v : Option Value) (ts : List Token) (r : Rule) → the_matcher v ts ≡ done r → (m : Matcher) × (p : Pattern) × rule v m p ≡ r × M.Fine m × B.Fine p × events p [] ≡ events_of ts
unfolding the_matcher M.matchers Matched Words nothing
matcher_kept v ts r h =
    let x = expected by (run M.matchers (λ m. the_pattern v m) (M.want false [])) ts r h in
    let y = run_kept M.matchers Matched M.Fine nothing nothing matcher_step matcher_ends (λ m. the_pattern v m) r (M.want false []) x.0 tt x.1 in
    let z = pattern_kept v y.0 y.1 r y.2 in
    (y.0, z.0, z.1, y.3, z.2, z.3 ∙ y.4 ∙ x.2)

fine_rule : (v : Option Value) (ts us : List Token) (r : Rule) → FineUnits v → the_matcher v us ≡ done r → events_of us ≡ events_of ts → Numbered 0 (events_of ts) → Fine r
unfolding Fine
fine_rule v ts us r f h e n =
    let x = matcher_kept v us r h in
    subst Fine x.2 (f, x.3, x.4, subst (Numbered 0) (sym (x.5 ∙ e)) n)

pub rule_kept : (ts : List Token) (r : Rule) → the_rule ts ≡ done r → Numbered 0 (events_of ts) → Fine r
unfolding the_rule U.targets Target Brackets nothing FineUnits
rule_kept [] r h n = fine_rule none [] [] r tt h refl n
rule_kept (t ∷ ts) r h n = go (is_mark matching t) (λ g. quiet matching t ts g) h
  where
    go : (b : Bool) → (T b → events_of ts ≡ events_of (t ∷ ts))
        → ◌≡◌ {A = Outcome Rule} (elim b as (λ _. Outcome Rule) [ true ↦ run U.targets (λ v. the_matcher (some v)) (U.want []) ts | false ↦ the_matcher none (t ∷ ts) ]) (done r)
        → Fine r
    go true q e =
        let y = run_kept U.targets Target U.Fine nothing nothing value_step value_ends (λ v. the_matcher (some v)) r (U.want []) ts tt e in
        fine_rule (some y.0) (t ∷ ts) y.1 r y.3 y.2 (y.4 ∙ q tt) n
    go false q e = fine_rule none (t ∷ ts) (t ∷ ts) r tt e refl n

-- What is read of a text can be written.
pub read_fine : (cs : List ℕ) (r : Rule) → read_text cs ≡ Places.good r → Fine r
unfolding read_text
read_fine cs r h = rule_kept (resolve [] (tokens_of cs)) r (Places.from_tokens the_rule cs r h) (resolve_numbered [] (tokens_of cs))
