-- What is written of a rule, a matcher, a pattern or a target is read back as it.
use Rattle.std.proofs.Common.{arith, ◌∙◌}
use Rattle.std.specs.Prelude.{◌≡◌, true, false, List, [], ◌∷◌, T}
use Rattle.std.proofs.Math.Option.{Option, none, some}
use Rattle.rules.specs.Forms.{Matcher, Pattern, Value}
use Rattle.notation_rules.specs.Tokens.{Outcome, done, matching, by, with', Token, mark, code, look, stopped, whole, run}
use Rattle.notation_rules.specs.NamesBack.{events, Numbered, Good, good_mark, good_target, good_matcher, good_nothing}
use Rattle.notation_rules.proofs.NamesBack.{good}
use Rattle.notation_rules.specs.Places.{from_text, text_back}
use Rattle.notation_rules.specs.Places
use Rattle.notation_rules.specs.Targets as U
use Rattle.notation_rules.specs.Matchers as M
use Rattle.notation_rules.specs.Patterns as P
use Rattle.notation_rules.specs.PatternsBack as B
use Rattle.notation_rules.proofs.PatternsBack as B_laws
use Rattle.notation_rules.specs.Patterns.{want, ◌on◌}
use Rattle.notation_rules.specs.Rules.{Rule, rule, units, write_rule, is_mark, expect, the_pattern, the_matcher, the_rule, text_of, write_text, read_text, matcher_text, read_matcher, pattern_text, read_pattern, target_text, read_target}

-- ---- What can be written: numbers of 32 bits, tuples of two to four parts, variables numbered from left to right.
unfoldable pub FineUnits : Option Value → Type 0
unfolding U.Fine
FineUnits none = T true
FineUnits (some v) = U.Fine v

unfoldable pub Fine : Rule → Type 0
unfolding FineUnits M.Fine B.Fine Numbered events
Fine (rule v m p) = FineUnits v × M.Fine m × B.Fine p × Numbered 0 (events p [])

-- ---- In tokens.
pattern_tokens : (v : Option Value) (m : Matcher) (p : Pattern) → B.Fine p → the_pattern v m (mark with' ∷ P.write 1 p []) ≡ done (rule v m p)
unfolding the_pattern expect is_mark code run stopped whole P.patterns P.ending P.collapse P.alone B.top B.follow
pattern_tokens v m p h = B_laws.back (λ q. whole (rule v m q)) p 1 h [] [] (omega arith) (omega arith)

matcher_tokens : (v : Option Value) (m : Matcher) (p : Pattern) → M.Fine m → B.Fine p → the_matcher v (mark by ∷ M.write false m (mark with' ∷ P.write 1 p [])) ≡ done (rule v m p)
unfolding the_matcher expect is_mark code run stopped look M.matchers M.take M.at_mark M.parted M.ending M.ended
matcher_tokens v m p g h = M.back (λ n. the_pattern v n) m false [] (mark with' ∷ P.write 1 p []) g ∙ pattern_tokens v m p h

rule_tokens : (r : Rule) → Fine r → the_rule (write_rule r) ≡ done r
unfolding Fine FineUnits the_rule write_rule units is_mark code run stopped look U.targets U.take U.at_mark U.parted U.ending
rule_tokens (rule none m p) h = matcher_tokens none m p h.1 h.2
rule_tokens (rule (some v) m p) h = U.back (λ u. the_matcher (some u)) v [] (mark by ∷ M.write false m (mark with' ∷ P.write 1 p [])) h.0 ∙ matcher_tokens (some v) m p h.1 h.2

-- ---- The tokens can be spelled, and their names come back.
good_pattern : (p : Pattern) → B.Fine p → Numbered 0 (events p []) → Good 0 (P.write 1 p [])
good_pattern p h n = good p 1 0 [] [] (omega arith) h n (λ m l g. good_nothing m l)

pub good_rule : (r : Rule) → Fine r → Good 0 (write_rule r)
unfolding Fine FineUnits write_rule units
good_rule (rule none m p) h = good_mark by 0 _ (good_matcher m false 0 _ (good_mark with' 0 _ (good_pattern p h.2 h.3)))
good_rule (rule (some v) m p) h = good_mark matching 0 _ (good_target v 0 _ h.0 (good_mark by 0 _ (good_matcher m false 0 _ (good_mark with' 0 _ (good_pattern p h.2 h.3)))))

text_of_lem : {A : Type 0} (read : List Token → Outcome A) (a : A) (ts : List Token) → Good 0 ts → read ts ≡ done a → from_text read (text_of ts) ≡ Places.good a
unfolding Good text_of
text_of_lem read a ts g h = text_back read a ts g.1 g.2 h

-- ---- In characters.
pub rule_back : (r : Rule) → Fine r → read_text (write_text r) ≡ Places.good r
unfolding read_text write_text
rule_back r h = text_of_lem the_rule r (write_rule r) (good_rule r h) (rule_tokens r h)

pub matcher_back : (m : Matcher) → M.Fine m → read_matcher (matcher_text m) ≡ Places.good m
unfolding read_matcher matcher_text run stopped whole M.matchers M.ending M.ended
matcher_back m h = text_of_lem (run M.matchers whole (M.want false [])) m (M.write false m []) (good_matcher m false 0 [] (good_nothing 0 (omega arith))) (M.back whole m false [] [] h)

pub pattern_back : (p : Pattern) → B.Fine p → Numbered 0 (events p []) → read_pattern (pattern_text p) ≡ Places.good p
unfolding read_pattern pattern_text run stopped whole P.patterns P.ending P.collapse P.alone B.top B.follow
pattern_back p h n = text_of_lem (run P.patterns whole (want on [])) p (P.write 1 p []) (good_pattern p h n) (B_laws.back whole p 1 h [] [] (omega arith) (omega arith))

pub target_back : (v : Value) → U.Fine v → read_target (target_text v) ≡ Places.good v
unfolding read_target target_text run stopped whole U.targets U.ending
target_back v h = text_of_lem (run U.targets whole (U.want [])) v (U.write v []) (good_target v 0 [] h (good_nothing 0 (omega arith))) (U.back whole v [] [] h)
