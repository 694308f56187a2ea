-- What is promised of the notation, each in two lines. What to believe: Tokens, Patterns, Targets, Matchers (their writing and reading), Letters,
-- Names, Places and Rules. `Fine` says what a text can hold: numbers of 32 bits, tuples of two to four parts, variables numbered from left to
-- right. Every rule that was read is so.
use Rattle.std.specs.Prelude.{ℕ, ◌≤◌, ◌≡◌, refl, true, List, [], length}
use Rattle.std.proofs.Common.{sym, ap, ◌∙◌}
use Rattle.rules.specs.Forms.{Matcher, Pattern, Value}
use Rattle.rules.specs.Reading.{ok}
use Rattle.rules.specs.Variables.{variables}
use Rattle.notation_rules.specs.Tokens.{Cause}
use Rattle.notation_rules.specs.Targets as U
use Rattle.notation_rules.specs.Matchers as M
use Rattle.notation_rules.specs.PatternsBack as P
use Rattle.notation_rules.specs.NamesBack.{Numbered, numbered}
use Rattle.notation_rules.specs.Places.{Told, good, faulty, line, column}
use Rattle.notation_rules.proofs.Places.{text_faulty}
use Rattle.notation_rules.specs.Rules.{Rule, the_rule, write_text, read_text, matcher_text, read_matcher, pattern_text, read_pattern, target_text, read_target}
use Rattle.notation_rules.proofs.RulesBack as R
use Rattle.notation_rules.proofs.Kept.{read_fine}

-- ---- What is written is read back: a rule, a matcher, a pattern whose variables the library's test 3 accepts, a target.
pub rule_read_back : (r : Rule) → R.Fine r → read_text (write_text r) ≡ good r
rule_read_back = R.rule_back

pub matcher_read_back : (m : Matcher) → M.Fine m → read_matcher (matcher_text m) ≡ good m
matcher_read_back = R.matcher_back

pub pattern_read_back : (p : Pattern) (k : ℕ) → P.Fine p → variables p true 0 0 ≡ ok k → read_pattern (pattern_text p) ≡ good p
unfolding Numbered
pattern_read_back p k h v = R.pattern_back p h (numbered p true 0 0 k [] v tt)

pub target_read_back : (v : Value) → U.Fine v → read_target (target_text v) ≡ good v
target_read_back = R.target_back

-- ---- What was read and is written again reads the same.
pub read_again : (text : List ℕ) (r : Rule) → read_text text ≡ good r → read_text (write_text r) ≡ read_text text
read_again text r h = R.rule_back r (read_fine text r h) ∙ sym h

-- ---- Two rules have not the same text.
pub one_rule : (r s : Rule) → R.Fine r → R.Fine s → write_text r ≡ write_text s → r ≡ s
one_rule r s f g h = let e : ◌≡◌ {A = Told Rule} (good r) (good s) = sym (R.rule_back r f) ∙ ap read_text h ∙ R.rule_back s g in cc

-- ---- Every text ends with a rule, or with a cause and the line and column of one of its characters or of its end.
pub data Ends (text : List ℕ) : Type 0 where
  is_rule : (r : Rule) → read_text text ≡ good r → Ends text
  is_refused : (c : Cause) (i : ℕ) → i ≤ length text → read_text text ≡ faulty c (line text i) (column text i) → Ends text

pub every_text : (text : List ℕ) → Ends text
unfolding read_text
every_text text = go (read_text text) refl
  where
    go : (t : Told Rule) → read_text text ≡ t → Ends text
    go (good r) h = is_rule r h
    go (faulty c l k) h = let i = text_faulty the_rule text c l k h in is_refused c i.0 i.1 (h ∙ ap (λ x. faulty c x k) i.2 ∙ ap (faulty c (line text i.0)) i.3)
