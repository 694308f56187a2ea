-- Every rule and every units that the library's tests accept can be written: so the page holds the text of what was accepted.
use Rattle.std.specs.Prelude.{ℕ, ◌≤◌, ◌≡◌, true, List, [], ◌∷◌, ◌++◌, T, length, ℤ}
use Rattle.std.proofs.Common.{ap, ◌∙◌, subst}
use Rattle.std.proofs.Math.Option.{some}
use Rattle.rules.specs.Numbers.{in_range}
use Rattle.rules.specs.Forms.{Matcher, something, integer, list, multiset, tuple_of, Matchers, no_matchers, ◌▸ᵐ◌, countᵐ}
use Rattle.rules.specs.Forms.{Pattern, wildcard, variable, constant, value, nil, cons, join, tuple, both, either, never, Patterns, no_patterns, ◌▸ᵖ◌, countᵖ}
use Rattle.rules.specs.Forms.{Value, int, collection, tupled, Values, empty, ◌▸◌, count, words, words_all}
use Rattle.rules.specs.Reading.{ok, read_matcher, read_pattern, read_target}
use Rattle.rules.specs.Variables.{variables}
use Rattle.forms.specs.Written.{matcher_words, pattern_words, pattern_words_all, IsWidth, Widthsᵐ, WidthsAllᵐ, Widthsᵖ, WidthsAllᵖ, Widths, WidthsAll}
use Rattle.forms.specs.ReadMatcher.{matcher_read}
use Rattle.forms.specs.ReadPattern.{pattern_read}
use Rattle.forms.proofs.ReadTarget.{target_read}
use Rattle.notation_rules.specs.PatternsBack as B
use Rattle.notation_rules.specs.Matchers as M
use Rattle.notation_rules.specs.Targets as U
use Rattle.notation_rules.specs.NamesBack.{Numbered, numbered}
use Rattle.notation_rules.specs.KeptMachine.{in_width}
use Rattle.notation_rules.specs.Rules.{rule, write_text}
use Rattle.notation_rules.proofs.RulesBack as R
use Rattle.notation_print.specs.Pages.{page, letters}
use Rattle.notation_print.specs.Inks.{sheet}
use Rattle.notation_write.specs.Written.{draws, rule_inks}
use Rattle.notation_promises.specs.Main.{units_words, Limited}
use Rattle.notation_promises.proofs.Main.{page_is_text}

-- Words are signed 32-bit numbers.
unfoldable pub Words : List ℤ → Type 0
unfolding in_range
Words [] = T true
Words (w ∷ ws) = T (in_range w) × Words ws

before : (us vs : List ℤ) → Words (us ++ vs) → Words us
unfolding Words
before [] vs h = tt
before (u ∷ us) vs h = (h.0, before us vs h.1)

behind : (us vs : List ℤ) → Words (us ++ vs) → Words vs
unfolding Words
behind [] vs h = h
behind (u ∷ us) vs h = behind us vs h.1

mutual
  unfolding Widthsᵐ WidthsAllᵐ IsWidth M.Fine M.FineAll

  matcher_fine : (m : Matcher) → Widthsᵐ m → M.Fine m
  matcher_fine something w = tt
  matcher_fine integer w = tt
  matcher_fine (list m) w = matcher_fine m w
  matcher_fine (multiset m) w = matcher_fine m w
  matcher_fine (tuple_of ms) w = (in_width (countᵐ ms) w.0.0 w.0.1, matchers_fine ms w.1)

  matchers_fine : (ms : Matchers) → WidthsAllᵐ ms → M.FineAll ms
  matchers_fine no_matchers w = tt
  matchers_fine (m ▸ᵐ ms) w = (matcher_fine m w.0, matchers_fine ms w.1)

mutual
  unfolding Widthsᵖ WidthsAllᵖ IsWidth B.Fine B.FineAll pattern_words pattern_words_all Words

  pattern_fine : (p : Pattern) → Widthsᵖ p → Words (pattern_words p) → B.Fine p
  pattern_fine wildcard w h = tt
  pattern_fine nil w h = tt
  pattern_fine (variable v) w h = tt
  pattern_fine (constant c) w h = h.1.0
  pattern_fine (value v c) w h = h.1.1.0
  pattern_fine (cons p q) w h = (pattern_fine p w.0 (before (pattern_words p) (pattern_words q) h.1), pattern_fine q w.1 (behind (pattern_words p) (pattern_words q) h.1))
  pattern_fine (join p q) w h = (pattern_fine p w.0 (before (pattern_words p) (pattern_words q) h.1), pattern_fine q w.1 (behind (pattern_words p) (pattern_words q) h.1))
  pattern_fine (both p q) w h = (pattern_fine p w.0 (before (pattern_words p) (pattern_words q) h.1), pattern_fine q w.1 (behind (pattern_words p) (pattern_words q) h.1))
  pattern_fine (either p q) w h = (pattern_fine p w.0 (before (pattern_words p) (pattern_words q) h.1), pattern_fine q w.1 (behind (pattern_words p) (pattern_words q) h.1))
  pattern_fine (never p) w h = pattern_fine p w h.1
  pattern_fine (tuple ps) w h = (in_width (countᵖ ps) w.0.0 w.0.1, patterns_fine ps w.1 h.1.1)

  patterns_fine : (ps : Patterns) → WidthsAllᵖ ps → Words (pattern_words_all ps) → B.FineAll ps
  patterns_fine no_patterns w h = tt
  patterns_fine (p ▸ᵖ ps) w h = (pattern_fine p w.0 (before (pattern_words p) (pattern_words_all ps) h), patterns_fine ps w.1 (behind (pattern_words p) (pattern_words_all ps) h))

mutual
  unfolding Widths WidthsAll IsWidth U.Fine U.FineAll words words_all Words

  value_fine : (v : Value) → Widths v → Words (words v) → U.Fine v
  value_fine (int x) w h = h.1.0
  value_fine (collection vs) w h = values_fine vs w h.1.1
  value_fine (tupled vs) w h = (in_width (count vs) w.0.0 w.0.1, values_fine vs w.1 h.1.1)

  values_fine : (vs : Values) → WidthsAll vs → Words (words_all vs) → U.FineAll vs
  values_fine empty w h = tt
  values_fine (v ▸ vs) w h = (value_fine v w.0 (before (words v) (words_all vs) h), values_fine vs w.1 (behind (words v) (words_all vs) h))

-- THE PAGE OF WHAT IS ACCEPTED: tests 1, 2, 3 and 5 accept the words; then the code writes the text of the rule that they are.
pub accepted_is_text : (out : List ℕ) (ms ps ts : List ℤ) (m : Matcher) (p : Pattern) (v : Value) (k : ℕ) → Words ps → Words ts
    → read_matcher ms ≡ ok m → read_pattern ps ≡ ok p → variables p true 0 0 ≡ ok k → read_target ts ≡ ok v
    → (draws (sheet out 0 0) (rule_inks ms ps ts)).on ≡ letters (page out 0) (write_text (rule (some v) m p))
unfolding R.Fine R.FineUnits Limited units_words Numbered
accepted_is_text out ms ps ts m p v k x y a b c d =
    let i = (matcher_read ms m).0 a in
    let j = (pattern_read ps p).0 b in
    let l = (target_read ts v).0 d in
    ap (λ z. (draws (sheet out 0 0) (rule_inks z ps ts)).on) i.0
    ∙ ap (λ z. (draws (sheet out 0 0) (rule_inks (matcher_words m) z ts)).on) j.0
    ∙ ap (λ z. (draws (sheet out 0 0) (rule_inks (matcher_words m) (pattern_words p) z)).on) l.0
    ∙ page_is_text out (some v) m p
    (value_fine v l.4 (subst Words l.0 y), matcher_fine m i.3, pattern_fine p j.2 (subst Words j.0 x), numbered p true 0 0 k [] c tt)
    i.2 (subst (λ z. length z ≤ 256) j.0 j.1) (l.2, l.3)
