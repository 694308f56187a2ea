-- A whole rule, `matchAll TARGET as MATCHER with PATTERN`, or `as MATCHER with PATTERN` where it has no units: its text, and its reading.
use Rattle.std.specs.Prelude.{ℕ, suc, Bool, true, false, List, [], ◌∷◌, length, eqb}
use Rattle.std.proofs.Math.Option.{Option, none, some}
use Rattle.rules.specs.Forms.{Matcher, Pattern, Value}
use Rattle.notation_rules.specs.Tokens.{cut_short, Outcome, refused, Mark, matching, by, with'}
use Rattle.notation_rules.specs.Tokens.{Token, mark, sign, binds, uses, number, wrong, code, blame, whole, run}
use Rattle.notation_rules.specs.Letters.{print}
use Rattle.notation_rules.specs.Names.{calls}
use Rattle.notation_rules.specs.Places.{Told, from_text}
use Rattle.notation_rules.specs.Targets as U
use Rattle.notation_rules.specs.Matchers as M
use Rattle.notation_rules.specs.Patterns as P
use Rattle.notation_rules.specs.Patterns.{want, ◌on◌}

pub data Rule : Type 0 where
  rule : Option Value → Matcher → Pattern → Rule

-- ---- Writing.
unfoldable pub units : Option Value → List Token → List Token
unfolding U.write
units none ts = ts
units (some v) ts = mark matching ∷ U.write v ts

unfoldable pub write_rule : Rule → List Token
unfolding units M.write P.write
write_rule (rule v m p) = units v (mark by ∷ M.write false m (mark with' ∷ P.write 1 p []))

-- ---- Reading.
unfoldable pub is_mark : Mark → Token → Bool
unfolding code
is_mark m (mark n) = eqb (code m) (code n)
is_mark m (sign s) = false
is_mark m (binds v) = false
is_mark m (uses v) = false
is_mark m (number n) = false
is_mark m (wrong c) = false

unfoldable pub expect : {A : Type 0} → Mark → (List Token → Outcome A) → List Token → Outcome A
unfolding is_mark blame
expect m k [] = refused cut_short 0
expect m k (t ∷ ts) = elim (is_mark m t) [ true ↦ k ts | false ↦ refused (blame t) (suc (length ts)) ]

unfoldable pub the_pattern : Option Value → Matcher → List Token → Outcome Rule
unfolding expect run whole P.patterns
the_pattern v m = expect with' (run P.patterns (λ p. whole (rule v m p)) (want on []))

unfoldable pub the_matcher : Option Value → List Token → Outcome Rule
unfolding expect run the_pattern M.matchers
the_matcher v = expect by (run M.matchers (λ m. the_pattern v m) (M.want false []))

unfoldable pub the_rule : List Token → Outcome Rule
unfolding is_mark run the_matcher U.targets
the_rule [] = the_matcher none []
the_rule (t ∷ ts) = elim (is_mark matching t) [ true ↦ run U.targets (λ v. the_matcher (some v)) (U.want []) ts | false ↦ the_matcher none (t ∷ ts) ]

-- ---- In characters.
unfoldable pub text_of : List Token → List ℕ
unfolding print calls
text_of ts = print (calls ts)

unfoldable pub write_text : Rule → List ℕ
unfolding text_of write_rule
write_text r = text_of (write_rule r)

unfoldable pub read_text : List ℕ → Told Rule
unfolding from_text the_rule
read_text = from_text the_rule

-- A matcher, a pattern, a target by itself.
unfoldable pub matcher_text : Matcher → List ℕ
unfolding text_of M.write
matcher_text m = text_of (M.write false m [])

unfoldable pub read_matcher : List ℕ → Told Matcher
unfolding from_text run whole M.matchers
read_matcher = from_text (run M.matchers whole (M.want false []))

unfoldable pub pattern_text : Pattern → List ℕ
unfolding text_of P.write
pattern_text p = text_of (P.write 1 p [])

unfoldable pub read_pattern : List ℕ → Told Pattern
unfolding from_text run whole P.patterns
read_pattern = from_text (run P.patterns whole (want on []))

unfoldable pub target_text : Value → List ℕ
unfolding text_of U.write
target_text v = text_of (U.write v [])

unfoldable pub read_target : List ℕ → Told Value
unfolding from_text run whole U.targets
read_target = from_text (run U.targets whole (U.want []))
