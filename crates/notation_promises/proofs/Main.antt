-- What `notation_write::write_rule` puts on a page is the text of the rule.
use Rattle.std.specs.Prelude.{ℕ, ◌≤◌, ◌≡◌, refl, length, ℤ, pos, negsuc}
use Rattle.std.proofs.Common.{arith, ◌∙◌, ne_eqb}
use Rattle.std.proofs.Math.Path.{ap}
use Rattle.std.proofs.Math.Bool.{false}
use Rattle.std.proofs.Math.Option.{Option, none, some}
use mathlib.Core.List.{List, [], ◌∷◌, ◌++◌}
use Rattle.rules.specs.Forms.{Matcher, Pattern, Value, int, collection, tupled, words}
use Rattle.forms.specs.Written.{matcher_words, pattern_words, levels, deepest, largest}
use Rattle.notation_rules.specs.Tokens.{matching, by, with', Token, mark, sign, binds, uses, number, wrong, code}
use Rattle.notation_rules.specs.LettersBack.{Lettered, Spelled, SpelledAll}
use Rattle.notation_rules.specs.Names.{called, call, calls}
use Rattle.notation_rules.specs.NamesBack.{Good}
use Rattle.notation_rules.specs.Patterns as P
use Rattle.notation_rules.specs.PatternsBack as B
use Rattle.notation_rules.specs.Matchers as M
use Rattle.notation_rules.specs.Targets as U
use Rattle.notation_rules.specs.Rules.{rule, units, write_rule, text_of, write_text}
use Rattle.notation_rules.proofs.RulesBack as R
use Rattle.notation_print.specs.Pages.{page, letters}
use Rattle.notation_print.specs.Inks.{sheet}
use Rattle.notation_write.specs.Written.{ink, draws, written, units_inks, rule_inks}
use Rattle.notation_promises.specs.Printed.{ink_of, inks_of, Named, NamedAll}
use Rattle.notation_promises.proofs.Printed.{printed}
use Rattle.notation_promises.specs.Patterns.{Writes, no_more}
use Rattle.notation_promises.proofs.Patterns.{walks}
use Rattle.notation_promises.specs.Units.{asked, walks_value, walks_matcher}
use Rattle.notation_promises.specs.Main.{Limited, units_words}

-- ---- The tokens.
nothing_behind : (ws : List ℤ) → ws ≡ ws ++ []
nothing_behind [] = refl
nothing_behind (w ∷ ws) = ap (λ us. w ∷ us) (nothing_behind ws)

some_words : (v : Value) → length (words v) ≡ 0 → ⊥
unfolding words
some_words (int x) e = absurd (omega arith)
some_words (collection vs) e = absurd (omega arith)
some_words (tupled vs) e = absurd (omega arith)

units_are : (ws : List ℤ) → (length ws ≡ 0 → ⊥) → units_inks ws ≡ ink 14 0 ∷ (written ws 9 0 17).inks
unfolding units_inks
units_are ws h = rw (ne_eqb (length ws) 0 h)

module _ (m : Matcher) (p : Pattern) (f : M.Fine m) (g : B.Fine p) (a : levels m ≤ 4) (b : length (pattern_words p) ≤ 256) where
  pattern_inks : (written (pattern_words p) 256 0 1).inks ≡ inks_of (P.write 1 p [])
  unfolding Writes inks_of
  pattern_inks = no_more (written (pattern_words p) 256 0 1).inks ∙ (walks (pattern_words p) p g 1 256 0 [] (omega arith) (nothing_behind (pattern_words p)) b).1 []

  rest_inks : ink 15 0 ∷ ((written (matcher_words m) 5 0 9).inks ++ (ink 16 0 ∷ (written (pattern_words p) 256 0 1).inks))
      ≡ inks_of (mark by ∷ M.write false m (mark with' ∷ P.write 1 p []))
  unfolding Writes inks_of ink_of code asked
  rest_inks = ap (λ z. ink 15 0 ∷ z) (ap (λ z. (written (matcher_words m) 5 0 9).inks ++ (ink 16 0 ∷ z)) pattern_inks
      ∙ (walks_matcher (matcher_words m) m f false 5 0 [] (nothing_behind (matcher_words m)) (omega arith)).1 (mark with' ∷ P.write 1 p []))

  units_inks_lem : (v : Value) (ts : List Token) → U.Fine v → largest v ≤ 64 → deepest v ≤ 8 → units_inks (words v) ++ inks_of ts ≡ inks_of (mark matching ∷ U.write v ts)
  unfolding Writes inks_of ink_of code
  units_inks_lem v ts h l k = ap (λ z. z ++ inks_of ts) (some_units v)
      ∙ ap (λ z. ink 14 0 ∷ z) ((walks_value (words v) v h 9 0 [] (nothing_behind (words v)) l (omega arith)).1 ts)
    where
      some_units : (u : Value) → units_inks (words u) ≡ ink 14 0 ∷ (written (words u) 9 0 17).inks
      some_units u = units_are (words u) (some_words u)

-- ---- The page.
spelled_named : (ts : List Token) → SpelledAll (calls ts) → NamedAll ts
unfolding SpelledAll Spelled Lettered calls call called NamedAll Named
spelled_named [] h = tt
spelled_named (mark m ∷ ts) h = (tt, spelled_named ts h.1)
spelled_named (sign s ∷ ts) h = (tt, spelled_named ts h.1)
spelled_named (binds (pos v) ∷ ts) h = (tt, spelled_named ts h.1)
spelled_named (binds (negsuc v) ∷ ts) h = absurd h.0
spelled_named (uses (pos v) ∷ ts) h = (tt, spelled_named ts h.1)
spelled_named (uses (negsuc v) ∷ ts) h = absurd h.0
spelled_named (number n ∷ ts) h = (tt, spelled_named ts h.1)
spelled_named (wrong c ∷ ts) h = absurd h.0

rule_inks_lem : (v : Option Value) (m : Matcher) (p : Pattern) → R.Fine (rule v m p) → levels m ≤ 4 → length (pattern_words p) ≤ 256 → Limited v
    → rule_inks (matcher_words m) (pattern_words p) (units_words v) ≡ inks_of (write_rule (rule v m p))
unfolding R.Fine R.FineUnits rule_inks units_words Limited units_inks write_rule units
rule_inks_lem none m p f a b l = rest_inks m p f.1 f.2 a b
rule_inks_lem (some v) m p f a b l = ap (λ z. units_inks (words v) ++ z) (rest_inks m p f.1 f.2 a b) ∙ units_inks_lem m p f.1 f.2 a b v (mark by ∷ M.write false m (mark with' ∷ P.write 1 p [])) f.0 l.0 l.1

-- THE PAGE: from the words of a rule in the limits the code writes the rule's text, as far as the page goes.
pub page_is_text : (out : List ℕ) (v : Option Value) (m : Matcher) (p : Pattern) → R.Fine (rule v m p) → levels m ≤ 4 → length (pattern_words p) ≤ 256 → Limited v
    → (draws (sheet out 0 0) (rule_inks (matcher_words m) (pattern_words p) (units_words v))).on ≡ letters (page out 0) (write_text (rule v m p))
unfolding write_text text_of Good
page_is_text out v m p f a b l = ap (λ is. (draws (sheet out 0 0) is).on) (rule_inks_lem v m p f a b l)
    ∙ printed out (write_rule (rule v m p)) (spelled_named (write_rule (rule v m p)) (R.good_rule (rule v m p) f).1)
