-- Published examples in the notation in which they were published, without their bodies: each is read as the rule whose words stand beside it.
-- (Source documents 000 and 003. The gate plays nine of them; seven were published in the order of No. 10.)
use Prim.Native.String.{String}
use Rattle.std.specs.Prelude.{◌≡◌, refl, List, [], ◌∷◌, ℤ, pos, negsuc}
use Rattle.std.proofs.Math.Option.{some}
use Rattle.rules.specs.Forms.{Matcher, Pattern, Value}
use Rattle.rules.specs.Reading as W
use Rattle.rules.specs.Reading.{Verdict, ok, fault}
use Rattle.notation_rules.specs.Quoted.{characters}
use Rattle.notation_rules.specs.Tokens.{misplaced}
use Rattle.notation_rules.specs.Places.{Told, good, faulty}
use Rattle.notation_rules.specs.Rules.{Rule, rule, read_text, read_pattern}

-- The rule that the words are; where they are none, a refusal at a place that no text has.
unfoldable rule_of : Verdict Matcher → Verdict Pattern → Verdict Value → Told Rule
rule_of (ok m) (ok p) (ok v) = good (rule (some v) m p)
rule_of (ok m) (ok p) (fault i) = faulty misplaced 0 0
rule_of (ok m) (fault i) v = faulty misplaced 0 0
rule_of (fault i) p v = faulty misplaced 0 0

unfoldable pattern_of : Verdict Pattern → Told Pattern
pattern_of (ok p) = good p
pattern_of (fault i) = faulty misplaced 0 0

pub data Published : Type 0 where
  published : String → (ms ps ts : List ℤ) → Published

unfoldable pub texts : List Published → List (Told Rule)
unfolding read_text characters
texts [] = []
texts (published s ms ps ts ∷ rows) = read_text (characters s) ∷ texts rows

unfoldable pub rules : List Published → List (Told Rule)
unfolding rule_of W.read_matcher W.read_pattern W.read_target
rules [] = []
rules (published s ms ps ts ∷ rows) = rule_of (W.read_matcher ms) (W.read_pattern ps) (W.read_target ts) ∷ rules rows

unfoldable pub rows : List Published
rows =
    published "matchAll [1,2,3] as list something with $hs ++ $ts"
    (pos 2 ∷ pos 0 ∷ [])
    (pos 6 ∷ pos 1 ∷ pos 0 ∷ pos 1 ∷ pos 1 ∷ [])
    (pos 1 ∷ pos 3 ∷ pos 0 ∷ pos 1 ∷ pos 0 ∷ pos 2 ∷ pos 0 ∷ pos 3 ∷ [])
    ∷ published "matchAll [1,2,3] as list something with $x :: $xs"
    (pos 2 ∷ pos 0 ∷ [])
    (pos 5 ∷ pos 1 ∷ pos 0 ∷ pos 1 ∷ pos 1 ∷ [])
    (pos 1 ∷ pos 3 ∷ pos 0 ∷ pos 1 ∷ pos 0 ∷ pos 2 ∷ pos 0 ∷ pos 3 ∷ [])
    ∷ published "matchAll [1,2,3] as multiset something with $x :: $xs"
    (pos 3 ∷ pos 0 ∷ [])
    (pos 5 ∷ pos 1 ∷ pos 0 ∷ pos 1 ∷ pos 1 ∷ [])
    (pos 1 ∷ pos 3 ∷ pos 0 ∷ pos 1 ∷ pos 0 ∷ pos 2 ∷ pos 0 ∷ pos 3 ∷ [])
    ∷ published "matchAll [1, 2, 3, 2, 4, 3] as list integer with _ ++ $x :: _ ++ #x :: _"
    (pos 2 ∷ pos 1 ∷ [])
    (pos 6 ∷ pos 0 ∷ pos 5 ∷ pos 1 ∷ pos 0 ∷ pos 6 ∷ pos 0 ∷ pos 5 ∷ pos 3 ∷ pos 0 ∷ pos 0 ∷ pos 0 ∷ [])
    (pos 1 ∷ pos 6 ∷ pos 0 ∷ pos 1 ∷ pos 0 ∷ pos 2 ∷ pos 0 ∷ pos 3 ∷ pos 0 ∷ pos 2 ∷ pos 0 ∷ pos 4 ∷ pos 0 ∷ pos 3 ∷ [])
    ∷ published "matchAll [1,2,3,4] as list something with _ ++ $x_1 :: _ ++ $x_2 :: _"
    (pos 2 ∷ pos 0 ∷ [])
    (pos 6 ∷ pos 0 ∷ pos 5 ∷ pos 1 ∷ pos 0 ∷ pos 6 ∷ pos 0 ∷ pos 5 ∷ pos 1 ∷ pos 1 ∷ pos 0 ∷ [])
    (pos 1 ∷ pos 4 ∷ pos 0 ∷ pos 1 ∷ pos 0 ∷ pos 2 ∷ pos 0 ∷ pos 3 ∷ pos 0 ∷ pos 4 ∷ [])
    ∷ published "matchAll [1,2,3] as list integer with _ ++ $x :: _ ++ $y :: _"
    (pos 2 ∷ pos 1 ∷ [])
    (pos 6 ∷ pos 0 ∷ pos 5 ∷ pos 1 ∷ pos 0 ∷ pos 6 ∷ pos 0 ∷ pos 5 ∷ pos 1 ∷ pos 1 ∷ pos 0 ∷ [])
    (pos 1 ∷ pos 3 ∷ pos 0 ∷ pos 1 ∷ pos 0 ∷ pos 2 ∷ pos 0 ∷ pos 3 ∷ [])
    ∷ published "matchAll [1, 2, 3] as list something with _ ++ $x :: _ ++ $y :: _"
    (pos 2 ∷ pos 0 ∷ [])
    (pos 6 ∷ pos 0 ∷ pos 5 ∷ pos 1 ∷ pos 0 ∷ pos 6 ∷ pos 0 ∷ pos 5 ∷ pos 1 ∷ pos 1 ∷ pos 0 ∷ [])
    (pos 1 ∷ pos 3 ∷ pos 0 ∷ pos 1 ∷ pos 0 ∷ pos 2 ∷ pos 0 ∷ pos 3 ∷ [])
    ∷ published "matchAll [1,2,3] as multiset integer with $x :: $y :: _"
    (pos 3 ∷ pos 1 ∷ [])
    (pos 5 ∷ pos 1 ∷ pos 0 ∷ pos 5 ∷ pos 1 ∷ pos 1 ∷ pos 0 ∷ [])
    (pos 1 ∷ pos 3 ∷ pos 0 ∷ pos 1 ∷ pos 0 ∷ pos 2 ∷ pos 0 ∷ pos 3 ∷ [])
    ∷ published "matchAll [1, 2, 3] as multiset something with $x :: $y :: _"
    (pos 3 ∷ pos 0 ∷ [])
    (pos 5 ∷ pos 1 ∷ pos 0 ∷ pos 5 ∷ pos 1 ∷ pos 1 ∷ pos 0 ∷ [])
    (pos 1 ∷ pos 3 ∷ pos 0 ∷ pos 1 ∷ pos 0 ∷ pos 2 ∷ pos 0 ∷ pos 3 ∷ [])
    ∷ published "matchAll [1, 2, 3] as list integer with $n :: (_ :: _ & $rs)"
    (pos 2 ∷ pos 1 ∷ [])
    (pos 5 ∷ pos 1 ∷ pos 0 ∷ pos 8 ∷ pos 5 ∷ pos 0 ∷ pos 0 ∷ pos 1 ∷ pos 1 ∷ [])
    (pos 1 ∷ pos 3 ∷ pos 0 ∷ pos 1 ∷ pos 0 ∷ pos 2 ∷ pos 0 ∷ pos 3 ∷ [])
    ∷ published "matchAll [1, 1, 2] as list integer with $m :: ([ ] | #m :: _)"
    (pos 2 ∷ pos 1 ∷ [])
    (pos 5 ∷ pos 1 ∷ pos 0 ∷ pos 9 ∷ pos 4 ∷ pos 5 ∷ pos 3 ∷ pos 0 ∷ pos 0 ∷ pos 0 ∷ [])
    (pos 1 ∷ pos 3 ∷ pos 0 ∷ pos 1 ∷ pos 0 ∷ pos 1 ∷ pos 0 ∷ pos 2 ∷ [])
    ∷ published "matchAll [2, 8, 2] as multiset integer with $m :: (!(#m :: _) & $rs)"
    (pos 3 ∷ pos 1 ∷ [])
    (pos 5 ∷ pos 1 ∷ pos 0 ∷ pos 8 ∷ pos 10 ∷ pos 5 ∷ pos 3 ∷ pos 0 ∷ pos 0 ∷ pos 0 ∷ pos 1 ∷ pos 1 ∷ [])
    (pos 1 ∷ pos 3 ∷ pos 0 ∷ pos 2 ∷ pos 0 ∷ pos 8 ∷ pos 0 ∷ pos 2 ∷ [])
    ∷ []

pub published_rules : texts rows ≡ rules rows
unfolding texts rules rows
published_rules = refl

-- ---- Patterns whose targets are computed in the publication (the primes, the board).
pub data PublishedPattern : Type 0 where
  published_pattern : String → (ps : List ℤ) → PublishedPattern

unfoldable pub pattern_texts : List PublishedPattern → List (Told Pattern)
unfolding read_pattern characters
pattern_texts [] = []
pattern_texts (published_pattern s ps ∷ rows) = read_pattern (characters s) ∷ pattern_texts rows

unfoldable pub patterns : List PublishedPattern → List (Told Pattern)
unfolding pattern_of W.read_pattern
patterns [] = []
patterns (published_pattern s ps ∷ rows) = pattern_of (W.read_pattern ps) ∷ patterns rows

unfoldable pub pattern_rows : List PublishedPattern
pattern_rows =
    published_pattern "_ ++ $p :: #(p + 2) :: _"
    (pos 6 ∷ pos 0 ∷ pos 5 ∷ pos 1 ∷ pos 0 ∷ pos 5 ∷ pos 3 ∷ pos 0 ∷ pos 2 ∷ pos 0 ∷ [])
    ∷ published_pattern "_ ++ $p :: ((#(p + 2) | #(p + 4)) & $m) :: #(p + 6) :: _"
    (pos 6 ∷ pos 0 ∷ pos 5 ∷ pos 1 ∷ pos 0 ∷ pos 5 ∷ pos 8 ∷ pos 9 ∷ pos 3 ∷ pos 0 ∷ pos 2 ∷ pos 3 ∷ pos 0 ∷ pos 4 ∷ pos 1 ∷ pos 1 ∷ pos 5 ∷ pos 3 ∷ pos 0 ∷ pos 6 ∷ pos 0 ∷ [])
    ∷ published_pattern "_ ++ $p :: (!#(p + 2) & $q) :: _"
    (pos 6 ∷ pos 0 ∷ pos 5 ∷ pos 1 ∷ pos 0 ∷ pos 5 ∷ pos 8 ∷ pos 10 ∷ pos 3 ∷ pos 0 ∷ pos 2 ∷ pos 1 ∷ pos 1 ∷ pos 0 ∷ [])
    ∷ published_pattern "$a_1 :: (!#(a_1 - 1) & !#(a_1 + 1) & $a_2) :: (!#(a_1 - 2) & !#(a_1 + 2) & !#(a_2 - 1) & !#(a_2 + 1) & $a_3) :: (!#(a_1 - 3) & !#(a_1 + 3) & !#(a_2 - 2) & !#(a_2 + 2) & !#(a_3 - 1) & !#(a_3 + 1) & $a_4) :: []"
    (pos 5 ∷ pos 1 ∷ pos 0 ∷ pos 5 ∷ pos 8 ∷ pos 10 ∷ pos 3 ∷ pos 0 ∷ negsuc 0 ∷ pos 8 ∷ pos 10 ∷ pos 3 ∷ pos 0 ∷ pos 1 ∷ pos 1 ∷ pos 1 ∷ pos 5 ∷ pos 8 ∷ pos 10 ∷ pos 3 ∷ pos 0 ∷ negsuc 1 ∷ pos 8 ∷ pos 10 ∷ pos 3 ∷ pos 0 ∷ pos 2 ∷ pos 8 ∷ pos 10 ∷ pos 3 ∷ pos 1 ∷ negsuc 0 ∷ pos 8 ∷ pos 10 ∷ pos 3 ∷ pos 1 ∷ pos 1 ∷ pos 1 ∷ pos 2 ∷ pos 5 ∷ pos 8 ∷ pos 10 ∷ pos 3 ∷ pos 0 ∷ negsuc 2 ∷ pos 8 ∷ pos 10 ∷ pos 3 ∷ pos 0 ∷ pos 3 ∷ pos 8 ∷ pos 10 ∷ pos 3 ∷ pos 1 ∷ negsuc 1 ∷ pos 8 ∷ pos 10 ∷ pos 3 ∷ pos 1 ∷ pos 2 ∷ pos 8 ∷ pos 10 ∷ pos 3 ∷ pos 2 ∷ negsuc 0 ∷ pos 8 ∷ pos 10 ∷ pos 3 ∷ pos 2 ∷ pos 1 ∷ pos 1 ∷ pos 3 ∷ pos 4 ∷ [])
    ∷ []

pub published_patterns : pattern_texts pattern_rows ≡ patterns pattern_rows
unfolding pattern_texts patterns pattern_rows
published_patterns = refl
