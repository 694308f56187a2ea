-- Worked examples, in characters: what is read, what is written, and each refusal with its cause, line and column. They pin what a round trip cannot,
-- such as a precedence that is changed in writing and reading alike.
use Rattle.std.specs.Prelude.{ℕ, ◌≡◌, refl, List, [], ◌∷◌, pos, negsuc}
use Prim.Native.String.{String}
use Rattle.std.proofs.Math.Option.{none, some}
use Rattle.rules.specs.Forms.{Matcher, something, integer, list, multiset, tuple_of, no_matchers, ◌▸ᵐ◌}
use Rattle.rules.specs.Forms.{Pattern, wildcard, variable, constant, value, nil, cons, join, tuple, both, either, never, no_patterns, ◌▸ᵖ◌}
use Rattle.rules.specs.Forms.{Value, int, collection, tupled, empty, ◌▸◌}
use Rattle.notation_rules.specs.Quoted.{characters}
use Rattle.notation_rules.specs.Tokens.{unknown_sign, misplaced, cut_short, bracket_open, unknown_name, bound_twice, used_before, out_of_range, over_limit}
use Rattle.notation_rules.specs.Places.{Told, good, faulty}
use Rattle.notation_rules.specs.Rules.{Rule, rule, read_text, write_text, matcher_text, read_matcher, pattern_text, read_pattern, target_text, read_target}

-- A text with what it stands for, or a tree with its text.
infix 68 ◌means◌
pub data Row (A : Type 0) : Type 0 where
  ◌means◌ : String → A → Row A

unfoldable pub texts : {A : Type 0} → List (Row A) → List (List ℕ)
unfolding characters
texts [] = []
texts ((s means a) ∷ rows) = characters s ∷ texts rows

unfoldable pub meant : {A B : Type 0} → (A → B) → List (Row A) → List B
meant f [] = []
meant f ((s means a) ∷ rows) = f a ∷ meant f rows

unfoldable pub each : {A B : Type 0} → (A → B) → List A → List B
each f [] = []
each f (a ∷ xs) = f a ∷ each f xs

x : Pattern
x = variable (pos 0)

y : Pattern
y = variable (pos 1)

-- ---- Patterns that are written as they are read. One line for each tag, and for each sign inside each other, on its left and on its right.
unfoldable pub pattern_rows : List (Row Pattern)
unfolding x y
pattern_rows =
    "_" means wildcard
    ∷ "$x" means x
    ∷ "#7" means constant (pos 7)
    ∷ "#-3" means constant (negsuc 2)
    ∷ "#2147483647" means constant (pos 2147483647)
    ∷ "#-2147483648" means constant (negsuc 2147483647)
    ∷ "$x :: #x" means cons x (value (pos 0) (pos 0))
    ∷ "$x :: $y :: #x" means cons x (cons y (value (pos 0) (pos 0)))
    ∷ "$x :: $y :: #y" means cons x (cons y (value (pos 1) (pos 0)))
    ∷ "$x :: #(x + 12)" means cons x (value (pos 0) (pos 12))
    ∷ "$x :: #(x - 1)" means cons x (value (pos 0) (negsuc 0))
    ∷ "[]" means nil
    ∷ "_ :: []" means cons wildcard nil
    ∷ "_ ++ []" means join wildcard nil
    ∷ "_ ++ $x :: _ ++ #x :: _" means join wildcard (cons x (join wildcard (cons (value (pos 0) (pos 0)) wildcard)))
    ∷ "(_ ++ []) ++ []" means join (join wildcard nil) nil
    ∷ "(_ :: []) :: []" means cons (cons wildcard nil) nil
    ∷ "(_ ++ []) :: []" means cons (join wildcard nil) nil
    ∷ "(_ :: []) ++ []" means join (cons wildcard nil) nil
    ∷ "_ :: [] & $x" means both (cons wildcard nil) x
    ∷ "_ :: ([] & $x)" means cons wildcard (both nil x)
    ∷ "(_ & $x) :: []" means cons (both wildcard x) nil
    ∷ "$x & _ :: []" means both x (cons wildcard nil)
    ∷ "_ & [] & $x" means both wildcard (both nil x)
    ∷ "(_ & []) & $x" means both (both wildcard nil) x
    ∷ "_ & [] | []" means either (both wildcard nil) nil
    ∷ "_ & ([] | [])" means both wildcard (either nil nil)
    ∷ "[] | _ & []" means either nil (both wildcard nil)
    ∷ "([] | _) & []" means both (either nil wildcard) nil
    ∷ "_ | [] | #1" means either wildcard (either nil (constant (pos 1)))
    ∷ "(_ | []) | #1" means either (either wildcard nil) (constant (pos 1))
    ∷ "[] | _ :: _" means either nil (cons wildcard wildcard)
    ∷ "([] | _) :: _" means cons (either nil wildcard) wildcard
    ∷ "!_ :: []" means cons (never wildcard) nil
    ∷ "!(_ :: [])" means never (cons wildcard nil)
    ∷ "!!_" means never (never wildcard)
    ∷ "!(_ & [])" means never (both wildcard nil)
    ∷ "!_ | []" means either (never wildcard) nil
    ∷ "($x, #x)" means tuple (x ▸ᵖ value (pos 0) (pos 0) ▸ᵖ no_patterns)
    ∷ "(_, [], $x, _ | #1)" means tuple (wildcard ▸ᵖ nil ▸ᵖ x ▸ᵖ either wildcard (constant (pos 1)) ▸ᵖ no_patterns)
    ∷ "((_, _), _) :: _" means cons (tuple (tuple (wildcard ▸ᵖ wildcard ▸ᵖ no_patterns) ▸ᵖ wildcard ▸ᵖ no_patterns)) wildcard
    ∷ []

pub patterns_read : each read_pattern (texts pattern_rows) ≡ meant good pattern_rows
unfolding pattern_rows texts meant each read_pattern x y
patterns_read = refl

pub patterns_written : meant pattern_text pattern_rows ≡ texts pattern_rows
unfolding pattern_rows texts meant pattern_text x y
patterns_written = refl

-- ---- Read the same, and written otherwise: white space, brackets that are not needed, comments, other names, zeros.
unfoldable pub loose_rows : List (Row Pattern)
unfolding x y
loose_rows =
    " $unit::(#unit::_) " means cons x (cons (value (pos 0) (pos 0)) wildcard)
    ∷ "$x_1 :: $x_2 :: #x_2" means cons x (cons y (value (pos 1) (pos 0)))
    ∷ "$b :: $a :: #b" means cons x (cons y (value (pos 0) (pos 0)))
    ∷ "((_))" means wildcard
    ∷ "_ -- anything; also (this\n:: []" means cons wildcard nil
    ∷ "[ ]--" means nil
    ∷ "$x :: #(x+0)" means cons x (value (pos 0) (pos 0))
    ∷ "#007" means constant (pos 7)
    ∷ "#-0" means constant (pos 0)
    ∷ "$lists :: #lists" means cons x (value (pos 0) (pos 0))
    ∷ []

pub loose_read : each read_pattern (texts loose_rows) ≡ meant good loose_rows
unfolding loose_rows texts meant each read_pattern x y
loose_read = refl

-- ---- The sixteen names.
pub sixteen : Pattern
sixteen = cons x (cons y (cons (variable (pos 2)) (cons (variable (pos 3)) (cons (variable (pos 4)) (cons (variable (pos 5)) (cons (variable (pos 6)) (cons (variable (pos 7))
    (cons (variable (pos 8)) (cons (variable (pos 9)) (cons (variable (pos 10)) (cons (variable (pos 11)) (cons (variable (pos 12)) (cons (variable (pos 13)) (cons (variable (pos 14))
    (variable (pos 15))))))))))))))))

pub names_written : pattern_text sixteen ≡ characters "$x :: $y :: $z :: $a :: $b :: $c :: $d :: $e :: $f :: $g :: $h :: $i :: $j :: $k :: $l :: $m"
unfolding sixteen pattern_text characters x y
names_written = refl

-- ---- Matchers and targets.
unfoldable pub matcher_rows : List (Row Matcher)
matcher_rows =
    "something" means something
    ∷ "integer" means integer
    ∷ "list integer" means list integer
    ∷ "multiset integer" means multiset integer
    ∷ "list (multiset something)" means list (multiset something)
    ∷ "multiset (list integer)" means multiset (list integer)
    ∷ "(integer, multiset (list something))" means tuple_of (integer ▸ᵐ multiset (list something) ▸ᵐ no_matchers)
    ∷ "list (integer, integer, something, integer)" means list (tuple_of (integer ▸ᵐ integer ▸ᵐ something ▸ᵐ integer ▸ᵐ no_matchers))
    ∷ []

pub matchers_read : each read_matcher (texts matcher_rows) ≡ meant good matcher_rows
unfolding matcher_rows texts meant each read_matcher
matchers_read = refl

pub matchers_written : meant matcher_text matcher_rows ≡ texts matcher_rows
unfolding matcher_rows texts meant matcher_text
matchers_written = refl

unfoldable pub target_rows : List (Row Value)
target_rows =
    "7" means int (pos 7)
    ∷ "-2147483648" means int (negsuc 2147483647)
    ∷ "[]" means collection empty
    ∷ "[1, -2]" means collection (int (pos 1) ▸ int (negsuc 1) ▸ empty)
    ∷ "(1, 4)" means tupled (int (pos 1) ▸ int (pos 4) ▸ empty)
    ∷ "[(1, 4), [[], 5], 6]" means collection (tupled (int (pos 1) ▸ int (pos 4) ▸ empty) ▸ collection (collection empty ▸ int (pos 5) ▸ empty) ▸ int (pos 6) ▸ empty)
    ∷ []

pub targets_read : each read_target (texts target_rows) ≡ meant good target_rows
unfolding target_rows texts meant each read_target
targets_read = refl

pub targets_written : meant target_text target_rows ≡ texts target_rows
unfolding target_rows texts meant target_text
targets_written = refl

-- ---- Rules, with units and without.
unfoldable pub rule_rows : List (Row Rule)
unfolding x y
rule_rows =
    "matchAll [2, 8, 2] as multiset integer with $x :: #x :: _" means
    rule (some (collection (int (pos 2) ▸ int (pos 8) ▸ int (pos 2) ▸ empty))) (multiset integer) (cons x (cons (value (pos 0) (pos 0)) wildcard))
    ∷ "as list (integer, integer) with _ ++ ($x, #(x - 1)) :: _" means
    rule none (list (tuple_of (integer ▸ᵐ integer ▸ᵐ no_matchers))) (join wildcard (cons (tuple (x ▸ᵖ value (pos 0) (negsuc 0) ▸ᵖ no_patterns)) wildcard))
    ∷ []

pub rules_read : each read_text (texts rule_rows) ≡ meant good rule_rows
unfolding rule_rows texts meant each read_text x y
rules_read = refl

pub rules_written : meant write_text rule_rows ≡ texts rule_rows
unfolding rule_rows texts meant write_text x y
rules_written = refl

-- ---- Refusals. An unknown sign or word is refused where it begins, a bracket that is open at the end of the text.
unfoldable pub refusal_rows : List (Row (Told Rule))
refusal_rows =
    "as integer with _ ; _" means faulty unknown_sign 1 19
    ∷ "as integer\nwith $ | _" means faulty unknown_sign 2 6
    ∷ "as integer with $list" means faulty unknown_sign 1 17
    ∷ "as list integer with _ : _" means faulty unknown_sign 1 24
    ∷ "as integer with _ _" means faulty misplaced 1 19
    ∷ "as list list integer with _" means faulty misplaced 1 9
    ∷ "as integer with _)" means faulty misplaced 1 18
    ∷ "as integer with ()" means faulty misplaced 1 18
    ∷ "integer with _" means faulty misplaced 1 1
    ∷ "7" means faulty misplaced 1 1
    ∷ "" means faulty cut_short 1 1
    ∷ "as multiset integer with _ ::\n" means faulty cut_short 2 1
    ∷ "matchAll [1, 2 as list integer with _" means faulty misplaced 1 16
    ∷ "matchAll [1, 2" means faulty bracket_open 1 15
    ∷ "as list integer with (_ :: _" means faulty bracket_open 1 29
    ∷ "as list integer with _ :: [" means faulty bracket_open 1 28
    ∷ "as bag integer with _" means faulty unknown_name 1 4
    ∷ "as multiset integer with $x :: #y :: _" means faulty unknown_name 1 33
    ∷ "as multiset integer with $x :: $x :: _" means faulty bound_twice 1 32
    ∷ "as multiset integer with #x :: $x :: _" means faulty used_before 1 27
    ∷ "as integer with #2147483648" means faulty out_of_range 1 18
    ∷ "as integer with #-2147483649" means faulty out_of_range 1 19
    ∷ "as integer with #99999999999999999999" means faulty out_of_range 1 18
    ∷ "matchAll 2147483648 as integer with _" means faulty out_of_range 1 10
    ∷ "as something with (_, _, _, _, _)" means faulty over_limit 1 30
    ∷ "matchAll (1, 2, 3, 4, 5) as something with _" means faulty over_limit 1 21
    ∷ "as list integer with $a::$b::$c::$d::$e::$f::$g::$h::$i::$j::$k::$l::$m::$n::$o::$p::$q::_" means faulty over_limit 1 86
    ∷ []

pub refusals : each read_text (texts refusal_rows) ≡ meant (λ t. t) refusal_rows
unfolding refusal_rows texts meant each read_text
refusals = refl
