-- Characters and tokens: their spelling, with a space where two would run together or read badly, and their reading with free white space and
-- comments from `--` to the end of the line. Every text has tokens: `wrong` stands where it has none.
use Rattle.std.specs.Prelude.{ℕ, zero, suc, ◌+◌, ◌*◌, ◌-◌, ◌/◌, ◌%◌, ◌^◌, Bool, true, false, not, ◌&&◌, ◌||◌, List, [], ◌∷◌, ◌++◌, eqb, leb, ltb}
use Rattle.std.proofs.Math.Option.{Option, none, some}
use Rattle.notation_rules.specs.Tokens.{unknown_sign, out_of_range, Sign, consing, joining, anding, oring}
use Rattle.notation_rules.specs.Tokens.{Mark, underscore, hash, bang, plus, minus, comma, opening, closing, left, right, anything, integers, list_of, multiset_of, matching, by, with'}
use Rattle.notation_rules.specs.Tokens.{Raw, mark, sign, binds, uses, number, wrong, code}

-- ---- Spelling, in front of the characters that follow.
unfoldable pub last_digits : (most : ℕ) → ℕ → List ℕ → List ℕ
last_digits zero n cs = (48 + n) ∷ cs
last_digits (suc most) n cs = elim (ltb n 10) [ true ↦ (48 + n) ∷ cs | false ↦ last_digits most (n / 10) ((48 + n % 10) ∷ cs) ]

unfoldable pub decimal : ℕ → List ℕ → List ℕ
unfolding last_digits
decimal n cs = last_digits n n cs

unfoldable pub spell_mark : Mark → List ℕ
spell_mark underscore = 95 ∷ []
spell_mark hash = 35 ∷ []
spell_mark bang = 33 ∷ []
spell_mark plus = 43 ∷ []
spell_mark minus = 45 ∷ []
spell_mark comma = 44 ∷ []
spell_mark opening = 40 ∷ []
spell_mark closing = 41 ∷ []
spell_mark left = 91 ∷ []
spell_mark right = 93 ∷ []
spell_mark anything = 115 ∷ 111 ∷ 109 ∷ 101 ∷ 116 ∷ 104 ∷ 105 ∷ 110 ∷ 103 ∷ []
spell_mark integers = 105 ∷ 110 ∷ 116 ∷ 101 ∷ 103 ∷ 101 ∷ 114 ∷ []
spell_mark list_of = 108 ∷ 105 ∷ 115 ∷ 116 ∷ []
spell_mark multiset_of = 109 ∷ 117 ∷ 108 ∷ 116 ∷ 105 ∷ 115 ∷ 101 ∷ 116 ∷ []
spell_mark matching = 109 ∷ 97 ∷ 116 ∷ 99 ∷ 104 ∷ 65 ∷ 108 ∷ 108 ∷ []
spell_mark by = 97 ∷ 115 ∷ []
spell_mark with' = 119 ∷ 105 ∷ 116 ∷ 104 ∷ []

unfoldable pub spell_sign : Sign → List ℕ
spell_sign consing = 58 ∷ 58 ∷ []
spell_sign joining = 43 ∷ 43 ∷ []
spell_sign anding = 38 ∷ []
spell_sign oring = 124 ∷ []

unfoldable pub spell : Raw → List ℕ → List ℕ
unfolding spell_mark spell_sign decimal
spell (mark m) cs = spell_mark m ++ cs
spell (sign s) cs = spell_sign s ++ cs
spell (binds w) cs = 36 ∷ w ++ cs
spell (uses w) cs = w ++ cs
spell (number n) cs = decimal n cs
spell (wrong c) cs = cs

-- No space after `( [ # !`, and none before `) ] ,`.
unfoldable pub glue_after : Raw → Bool
glue_after (mark underscore) = false
glue_after (mark hash) = true
glue_after (mark bang) = true
glue_after (mark plus) = false
glue_after (mark minus) = false
glue_after (mark comma) = false
glue_after (mark opening) = true
glue_after (mark closing) = false
glue_after (mark left) = true
glue_after (mark right) = false
glue_after (mark anything) = false
glue_after (mark integers) = false
glue_after (mark list_of) = false
glue_after (mark multiset_of) = false
glue_after (mark matching) = false
glue_after (mark by) = false
glue_after (mark with') = false
glue_after (sign s) = false
glue_after (binds w) = false
glue_after (uses w) = false
glue_after (number n) = false
glue_after (wrong c) = false

unfoldable pub glue_before : Raw → Bool
glue_before (mark underscore) = false
glue_before (mark hash) = false
glue_before (mark bang) = false
glue_before (mark plus) = false
glue_before (mark minus) = false
glue_before (mark comma) = true
glue_before (mark opening) = false
glue_before (mark closing) = true
glue_before (mark left) = false
glue_before (mark right) = true
glue_before (mark anything) = false
glue_before (mark integers) = false
glue_before (mark list_of) = false
glue_before (mark multiset_of) = false
glue_before (mark matching) = false
glue_before (mark by) = false
glue_before (mark with') = false
glue_before (sign s) = false
glue_before (binds w) = false
glue_before (uses w) = false
glue_before (number n) = false
glue_before (wrong c) = false

unfoldable pub is_minus : Raw → Bool
unfolding code
is_minus (mark m) = eqb (code minus) (code m)
is_minus (sign s) = false
is_minus (binds w) = false
is_minus (uses w) = false
is_minus (number n) = false
is_minus (wrong c) = false

unfoldable pub is_use : Raw → Bool
is_use (mark m) = false
is_use (sign s) = false
is_use (binds w) = false
is_use (uses w) = true
is_use (number n) = false
is_use (wrong c) = false

unfoldable pub is_number : Raw → Bool
is_number (mark m) = false
is_number (sign s) = false
is_number (binds w) = false
is_number (uses w) = false
is_number (number n) = true
is_number (wrong c) = false

-- Whether u stands at t without a space, with s before t. A minus stands at its number where it follows no name: `-7`, `#-7`, but `#(x - 7)`.
unfoldable pub joined : (s t u : Raw) → Bool
unfolding glue_after glue_before is_minus is_use is_number
joined s t u = glue_after t || glue_before u || is_minus t && not (is_use s) && is_number u

unfoldable pub spaced : Bool → List ℕ → List ℕ
spaced true cs = cs
spaced false cs = 32 ∷ cs

unfoldable pub print_rest : (s t : Raw) → List Raw → List ℕ
unfolding spell spaced joined
print_rest s t [] = []
print_rest s t (u ∷ us) = spaced (joined s t u) (spell u (print_rest t u us))

unfoldable pub print : List Raw → List ℕ
unfolding spell print_rest
print [] = []
print (t ∷ ts) = spell t (print_rest t t ts)

-- ---- Reading: the longest token that begins here.
pub data Twin : Type 0 where
  pluses colons dashes : Twin

-- What a character is. (`low` is `_`, a wildcard or inside a name.)
pub data Kind : Type 0 where
  gap dollar low : Kind
  digit letter : ℕ → Kind
  twin : Twin → Kind
  symbol : Raw → Kind

pub data Pair : Type 0 where
  ◌stands◌ : ℕ → Kind → Pair

infix 68 ◌stands◌
unfoldable pub find : List Pair → ℕ → Kind
find [] c = symbol (wrong unknown_sign)
find ((k stands x) ∷ ps) c = elim (eqb k c) [ true ↦ x | false ↦ find ps c ]

unfoldable pub symbols : List Pair
symbols =
    32 stands gap ∷ 10 stands gap ∷ 9 stands gap ∷ 13 stands gap
    ∷ 36 stands dollar ∷ 95 stands low
    ∷ 35 stands symbol (mark hash) ∷ 33 stands symbol (mark bang) ∷ 44 stands symbol (mark comma)
    ∷ 40 stands symbol (mark opening) ∷ 41 stands symbol (mark closing) ∷ 91 stands symbol (mark left) ∷ 93 stands symbol (mark right)
    ∷ 38 stands symbol (sign anding) ∷ 124 stands symbol (sign oring)
    ∷ 43 stands twin pluses ∷ 58 stands twin colons ∷ 45 stands twin dashes
    ∷ []

unfoldable pub is_letter : ℕ → Bool
is_letter c = leb 97 c && leb c 122 || leb 65 c && leb c 90

unfoldable pub is_digit : ℕ → Bool
is_digit c = leb 48 c && leb c 57

unfoldable pub kind : ℕ → Kind
unfolding find symbols is_letter is_digit
kind c = elim (is_letter c) [
  | true ↦ letter c
  | false ↦ elim (is_digit c) [ true ↦ digit (c - 48) | false ↦ find symbols c ]
]

-- What was begun: tokens that are whole, a number, one that is too large, a word, a `$` and a word, a first `+`, `:` or `-`, a comment.
pub data Begun : Type 0 where
  full : List Raw → Begun
  digits : ℕ → Begun
  huge : Begun
  word binder : List ℕ → Begun
  first : Twin → Begun
  comment : Begun

-- The largest number that a text may have, behind a minus.
abbrev pub number_limit : ℕ
number_limit = 2 ^ 31

-- One more letter, digit or `_` of a name; `$` is followed by a letter.
unfoldable pub in_name : List ℕ → ℕ → Option Begun
in_name [] c = none
in_name (d ∷ w) c = some (binder (d ∷ (w ++ c ∷ [])))

unfoldable pub by_digit : Begun → ℕ → Option Begun
unfolding in_name
by_digit (full ts) d = none
by_digit (digits n) d = elim (leb (n * 10 + d) number_limit) [ true ↦ some (digits (n * 10 + d)) | false ↦ some huge ]
by_digit huge d = some huge
by_digit (word w) d = some (word (w ++ (48 + d) ∷ []))
by_digit (binder w) d = in_name w (48 + d)
by_digit (first t) d = none
by_digit comment d = some comment

unfoldable pub by_letter : Begun → ℕ → Option Begun
by_letter (full ts) c = none
by_letter (digits n) c = none
by_letter huge c = none
by_letter (word w) c = some (word (w ++ c ∷ []))
by_letter (binder w) c = some (binder (w ++ c ∷ []))
by_letter (first t) c = none
by_letter comment c = some comment

unfoldable pub by_low : Begun → Option Begun
unfolding in_name
by_low (full ts) = none
by_low (digits n) = none
by_low huge = none
by_low (word w) = some (word (w ++ 95 ∷ []))
by_low (binder w) = in_name w 95
by_low (first t) = none
by_low comment = some comment

unfoldable pub second : Twin → Twin → Option Begun
second pluses pluses = some (full (sign joining ∷ []))
second pluses colons = none
second pluses dashes = none
second colons pluses = none
second colons colons = some (full (sign consing ∷ []))
second colons dashes = none
second dashes pluses = none
second dashes colons = none
second dashes dashes = some comment

unfoldable pub by_twin : Begun → Twin → Option Begun
unfolding second
by_twin (full ts) t = none
by_twin (digits n) t = none
by_twin huge t = none
by_twin (word w) t = none
by_twin (binder w) t = none
by_twin (first u) t = second u t
by_twin comment t = some comment

unfoldable pub is_comment : Begun → Bool
is_comment (full ts) = false
is_comment (digits n) = false
is_comment huge = false
is_comment (word w) = false
is_comment (binder w) = false
is_comment (first t) = false
is_comment comment = true

unfoldable pub takes : Begun → Kind → Option Begun
unfolding by_digit by_letter by_low by_twin
takes s gap = none
takes s dollar = none
takes s low = by_low s
takes s (digit d) = by_digit s d
takes s (letter c) = by_letter s c
takes s (twin t) = by_twin s t
takes s (symbol t) = none

-- A comment takes in all but the end of its line.
unfoldable pub in_comment : ℕ → Option Begun
in_comment c = elim (eqb c 10) [ true ↦ none | false ↦ some comment ]

-- What was begun with one more character, if it takes it in.
unfoldable pub goes_on : Begun → ℕ → Option Begun
unfolding is_comment in_comment takes kind
goes_on s c = elim (is_comment s) [ true ↦ in_comment c | false ↦ takes s (kind c) ]

unfoldable pub begin : Kind → Begun
begin gap = full []
begin dollar = binder []
begin low = full (mark underscore ∷ [])
begin (digit d) = digits d
begin (letter c) = word (c ∷ [])
begin (twin t) = first t
begin (symbol t) = full (t ∷ [])

unfoldable pub same_word : List ℕ → List ℕ → Bool
same_word [] [] = true
same_word [] (d ∷ ds) = false
same_word (c ∷ cs) [] = false
same_word (c ∷ cs) (d ∷ ds) = same_word cs ds && eqb c d

-- The word's mark, if it is a word of the notation, which no name may be.
unfoldable pub mark_of : List Mark → List ℕ → Option Mark
unfolding same_word spell_mark
mark_of [] w = none
mark_of (m ∷ ms) w = elim (same_word (spell_mark m) w) [ true ↦ some m | false ↦ mark_of ms w ]

unfoldable pub reserved : List ℕ → Option Mark
unfolding mark_of
reserved = mark_of (anything ∷ integers ∷ list_of ∷ multiset_of ∷ matching ∷ by ∷ with' ∷ [])

unfoldable pub bound : List ℕ → Raw
unfolding reserved
bound [] = wrong unknown_sign
bound (c ∷ w) = elim (reserved (c ∷ w)) [ none ↦ binds (c ∷ w) | some m ↦ wrong unknown_sign ]

unfoldable pub tokens : Begun → List Raw
unfolding reserved bound
tokens (full ts) = ts
tokens (digits n) = number n ∷ []
tokens huge = wrong out_of_range ∷ []
tokens (word w) = elim (reserved w) [ none ↦ uses w ∷ [] | some m ↦ mark m ∷ [] ]
tokens (binder w) = bound w ∷ []
tokens (first pluses) = mark plus ∷ []
tokens (first colons) = wrong unknown_sign ∷ []
tokens (first dashes) = mark minus ∷ []
tokens comment = []

unfoldable pub lex : Begun → List ℕ → List Raw
unfolding goes_on kind begin tokens
lex s [] = tokens s
lex s (c ∷ cs) = elim (goes_on s c) [ none ↦ tokens s ++ lex (begin (kind c)) cs | some s' ↦ lex s' cs ]

unfoldable pub tokens_of : List ℕ → List Raw
unfolding lex
tokens_of cs = lex (full []) cs
