-- Document 01, sections 2 and 3: reading the three word forms, and the place of the first word at fault.
use Rattle.std.specs.Prelude.{ℕ, zero, suc, true, false, List, [], ◌∷◌, length, ◌&&◌, leb, ℤ, pos, negsuc}
use Rattle.std.proofs.Math.Option.{Option, none, some}
use Rattle.std.proofs.Math.ListN.{get_elem?}
use Rattle.rules.specs.Limits.{matcher_words_limit, pattern_words_limit, target_words_limit, matcher_levels, target_levels, elements_limit, least_width, largest_width}
use Rattle.rules.specs.Forms.{Matcher, something, integer, list, multiset, tuple_of, Matchers, no_matchers, ◌▸ᵐ◌}
use Rattle.rules.specs.Forms.{Pattern, wildcard, variable, constant, value, nil, cons, join, tuple, both, either, never, Patterns, no_patterns, ◌▸ᵖ◌}
use Rattle.rules.specs.Forms.{Value, int, collection, tupled, Values, empty, ◌▸◌}

-- What a test finds: `ok` with what it was after, or the place of the fault.
pub data Verdict (A : Type 0) : Type 0 where
  ok : A → Verdict A
  fault : ℕ → Verdict A

-- The first fault ends the work.
infixl 20 ◌then◌
unfoldable pub ◌then◌ : {A B : Type 0} → Verdict A → (A → Verdict B) → Verdict B
ok a then k = k a
fault i then k = fault i

-- ---- Readers, and one rule for each kind of place.

-- What was read, the index of the next word, and the words from there on.
pub record Got (A : Type 0) : Type 0 where
  pub it : A
  pub next : ℕ
  pub rest : List ℤ

-- A reader is handed an index and the words from there on.
abbrev pub Reader : Type 0 → Type 0
Reader A = ℕ → List ℤ → Verdict (Got A)

unfoldable pub give : {A : Type 0} → A → Reader A
give a at ws = ok (record { it = a; next = at; rest = ws })

infixl 20 ◌>>=◌
unfoldable pub ◌>>=◌ : {A B : Type 0} → Reader A → (A → Reader B) → Reader B
unfolding ◌then◌
◌>>=◌ r k at ws = r at ws then λ g. k g.it g.next g.rest

-- One word that must be known: "a wrong tag or count has its own index; words cut short give the slice's length".
unfoldable pub known : {A : Type 0} → (ℤ → Option A) → Reader A
known f at [] = fault at
known f at (w ∷ ws) = elim (f w) [ none ↦ fault at | some a ↦ ok (record { it = a; next = suc at; rest = ws }) ]

-- One word, whatever it is: an operand.
unfoldable pub word : Reader ℤ
unfolding known
word = known some

-- A tag's meaning stands in a table at the tag's number; a number that the table does not have is a wrong tag.
unfoldable pub entry : {A : Type 0} → List A → ℤ → Option A
entry table (pos n) = get_elem? table n
entry table (negsuc n) = none

-- The slice is one whole form: "left-over words give the first of them".
unfoldable pub ended : {A : Type 0} → Got A → Verdict A
ended g = elim g.rest [ [] ↦ ok g.it | w ∷ ws ↦ fault g.next ]

unfoldable pub whole : {A : Type 0} → Reader A → List ℤ → Verdict A
unfolding ◌then◌ ended
whole r ws = r 0 ws then ended

-- A slice over its limit is at fault there, "before any other look".
unfoldable pub limited : {A : Type 0} → ℕ → (List ℤ → Verdict A) → List ℤ → Verdict A
limited limit r ws = elim (leb (length ws) limit) [ true ↦ r ws | false ↦ fault limit ]

-- n forms, one after the other, gathered from the right.
unfoldable pub times : {A As : Type 0} → As → (A → As → As) → Reader A → ℕ → Reader As
unfolding ◌>>=◌ give
times none' more part zero at ws = give none' at ws
times none' more part (suc n) at ws = (part >>= λ a. (λ i us. times none' more part n i us) >>= λ as'. give (more a as')) at ws

-- A tuple's width: "k from 2 to 4".
unfoldable pub width : ℤ → Option ℕ
width (pos n) = elim (leb least_width n && leb n largest_width) [ true ↦ some n | false ↦ none ]
width (negsuc n) = none

-- ---- Matcher, at most 64 words: 0 something; 1 integer; 2 M list of M; 3 M multiset of M; 4 k and k matchers, a tuple.

pub data MatcherTag : Type 0 where
  bare : Matcher → MatcherTag
  of : (Matcher → Matcher) → MatcherTag
  of_all : (Matchers → Matcher) → MatcherTag

-- `left` lists, multisets or tuples may still stand one inside the other; with none left the table ends before them, so that one is a fault at its
-- own place.
unfoldable pub matcher_tags : (left : ℕ) → List MatcherTag
matcher_tags zero = bare something ∷ bare integer ∷ []
matcher_tags (suc left) =
    bare something  -- 0    something
    ∷ bare integer  -- 1    integer
    ∷ of list  -- 2 M  list of M
    ∷ of multiset  -- 3 M  multiset of M
    ∷ of_all tuple_of  -- 4 k ..  tuple of k matchers
    ∷ []

unfoldable pub matcher_parts : Reader Matcher → MatcherTag → Reader Matcher
unfolding ◌>>=◌ give known width times
matcher_parts part (bare m) = give m
matcher_parts part (of f) = part >>= λ m. give (f m)
matcher_parts part (of_all f) = known width >>= λ k. times no_matchers ◌▸ᵐ◌ part k >>= λ ms. give (f ms)

unfoldable pub matcher : (left : ℕ) → Reader Matcher
unfolding ◌>>=◌ known entry matcher_tags matcher_parts
matcher zero at ws = (known (entry (matcher_tags zero)) >>= matcher_parts (λ i us. fault i)) at ws
matcher (suc left) at ws = (known (entry (matcher_tags (suc left))) >>= matcher_parts (λ i us. matcher left i us)) at ws

-- Four levels along each path.
unfoldable pub read_matcher : List ℤ → Verdict Matcher
unfolding matcher whole limited
read_matcher = limited matcher_words_limit (whole (matcher matcher_levels))

-- ---- Pattern, at most 256 words. A tag has no operand, one or two; or one part or two; or a width and so many parts.

pub data PatternTag : Type 0 where
  alone : Pattern → PatternTag
  operand : (ℤ → Pattern) → PatternTag
  operands : (ℤ → ℤ → Pattern) → PatternTag
  inner : (Pattern → Pattern) → PatternTag
  parts : (Pattern → Pattern → Pattern) → PatternTag
  wide : (Patterns → Pattern) → PatternTag

unfoldable pub pattern_tags : List PatternTag
pattern_tags =
    alone wildcard  -- 0      wildcard
    ∷ operand variable  -- 1 v    variable v, takes the value
    ∷ operand constant  -- 2 c    constant integer c
    ∷ operands value  -- 3 v c  value of variable v, plus c
    ∷ alone nil  -- 4      nil
    ∷ parts cons  -- 5 p q  cons: an element and the rest
    ∷ parts join  -- 6 p q  join: a front and a back
    ∷ wide tuple  -- 7 k ..  tuple of k patterns
    ∷ parts both  -- 8 p q  and: both on the same value
    ∷ parts either  -- 9 p q  or
    ∷ inner never  -- 10 p   not
    ∷ []

unfoldable pub pattern_parts : Reader Pattern → PatternTag → Reader Pattern
unfolding ◌>>=◌ give word known width times
pattern_parts part (alone p) = give p
pattern_parts part (operand f) = word >>= λ x. give (f x)
pattern_parts part (operands f) = word >>= λ x. word >>= λ y. give (f x y)
pattern_parts part (inner f) = part >>= λ p. give (f p)
pattern_parts part (parts f) = part >>= λ p. part >>= λ q. give (f p q)
pattern_parts part (wide f) = known width >>= λ k. times no_patterns ◌▸ᵖ◌ part k >>= λ ps. give (f ps)

-- A pattern in which no more than `depth` tags stand one inside the other. Each is a word, so 256 are enough for 256 words.
unfoldable pub pattern : (depth : ℕ) → Reader Pattern
unfolding ◌>>=◌ known entry pattern_tags pattern_parts
pattern zero at ws = fault at
pattern (suc depth) at ws = (known (entry pattern_tags) >>= pattern_parts (λ i us. pattern depth i us)) at ws

unfoldable pub read_pattern : List ℤ → Verdict Pattern
unfolding pattern whole limited
read_pattern = limited pattern_words_limit (whole (pattern pattern_words_limit))

-- ---- Target, at most 1,024 words: 0 x is the integer x; 1 n and then n values is a collection; 2 k and then k values is a tuple.

pub data TargetTag : Type 0 where
  one : (ℤ → Value) → TargetTag
  many : (ℤ → Option ℕ) → (Values → Value) → TargetTag

-- "A collection has at most 64 elements."
unfoldable pub at_most64 : ℤ → Option ℕ
at_most64 (pos n) = elim (leb n elements_limit) [ true ↦ some n | false ↦ none ]
at_most64 (negsuc n) = none

-- `depth` collections or tuples may still stand one inside the other; with none left the table ends before them, so that one is a fault at its own
-- place.
unfoldable pub target_tags : (depth : ℕ) → List TargetTag
unfolding at_most64 width
target_tags zero = one int ∷ []
target_tags (suc depth) =
    one int  -- 0 x    the integer x
    ∷ many at_most64 collection  -- 1 n ..  n values
    ∷ many width tupled  -- 2 k ..  k values
    ∷ []

unfoldable pub target_parts : Reader Value → TargetTag → Reader Value
unfolding ◌>>=◌ give word known times
target_parts part (one f) = word >>= λ x. give (f x)
target_parts part (many number f) = known number >>= λ n. times empty ◌▸◌ part n >>= λ vs. give (f vs)

unfoldable pub target : (depth : ℕ) → Reader Value
unfolding ◌>>=◌ known entry target_tags target_parts
target zero at ws = (known (entry (target_tags zero)) >>= target_parts (λ i us. fault i)) at ws
target (suc depth) at ws = (known (entry (target_tags (suc depth))) >>= target_parts (λ i us. target depth i us)) at ws

-- Eight levels along each path.
unfoldable pub read_target : List ℤ → Verdict Value
unfolding target whole limited
read_target = limited target_words_limit (whole (target target_levels))
