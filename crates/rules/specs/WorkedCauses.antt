-- Document 02, No. 6: what is wrong with the units, each cause with broken words and the same words mended, in the form of section 8's table.
use Rattle.std.specs.Prelude.{ℕ, zero, suc, ◌≡◌, refl, List, [], ◌∷◌, ◌++◌, map, replicate, ℤ, pos}
use Rattle.rules.specs.Causes.{cause_of}
use Rattle.rules.specs.Tables.{Case, matching, reviewing, ◌⇒◌writing◌, computed, stated, nums, minus, ints, braces}

-- Answer 5 at a place with a cause, under a matcher and a pattern that take every target.
abbrev broken : (target : List ℤ) (place cause : ℕ) → Case
broken t i c = matching (nums (0 ∷ [])) (nums (0 ∷ [])) t 9 3 ⇒ (5 ∷ i ∷ 0 ∷ 0 ∷ 0 ∷ c ∷ []) writing []

-- No answer 5: one row of no words in two steps, and no cause.
abbrev mended : (target : List ℤ) → Case
mended t = matching (nums (0 ∷ [])) (nums (0 ∷ [])) t 9 3 ⇒ (0 ∷ 0 ∷ 1 ∷ 2 ∷ 0 ∷ 0 ∷ []) writing []

-- Another answer, with no cause whatever the target is.
abbrev other : (matcher pattern : List ℕ) (target : List ℤ) (answer place : ℕ) → Case
other m p t a i = matching (nums m) (nums p) t 9 3 ⇒ (a ∷ i ∷ 0 ∷ 0 ∷ 0 ∷ 0 ∷ []) writing []

-- Eight collections, each the only element of the one before, and in the innermost some words.
abbrev in_eight : ℕ → List ℤ → List ℤ
in_eight n ws = nums (1 ∷ 1 ∷ 1 ∷ 1 ∷ 1 ∷ 1 ∷ 1 ∷ 1 ∷ 1 ∷ 1 ∷ 1 ∷ 1 ∷ 1 ∷ 1 ∷ 1 ∷ n ∷ []) ++ ws

-- k collections of 64 integers, and then some words.
abbrev ranks : ℕ → List ℤ → List ℤ
ranks zero ws = ws
ranks (suc k) ws = braces (replicate 64 (pos 7)) ++ ranks k ws

-- A collection of nine: seven collections of 64 integers and one of 54, which makes 1,022 words; and then some words.
abbrev many : List ℤ → List ℤ
many ws = nums (1 ∷ 9 ∷ []) ++ ranks 7 (braces (replicate 54 (pos 7)) ++ ws)

unfoldable pub table : List Case
table =
    -- 1 over length
    broken (many (nums (1 ∷ 1 ∷ 0 ∷ 7 ∷ []))) 1024 1  -- 1,026 words, whole but for the length
    ∷ mended (many (nums (0 ∷ 7 ∷ [])))  -- 1,024 words
    ∷ broken (replicate 1025 (pos 9)) 1024 1  -- bad at place 0 too: before any other look
    ∷ broken (many (nums (0 ∷ 7 ∷ 9 ∷ []))) 1024 1  -- at place 1,024 a word is left over too, and is no tag: the lower number
    ∷ broken (replicate 1024 (pos 9)) 0 2  -- 1,024 words are looked at
    -- 2 unknown tag
    ∷ broken (nums (3 ∷ 0 ∷ [])) 0 2
    ∷ broken (minus 1 ∷ pos 0 ∷ []) 0 2
    ∷ mended (nums (1 ∷ 0 ∷ []))
    ∷ broken (nums (1 ∷ 2 ∷ 0 ∷ 7 ∷ 8 ∷ [])) 4 2
    ∷ mended (nums (1 ∷ 2 ∷ 0 ∷ 7 ∷ 0 ∷ 8 ∷ []))
    ∷ broken (in_eight 1 (nums (3 ∷ []))) 16 2  -- also where no level is left
    -- 3 count out of range
    ∷ broken (pos 1 ∷ minus 1 ∷ []) 1 3
    ∷ broken (braces (replicate 65 (pos 7))) 1 3
    ∷ mended (braces (replicate 64 (pos 7)))
    ∷ broken (nums (2 ∷ 2 ∷ 0 ∷ 7 ∷ 1 ∷ 65 ∷ [])) 5 3
    ∷ mended (nums (2 ∷ 2 ∷ 0 ∷ 7 ∷ 1 ∷ 0 ∷ []))
    -- 4 too deep
    ∷ broken (in_eight 1 (nums (1 ∷ 0 ∷ []))) 16 4
    ∷ mended (in_eight 0 [])
    ∷ broken (in_eight 1 (nums (2 ∷ 2 ∷ 0 ∷ 7 ∷ 0 ∷ 7 ∷ []))) 16 4  -- a tuple is a level
    ∷ mended (in_eight 2 (nums (0 ∷ 7 ∷ 0 ∷ 7 ∷ [])))
    ∷ broken (in_eight 1 (nums (1 ∷ 65 ∷ []))) 16 4  -- the tag, before its count or width
    ∷ broken (in_eight 1 (nums (2 ∷ 1 ∷ []))) 16 4
    ∷ broken (in_eight 1 (nums (1 ∷ []))) 16 4  -- and before the end
    -- 5 cut short: where a tag, an integer, a count or a width should stand
    ∷ broken [] 0 5
    ∷ broken (nums (1 ∷ 2 ∷ 0 ∷ 7 ∷ [])) 4 5
    ∷ mended (nums (1 ∷ 1 ∷ 0 ∷ 7 ∷ []))
    ∷ broken (nums (0 ∷ [])) 1 5
    ∷ mended (nums (0 ∷ 7 ∷ []))
    ∷ broken (nums (1 ∷ [])) 1 5
    ∷ broken (nums (2 ∷ 2 ∷ 0 ∷ 7 ∷ 2 ∷ [])) 5 5
    ∷ broken (in_eight 1 []) 16 5  -- also where no level is left
    -- 6 left over, whatever the word is
    ∷ broken (nums (0 ∷ 5 ∷ 0 ∷ 5 ∷ [])) 2 6
    ∷ broken (nums (0 ∷ 5 ∷ 9 ∷ [])) 2 6
    ∷ broken (nums (1 ∷ 1 ∷ 0 ∷ 5 ∷ 0 ∷ 5 ∷ [])) 4 6
    ∷ mended (nums (1 ∷ 2 ∷ 0 ∷ 5 ∷ 0 ∷ 5 ∷ []))
    -- 7 a tuple's width
    ∷ broken (nums (2 ∷ 1 ∷ 0 ∷ 7 ∷ [])) 1 7
    ∷ mended (nums (2 ∷ 2 ∷ 0 ∷ 7 ∷ 0 ∷ 7 ∷ []))
    ∷ broken (nums (2 ∷ 5 ∷ 0 ∷ 1 ∷ 0 ∷ 2 ∷ 0 ∷ 3 ∷ 0 ∷ 4 ∷ 0 ∷ 5 ∷ [])) 1 7
    ∷ mended (nums (2 ∷ 4 ∷ 0 ∷ 1 ∷ 0 ∷ 2 ∷ 0 ∷ 3 ∷ 0 ∷ 4 ∷ []))
    ∷ broken (pos 1 ∷ pos 1 ∷ pos 2 ∷ minus 2 ∷ []) 3 7
    -- 0 in every other answer
    ∷ other (5 ∷ []) (0 ∷ []) (nums (3 ∷ [])) 1 0
    ∷ other (1 ∷ []) (11 ∷ []) (nums (3 ∷ [])) 2 0
    ∷ other (1 ∷ []) (1 ∷ 1 ∷ []) (nums (3 ∷ [])) 3 0
    ∷ other (1 ∷ []) (4 ∷ []) (nums (3 ∷ [])) 4 0
    ∷ other (1 ∷ []) (0 ∷ []) (nums (1 ∷ 0 ∷ [])) 6 0
    ∷ matching (nums (1 ∷ [])) (nums (1 ∷ 0 ∷ [])) (nums (0 ∷ 5 ∷ [])) 3 2 ⇒ (0 ∷ 0 ∷ 1 ∷ 3 ∷ 2 ∷ 0 ∷ []) writing nums (0 ∷ 5 ∷ [])
    ∷ matching (nums (1 ∷ [])) (nums (1 ∷ 0 ∷ [])) (nums (0 ∷ 5 ∷ [])) 2 2 ⇒ (7 ∷ 0 ∷ 0 ∷ 2 ∷ 0 ∷ 0 ∷ []) writing []
    ∷ matching (nums (1 ∷ [])) (nums (1 ∷ 0 ∷ [])) (nums (0 ∷ 5 ∷ [])) 3 1 ⇒ (8 ∷ 0 ∷ 0 ∷ 3 ∷ 0 ∷ 0 ∷ []) writing []
    ∷ []

-- THE CLAIM: each line's numbers and words are what the definitions compute.
pub worked_causes_hold : map computed table ≡ map stated table
unfolding computed stated table
worked_causes_hold = refl

-- The reader itself finds no cause in one whole target.
pub whole_without_cause : map cause_of (nums (0 ∷ 7 ∷ []) ∷ braces [] ∷ in_eight 0 [] ∷ []) ≡ 0 ∷ 0 ∷ 0 ∷ []
unfolding cause_of
whole_without_cause = refl
