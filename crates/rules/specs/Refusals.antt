-- Document 01, sections 2, 3 and 8: refusals and limits, each with its answer, place and (document 02, No. 6) cause, in one table under one claim.
use Rattle.std.specs.Prelude.{ℕ, zero, suc, ◌≡◌, refl, List, [], ◌∷◌, ◌++◌, map, replicate, ℤ, pos}
use Rattle.rules.specs.Tables.{Case, matching, reviewing, ◌⇒◌writing◌, computed, stated, nums, minus, ints, braces}

-- A call that is refused with an answer at a place: no row, no step, no word, no cause, and the room as it was.
abbrev refuses : (matcher pattern target : List ℤ) (answer place : ℕ) → Case
refuses m p t a i = matching m p t 100000 3 ⇒ (a ∷ i ∷ 0 ∷ 0 ∷ 0 ∷ 0 ∷ []) writing []

-- The same with answer 5 and its cause, under a matcher and a pattern that take every target.
abbrev spoilt : (target : List ℤ) (place cause : ℕ) → Case
spoilt t i c = matching (nums (0 ∷ [])) (nums (0 ∷ [])) t 100000 3 ⇒ (5 ∷ i ∷ 0 ∷ 0 ∷ 0 ∷ c ∷ []) writing []

-- A call that is not refused: so many rows of no words, in so many steps.
abbrev passes : (matcher pattern target : List ℤ) (rows steps : ℕ) → Case
passes m p t n k = matching m p t 100000 3 ⇒ (0 ∷ 0 ∷ n ∷ k ∷ 0 ∷ 0 ∷ []) writing []

abbrev declines : (matcher pattern : List ℤ) (cap : ℤ) (answer place : ℕ) → Case
declines m p cap a i = reviewing m p cap ⇒ (a ∷ i ∷ 0 ∷ []) writing []

-- n times cons over a wildcard, with a wildcard rest: 2 n + 1 words.
abbrev chain : ℕ → List ℤ
chain zero = pos 0 ∷ []
chain (suc n) = pos 5 ∷ pos 0 ∷ chain n

-- n nested collections, the innermost empty.
abbrev deep : ℕ → List ℤ
deep zero = []
deep (suc zero) = nums (1 ∷ 0 ∷ [])
deep (suc (suc n)) = nums (1 ∷ 1 ∷ []) ++ deep (suc n)

-- n nested pairs, each with an integer beside the next.
abbrev deep_pairs : ℕ → List ℤ
deep_pairs zero = nums (0 ∷ 5 ∷ [])
deep_pairs (suc n) = nums (2 ∷ 2 ∷ 0 ∷ 1 ∷ []) ++ deep_pairs n

-- n nested collections, and in the innermost an integer.
abbrev deep_int : ℕ → List ℤ
deep_int zero = nums (0 ∷ 5 ∷ [])
deep_int (suc n) = nums (1 ∷ 1 ∷ []) ++ deep_int n

-- A chain of conses that binds n variables, the first of them with number k.
abbrev binding : ℕ → ℕ → List ℤ
binding k zero = pos 4 ∷ []
binding k (suc n) = pos 5 ∷ pos 1 ∷ pos k ∷ binding (suc k) n

abbrev something : List ℤ
something = nums (0 ∷ [])

abbrev integer : List ℤ
integer = nums (1 ∷ [])

abbrev list_integer : List ℤ
list_integer = nums (2 ∷ 1 ∷ [])

abbrev multiset_integer : List ℤ
multiset_integer = nums (3 ∷ 1 ∷ [])

-- a pair of integers
abbrev pair : List ℤ
pair = nums (4 ∷ 2 ∷ 1 ∷ 1 ∷ [])

abbrev wildcard : List ℤ
wildcard = nums (0 ∷ [])

abbrev no_words : List ℤ
no_words = []

unfoldable pub table : List Case
table =
    -- 1 matcher
    refuses no_words no_words no_words 1 0  -- cut short
    ∷ refuses (nums (2 ∷ 3 ∷ [])) no_words no_words 1 2
    ∷ refuses (nums (5 ∷ [])) no_words no_words 1 0  -- a wrong tag
    ∷ refuses (minus 1 ∷ []) no_words no_words 1 0
    ∷ refuses (nums (3 ∷ 9 ∷ [])) no_words no_words 1 1
    ∷ refuses (nums (1 ∷ 1 ∷ [])) no_words no_words 1 1  -- left over
    ∷ refuses (nums (3 ∷ 0 ∷ 5 ∷ 5 ∷ [])) no_words no_words 1 2
    ∷ passes (nums (2 ∷ 2 ∷ 2 ∷ 2 ∷ 1 ∷ [])) wildcard (braces []) 1 3  -- four tags 2 or 3
    ∷ refuses (nums (2 ∷ 2 ∷ 2 ∷ 2 ∷ 2 ∷ 1 ∷ [])) wildcard (braces []) 1 4  -- a fifth
    ∷ refuses (nums (2 ∷ 3 ∷ 2 ∷ 3 ∷ 3 ∷ [])) wildcard (braces []) 1 4  -- a fifth that also ends the slice
    ∷ refuses (replicate 64 (pos 1)) no_words no_words 1 1  -- 64 words, left over
    ∷ refuses (replicate 65 (pos 1)) no_words no_words 1 64  -- 65 words, before any other look
    ∷ refuses (nums (4 ∷ [])) no_words no_words 1 1  -- a tuple cut short
    ∷ refuses (nums (4 ∷ 2 ∷ 1 ∷ [])) no_words no_words 1 3
    ∷ refuses (nums (4 ∷ 1 ∷ 1 ∷ [])) no_words no_words 1 1  -- a width out of range
    ∷ refuses (nums (4 ∷ 5 ∷ 1 ∷ [])) no_words no_words 1 1
    ∷ refuses (pos 4 ∷ minus 2 ∷ []) no_words no_words 1 1
    ∷ passes (nums (4 ∷ 2 ∷ 2 ∷ 2 ∷ 2 ∷ 1 ∷ 2 ∷ 2 ∷ 2 ∷ 1 ∷ [])) wildcard (nums (2 ∷ 2 ∷ []) ++ braces [] ++ braces []) 1 3  -- four levels along each path
    ∷ refuses (nums (2 ∷ 2 ∷ 2 ∷ 4 ∷ 2 ∷ 2 ∷ 1 ∷ 1 ∷ [])) no_words no_words 1 5  -- a fifth level
    ∷ refuses (nums (2 ∷ 2 ∷ 2 ∷ 2 ∷ 4 ∷ [])) no_words no_words 1 4
    -- 2 pattern
    ∷ refuses integer no_words no_words 2 0  -- cut short
    ∷ refuses integer (nums (1 ∷ [])) no_words 2 1
    ∷ refuses integer (nums (3 ∷ 0 ∷ [])) no_words 2 2
    ∷ refuses integer (nums (5 ∷ 0 ∷ [])) no_words 2 2
    ∷ refuses integer (nums (11 ∷ [])) no_words 2 0  -- a wrong tag
    ∷ refuses integer (nums (7 ∷ [])) no_words 2 1  -- a tuple cut short
    ∷ refuses integer (nums (7 ∷ 3 ∷ 0 ∷ 0 ∷ [])) no_words 2 4
    ∷ refuses integer (nums (7 ∷ 1 ∷ 0 ∷ [])) no_words 2 1  -- a width out of range
    ∷ refuses integer (nums (7 ∷ 5 ∷ 0 ∷ [])) no_words 2 1
    ∷ refuses integer (nums (8 ∷ 0 ∷ [])) no_words 2 2  -- and, or, not cut short
    ∷ refuses integer (nums (9 ∷ 0 ∷ [])) no_words 2 2
    ∷ refuses integer (nums (10 ∷ [])) no_words 2 1
    ∷ refuses integer (nums (10 ∷ 0 ∷ 0 ∷ [])) no_words 2 2
    ∷ refuses integer (pos 5 ∷ pos 0 ∷ minus 1 ∷ []) no_words 2 2
    ∷ refuses integer (nums (0 ∷ 0 ∷ [])) no_words 2 1  -- left over
    ∷ passes multiset_integer (chain 127) (braces []) 0 1  -- 255 words
    ∷ passes multiset_integer (nums (5 ∷ 1 ∷ 0 ∷ []) ++ chain 126) (braces []) 0 1  -- 256 words
    ∷ refuses integer (replicate 256 (pos 5)) no_words 2 256  -- 256 words, cut short
    ∷ refuses integer (replicate 257 (pos 99)) no_words 2 256  -- 257 words, before any other look
    ∷ refuses multiset_integer (chain 128) no_words 2 256
    -- 3 variable
    ∷ refuses multiset_integer (nums (5 ∷ 0 ∷ 5 ∷ 1 ∷ 1 ∷ 4 ∷ [])) no_words 3 3  -- the first is not 0
    ∷ refuses multiset_integer (nums (5 ∷ 1 ∷ 0 ∷ 1 ∷ 0 ∷ [])) no_words 3 3  -- one stands twice
    ∷ refuses multiset_integer (pos 1 ∷ minus 1 ∷ []) no_words 3 0
    ∷ refuses multiset_integer (nums (5 ∷ 3 ∷ 0 ∷ 0 ∷ 1 ∷ 0 ∷ [])) no_words 3 1  -- a tag 3 before its variable
    ∷ refuses multiset_integer (pos 5 ∷ pos 3 ∷ minus 1 ∷ pos 0 ∷ pos 0 ∷ []) no_words 3 1
    ∷ matching multiset_integer (binding 0 16) no_words 100000 3 ⇒ (5 ∷ 0 ∷ 0 ∷ 0 ∷ 0 ∷ 5 ∷ []) writing []  -- sixteen variables
    ∷ refuses multiset_integer (binding 0 17) no_words 3 49  -- a seventeenth
    ∷ refuses multiset_integer (nums (5 ∷ 4 ∷ 1 ∷ 1 ∷ [])) no_words 3 2  -- a misfit stands to its left
    ∷ refuses integer (nums (10 ∷ 1 ∷ 0 ∷ [])) no_words 3 1  -- inside a not
    ∷ refuses multiset_integer (nums (10 ∷ 5 ∷ 1 ∷ 0 ∷ 0 ∷ [])) no_words 3 2
    ∷ refuses integer (nums (9 ∷ 1 ∷ 0 ∷ 0 ∷ [])) no_words 3 1  -- inside an or
    ∷ refuses integer (nums (8 ∷ 1 ∷ 0 ∷ 9 ∷ 3 ∷ 0 ∷ 0 ∷ 1 ∷ 1 ∷ [])) no_words 3 7
    ∷ refuses integer (nums (9 ∷ 0 ∷ 8 ∷ 0 ∷ 1 ∷ 0 ∷ [])) no_words 3 4  -- inside an and that stands inside an or
    ∷ refuses integer (nums (9 ∷ 3 ∷ 0 ∷ 0 ∷ 1 ∷ 0 ∷ [])) no_words 3 1  -- the first fault of the two
    ∷ refuses integer (nums (8 ∷ 10 ∷ 0 ∷ 1 ∷ 1 ∷ [])) no_words 3 3  -- after a not the numbers go on from 0
    -- 4 misfit
    ∷ refuses something (nums (2 ∷ 7 ∷ [])) no_words 4 0
    ∷ refuses something (nums (4 ∷ [])) no_words 4 0
    ∷ refuses something (nums (5 ∷ 0 ∷ 0 ∷ [])) no_words 4 0
    ∷ refuses integer (nums (4 ∷ [])) no_words 4 0
    ∷ refuses integer (nums (5 ∷ 0 ∷ 0 ∷ [])) no_words 4 0
    ∷ refuses list_integer (nums (2 ∷ 7 ∷ [])) no_words 4 0
    ∷ refuses multiset_integer (nums (2 ∷ 7 ∷ [])) no_words 4 0
    ∷ refuses multiset_integer (nums (6 ∷ 0 ∷ 0 ∷ [])) no_words 4 0  -- join under a multiset
    ∷ refuses list_integer (nums (6 ∷ 0 ∷ 5 ∷ 4 ∷ 0 ∷ [])) no_words 4 3  -- nil under integer
    ∷ refuses list_integer (nums (6 ∷ 1 ∷ 0 ∷ 3 ∷ 0 ∷ 1 ∷ [])) no_words 4 3  -- c is not 0 at a list
    ∷ refuses (nums (4 ∷ 2 ∷ 3 ∷ 1 ∷ 3 ∷ 1 ∷ [])) (nums (7 ∷ 2 ∷ 1 ∷ 0 ∷ 3 ∷ 0 ∷ 1 ∷ [])) no_words 4 4  -- at a multiset
    ∷ refuses (nums (4 ∷ 2 ∷ 4 ∷ 2 ∷ 1 ∷ 1 ∷ 4 ∷ 2 ∷ 1 ∷ 1 ∷ [])) (nums (7 ∷ 2 ∷ 1 ∷ 0 ∷ 3 ∷ 0 ∷ 1 ∷ [])) no_words 4 4  -- at a tuple
    ∷ refuses (nums (2 ∷ 0 ∷ [])) (nums (6 ∷ 1 ∷ 0 ∷ 3 ∷ 0 ∷ 0 ∷ [])) no_words 4 3  -- something occurs
    ∷ refuses (nums (2 ∷ 4 ∷ 2 ∷ 1 ∷ 0 ∷ [])) (nums (6 ∷ 1 ∷ 0 ∷ 3 ∷ 0 ∷ 0 ∷ [])) no_words 4 3  -- inside a tuple
    ∷ refuses list_integer (nums (5 ∷ 1 ∷ 0 ∷ 3 ∷ 0 ∷ 0 ∷ [])) no_words 4 3  -- the variable stands under a matcher of another shape
    ∷ refuses (nums (4 ∷ 2 ∷ 2 ∷ 0 ∷ 2 ∷ 1 ∷ [])) (nums (7 ∷ 2 ∷ 1 ∷ 0 ∷ 3 ∷ 0 ∷ 0 ∷ [])) no_words 4 4  -- something is a shape of its own
    ∷ refuses (nums (4 ∷ 2 ∷ 4 ∷ 2 ∷ 1 ∷ 1 ∷ 4 ∷ 2 ∷ 1 ∷ 2 ∷ 1 ∷ [])) (nums (7 ∷ 2 ∷ 1 ∷ 0 ∷ 3 ∷ 0 ∷ 0 ∷ [])) no_words 4 4  -- so is each part of a tuple
    ∷ refuses pair (nums (7 ∷ 3 ∷ 0 ∷ 0 ∷ 0 ∷ [])) no_words 4 0  -- unequal widths
    ∷ refuses integer (nums (7 ∷ 2 ∷ 0 ∷ 0 ∷ [])) no_words 4 0
    ∷ refuses pair (nums (5 ∷ 0 ∷ 0 ∷ [])) no_words 4 0
    ∷ refuses pair (nums (2 ∷ 7 ∷ [])) no_words 4 0
    ∷ refuses pair (nums (4 ∷ [])) no_words 4 0
    ∷ refuses pair (nums (7 ∷ 2 ∷ 0 ∷ 4 ∷ [])) no_words 4 3
    ∷ refuses integer (nums (8 ∷ 0 ∷ 4 ∷ [])) no_words 4 2  -- inside and, or, not
    ∷ refuses integer (nums (9 ∷ 4 ∷ 0 ∷ [])) no_words 4 1
    ∷ refuses something (nums (10 ∷ 2 ∷ 5 ∷ [])) no_words 4 1
    ∷ refuses list_integer (nums (8 ∷ 1 ∷ 0 ∷ 5 ∷ 3 ∷ 0 ∷ 0 ∷ 0 ∷ [])) no_words 4 4
    -- 5 target
    ∷ spoilt no_words 0 5  -- cut short
    ∷ spoilt (nums (0 ∷ [])) 1 5
    ∷ spoilt (nums (1 ∷ [])) 1 5
    ∷ spoilt (nums (1 ∷ 2 ∷ 0 ∷ 7 ∷ [])) 4 5
    ∷ spoilt (nums (3 ∷ [])) 0 2  -- a wrong tag
    ∷ spoilt (nums (2 ∷ [])) 1 5  -- a tuple cut short
    ∷ spoilt (nums (2 ∷ 2 ∷ 0 ∷ 1 ∷ [])) 4 5
    ∷ spoilt (nums (2 ∷ 1 ∷ 0 ∷ 1 ∷ [])) 1 7  -- a width out of range
    ∷ spoilt (nums (2 ∷ 5 ∷ 0 ∷ 1 ∷ [])) 1 7
    ∷ spoilt (deep_pairs 9) 32 4  -- a tuple too deep
    ∷ spoilt (nums (1 ∷ 1 ∷ 3 ∷ 0 ∷ [])) 2 2
    ∷ spoilt (nums (0 ∷ 7 ∷ 7 ∷ [])) 2 6  -- left over
    ∷ spoilt (pos 1 ∷ minus 1 ∷ []) 1 3  -- a wrong count
    ∷ passes something wildcard (braces (replicate 64 (pos 7))) 1 2  -- 64 elements
    ∷ spoilt (braces (replicate 65 (pos 7))) 1 3  -- 65
    ∷ passes something wildcard (deep 8) 1 2  -- depth 8
    ∷ passes something wildcard (deep_int 8) 1 2  -- an integer has no depth
    ∷ spoilt (deep 9) 16 4  -- depth 9: the tag
    ∷ spoilt (nums (1 ∷ 1 ∷ 1 ∷ 1 ∷ 1 ∷ 1 ∷ 1 ∷ 1 ∷ 1 ∷ 1 ∷ 1 ∷ 1 ∷ 1 ∷ 1 ∷ 1 ∷ 1 ∷ 1 ∷ [])) 16 4  -- too deep, and cut short behind it
    ∷ spoilt (replicate 1024 (pos 0)) 2 6  -- 1,024 words, left over
    ∷ spoilt (replicate 1025 (pos 9)) 1024 1  -- 1,025 words, before any other look
    -- 6 unfit
    ∷ refuses integer wildcard (braces []) 6 0
    ∷ refuses integer wildcard (nums (2 ∷ 2 ∷ 0 ∷ 1 ∷ 0 ∷ 1 ∷ [])) 6 0
    ∷ refuses multiset_integer wildcard (nums (0 ∷ 7 ∷ [])) 6 0
    ∷ refuses list_integer wildcard (nums (1 ∷ 2 ∷ 0 ∷ 7 ∷ 1 ∷ 0 ∷ [])) 6 4
    ∷ refuses pair wildcard (nums (2 ∷ 3 ∷ 0 ∷ 1 ∷ 0 ∷ 2 ∷ 0 ∷ 3 ∷ [])) 6 0  -- unequal widths
    ∷ refuses pair wildcard (braces []) 6 0
    ∷ refuses pair wildcard (braces (nums (1 ∷ 1 ∷ []))) 6 0
    ∷ refuses (nums (4 ∷ 3 ∷ 1 ∷ 1 ∷ 1 ∷ [])) wildcard (nums (2 ∷ 3 ∷ 0 ∷ 1 ∷ 0 ∷ 1 ∷ 1 ∷ 0 ∷ [])) 6 6
    ∷ refuses pair wildcard (nums (2 ∷ 2 ∷ 0 ∷ 1 ∷ 1 ∷ 0 ∷ [])) 6 4
    ∷ refuses list_integer wildcard (nums (2 ∷ 2 ∷ 0 ∷ 1 ∷ 0 ∷ 2 ∷ [])) 6 0
    ∷ refuses (nums (3 ∷ 2 ∷ 1 ∷ [])) wildcard (nums (1 ∷ 2 ∷ 1 ∷ 1 ∷ 0 ∷ 5 ∷ 0 ∷ 7 ∷ [])) 6 6
    -- the order of the tests
    ∷ refuses (nums (9 ∷ [])) (replicate 257 (pos 0)) no_words 1 0
    ∷ refuses integer (nums (1 ∷ 1 ∷ [])) (replicate 1025 (pos 0)) 3 0
    -- review: 1 to 4, then 11, then 9, then 10
    ∷ declines (nums (9 ∷ [])) wildcard (pos 65) 1 0
    ∷ declines integer (nums (11 ∷ [])) (pos 65) 2 0
    ∷ declines integer (nums (1 ∷ 1 ∷ [])) (pos 65) 3 0
    ∷ declines integer (nums (4 ∷ [])) (pos 65) 4 0
    ∷ declines multiset_integer (nums (6 ∷ 0 ∷ 0 ∷ [])) (pos 65) 4 0
    ∷ declines list_integer (nums (6 ∷ 0 ∷ 0 ∷ [])) (pos 65) 11 0
    ∷ declines list_integer (nums (6 ∷ 0 ∷ 0 ∷ [])) (minus 1) 11 0
    ∷ declines multiset_integer (chain 5) (pos 65) 9 0
    ∷ declines multiset_integer (chain 5) (minus 1) 9 0
    ∷ declines multiset_integer (chain 5) (pos 64) 10 0
    ∷ []

-- THE CLAIM: each line's numbers and words are what the definitions compute.
pub refusals_hold : map computed table ≡ map stated table
unfolding computed stated table
refusals_hold = refl
