-- Lines in the form of the tables of rules, for clauses of the definitions that those tables do not hold. They stand here, where no code rests on them.
use Rattle.std.specs.Prelude.{ℕ, ◌≡◌, refl, List, [], ◌∷◌, ◌++◌, map, ℤ, pos}
use Rattle.rules.specs.Tables.{Case, matching, reviewing, ◌⇒◌writing◌, computed, stated, nums, minus, braces}

-- A call that is refused with an answer at a place.
abbrev refuses : (matcher pattern target : List ℕ) (answer place : ℕ) → Case
refuses m p t a i = matching (nums m) (nums p) (nums t) 1000 3 ⇒ (a ∷ i ∷ 0 ∷ 0 ∷ 0 ∷ 0 ∷ []) writing []

-- A tuple whose second part is to be equal to its first, under these two matchers: refused at the tag 3.
abbrev unlike : (one other : List ℕ) → Case
unlike one other = refuses (4 ∷ 2 ∷ (one ++ other)) (7 ∷ 2 ∷ 1 ∷ 0 ∷ 3 ∷ 0 ∷ 0 ∷ []) [] 4 4

-- No unit of the two is the other plus c. (The definitions know words outside the range, which no call has.)
abbrev apart : ℤ → ℤ → ℤ → Case
apart c x y = matching (nums (3 ∷ 1 ∷ [])) (pos 5 ∷ pos 1 ∷ pos 0 ∷ pos 5 ∷ pos 3 ∷ pos 0 ∷ c ∷ pos 0 ∷ []) (braces (x ∷ y ∷ [])) 1000 4 ⇒ (0 ∷ 0 ∷ 0 ∷ 9 ∷ 0 ∷ 0 ∷ []) writing []

unfoldable pub table : List Case
table =
    -- shapes for a tag 3
    unlike (3 ∷ 0 ∷ []) (3 ∷ 0 ∷ [])  -- something in a multiset
    ∷ unlike (3 ∷ 1 ∷ []) (3 ∷ 3 ∷ 1 ∷ [])  -- what a multiset is of
    ∷ unlike (4 ∷ 2 ∷ 1 ∷ 1 ∷ []) (4 ∷ 2 ∷ 2 ∷ 1 ∷ 1 ∷ [])  -- a tuple's first part
    ∷ unlike (4 ∷ 3 ∷ 1 ∷ 1 ∷ 1 ∷ []) (4 ∷ 2 ∷ 1 ∷ 1 ∷ [])  -- a narrower tuple
    ∷ unlike (4 ∷ 2 ∷ 1 ∷ 1 ∷ []) (4 ∷ 3 ∷ 1 ∷ 1 ∷ 1 ∷ [])  -- a wider one
    ∷ matching (nums (4 ∷ 3 ∷ 1 ∷ 2 ∷ 1 ∷ 1 ∷ [])) (nums (7 ∷ 3 ∷ 1 ∷ 0 ∷ 1 ∷ 1 ∷ 3 ∷ 0 ∷ 0 ∷ [])) (nums (2 ∷ 3 ∷ 0 ∷ 5 ∷ 1 ∷ 0 ∷ 0 ∷ 5 ∷ [])) 1000 9 ⇒ (0 ∷ 0 ∷ 1 ∷ 7 ∷ 4 ∷ 0 ∷ []) writing nums (0 ∷ 5 ∷ 1 ∷ 0 ∷ [])  -- the first of two variables, each of its own shape
    -- places
    ∷ refuses (4 ∷ 2 ∷ 1 ∷ 1 ∷ []) (7 ∷ 2 ∷ 0 ∷ 1 ∷ 1 ∷ []) [] 3 3  -- a variable in a tuple's second part
    ∷ refuses (1 ∷ []) (9 ∷ 0 ∷ 4 ∷ []) [] 4 2  -- an or's second side
    ∷ refuses (2 ∷ 4 ∷ 2 ∷ 1 ∷ 1 ∷ []) (0 ∷ []) (1 ∷ 2 ∷ 2 ∷ 2 ∷ 0 ∷ 1 ∷ 0 ∷ 1 ∷ 0 ∷ 5 ∷ []) 6 8  -- an element behind a tuple
    ∷ reviewing (nums (3 ∷ 1 ∷ [])) (nums (5 ∷ 4 ∷ 0 ∷ [])) (pos 3) ⇒ (4 ∷ 1 ∷ 0 ∷ []) writing []  -- review tells it too
    -- what is taken along a rest, in an or and an and there
    ∷ reviewing (nums (3 ∷ 1 ∷ [])) (nums (5 ∷ 0 ∷ 9 ∷ 5 ∷ 0 ∷ 0 ∷ 5 ∷ 0 ∷ 0 ∷ [])) (pos 3) ⇒ (0 ∷ 0 ∷ 76 ∷ []) writing []  -- 1 + 6 + 3 + 27 + 27 + 12
    ∷ reviewing (nums (3 ∷ 1 ∷ [])) (nums (5 ∷ 0 ∷ 8 ∷ 5 ∷ 0 ∷ 0 ∷ 5 ∷ 0 ∷ 0 ∷ [])) (pos 3) ⇒ (0 ∷ 0 ∷ 103 ∷ []) writing []
    -- values that do not fit
    ∷ refuses (2 ∷ 1 ∷ []) (0 ∷ []) (0 ∷ 7 ∷ []) 6 0
    ∷ refuses (3 ∷ 1 ∷ []) (0 ∷ []) (2 ∷ 2 ∷ 0 ∷ 1 ∷ 0 ∷ 2 ∷ []) 6 0
    ∷ refuses (4 ∷ 2 ∷ 1 ∷ 1 ∷ []) (0 ∷ []) (0 ∷ 7 ∷ []) 6 0
    -- sums just outside the range
    ∷ apart (pos 1) (pos 2147483647) (pos 2147483648)
    ∷ apart (minus 1) (minus 2147483648) (minus 2147483649)
    ∷ []

-- THE CLAIM: each line's numbers and words are what the definitions compute.
pub clauses_hold : map computed table ≡ map stated table
unfolding computed stated table
clauses_hold = refl
