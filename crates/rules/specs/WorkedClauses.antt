-- Documents 01 and 02: clauses of the definitions that no published case holds, each held by a line, in the form of section 8's table.
use Rattle.std.specs.Prelude.{ℕ, ◌≡◌, refl, List, [], ◌∷◌, ◌++◌, map, ℤ, pos}
use Rattle.rules.specs.Tables.{Case, matching, reviewing, ◌⇒◌writing◌, computed, stated, nums, minus, ints, braces}

-- Matched with budget and room enough: so many rows, in so many steps, with these words.
abbrev finds : (matcher pattern : List ℕ) (target : List ℤ) (rows steps words : ℕ) → List ℤ → Case
finds m p t n k l ws = matching (nums m) (nums p) t 1000 64 ⇒ (0 ∷ 0 ∷ n ∷ k ∷ l ∷ 0 ∷ []) writing ws

-- No row, in so many steps.
abbrev lacks : (matcher pattern : List ℕ) (target : List ℤ) (steps : ℕ) → Case
lacks m p t k = matching (nums m) (nums p) t 1000 64 ⇒ (0 ∷ 0 ∷ 0 ∷ k ∷ 0 ∷ 0 ∷ []) writing []

-- Reviewed at a cap of 3, with the count n.
abbrev counts : (matcher pattern : List ℕ) → ℕ → Case
counts m p n = reviewing (nums m) (nums p) (pos 3) ⇒ (0 ∷ 0 ∷ n ∷ []) writing []

-- An element, and an equal one among the others; and no more after them.
abbrev two : List ℕ
two = 5 ∷ 1 ∷ 0 ∷ 5 ∷ 3 ∷ 0 ∷ 0 ∷ 0 ∷ []

abbrev just_two : List ℕ
just_two = 5 ∷ 1 ∷ 0 ∷ 5 ∷ 3 ∷ 0 ∷ 0 ∷ 4 ∷ []

unfoldable pub table : List Case
table =
    -- equality
    lacks (3 ∷ 4 ∷ 2 ∷ 1 ∷ 1 ∷ []) two (nums (1 ∷ 2 ∷ 2 ∷ 2 ∷ 0 ∷ 3 ∷ 0 ∷ 3 ∷ 2 ∷ 2 ∷ 0 ∷ 3 ∷ 0 ∷ 8 ∷ [])) 9  -- tuples that differ in their last part
    ∷ lacks (2 ∷ 2 ∷ 1 ∷ []) just_two (nums (1 ∷ 2 ∷ 1 ∷ 1 ∷ 0 ∷ 4 ∷ 1 ∷ 2 ∷ 0 ∷ 4 ∷ 0 ∷ 9 ∷ [])) 5  -- a list and a longer one
    -- the search
    ∷ matching (nums (3 ∷ 1 ∷ [])) (nums two) (braces (nums (2 ∷ 8 ∷ 2 ∷ []))) 0 64 ⇒ (7 ∷ 0 ∷ 0 ∷ 0 ∷ 0 ∷ 0 ∷ []) writing []  -- budget 0
    ∷ finds (3 ∷ 1 ∷ []) (5 ∷ 2 ∷ 7 ∷ 1 ∷ 0 ∷ []) (braces (nums (7 ∷ 3 ∷ 7 ∷ []))) 2 10 12 (braces (nums (3 ∷ 7 ∷ [])) ++ braces (nums (7 ∷ 3 ∷ [])))  -- a variable on the rest tells equal units apart
    -- review
    ∷ counts (0 ∷ []) (8 ∷ 0 ∷ 10 ∷ 0 ∷ []) 6  -- one step under something: 1 + 1 + (1 + (1 + 1)) + 1
    ∷ counts (4 ∷ 2 ∷ 3 ∷ 1 ∷ 3 ∷ 1 ∷ []) (7 ∷ 2 ∷ 5 ∷ 0 ∷ 0 ∷ 5 ∷ 0 ∷ 0 ∷ []) 62  -- the factors of a tuple's parts
    ∷ counts (2 ∷ 1 ∷ []) (6 ∷ 6 ∷ 0 ∷ 0 ∷ 4 ∷ []) 101  -- of a join's first part
    ∷ counts (3 ∷ 1 ∷ []) (8 ∷ 5 ∷ 0 ∷ 0 ∷ 5 ∷ 0 ∷ 0 ∷ []) 62  -- of an and's first side
    ∷ counts (4 ∷ 2 ∷ 1 ∷ 3 ∷ 1 ∷ []) (7 ∷ 2 ∷ 1 ∷ 0 ∷ 5 ∷ 0 ∷ 0 ∷ []) 19  -- the steps of a tuple's parts
    ∷ []

-- THE CLAIM: each line's numbers and words are what the definitions compute.
pub worked_clauses_hold : map computed table ≡ map stated table
unfolding computed stated table
worked_clauses_hold = refl
