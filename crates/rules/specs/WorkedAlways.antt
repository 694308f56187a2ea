-- Document 02, No. 5: review of rules that everybody passes, and of such as it lets through, in the form of section 8's table.
use Rattle.std.specs.Prelude.{ℕ, zero, suc, ◌≡◌, refl, List, [], ◌∷◌, ◌++◌, map, ℤ, pos}
use Rattle.rules.specs.Tables.{Case, matching, reviewing, ◌⇒◌writing◌, computed, stated, nums, minus, ints, braces}

-- Turned away at a cap of 3.
abbrev everybody : (matcher pattern : List ℕ) → Case
everybody m p = reviewing (nums m) (nums p) (pos 3) ⇒ (11 ∷ 0 ∷ 0 ∷ []) writing []

-- Let through at a cap of 3, with the count n.
abbrev not_all : (matcher pattern : List ℕ) → ℕ → Case
not_all m p n = reviewing (nums m) (nums p) (pos 3) ⇒ (0 ∷ 0 ∷ n ∷ []) writing []

-- n times "an or of two wildcards, and", then a wildcard.
abbrev sides : ℕ → List ℤ
sides zero = nums (0 ∷ [])
sides (suc n) = nums (8 ∷ 9 ∷ 0 ∷ 0 ∷ []) ++ sides n

unfoldable pub table : List Case
table =
    everybody (2 ∷ 1 ∷ []) (6 ∷ 0 ∷ 0 ∷ [])  -- a join of two wildcards
    ∷ everybody (2 ∷ 1 ∷ []) (6 ∷ 1 ∷ 0 ∷ 6 ∷ 0 ∷ 1 ∷ 1 ∷ [])  -- a join in a join, with variables
    ∷ everybody (0 ∷ []) (0 ∷ [])
    ∷ everybody (1 ∷ []) (1 ∷ 0 ∷ [])
    ∷ everybody (4 ∷ 3 ∷ 1 ∷ 1 ∷ 3 ∷ 1 ∷ []) (7 ∷ 3 ∷ 1 ∷ 0 ∷ 1 ∷ 1 ∷ 1 ∷ 2 ∷ [])  -- a tuple; its width and its variables are numbers
    ∷ everybody (1 ∷ []) (8 ∷ 0 ∷ 1 ∷ 0 ∷ [])  -- and
    ∷ everybody (1 ∷ []) (9 ∷ 0 ∷ 0 ∷ [])  -- or
    ∷ everybody (4 ∷ 2 ∷ 2 ∷ 1 ∷ 0 ∷ []) (7 ∷ 2 ∷ 9 ∷ 6 ∷ 0 ∷ 0 ∷ 0 ∷ 8 ∷ 0 ∷ 1 ∷ 0 ∷ [])  -- all of them
    ∷ everybody (4 ∷ 4 ∷ 4 ∷ 2 ∷ 0 ∷ 0 ∷ 0 ∷ 0 ∷ 0 ∷ []) (7 ∷ 4 ∷ 7 ∷ 2 ∷ 1 ∷ 0 ∷ 1 ∷ 1 ∷ 8 ∷ 1 ∷ 2 ∷ 1 ∷ 3 ∷ 1 ∷ 4 ∷ 1 ∷ 5 ∷ [])  -- `1 4`: variable 4, no tag 4; `1 2`, `1 3`, `1 5`
    ∷ reviewing (nums (1 ∷ [])) (sides 40) (pos 3) ⇒ (11 ∷ 0 ∷ 0 ∷ []) writing []  -- before "too big"
    ∷ matching (nums (2 ∷ 1 ∷ [])) (nums (6 ∷ 0 ∷ 0 ∷ [])) (braces []) 9 0 ⇒ (0 ∷ 0 ∷ 1 ∷ 6 ∷ 0 ∷ 0 ∷ []) writing []  -- match takes it up
    ∷ not_all (1 ∷ []) (9 ∷ 0 ∷ 2 ∷ 5 ∷ []) 6  -- an or whose one side can fail
    ∷ not_all (1 ∷ []) (9 ∷ 2 ∷ 5 ∷ 0 ∷ []) 6
    ∷ not_all (1 ∷ []) (2 ∷ 0 ∷ []) 2  -- one of the tags alone
    ∷ not_all (1 ∷ []) (8 ∷ 1 ∷ 0 ∷ 3 ∷ 0 ∷ 0 ∷ []) 5
    ∷ not_all (2 ∷ 1 ∷ []) (4 ∷ []) 2
    ∷ not_all (2 ∷ 1 ∷ []) (5 ∷ 0 ∷ 0 ∷ []) 6
    ∷ not_all (3 ∷ 1 ∷ []) (5 ∷ 0 ∷ 0 ∷ []) 16
    ∷ not_all (1 ∷ []) (10 ∷ 0 ∷ []) 5
    ∷ not_all (2 ∷ 1 ∷ []) (6 ∷ 0 ∷ 6 ∷ 0 ∷ 4 ∷ []) 77  -- the last of its tags
    ∷ not_all (4 ∷ 2 ∷ 1 ∷ 1 ∷ []) (7 ∷ 2 ∷ 0 ∷ 2 ∷ 7 ∷ []) 5
    ∷ []

-- THE CLAIM: each line's numbers and words are what the definitions compute.
pub worked_always_hold : map computed table ≡ map stated table
unfolding computed stated table
worked_always_hold = refl
