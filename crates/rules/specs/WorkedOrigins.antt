-- Document 02, No. 9: worked rules with rows in form 2, in the form of section 8's table.
use Rattle.std.specs.Prelude.{ℕ, zero, suc, ◌≡◌, refl, List, [], ◌∷◌, ◌++◌, map, replicate, ℤ, pos}
use Rattle.rules.specs.Tables.{Case, matching_with, ◌⇒◌writing◌, computed, stated, nums, minus, ints, braces}

-- In form 2, with budget and room enough: so many rows, in so many steps, with these words.
abbrev lights : (matcher pattern : List ℕ) (target : List ℤ) (rows steps words : ℕ) → List ℤ → Case
lights m p t n k l ws = matching_with 2 (nums m) (nums p) t 1000 64 ⇒ (0 ∷ 0 ∷ n ∷ k ∷ l ∷ 0 ∷ []) writing ws

-- Two of a rank, on {2 8 2}.
abbrev two : List ℕ
two = 5 ∷ 1 ∷ 0 ∷ 5 ∷ 3 ∷ 0 ∷ 0 ∷ 0 ∷ []

abbrev units : List ℤ
units = braces (nums (2 ∷ 8 ∷ 2 ∷ []))

abbrev multiset_integer : List ℕ
multiset_integer = 3 ∷ 1 ∷ []

abbrev list_integer : List ℕ
list_integer = 2 ∷ 1 ∷ []

-- An element and the rest; the rest alone.
abbrev parted : List ℕ
parted = 5 ∷ 1 ∷ 0 ∷ 1 ∷ 1 ∷ []

abbrev rest : List ℕ
rest = 5 ∷ 0 ∷ 1 ∷ 0 ∷ []

-- So many elements, all 7.
abbrev sevens : ℕ → List ℤ
sevens n = braces (replicate n (pos 7))

-- A pair of an integer and a collection, in a collection.
abbrev pair : List ℤ
pair = nums (1 ∷ 1 ∷ 2 ∷ 2 ∷ 0 ∷ 1 ∷ 1 ∷ 2 ∷ 0 ∷ 7 ∷ 0 ∷ 8 ∷ [])

unfoldable pub table : List Case
table =
    lights multiset_integer two units 2 22 6 (nums (2 ∷ 0 ∷ 0 ∷ 6 ∷ 0 ∷ 0 ∷ []))  -- each of the two 2s by its own index
    ∷ lights list_integer (6 ∷ 1 ∷ 0 ∷ 1 ∷ 1 ∷ []) (braces (nums (1 ∷ 2 ∷ 3 ∷ []))) 4 21 24
    (nums (0 ∷ 0 ∷ 0 ∷ 0 ∷ 7 ∷ 0 ∷ []) ++ nums (0 ∷ 1 ∷ 0 ∷ 0 ∷ 6 ∷ 0 ∷ []) ++ nums (0 ∷ 3 ∷ 0 ∷ 0 ∷ 4 ∷ 0 ∷ []) ++ nums (0 ∷ 7 ∷ 0 ∷ 0 ∷ 0 ∷ 0 ∷ []))  -- fronts and backs
    ∷ lights multiset_integer parted (braces (nums (2 ∷ 2 ∷ []))) 2 11 12 (nums (2 ∷ 0 ∷ 0 ∷ 0 ∷ 2 ∷ 0 ∷ []) ++ nums (4 ∷ 0 ∷ 0 ∷ 0 ∷ 1 ∷ 0 ∷ []))  -- equal units told apart
    ∷ lights list_integer rest (sevens 33) 1 6 3 (pos 0 ∷ minus 2 ∷ pos 1 ∷ [])  -- bits 1 to 32
    ∷ lights list_integer (1 ∷ 0 ∷ []) (sevens 64) 1 3 3 (pos 0 ∷ minus 1 ∷ minus 1 ∷ [])  -- a whole collection has all its marks
    ∷ lights list_integer (1 ∷ 0 ∷ []) (sevens 31) 1 3 3 (pos 0 ∷ pos 2147483647 ∷ pos 0 ∷ [])
    ∷ lights list_integer (1 ∷ 0 ∷ []) (sevens 32) 1 3 3 (pos 0 ∷ minus 1 ∷ pos 0 ∷ [])
    ∷ lights list_integer rest (sevens 1) 1 6 3 (nums (0 ∷ 0 ∷ 0 ∷ []))  -- an empty rest has the index of the whole and no marks
    ∷ lights (2 ∷ 4 ∷ 2 ∷ 1 ∷ 2 ∷ 1 ∷ []) (5 ∷ 7 ∷ 2 ∷ 1 ∷ 0 ∷ 1 ∷ 1 ∷ 1 ∷ 2 ∷ []) pair 1 9 9 (nums (4 ∷ 0 ∷ 0 ∷ 6 ∷ 3 ∷ 0 ∷ 0 ∷ 0 ∷ 0 ∷ []))  -- inside a tuple
    ∷ lights (2 ∷ 4 ∷ 2 ∷ 1 ∷ 2 ∷ 1 ∷ []) (5 ∷ 1 ∷ 0 ∷ 0 ∷ []) pair 1 6 3 (nums (2 ∷ 0 ∷ 0 ∷ []))  -- a tuple has no marks
    ∷ lights (0 ∷ []) (1 ∷ 0 ∷ []) units 1 2 3 (nums (0 ∷ 7 ∷ 0 ∷ []))  -- a collection has its marks under something too
    ∷ lights (3 ∷ 2 ∷ 1 ∷ []) (5 ∷ 5 ∷ 0 ∷ 1 ∷ 0 ∷ 1 ∷ 1 ∷ []) (nums (1 ∷ 2 ∷ []) ++ braces (nums (4 ∷ 5 ∷ [])) ++ braces (nums (6 ∷ []))) 2 17 12
    (nums (2 ∷ 2 ∷ 0 ∷ 0 ∷ 2 ∷ 0 ∷ []) ++ nums (8 ∷ 0 ∷ 0 ∷ 0 ∷ 1 ∷ 0 ∷ []))  -- the rest of an element, by the element's own places
    ∷ matching_with 2 (nums multiset_integer) (nums two) units 1000 5 ⇒ (8 ∷ 0 ∷ 1 ∷ 21 ∷ 3 ∷ 0 ∷ []) writing nums (2 ∷ 0 ∷ 0 ∷ [])  -- room for one row only
    ∷ matching_with 2 (nums multiset_integer) (nums (5 ∷ 0 ∷ 0 ∷ [])) units 1000 0 ⇒ (0 ∷ 0 ∷ 3 ∷ 16 ∷ 0 ∷ 0 ∷ []) writing []  -- no variables
    ∷ matching_with 1 (nums multiset_integer) (nums two) units 1000 64 ⇒ (0 ∷ 0 ∷ 2 ∷ 22 ∷ 4 ∷ 0 ∷ []) writing nums (0 ∷ 2 ∷ 0 ∷ 2 ∷ [])  -- form 1
    ∷ matching_with 0 (nums multiset_integer) (nums two) units 1000 64 ⇒ (20 ∷ 0 ∷ 0 ∷ 0 ∷ 0 ∷ 0 ∷ []) writing []
    ∷ matching_with 3 (nums (9 ∷ [])) (nums two) units 1000 64 ⇒ (20 ∷ 0 ∷ 0 ∷ 0 ∷ 0 ∷ 0 ∷ []) writing []  -- before 1
    ∷ matching_with 2 (nums (9 ∷ [])) (nums two) units 1000 64 ⇒ (1 ∷ 0 ∷ 0 ∷ 0 ∷ 0 ∷ 0 ∷ []) writing []
    ∷ []

-- THE CLAIM: each line's numbers and words are what the definitions compute.
pub worked_origins_hold : map computed table ≡ map stated table
unfolding computed stated table
worked_origins_hold = refl
