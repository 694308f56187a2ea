-- Document 01, section 8, and document 02, No. 2 (P11): the cases marked P, with the budgets, rooms and caps that stand beside them, in one table under one claim.
use Rattle.std.specs.Prelude.{ℕ, ◌≡◌, refl, List, [], ◌∷◌, ◌++◌, map, ℤ, pos}
use Rattle.rules.specs.Tables.{Case, matching, reviewing, ◌⇒◌writing◌, computed, stated, nums, minus, ints, braces}

-- R: two of a rank. The same with one added.
abbrev R : List ℤ
R = nums (5 ∷ 1 ∷ 0 ∷ 5 ∷ 3 ∷ 0 ∷ 0 ∷ 0 ∷ [])

abbrev one_more : List ℤ
one_more = nums (5 ∷ 1 ∷ 0 ∷ 5 ∷ 3 ∷ 0 ∷ 1 ∷ 0 ∷ [])

abbrev multiset_integer : List ℤ
multiset_integer = nums (3 ∷ 1 ∷ [])

abbrev list_integer : List ℤ
list_integer = nums (2 ∷ 1 ∷ [])

-- {2 8 2}
abbrev units : List ℤ
units = braces (nums (2 ∷ 8 ∷ 2 ∷ []))

-- {{4 9} {9 4}}, and a pattern for two equal elements and no more
abbrev pairs : List ℤ
pairs = nums (1 ∷ 2 ∷ []) ++ braces (nums (4 ∷ 9 ∷ [])) ++ braces (nums (9 ∷ 4 ∷ []))

abbrev just_two : List ℤ
just_two = nums (5 ∷ 1 ∷ 0 ∷ 5 ∷ 3 ∷ 0 ∷ 0 ∷ 4 ∷ [])

-- Four, and five, nested cons over wildcards with a wildcard rest.
abbrev four : List ℤ
four = nums (5 ∷ 0 ∷ 5 ∷ 0 ∷ 5 ∷ 0 ∷ 5 ∷ 0 ∷ 0 ∷ [])

abbrev five : List ℤ
five = nums (5 ∷ 0 ∷ []) ++ four

-- One row of R: the integer 2.
abbrev two : List ℤ
two = nums (0 ∷ 2 ∷ [])

unfoldable pub table : List Case
table =
    matching multiset_integer R units 1000 64 ⇒ (0 ∷ 0 ∷ 2 ∷ 22 ∷ 4 ∷ 0 ∷ []) writing (two ++ two)  -- P1
    ∷ matching multiset_integer R (braces (nums (2 ∷ []))) 1000 64 ⇒ (0 ∷ 0 ∷ 0 ∷ 4 ∷ 0 ∷ 0 ∷ []) writing []  -- P2
    ∷ matching list_integer (nums (6 ∷ 1 ∷ 0 ∷ 1 ∷ 1 ∷ [])) (braces (nums (1 ∷ 2 ∷ 3 ∷ []))) 1000 64 ⇒ (0 ∷ 0 ∷ 4 ∷ 21 ∷ 40 ∷ 0 ∷ [])
    writing (
    (braces [] ++ braces (nums (1 ∷ 2 ∷ 3 ∷ [])))
    ++ (braces (nums (1 ∷ [])) ++ braces (nums (2 ∷ 3 ∷ [])))
    ++ (braces (nums (1 ∷ 2 ∷ [])) ++ braces (nums (3 ∷ [])))
    ++ (braces (nums (1 ∷ 2 ∷ 3 ∷ [])) ++ braces [])
    )  -- P3
    ∷ matching (nums (0 ∷ [])) (nums (0 ∷ [])) (nums (0 ∷ 7 ∷ [])) 1000 64 ⇒ (0 ∷ 0 ∷ 1 ∷ 2 ∷ 0 ∷ 0 ∷ []) writing []  -- P4
    ∷ matching list_integer (nums (4 ∷ [])) (braces []) 1000 64 ⇒ (0 ∷ 0 ∷ 1 ∷ 2 ∷ 0 ∷ 0 ∷ []) writing []  -- P5
    ∷ matching list_integer (nums (4 ∷ [])) (braces (nums (5 ∷ []))) 1000 64 ⇒ (0 ∷ 0 ∷ 0 ∷ 1 ∷ 0 ∷ 0 ∷ []) writing []  -- P6
    ∷ matching multiset_integer (nums (5 ∷ 0 ∷ 0 ∷ [])) (braces []) 1000 64 ⇒ (0 ∷ 0 ∷ 0 ∷ 1 ∷ 0 ∷ 0 ∷ []) writing []  -- P7
    ∷ matching (nums (2 ∷ 3 ∷ 1 ∷ [])) just_two pairs 1000 64 ⇒ (0 ∷ 0 ∷ 1 ∷ 7 ∷ 6 ∷ 0 ∷ []) writing braces (nums (4 ∷ 9 ∷ []))  -- P8
    ∷ matching (nums (2 ∷ 2 ∷ 1 ∷ [])) just_two pairs 1000 64 ⇒ (0 ∷ 0 ∷ 0 ∷ 5 ∷ 0 ∷ 0 ∷ []) writing []  -- P9
    ∷ matching multiset_integer one_more (braces (nums (3 ∷ 4 ∷ 8 ∷ 9 ∷ []))) 1000 64 ⇒ (0 ∷ 0 ∷ 2 ∷ 31 ∷ 4 ∷ 0 ∷ [])
    writing nums (0 ∷ 3 ∷ 0 ∷ 8 ∷ [])  -- P10
    ∷ matching multiset_integer one_more (braces (pos 2147483647 ∷ minus 2147483648 ∷ [])) 1000 64 ⇒ (0 ∷ 0 ∷ 0 ∷ 9 ∷ 0 ∷ 0 ∷ []) writing []  -- P11
    ∷ matching multiset_integer R units 8 64 ⇒ (7 ∷ 0 ∷ 0 ∷ 8 ∷ 0 ∷ 0 ∷ []) writing []  -- P1 with other budgets
    ∷ matching multiset_integer R units 9 64 ⇒ (7 ∷ 0 ∷ 1 ∷ 9 ∷ 2 ∷ 0 ∷ []) writing two
    ∷ matching multiset_integer R units 1000 3 ⇒ (8 ∷ 0 ∷ 1 ∷ 21 ∷ 2 ∷ 0 ∷ []) writing two  -- P12
    ∷ matching multiset_integer R units 21 3 ⇒ (8 ∷ 0 ∷ 1 ∷ 21 ∷ 2 ∷ 0 ∷ []) writing two
    ∷ matching multiset_integer R units 20 3 ⇒ (7 ∷ 0 ∷ 1 ∷ 20 ∷ 2 ∷ 0 ∷ []) writing two
    ∷ reviewing multiset_integer R (pos 0) ⇒ (0 ∷ 0 ∷ 1 ∷ []) writing []  -- P13
    ∷ reviewing multiset_integer R (pos 3) ⇒ (0 ∷ 0 ∷ 34 ∷ []) writing []
    ∷ reviewing multiset_integer R (pos 64) ⇒ (0 ∷ 0 ∷ 16321 ∷ []) writing []
    ∷ reviewing multiset_integer four (pos 64) ⇒ (0 ∷ 0 ∷ 77007361 ∷ []) writing []
    ∷ reviewing multiset_integer five (pos 64) ⇒ (10 ∷ 0 ∷ 0 ∷ []) writing []
    ∷ []

-- THE CLAIM: each line's numbers and words are what the definitions compute.
pub worked_rules_hold : map computed table ≡ map stated table
unfolding computed stated table
worked_rules_hold = refl
