-- Document 02, No. 1: worked rules with tuples, in the form of section 8's table.
use Rattle.std.specs.Prelude.{ℕ, ◌≡◌, refl, List, [], ◌∷◌, ◌++◌, map, ℤ, pos}
use Rattle.rules.specs.Tables.{Case, matching, reviewing, ◌⇒◌writing◌, computed, stated, nums, minus, ints, braces}

-- A unit is a pair (kind, rank).
abbrev unit : ℕ → ℕ → List ℤ
unit kind rank = nums (2 ∷ 2 ∷ 0 ∷ kind ∷ 0 ∷ rank ∷ [])

abbrev multiset_units : List ℤ
multiset_units = nums (3 ∷ 4 ∷ 2 ∷ 1 ∷ 1 ∷ [])

-- Two of one kind whose ranks differ by one.
abbrev neighbours : List ℤ
neighbours = nums (5 ∷ 7 ∷ 2 ∷ 1 ∷ 0 ∷ 1 ∷ 1 ∷ 5 ∷ 7 ∷ 2 ∷ 3 ∷ 0 ∷ 0 ∷ 3 ∷ 1 ∷ 1 ∷ 0 ∷ [])

-- Three units: of kind 1 with the ranks 4 and 5, of kind 2 with the rank 5.
abbrev army : List ℤ
army = nums (1 ∷ 3 ∷ []) ++ unit 1 4 ++ unit 2 5 ++ unit 1 5

-- The first part again as the second.
abbrev again : List ℤ
again = nums (7 ∷ 2 ∷ 1 ∷ 0 ∷ 3 ∷ 0 ∷ 0 ∷ [])

-- ({1 2}, {2 1})
abbrev turned : List ℤ
turned = nums (2 ∷ 2 ∷ []) ++ braces (nums (1 ∷ 2 ∷ [])) ++ braces (nums (2 ∷ 1 ∷ []))

unfoldable pub table : List Case
table =
    matching multiset_units neighbours army 1000 64 ⇒ (0 ∷ 0 ∷ 1 ∷ 36 ∷ 4 ∷ 0 ∷ []) writing nums (0 ∷ 1 ∷ 0 ∷ 4 ∷ [])
    ∷ matching (nums (4 ∷ 2 ∷ 2 ∷ 1 ∷ 3 ∷ 1 ∷ [])) again turned 1000 64 ⇒ (0 ∷ 0 ∷ 1 ∷ 5 ∷ 6 ∷ 0 ∷ []) writing braces (nums (1 ∷ 2 ∷ []))  -- a list compared as a multiset
    ∷ matching (nums (4 ∷ 2 ∷ 3 ∷ 1 ∷ 2 ∷ 1 ∷ [])) again turned 1000 64 ⇒ (0 ∷ 0 ∷ 0 ∷ 4 ∷ 0 ∷ 0 ∷ []) writing []  -- a multiset compared as a list
    ∷ matching (nums (4 ∷ 2 ∷ 1 ∷ 1 ∷ [])) (nums (1 ∷ 0 ∷ [])) (unit 7 9) 1000 64 ⇒ (0 ∷ 0 ∷ 1 ∷ 3 ∷ 6 ∷ 0 ∷ []) writing unit 7 9  -- two steps for a variable
    ∷ matching multiset_units (nums (5 ∷ 1 ∷ 0 ∷ 5 ∷ 3 ∷ 0 ∷ 0 ∷ 0 ∷ [])) (nums (1 ∷ 2 ∷ []) ++ unit 3 3 ++ unit 3 3) 1000 64 ⇒ (0 ∷ 0 ∷ 2 ∷ 15 ∷ 12 ∷ 0 ∷ [])
    writing (unit 3 3 ++ unit 3 3)  -- tuples equal part by part
    ∷ reviewing multiset_units neighbours (pos 3) ⇒ (0 ∷ 0 ∷ 55 ∷ []) writing []
    ∷ []

-- THE CLAIM: each line's numbers and words are what the definitions compute.
pub worked_tuples_hold : map computed table ≡ map stated table
unfolding computed stated table
worked_tuples_hold = refl
