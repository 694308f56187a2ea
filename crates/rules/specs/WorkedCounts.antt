-- Document 02, No. 12: review's count, and matches that reach it, in the form of section 8's table.
use Rattle.std.specs.Prelude.{ℕ, zero, suc, ◌≡◌, refl, List, [], ◌∷◌, map, ℤ, pos}
use Rattle.rules.specs.Forms.{integer, multiset, Pattern, wildcard, cons}
use Rattle.rules.specs.Review.{formula}
use Rattle.rules.specs.Tables.{Case, matching, reviewing, ◌⇒◌writing◌, computed, stated, nums, braces}

abbrev multiset_integer : List ℤ
multiset_integer = nums (3 ∷ 1 ∷ [])

abbrev multisets : List ℤ
multisets = nums (3 ∷ 3 ∷ 1 ∷ [])

-- Two of a rank; and the same with a wildcard between.
abbrev R : List ℤ
R = nums (5 ∷ 1 ∷ 0 ∷ 5 ∷ 3 ∷ 0 ∷ 0 ∷ 0 ∷ [])

abbrev apart : List ℤ
apart = nums (5 ∷ 1 ∷ 0 ∷ 5 ∷ 0 ∷ 5 ∷ 3 ∷ 0 ∷ 0 ∷ 0 ∷ [])

abbrev three : List ℤ
three = nums (5 ∷ 0 ∷ 5 ∷ 0 ∷ 5 ∷ 0 ∷ 0 ∷ [])

abbrev rest : List ℤ
rest = nums (5 ∷ 0 ∷ 5 ∷ 0 ∷ 1 ∷ 0 ∷ [])

abbrev five : List ℤ
five = nums (5 ∷ 0 ∷ 5 ∷ 0 ∷ 5 ∷ 0 ∷ 5 ∷ 0 ∷ 5 ∷ 0 ∷ 0 ∷ [])

-- Two patterns of nots: at cap 56 the figure of the first is 4,294,967,295, and that of the second one more.
abbrev border : List ℤ
border = nums (8 ∷ 4 ∷ 8 ∷ 4 ∷ 8 ∷ 4 ∷ 8 ∷ 0 ∷ 8 ∷ 10 ∷ 5 ∷ 8 ∷ 0 ∷ 0 ∷ 5 ∷ 8 ∷ 0 ∷ 0 ∷ 5 ∷ 8 ∷ 0 ∷ 0 ∷ 5 ∷ 8 ∷ 0 ∷ 0 ∷ 8 ∷ 0 ∷ 4 ∷ 8 ∷ 10 ∷ 5 ∷ 0 ∷ 5 ∷ 0 ∷ 5 ∷ 0 ∷ 5 ∷ 2 ∷ 7 ∷ 4 ∷ 8 ∷ 10 ∷ 5 ∷ 8 ∷ 0 ∷ 0 ∷ 5 ∷ 8 ∷ 0 ∷ 0 ∷ 8 ∷ 0 ∷ 4 ∷ 8 ∷ 10 ∷ 5 ∷ 8 ∷ 0 ∷ 0 ∷ 5 ∷ 0 ∷ 0 ∷ 8 ∷ 10 ∷ 5 ∷ 8 ∷ 0 ∷ 0 ∷ 8 ∷ 0 ∷ 4 ∷ 8 ∷ 10 ∷ 5 ∷ 8 ∷ 0 ∷ 0 ∷ 8 ∷ 0 ∷ 4 ∷ 8 ∷ 10 ∷ 5 ∷ 0 ∷ 0 ∷ 5 ∷ 0 ∷ 5 ∷ 0 ∷ 5 ∷ 0 ∷ 5 ∷ 8 ∷ 0 ∷ 0 ∷ 5 ∷ 10 ∷ 0 ∷ 8 ∷ 0 ∷ 4 ∷ [])

abbrev beyond : List ℤ
beyond = nums (8 ∷ 4 ∷ 8 ∷ 4 ∷ 8 ∷ 4 ∷ 8 ∷ 4 ∷ 8 ∷ 4 ∷ 8 ∷ 10 ∷ 5 ∷ 8 ∷ 0 ∷ 0 ∷ 5 ∷ 8 ∷ 0 ∷ 0 ∷ 5 ∷ 8 ∷ 0 ∷ 0 ∷ 5 ∷ 8 ∷ 0 ∷ 0 ∷ 8 ∷ 0 ∷ 4 ∷ 8 ∷ 10 ∷ 5 ∷ 0 ∷ 5 ∷ 0 ∷ 5 ∷ 0 ∷ 5 ∷ 2 ∷ 7 ∷ 4 ∷ 8 ∷ 10 ∷ 5 ∷ 8 ∷ 0 ∷ 0 ∷ 5 ∷ 8 ∷ 0 ∷ 0 ∷ 8 ∷ 0 ∷ 4 ∷ 8 ∷ 10 ∷ 5 ∷ 8 ∷ 0 ∷ 0 ∷ 5 ∷ 0 ∷ 0 ∷ 8 ∷ 10 ∷ 5 ∷ 8 ∷ 0 ∷ 0 ∷ 8 ∷ 0 ∷ 4 ∷ 8 ∷ 10 ∷ 5 ∷ 8 ∷ 0 ∷ 0 ∷ 8 ∷ 0 ∷ 4 ∷ 8 ∷ 10 ∷ 5 ∷ 0 ∷ 0 ∷ 5 ∷ 0 ∷ 5 ∷ 0 ∷ 5 ∷ 0 ∷ 5 ∷ 8 ∷ 0 ∷ 0 ∷ 5 ∷ 10 ∷ 0 ∷ 8 ∷ 0 ∷ 4 ∷ [])

unfoldable pub table : List Case
table =
    reviewing multiset_integer R (pos 3) ⇒ (0 ∷ 0 ∷ 34 ∷ []) writing []  -- two of a rank: 1 + 6 + 3 + 6 + 12 + 6
    ∷ reviewing multiset_integer R (pos 1) ⇒ (0 ∷ 0 ∷ 4 ∷ []) writing []  -- cap 1: the second cons has no element left
    ∷ reviewing multiset_integer R (pos 0) ⇒ (0 ∷ 0 ∷ 1 ∷ []) writing []  -- cap 0
    ∷ reviewing multiset_integer R (pos 64) ⇒ (0 ∷ 0 ∷ 16321 ∷ []) writing []  -- 1 + 128 + 64 + 4,032 * 4
    ∷ reviewing multiset_integer apart (pos 4) ⇒ (0 ∷ 0 ∷ 145 ∷ []) writing []  -- a tag 3 at the end of a chain: N = 4, 12, 24
    ∷ reviewing multiset_integer three (pos 2) ⇒ (0 ∷ 0 ∷ 13 ∷ []) writing []  -- more conses than the cap: N = 2, 2, 0, and a factor below 0 that is never seen
    ∷ reviewing multiset_integer rest (pos 3) ⇒ (0 ∷ 0 ∷ 40 ∷ []) writing []  -- a variable as the end
    ∷ reviewing multiset_integer (nums (8 ∷ 5 ∷ 0 ∷ 0 ∷ 5 ∷ 0 ∷ 0 ∷ [])) (pos 3) ⇒ (0 ∷ 0 ∷ 62 ∷ []) writing []  -- an and: neither side takes from the other
    ∷ reviewing multiset_integer (nums (9 ∷ 5 ∷ 0 ∷ 5 ∷ 0 ∷ 0 ∷ 5 ∷ 0 ∷ 0 ∷ [])) (pos 3) ⇒ (0 ∷ 0 ∷ 57 ∷ []) writing []  -- an or: 1 + 34 + 13 + 9
    ∷ reviewing multiset_integer (nums (5 ∷ 0 ∷ 10 ∷ 5 ∷ 0 ∷ 0 ∷ [])) (pos 3) ⇒ (0 ∷ 0 ∷ 46 ∷ []) writing []  -- a not in the rest: factors 3 and 2
    ∷ reviewing multisets (nums (5 ∷ 5 ∷ 0 ∷ 0 ∷ 0 ∷ [])) (pos 3) ⇒ (0 ∷ 0 ∷ 67 ∷ []) writing []  -- in the first part another collection begins
    ∷ reviewing multisets (nums (5 ∷ 0 ∷ 5 ∷ 5 ∷ 0 ∷ 0 ∷ 0 ∷ [])) (pos 3) ⇒ (0 ∷ 0 ∷ 142 ∷ []) writing []  -- and in the first part of a rest's cons: factors 3, 2 and 3
    ∷ reviewing multiset_integer (nums (5 ∷ 0 ∷ 5 ∷ 0 ∷ 5 ∷ 0 ∷ 5 ∷ 0 ∷ 0 ∷ [])) (pos 64) ⇒ (0 ∷ 0 ∷ 77007361 ∷ []) writing []  -- four conses over wildcards
    ∷ reviewing multiset_integer five (pos 64) ⇒ (10 ∷ 0 ∷ 0 ∷ []) writing []  -- five: 4,621,216,513
    ∷ reviewing multiset_integer five (pos 63) ⇒ (0 ∷ 0 ∷ 4260922786 ∷ []) writing []  -- five at cap 63
    ∷ reviewing multiset_integer border (pos 56) ⇒ (0 ∷ 0 ∷ 4294967295 ∷ []) writing []  -- the border itself, told
    ∷ reviewing multiset_integer beyond (pos 56) ⇒ (10 ∷ 0 ∷ 0 ∷ []) writing []  -- and one more
    ∷ reviewing (nums (4 ∷ 2 ∷ 3 ∷ 1 ∷ 3 ∷ 1 ∷ [])) (nums (7 ∷ 2 ∷ 5 ∷ 0 ∷ 0 ∷ 5 ∷ 0 ∷ 0 ∷ [])) (pos 3) ⇒ (0 ∷ 0 ∷ 62 ∷ []) writing []  -- each part of a tuple begins anew
    ∷ reviewing (nums (2 ∷ 3 ∷ 1 ∷ [])) (nums (5 ∷ 5 ∷ 0 ∷ 0 ∷ 5 ∷ 5 ∷ 0 ∷ 0 ∷ 0 ∷ [])) (pos 3) ⇒ (0 ∷ 0 ∷ 83 ∷ []) writing []  -- and each element of a list
    ∷ matching multiset_integer R (braces (nums (7 ∷ 7 ∷ 7 ∷ []))) 34 12 ⇒ (0 ∷ 0 ∷ 6 ∷ 34 ∷ 12 ∷ 0 ∷ []) writing nums (0 ∷ 7 ∷ 0 ∷ 7 ∷ 0 ∷ 7 ∷ 0 ∷ 7 ∷ 0 ∷ 7 ∷ 0 ∷ 7 ∷ [])  -- the figure 34 is reached at cap 3, and no step is left over
    ∷ matching multiset_integer R (braces (nums (7 ∷ 7 ∷ 7 ∷ []))) 33 12 ⇒ (7 ∷ 0 ∷ 5 ∷ 33 ∷ 10 ∷ 0 ∷ []) writing nums (0 ∷ 7 ∷ 0 ∷ 7 ∷ 0 ∷ 7 ∷ 0 ∷ 7 ∷ 0 ∷ 7 ∷ [])  -- again, one step less: the last step is the last row
    ∷ matching multiset_integer R (braces (nums (7 ∷ []))) 4 0 ⇒ (0 ∷ 0 ∷ 0 ∷ 4 ∷ 0 ∷ 0 ∷ []) writing []  -- cap 1: the second cons has no element
    ∷ matching multiset_integer apart (braces (nums (5 ∷ 5 ∷ 5 ∷ 5 ∷ []))) 145 48 ⇒ (0 ∷ 0 ∷ 24 ∷ 145 ∷ 48 ∷ 0 ∷ []) writing nums (0 ∷ 5 ∷ 0 ∷ 5 ∷ 0 ∷ 5 ∷ 0 ∷ 5 ∷ 0 ∷ 5 ∷ 0 ∷ 5 ∷ 0 ∷ 5 ∷ 0 ∷ 5 ∷ 0 ∷ 5 ∷ 0 ∷ 5 ∷ 0 ∷ 5 ∷ 0 ∷ 5 ∷ 0 ∷ 5 ∷ 0 ∷ 5 ∷ 0 ∷ 5 ∷ 0 ∷ 5 ∷ 0 ∷ 5 ∷ 0 ∷ 5 ∷ 0 ∷ 5 ∷ 0 ∷ 5 ∷ 0 ∷ 5 ∷ 0 ∷ 5 ∷ 0 ∷ 5 ∷ 0 ∷ 5 ∷ [])  -- a chain with a tag 3 at its end: 1 + 3*4 + 3*12 + 4*24
    ∷ matching multiset_integer apart (braces (nums (5 ∷ 5 ∷ 5 ∷ 5 ∷ []))) 144 48 ⇒ (7 ∷ 0 ∷ 23 ∷ 144 ∷ 46 ∷ 0 ∷ []) writing nums (0 ∷ 5 ∷ 0 ∷ 5 ∷ 0 ∷ 5 ∷ 0 ∷ 5 ∷ 0 ∷ 5 ∷ 0 ∷ 5 ∷ 0 ∷ 5 ∷ 0 ∷ 5 ∷ 0 ∷ 5 ∷ 0 ∷ 5 ∷ 0 ∷ 5 ∷ 0 ∷ 5 ∷ 0 ∷ 5 ∷ 0 ∷ 5 ∷ 0 ∷ 5 ∷ 0 ∷ 5 ∷ 0 ∷ 5 ∷ 0 ∷ 5 ∷ 0 ∷ 5 ∷ 0 ∷ 5 ∷ 0 ∷ 5 ∷ 0 ∷ 5 ∷ 0 ∷ 5 ∷ [])  -- again, one step less
    ∷ matching multiset_integer three (braces (nums (7 ∷ 7 ∷ []))) 13 0 ⇒ (0 ∷ 0 ∷ 0 ∷ 13 ∷ 0 ∷ 0 ∷ []) writing []  -- more conses than units: 1 + 3*2 + 3*2
    ∷ matching multiset_integer rest (braces (nums (2 ∷ 2 ∷ 2 ∷ []))) 40 24 ⇒ (0 ∷ 0 ∷ 6 ∷ 40 ∷ 24 ∷ 0 ∷ []) writing nums (1 ∷ 1 ∷ 0 ∷ 2 ∷ 1 ∷ 1 ∷ 0 ∷ 2 ∷ 1 ∷ 1 ∷ 0 ∷ 2 ∷ 1 ∷ 1 ∷ 0 ∷ 2 ∷ 1 ∷ 1 ∷ 0 ∷ 2 ∷ 1 ∷ 1 ∷ 0 ∷ 2 ∷ [])  -- the end a variable: 1 + 3*3 + 5*6, the rest has one unit
    ∷ matching multiset_integer R (braces (nums (1 ∷ 2 ∷ 3 ∷ []))) 34 12 ⇒ (0 ∷ 0 ∷ 0 ∷ 16 ∷ 0 ∷ 0 ∷ []) writing []  -- unequal integers take fewer: 1 + 3*3 + 6
    ∷ []

-- THE CLAIM: each line's numbers and words are what the definitions compute.
pub worked_counts_hold : map computed table ≡ map stated table
unfolding computed stated table
worked_counts_hold = refl

-- What answer 10 keeps to itself: five conses over wildcards at cap 64.
abbrev conses : ℕ → Pattern
conses zero = wildcard
conses (suc n) = cons wildcard (conses n)

pub five_conses : formula 64 (conses 5) (multiset integer) ≡ 4621216513
unfolding formula
five_conses = refl
