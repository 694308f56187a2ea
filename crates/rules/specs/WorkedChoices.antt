-- Document 02, No. 3: worked rules with and, or, not, in the form of section 8's table.
use Rattle.std.specs.Prelude.{ℕ, zero, suc, ◌≡◌, refl, List, [], ◌∷◌, ◌++◌, map, ℤ, pos}
use Rattle.rules.specs.Tables.{Case, matching, reviewing, ◌⇒◌writing◌, computed, stated, nums, minus, ints, braces}

abbrev something : List ℤ
something = nums (0 ∷ [])

abbrev integer : List ℤ
integer = nums (1 ∷ [])

abbrev list_integer : List ℤ
list_integer = nums (2 ∷ 1 ∷ [])

abbrev multiset_integer : List ℤ
multiset_integer = nums (3 ∷ 1 ∷ [])

-- Not nil.
abbrev not_nil : List ℤ
not_nil = nums (10 ∷ 4 ∷ [])

-- A value, and none equal to it in the rest.
abbrev alone : List ℤ
alone = nums (5 ∷ 1 ∷ 0 ∷ 10 ∷ 5 ∷ 3 ∷ 0 ∷ 0 ∷ 0 ∷ [])

-- n times "an or of two wildcards, and", then a wildcard; and a wildcard behind it.
abbrev sides : ℕ → List ℤ
sides zero = nums (0 ∷ 0 ∷ [])
sides (suc n) = nums (8 ∷ 9 ∷ 0 ∷ 0 ∷ []) ++ sides n

-- Not variable v, less and plus c; and so on.
abbrev apart : ℕ → ℕ → List ℤ
apart v c = pos 8 ∷ pos 10 ∷ pos 3 ∷ pos v ∷ minus c ∷ pos 8 ∷ pos 10 ∷ pos 3 ∷ pos v ∷ pos c ∷ []

-- Four queens: the numbers 1 to 4 in an order in which no two differ by as much as their places do.
abbrev queens : List ℤ
queens =
    nums (5 ∷ 1 ∷ 0 ∷ [])
    ++ (nums (5 ∷ []) ++ apart 0 1 ++ nums (1 ∷ 1 ∷ []))
    ++ (nums (5 ∷ []) ++ apart 0 2 ++ apart 1 1 ++ nums (1 ∷ 2 ∷ []))
    ++ (nums (5 ∷ []) ++ apart 0 3 ++ apart 1 2 ++ apart 2 1 ++ nums (1 ∷ 3 ∷ []))
    ++ nums (4 ∷ [])

unfoldable pub table : List Case
table =
    matching list_integer not_nil (braces (nums (5 ∷ []))) 3 0 ⇒ (0 ∷ 0 ∷ 1 ∷ 3 ∷ 0 ∷ 0 ∷ []) writing []  -- the state of the not, one inside it, the one that follows
    ∷ matching list_integer not_nil (braces []) 3 0 ⇒ (0 ∷ 0 ∷ 0 ∷ 3 ∷ 0 ∷ 0 ∷ []) writing []  -- the row inside is a step and is not written
    ∷ matching list_integer not_nil (braces (nums (5 ∷ []))) 2 0 ⇒ (7 ∷ 0 ∷ 0 ∷ 2 ∷ 0 ∷ 0 ∷ []) writing []  -- the budget ends with the search inside: the state that follows remains
    ∷ matching list_integer not_nil (braces (nums (5 ∷ []))) 1 0 ⇒ (7 ∷ 0 ∷ 0 ∷ 1 ∷ 0 ∷ 0 ∷ []) writing []  -- the budget ends before it
    ∷ matching list_integer not_nil (braces []) 2 0 ⇒ (7 ∷ 0 ∷ 0 ∷ 2 ∷ 0 ∷ 0 ∷ []) writing []  -- the budget ends inside it
    ∷ matching list_integer (nums (10 ∷ 10 ∷ 4 ∷ [])) (braces []) 9 0 ⇒ (0 ∷ 0 ∷ 1 ∷ 5 ∷ 0 ∷ 0 ∷ []) writing []  -- a not in a not
    ∷ matching list_integer (nums (10 ∷ 10 ∷ 4 ∷ [])) (braces (nums (5 ∷ []))) 9 0 ⇒ (0 ∷ 0 ∷ 0 ∷ 4 ∷ 0 ∷ 0 ∷ []) writing []
    ∷ matching multiset_integer (nums (10 ∷ 5 ∷ 0 ∷ 10 ∷ 5 ∷ 0 ∷ 0 ∷ [])) (braces (nums (1 ∷ 2 ∷ []))) 99 0 ⇒ (0 ∷ 0 ∷ 1 ∷ 21 ∷ 0 ∷ 0 ∷ []) writing []  -- the search inside goes on after a not in it
    ∷ matching multiset_integer (nums (10 ∷ 5 ∷ 0 ∷ 10 ∷ 5 ∷ 0 ∷ 0 ∷ [])) (braces (nums (1 ∷ []))) 99 0 ⇒ (0 ∷ 0 ∷ 0 ∷ 7 ∷ 0 ∷ 0 ∷ []) writing []  -- and ends at its first row
    ∷ matching integer (nums (9 ∷ 0 ∷ 2 ∷ 5 ∷ [])) (nums (0 ∷ 5 ∷ [])) 9 9 ⇒ (0 ∷ 0 ∷ 2 ∷ 6 ∷ 0 ∷ 0 ∷ []) writing []  -- both sides of an or hold: two rows
    ∷ matching integer (nums (9 ∷ 2 ∷ 4 ∷ 2 ∷ 5 ∷ [])) (nums (0 ∷ 5 ∷ [])) 9 9 ⇒ (0 ∷ 0 ∷ 1 ∷ 4 ∷ 0 ∷ 0 ∷ []) writing []  -- the second side alone
    ∷ matching integer (nums (9 ∷ 2 ∷ 5 ∷ 0 ∷ [])) (nums (0 ∷ 5 ∷ [])) 3 9 ⇒ (7 ∷ 0 ∷ 1 ∷ 3 ∷ 0 ∷ 0 ∷ []) writing []  -- the first side's row comes first
    ∷ matching integer (nums (8 ∷ 1 ∷ 0 ∷ 2 ∷ 5 ∷ [])) (nums (0 ∷ 5 ∷ [])) 9 9 ⇒ (0 ∷ 0 ∷ 1 ∷ 5 ∷ 2 ∷ 0 ∷ []) writing nums (0 ∷ 5 ∷ [])  -- and: the same value twice
    ∷ matching integer (nums (8 ∷ 1 ∷ 0 ∷ 10 ∷ 2 ∷ 6 ∷ [])) (nums (0 ∷ 5 ∷ [])) 9 9 ⇒ (0 ∷ 0 ∷ 1 ∷ 6 ∷ 2 ∷ 0 ∷ []) writing nums (0 ∷ 5 ∷ [])
    ∷ matching integer (nums (8 ∷ 1 ∷ 0 ∷ 10 ∷ 3 ∷ 0 ∷ 0 ∷ [])) (nums (0 ∷ 5 ∷ [])) 9 9 ⇒ (0 ∷ 0 ∷ 0 ∷ 6 ∷ 0 ∷ 0 ∷ []) writing []  -- a not reads the bindings held
    ∷ matching integer (nums (8 ∷ 9 ∷ 0 ∷ 0 ∷ 1 ∷ 0 ∷ [])) (nums (0 ∷ 5 ∷ [])) 99 9 ⇒ (0 ∷ 0 ∷ 2 ∷ 12 ∷ 4 ∷ 0 ∷ []) writing nums (0 ∷ 5 ∷ 0 ∷ 5 ∷ [])  -- a variable after an or
    ∷ matching something (nums (8 ∷ 9 ∷ 0 ∷ 0 ∷ 10 ∷ 10 ∷ 0 ∷ [])) (nums (0 ∷ 5 ∷ [])) 99 0 ⇒ (0 ∷ 0 ∷ 2 ∷ 14 ∷ 0 ∷ 0 ∷ []) writing []  -- under something
    ∷ matching (nums (4 ∷ 2 ∷ 1 ∷ 1 ∷ [])) (nums (8 ∷ 7 ∷ 2 ∷ 1 ∷ 0 ∷ 0 ∷ 7 ∷ 2 ∷ 0 ∷ 10 ∷ 3 ∷ 0 ∷ 0 ∷ [])) (nums (2 ∷ 2 ∷ 0 ∷ 3 ∷ 0 ∷ 4 ∷ [])) 99 9 ⇒ (0 ∷ 0 ∷ 1 ∷ 12 ∷ 2 ∷ 0 ∷ []) writing nums (0 ∷ 3 ∷ [])  -- a pair of two unequal numbers
    ∷ matching list_integer (nums (6 ∷ 1 ∷ 0 ∷ 9 ∷ 4 ∷ 5 ∷ 0 ∷ 4 ∷ [])) (braces (nums (7 ∷ 8 ∷ []))) 99 99 ⇒ (0 ∷ 0 ∷ 2 ∷ 24 ∷ 10 ∷ 0 ∷ []) writing nums (1 ∷ 1 ∷ 0 ∷ 7 ∷ 1 ∷ 2 ∷ 0 ∷ 7 ∷ 0 ∷ 8 ∷ [])  -- all but the last, and all
    ∷ matching multiset_integer alone (braces (nums (2 ∷ 8 ∷ 2 ∷ []))) 99 9 ⇒ (0 ∷ 0 ∷ 1 ∷ 25 ∷ 2 ∷ 0 ∷ []) writing nums (0 ∷ 8 ∷ [])  -- one of a rank that no other has
    ∷ matching multiset_integer alone (braces (nums (2 ∷ 8 ∷ 2 ∷ []))) 8 9 ⇒ (7 ∷ 0 ∷ 0 ∷ 8 ∷ 0 ∷ 0 ∷ []) writing []
    ∷ matching multiset_integer alone (braces (nums (2 ∷ 8 ∷ 2 ∷ []))) 99 1 ⇒ (8 ∷ 0 ∷ 0 ∷ 17 ∷ 0 ∷ 0 ∷ []) writing []
    ∷ matching multiset_integer (nums (5 ∷ 8 ∷ 1 ∷ 0 ∷ 9 ∷ 2 ∷ 4 ∷ 2 ∷ 9 ∷ 5 ∷ 8 ∷ 10 ∷ 3 ∷ 0 ∷ 0 ∷ 9 ∷ 2 ∷ 4 ∷ 2 ∷ 9 ∷ 0 ∷ [])) (braces (nums (9 ∷ 4 ∷ 7 ∷ 9 ∷ []))) 999 64 ⇒ (0 ∷ 0 ∷ 4 ∷ 90 ∷ 8 ∷ 0 ∷ []) writing nums (0 ∷ 9 ∷ 0 ∷ 4 ∷ 0 ∷ 4 ∷ 0 ∷ 9 ∷ [])  -- a fort or a harbour (4 or 9), and another of the other
    ∷ matching multiset_integer queens (braces (nums (1 ∷ 2 ∷ 3 ∷ 4 ∷ []))) 10000 64 ⇒ (0 ∷ 0 ∷ 2 ∷ 319 ∷ 16 ∷ 0 ∷ []) writing nums (0 ∷ 2 ∷ 0 ∷ 4 ∷ 0 ∷ 1 ∷ 0 ∷ 3 ∷ 0 ∷ 3 ∷ 0 ∷ 1 ∷ 0 ∷ 4 ∷ 0 ∷ 2 ∷ [])  -- four queens
    ∷ reviewing multiset_integer (nums (5 ∷ 9 ∷ 2 ∷ 1 ∷ 2 ∷ 2 ∷ 0 ∷ [])) (pos 3) ⇒ (0 ∷ 0 ∷ 28 ∷ []) writing []  -- 1 + 3 * 3 + 6 * 2 + 6
    ∷ reviewing integer (nums (9 ∷ 0 ∷ 2 ∷ 5 ∷ [])) (pos 3) ⇒ (0 ∷ 0 ∷ 6 ∷ []) writing []
    ∷ reviewing list_integer not_nil (pos 3) ⇒ (0 ∷ 0 ∷ 4 ∷ []) writing []  -- 1 + (1 + 1) + 1
    ∷ reviewing multiset_integer (nums (10 ∷ 5 ∷ 0 ∷ 0 ∷ [])) (pos 0) ⇒ (0 ∷ 0 ∷ 3 ∷ []) writing []  -- a not whose inner factor is 0: 1 + (1 + 0) + 1
    ∷ reviewing multiset_integer (pos 5 ∷ sides 40) (pos 0) ⇒ (0 ∷ 0 ∷ 1 ∷ []) writing []  -- 2^40 ways inside, times 0
    ∷ reviewing multiset_integer (pos 5 ∷ sides 40) (pos 1) ⇒ (10 ∷ 0 ∷ 0 ∷ []) writing []
    ∷ []

-- THE CLAIM: each line's numbers and words are what the definitions compute.
pub worked_choices_hold : map computed table ≡ map stated table
unfolding computed stated table
worked_choices_hold = refl
