-- Document 02, No. 13: worked cases of both dialects, in one table under one claim.
use Rattle.std.specs.Prelude.{ℕ, ◌-◌, ◌≡◌, refl, List, [], ◌∷◌, ◌++◌, map, length, replicate, ℤ, pos}
use Rattle.rules.specs.Tables.{Outcome, held, of_match, of_review, nums, ints, braces}
use Rattle.rules.specs.Services.{match_picked, review_picked}

-- Row form, dialect, matcher, pattern, target, budget, room; or dialect, matcher, pattern, cap. The numbers, and the words written.
pub data Case : Type 0 where
  asks : (form dialect : ℕ) (ms ps ts : List ℤ) (budget room : ℕ) (numbers : List ℕ) (written : List ℤ) → Case
  reviews : (dialect : ℕ) (ms ps : List ℤ) (cap : ℤ) (numbers : List ℕ) → Case

unfoldable pub computed : Case → Outcome
unfolding match_picked review_picked of_match of_review held
computed (asks f d ms ps ts b n ns ws) = of_match (match_picked f d ms ps ts b (held n))
computed (reviews d ms ps cap ns) = of_review (review_picked d ms ps cap)

unfoldable pub stated : Case → Outcome
unfolding held
stated (asks f d ms ps ts b n ns ws) = record { numbers = ns; room = ws ++ held (n - length ws) }
stated (reviews d ms ps cap ns) = record { numbers = ns; room = [] }

-- Multisets of integers, of multisets, of lists, of something; and a pair of a multiset of multisets and a list.
abbrev integers : List ℤ
integers = nums (3 ∷ 1 ∷ [])

abbrev multisets : List ℤ
multisets = nums (3 ∷ 3 ∷ 1 ∷ [])

abbrev lists : List ℤ
lists = nums (3 ∷ 2 ∷ 1 ∷ [])

abbrev anything : List ℤ
anything = nums (3 ∷ 0 ∷ [])

abbrev pair_of : List ℤ
pair_of = nums (4 ∷ 2 ∷ 3 ∷ 3 ∷ 1 ∷ 2 ∷ 1 ∷ [])

-- Two of a rank; a unit and the rest; a unit; two units; a multiset of the first that is the list beside it.
abbrev rank : List ℤ
rank = nums (5 ∷ 1 ∷ 0 ∷ 5 ∷ 3 ∷ 0 ∷ 0 ∷ 0 ∷ [])

abbrev rest : List ℤ
rest = nums (5 ∷ 1 ∷ 0 ∷ 1 ∷ 1 ∷ [])

abbrev unit : List ℤ
unit = nums (5 ∷ 1 ∷ 0 ∷ 0 ∷ [])

abbrev two : List ℤ
two = nums (5 ∷ 1 ∷ 0 ∷ 5 ∷ 1 ∷ 1 ∷ 0 ∷ [])

abbrev beside : List ℤ
beside = nums (7 ∷ 2 ∷ 5 ∷ 1 ∷ 0 ∷ 0 ∷ 3 ∷ 0 ∷ 0 ∷ [])

-- {2 8 2}; {{1 2} {2 1}}; the same and {2 1}.
abbrev units : List ℤ
units = braces (nums (2 ∷ 8 ∷ 2 ∷ []))

abbrev turned : List ℤ
turned = nums (1 ∷ 2 ∷ []) ++ (braces (nums (1 ∷ 2 ∷ [])) ++ braces (nums (2 ∷ 1 ∷ [])))

abbrev both : List ℤ
both = nums (2 ∷ 2 ∷ []) ++ (turned ++ braces (nums (2 ∷ 1 ∷ [])))

unfoldable pub table : List Case
table =
    asks 1 2 integers rank units 1000 64 (0 ∷ 0 ∷ 1 ∷ 13 ∷ 2 ∷ 0 ∷ []) (ints (nums (2 ∷ [])))  -- the second 2 is not tried first
    ∷ asks 2 2 integers rank units 1000 64 (0 ∷ 0 ∷ 1 ∷ 13 ∷ 3 ∷ 0 ∷ []) (nums (2 ∷ 0 ∷ 0 ∷ []))  -- the first place stands for the value
    ∷ asks 1 1 integers rank units 1000 64 (0 ∷ 0 ∷ 2 ∷ 22 ∷ 4 ∷ 0 ∷ []) (ints (nums (2 ∷ 2 ∷ [])))  -- dialect 1 as ever
    ∷ asks 1 2 integers rest units 1000 64 (0 ∷ 0 ∷ 2 ∷ 11 ∷ 16 ∷ 0 ∷ [])
    (ints (nums (2 ∷ [])) ++ (braces (nums (8 ∷ 2 ∷ [])) ++ (ints (nums (8 ∷ [])) ++ braces (nums (2 ∷ 2 ∷ [])))))  -- the rest loses only that one place
    ∷ asks 1 2 multisets unit turned 1000 64 (0 ∷ 0 ∷ 1 ∷ 6 ∷ 6 ∷ 0 ∷ []) (braces (nums (1 ∷ 2 ∷ [])))  -- equal as multisets
    ∷ asks 1 2 lists unit turned 1000 64 (0 ∷ 0 ∷ 2 ∷ 11 ∷ 12 ∷ 0 ∷ []) (braces (nums (1 ∷ 2 ∷ [])) ++ braces (nums (2 ∷ 1 ∷ [])))  -- unequal as lists
    ∷ asks 1 2 integers two (braces (nums (2 ∷ 2 ∷ []))) 1000 64 (0 ∷ 0 ∷ 1 ∷ 9 ∷ 4 ∷ 0 ∷ []) (ints (nums (2 ∷ 2 ∷ [])))  -- compared among what remains
    ∷ asks 3 3 (nums (9 ∷ [])) (nums (0 ∷ [])) (nums (1 ∷ 0 ∷ [])) 9 9 (20 ∷ 0 ∷ 0 ∷ 0 ∷ 0 ∷ 0 ∷ []) []  -- 20 before 22
    ∷ asks 1 3 (nums (9 ∷ [])) (nums (0 ∷ [])) (nums (1 ∷ 0 ∷ [])) 9 9 (22 ∷ 0 ∷ 0 ∷ 0 ∷ 0 ∷ 0 ∷ []) []  -- 22 before 1
    ∷ asks 1 0 (nums (9 ∷ [])) (nums (0 ∷ [])) (nums (1 ∷ 0 ∷ [])) 9 9 (22 ∷ 0 ∷ 0 ∷ 0 ∷ 0 ∷ 0 ∷ []) []
    ∷ asks 1 2 anything (nums (5 ∷ 6 ∷ 0 ∷ 0 ∷ 0 ∷ [])) (nums (1 ∷ 0 ∷ [])) 9 9 (4 ∷ 0 ∷ 0 ∷ 0 ∷ 0 ∷ 0 ∷ []) []  -- the cons, before the join inside
    ∷ asks 1 1 anything (nums (5 ∷ 6 ∷ 0 ∷ 0 ∷ 0 ∷ [])) (nums (1 ∷ 0 ∷ [])) 9 9 (4 ∷ 1 ∷ 0 ∷ 0 ∷ 0 ∷ 0 ∷ []) []
    ∷ asks 1 2 anything (nums (0 ∷ [])) (braces (nums (1 ∷ 1 ∷ []))) 9 9 (0 ∷ 0 ∷ 1 ∷ 3 ∷ 0 ∷ 0 ∷ []) []  -- a wildcard is not concerned
    ∷ asks 1 2 (nums (2 ∷ 0 ∷ [])) unit (braces (nums (1 ∷ 1 ∷ []))) 9 9 (0 ∷ 0 ∷ 1 ∷ 5 ∷ 2 ∷ 0 ∷ []) (ints (nums (1 ∷ [])))  -- nor a cons under a list
    ∷ asks 1 1 pair_of beside both 99 99 (0 ∷ 0 ∷ 1 ∷ 13 ∷ 6 ∷ 0 ∷ []) (braces (nums (2 ∷ 1 ∷ [])))
    ∷ asks 1 2 pair_of beside both 99 99 (0 ∷ 0 ∷ 0 ∷ 7 ∷ 0 ∷ 0 ∷ []) []  -- a row that is lost: {1 2} stands for both, and is not the list {2 1}
    ∷ asks 1 2 integers rank (braces (replicate 64 (pos 7))) 1000 64 (0 ∷ 0 ∷ 1 ∷ 8 ∷ 2 ∷ 0 ∷ []) (ints (nums (7 ∷ [])))  -- 64 equal units
    ∷ reviews 3 (nums (9 ∷ [])) (nums (0 ∷ [])) (pos 99) (22 ∷ 0 ∷ 0 ∷ [])
    ∷ reviews 2 anything (nums (5 ∷ 0 ∷ 0 ∷ [])) (pos 3) (4 ∷ 0 ∷ 0 ∷ [])
    ∷ reviews 1 anything (nums (5 ∷ 0 ∷ 0 ∷ [])) (pos 3) (0 ∷ 0 ∷ 13 ∷ [])
    ∷ reviews 2 integers rank (pos 3) (0 ∷ 0 ∷ 34 ∷ [])
    ∷ reviews 1 integers rank (pos 3) (0 ∷ 0 ∷ 34 ∷ [])
    ∷ reviews 2 anything (nums (1 ∷ 0 ∷ [])) (pos 65) (11 ∷ 0 ∷ 0 ∷ [])
    ∷ reviews 2 integers rank (pos 65) (9 ∷ 0 ∷ 0 ∷ [])
    ∷ []

-- THE CLAIM: each line's numbers and words are what the definitions compute.
pub worked_dialects_hold : map computed table ≡ map stated table
unfolding computed stated table
worked_dialects_hold = refl
