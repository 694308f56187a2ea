-- Document 02, No. 10: worked cases of the other search order, in one table under one claim.
use Rattle.std.specs.Prelude.{ℕ, ◌-◌, ◌≡◌, refl, List, [], ◌∷◌, ◌++◌, map, length, replicate, ℤ, pos}
use Rattle.rules.specs.Tables.{Outcome, held, of_match, nums, ints, braces}
use Rattle.round_rules.specs.Rounds.{states_in, match_rounds_picked}

-- Row form, dialect, matcher, pattern, target; how many states the table holds, budget, room; the six numbers, and the words written.
pub record Case : Type 0 where
  pub form : ℕ
  pub dialect : ℕ
  pub matcher : List ℤ
  pub pattern : List ℤ
  pub target : List ℤ
  pub table : ℕ
  pub budget : ℕ
  pub room : ℕ
  pub numbers : List ℕ
  pub written : List ℤ

unfoldable pub asked_in : (form dialect : ℕ) (ms ps ts : List ℤ) (table budget room : ℕ) (ns : List ℕ) (ws : List ℤ) → Case
asked_in form dialect ms ps ts table budget room ns ws =
    record { form = form; dialect = dialect; matcher = ms; pattern = ps; target = ts; table = table; budget = budget; room = room; numbers = ns; written = ws }

-- Rows in form 1, dialect 1.
unfoldable pub asked : (ms ps ts : List ℤ) (table budget room : ℕ) (ns : List ℕ) (ws : List ℤ) → Case
unfolding asked_in
asked ms ps ts table budget room ns ws = asked_in 1 1 ms ps ts table budget room ns ws

unfoldable pub computed : Case → Outcome
unfolding match_rounds_picked of_match held
computed c = of_match (match_rounds_picked c.form c.dialect c.matcher c.pattern c.target c.table c.budget (held c.room))

unfoldable pub stated : Case → Outcome
unfolding held
stated c = record { numbers = c.numbers; room = c.written ++ held (c.room - length c.written) }

abbrev multiset_integer : List ℤ
multiset_integer = nums (3 ∷ 1 ∷ [])

abbrev list_integer : List ℤ
list_integer = nums (2 ∷ 1 ∷ [])

abbrev something : List ℤ
something = nums (0 ∷ [])

-- A value, and none equal to it in the rest.
abbrev alone : List ℤ
alone = nums (5 ∷ 1 ∷ 0 ∷ 10 ∷ 5 ∷ 3 ∷ 0 ∷ 0 ∷ 0 ∷ [])

-- Two of three units; a front and a back; a unit and then a cons with a join behind it, or anything; two units.
abbrev pair : List ℤ
pair = nums (5 ∷ 1 ∷ 0 ∷ 5 ∷ 1 ∷ 1 ∷ 0 ∷ [])

abbrev halves : List ℤ
halves = nums (6 ∷ 1 ∷ 0 ∷ 1 ∷ 1 ∷ [])

abbrev sides : List ℤ
sides = nums (5 ∷ 1 ∷ 0 ∷ 9 ∷ 5 ∷ 0 ∷ 6 ∷ 0 ∷ 0 ∷ 0 ∷ [])

-- Two units of some that are equal.
abbrev two : List ℤ
two = nums (5 ∷ 0 ∷ 5 ∷ 0 ∷ 0 ∷ [])

abbrev equals : ℕ → List ℤ
equals n = braces (replicate n (pos 7))

abbrev pair_rows : List ℤ
pair_rows = ints (nums (1 ∷ 2 ∷ 2 ∷ 1 ∷ 1 ∷ 3 ∷ 3 ∷ 1 ∷ 2 ∷ 3 ∷ 3 ∷ 2 ∷ []))

unfoldable pub table : List Case
unfolding asked_in asked states_in
table =
    asked multiset_integer pair (braces (nums (1 ∷ 2 ∷ 3 ∷ []))) 257 1000 64 (0 ∷ 0 ∷ 6 ∷ 40 ∷ 24 ∷ 0 ∷ []) pair_rows  -- the rows of each round together
    ∷ asked multiset_integer pair (braces (nums (1 ∷ 2 ∷ 3 ∷ []))) 6 1000 64 (0 ∷ 0 ∷ 6 ∷ 40 ∷ 24 ∷ 0 ∷ []) pair_rows  -- a table of six is enough
    ∷ asked multiset_integer pair (braces (nums (1 ∷ 2 ∷ 3 ∷ []))) 5 1000 64 (21 ∷ 0 ∷ 0 ∷ 14 ∷ 0 ∷ 0 ∷ []) []  -- of five: round 7 would begin with six
    ∷ asked multiset_integer pair (braces (nums (1 ∷ 2 ∷ 3 ∷ []))) 5 14 64 (7 ∷ 0 ∷ 0 ∷ 14 ∷ 0 ∷ 0 ∷ []) []  -- the budget ends with round 6
    ∷ asked multiset_integer pair (braces (nums (1 ∷ 2 ∷ 3 ∷ []))) 5 15 64 (21 ∷ 0 ∷ 0 ∷ 14 ∷ 0 ∷ 0 ∷ []) []
    ∷ asked multiset_integer pair (braces (nums (1 ∷ 2 ∷ 3 ∷ []))) 6 1000 6 (8 ∷ 0 ∷ 1 ∷ 32 ∷ 4 ∷ 0 ∷ []) (ints (nums (1 ∷ 2 ∷ [])))  -- the second row, in round 10, does not fit
    ∷ asked_in 2 1 multiset_integer pair (braces (nums (1 ∷ 2 ∷ 3 ∷ []))) 6 40 13 (8 ∷ 0 ∷ 2 ∷ 34 ∷ 12 ∷ 0 ∷ []) (nums (2 ∷ 0 ∷ 0 ∷ 4 ∷ 0 ∷ 0 ∷ 4 ∷ 0 ∷ 0 ∷ 2 ∷ 0 ∷ 0 ∷ []))  -- form 2: where the units stand, in the same order
    ∷ asked_in 3 3 [] pair (braces (nums (1 ∷ 2 ∷ 3 ∷ []))) 6 40 13 (20 ∷ 0 ∷ 0 ∷ 0 ∷ 0 ∷ 0 ∷ []) []  -- 20 before 1
    ∷ asked_in 1 3 [] pair (braces (nums (1 ∷ 2 ∷ 3 ∷ []))) 6 40 13 (22 ∷ 0 ∷ 0 ∷ 0 ∷ 0 ∷ 0 ∷ []) []  -- 22 after it
    ∷ asked_in 1 2 multiset_integer pair (braces (nums (2 ∷ 8 ∷ 2 ∷ []))) 257 1000 64 (0 ∷ 0 ∷ 3 ∷ 22 ∷ 12 ∷ 0 ∷ []) (ints (nums (2 ∷ 8 ∷ 8 ∷ 2 ∷ 2 ∷ 2 ∷ [])))  -- dialect 2: (2 8) in round 9, (8 2) and (2 2) in round 10
    ∷ asked list_integer halves (braces (nums (1 ∷ []))) 1 1 99 (7 ∷ 0 ∷ 0 ∷ 1 ∷ 0 ∷ 0 ∷ []) []  -- 7 against 21
    ∷ asked list_integer halves (braces (nums (1 ∷ []))) 1 2 99 (21 ∷ 0 ∷ 0 ∷ 1 ∷ 0 ∷ 0 ∷ []) []
    ∷ asked list_integer halves (braces (nums (1 ∷ []))) 0 0 99 (7 ∷ 0 ∷ 0 ∷ 0 ∷ 0 ∷ 0 ∷ []) []
    ∷ asked list_integer halves (braces (nums (1 ∷ []))) 0 99 99 (21 ∷ 0 ∷ 0 ∷ 0 ∷ 0 ∷ 0 ∷ []) []  -- a table that holds none
    ∷ asked something (nums (9 ∷ 8 ∷ 0 ∷ 0 ∷ 0 ∷ [])) (nums (0 ∷ 1 ∷ [])) 257 5 0 (7 ∷ 0 ∷ 0 ∷ 5 ∷ 0 ∷ 0 ∷ []) []  -- an or: the shorter second side has its row first
    ∷ asked something (nums (9 ∷ 8 ∷ 0 ∷ 0 ∷ 0 ∷ [])) (nums (0 ∷ 1 ∷ [])) 257 6 0 (7 ∷ 0 ∷ 1 ∷ 6 ∷ 0 ∷ 0 ∷ []) []
    ∷ asked list_integer (nums (10 ∷ 4 ∷ [])) (braces (nums (5 ∷ []))) 1 99 0 (0 ∷ 0 ∷ 1 ∷ 3 ∷ 0 ∷ 0 ∷ []) []  -- a not: its inner state counts at once
    ∷ asked list_integer sides (braces (nums (1 ∷ 2 ∷ 3 ∷ 4 ∷ []))) 2 99 99 (21 ∷ 0 ∷ 1 ∷ 11 ∷ 2 ∷ 0 ∷ []) (nums (0 ∷ 1 ∷ []))  -- a row in the last step of a round
    ∷ asked list_integer sides (braces (nums (1 ∷ 2 ∷ 3 ∷ 4 ∷ []))) 2 99 1 (8 ∷ 0 ∷ 0 ∷ 11 ∷ 0 ∷ 0 ∷ []) []
    ∷ asked list_integer (nums (10 ∷ 4 ∷ [])) (braces (nums (5 ∷ []))) 1 1 0 (7 ∷ 0 ∷ 0 ∷ 1 ∷ 0 ∷ 0 ∷ []) []  -- the budget ends with the not's own state
    ∷ asked list_integer (nums (10 ∷ 4 ∷ [])) (braces (nums (5 ∷ []))) 1 2 0 (7 ∷ 0 ∷ 0 ∷ 2 ∷ 0 ∷ 0 ∷ []) []
    ∷ asked list_integer (nums (10 ∷ 10 ∷ 4 ∷ [])) (braces (nums (5 ∷ []))) 1 99 0 (0 ∷ 0 ∷ 0 ∷ 4 ∷ 0 ∷ 0 ∷ []) []  -- a not inside a not
    ∷ asked list_integer (nums (10 ∷ 10 ∷ 4 ∷ [])) (braces []) 1 99 0 (0 ∷ 0 ∷ 1 ∷ 5 ∷ 0 ∷ 0 ∷ []) []
    ∷ asked multiset_integer alone (braces (nums (2 ∷ 8 ∷ 2 ∷ []))) 257 99 9 (0 ∷ 0 ∷ 1 ∷ 25 ∷ 2 ∷ 0 ∷ []) (nums (0 ∷ 8 ∷ []))  -- a not in each of three lists
    ∷ asked multiset_integer alone (braces (nums (2 ∷ 8 ∷ 2 ∷ []))) 257 9 9 (7 ∷ 0 ∷ 0 ∷ 9 ∷ 0 ∷ 0 ∷ []) []  -- the budget ends inside the first
    ∷ asked multiset_integer alone (nums (1 ∷ 2 ∷ 0 ∷ 2 ∷ 1 ∷ 0 ∷ [])) 257 9 9 (6 ∷ 4 ∷ 0 ∷ 0 ∷ 0 ∷ 0 ∷ []) []  -- refused as in the other order
    ∷ asked multiset_integer two (equals 20) 1000 10000 0 (21 ∷ 0 ∷ 105 ∷ 745 ∷ 0 ∷ 0 ∷ []) []  -- round 23 would begin with 257 states, however large the table
    ∷ asked multiset_integer two (equals 19) 237 10000 0 (0 ∷ 0 ∷ 342 ∷ 1768 ∷ 0 ∷ 0 ∷ []) []  -- at most 237 wait
    ∷ asked multiset_integer pair (braces (nums (1 ∷ 2 ∷ 3 ∷ []))) (states_in 511 3066) 1000 64 (0 ∷ 0 ∷ 6 ∷ 40 ∷ 24 ∷ 0 ∷ []) pair_rows  -- six states of 511 words
    ∷ asked multiset_integer pair (braces (nums (1 ∷ 2 ∷ 3 ∷ []))) (states_in 511 3065) 1000 64 (21 ∷ 0 ∷ 0 ∷ 14 ∷ 0 ∷ 0 ∷ []) []  -- one word less
    ∷ []

-- THE CLAIM: each line's numbers and words are what the definitions compute.
pub worked_rounds_hold : map computed table ≡ map stated table
unfolding computed stated table
worked_rounds_hold = refl
