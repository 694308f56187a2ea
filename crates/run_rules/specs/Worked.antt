-- Document 02, No. 8: worked scripts, each line computed, under one claim.
use Rattle.std.specs.Prelude.{ℕ, ◌+◌, ◌≡◌, refl, List, [], ◌∷◌, ◌++◌, map, length, take, drop, replicate, ℤ, pos}
use Rattle.rules.specs.Tables.{held, nums, minus, braces}
use Rattle.run_rules.specs.Lent.{Numbers, Lent, opened, advanced}

-- A line of a script: an advance by some steps that lends the first words of the game's room, the numbers it must answer, where it must have written and
-- what; or the game writes one word into the whole room.
pub data Line : Type 0 where
  advances : (portion lent : ℕ) (numbers : List ℕ) (at : ℕ) (written : List ℤ) → Line
  fills : ℤ → Line

-- Row form, dialect, matcher, pattern, target, room size; what the opening must answer; the lines.
pub record Script : Type 0 where
  pub form : ℕ
  pub dialect : ℕ
  pub matcher : List ℤ
  pub pattern : List ℤ
  pub target : List ℤ
  pub size : ℕ
  pub answer : List ℕ
  pub lines : List Line

-- What an opening or a line shows: its numbers, and the game's whole room.
pub record Seen : Type 0 where
  pub numbers : List ℕ
  pub room : List ℤ

unfoldable pub listed : Numbers → List ℕ
listed k = k.answer ∷ k.place ∷ k.rows ∷ k.steps ∷ k.words ∷ k.cause ∷ []

unfoldable pub filled : ℤ → List ℤ → List ℤ
filled x room = replicate (length room) x

unfoldable pub played : Lent → (room : List ℤ) → List Line → List Seen
unfolding listed filled advanced
played l room [] = []
played l room (advances n lent ns at ws ∷ ls) =
    let a = advanced n (take lent room) l in
    let now = a.room ++ drop lent room in
    record { numbers = listed a.numbers; room = now } ∷ played a.run now ls
played l room (fills x ∷ ls) = played l (filled x room) ls

-- Only the words stated change.
unfoldable pub said : (room : List ℤ) → List Line → List Seen
unfolding filled
said room [] = []
said room (advances n lent ns at ws ∷ ls) =
    let now = take at room ++ (ws ++ drop (at + length ws) room) in
    record { numbers = ns; room = now } ∷ said now ls
said room (fills x ∷ ls) = said (filled x room) ls

-- The game's room has nine words, each 77 at the opening.
abbrev game_room : List ℤ
game_room = held 9

unfoldable pub computed : Script → List Seen
unfolding played opened held
computed s =
    let o = opened s.form s.dialect s.matcher s.pattern s.target s.size in
    record { numbers = o.answer ∷ o.place ∷ o.cause ∷ []; room = game_room } ∷ played o.run game_room s.lines

unfoldable pub stated : Script → List Seen
unfolding said held
stated s = record { numbers = s.answer; room = game_room } ∷ said game_room s.lines

-- ---- The scripts.

unfoldable pub script_in : (form dialect : ℕ) (ms ps ts : List ℤ) (size : ℕ) → List ℕ → List Line → Script
script_in form dialect ms ps ts size ns ls = record { form = form; dialect = dialect; matcher = ms; pattern = ps; target = ts; size = size; answer = ns; lines = ls }

-- Rows in form 1, dialect 1.
unfoldable pub script : (ms ps ts : List ℤ) (size : ℕ) → List ℕ → List Line → Script
unfolding script_in
script ms ps ts size ns ls = script_in 1 1 ms ps ts size ns ls

-- P1: two of a rank on {2 8 2}; the rows, of two words each, are at the steps 9 and 21 of 22.
unfoldable pub pair : (size : ℕ) → List Line → Script
unfolding script
pair size ls = script (nums (3 ∷ 1 ∷ [])) (nums (5 ∷ 1 ∷ 0 ∷ 5 ∷ 3 ∷ 0 ∷ 0 ∷ 0 ∷ [])) (braces (nums (2 ∷ 8 ∷ 2 ∷ []))) size (0 ∷ 0 ∷ 0 ∷ []) ls

abbrev two : List ℤ
two = nums (0 ∷ 2 ∷ [])

abbrev other : List ℕ
other = 19 ∷ 0 ∷ 0 ∷ 0 ∷ 0 ∷ 0 ∷ []

unfoldable pub scripts : List Script
unfolding script_in script pair
scripts =
    -- In portions, past the end.
    pair 8 (
    advances 8 8 (7 ∷ 0 ∷ 0 ∷ 8 ∷ 0 ∷ 0 ∷ []) 0 []
    ∷ advances 1 8 (7 ∷ 0 ∷ 1 ∷ 9 ∷ 2 ∷ 0 ∷ []) 0 two
    ∷ advances 11 8 (7 ∷ 0 ∷ 1 ∷ 20 ∷ 2 ∷ 0 ∷ []) 2 []
    ∷ advances 1 8 (7 ∷ 0 ∷ 2 ∷ 21 ∷ 4 ∷ 0 ∷ []) 2 two
    ∷ advances 1 8 (0 ∷ 0 ∷ 2 ∷ 22 ∷ 4 ∷ 0 ∷ []) 4 []
    ∷ advances 5 8 (0 ∷ 0 ∷ 2 ∷ 22 ∷ 4 ∷ 0 ∷ []) 4 []
    ∷ []
    )
    -- Portions of 0.
    ∷ pair 8 (
    advances 0 8 (7 ∷ 0 ∷ 0 ∷ 0 ∷ 0 ∷ 0 ∷ []) 0 []
    ∷ advances 9 8 (7 ∷ 0 ∷ 1 ∷ 9 ∷ 2 ∷ 0 ∷ []) 0 two
    ∷ advances 0 8 (7 ∷ 0 ∷ 1 ∷ 9 ∷ 2 ∷ 0 ∷ []) 2 []
    ∷ advances 13 8 (0 ∷ 0 ∷ 2 ∷ 22 ∷ 4 ∷ 0 ∷ []) 2 two
    ∷ advances 0 8 (0 ∷ 0 ∷ 2 ∷ 22 ∷ 4 ∷ 0 ∷ []) 4 []
    ∷ []
    )
    -- A room of three words: the second row does not fit, at step 21; then it has ended.
    ∷ pair 3 (
    advances 20 3 (7 ∷ 0 ∷ 1 ∷ 20 ∷ 2 ∷ 0 ∷ []) 0 two
    ∷ advances 1 3 (8 ∷ 0 ∷ 1 ∷ 21 ∷ 2 ∷ 0 ∷ []) 2 []
    ∷ advances 0 3 (8 ∷ 0 ∷ 1 ∷ 21 ∷ 2 ∷ 0 ∷ []) 2 []
    ∷ advances 4294967295 3 (8 ∷ 0 ∷ 1 ∷ 21 ∷ 2 ∷ 0 ∷ []) 2 []
    ∷ []
    )
    -- A sum past the largest is cut; it does not begin anew.
    ∷ pair 4 (
    advances 5 4 (7 ∷ 0 ∷ 0 ∷ 5 ∷ 0 ∷ 0 ∷ []) 0 []
    ∷ advances 4294967295 4 (0 ∷ 0 ∷ 2 ∷ 22 ∷ 4 ∷ 0 ∷ []) 0 (two ++ two)
    ∷ advances 4294967295 4 (0 ∷ 0 ∷ 2 ∷ 22 ∷ 4 ∷ 0 ∷ []) 4 []
    ∷ []
    )
    -- A room of another size, before anything else: the portion does not count, also after the end.
    ∷ pair 8 (
    advances 9 7 other 0 []
    ∷ advances 9 8 (7 ∷ 0 ∷ 1 ∷ 9 ∷ 2 ∷ 0 ∷ []) 0 two
    ∷ advances 100 9 other 2 []
    ∷ advances 100 8 (0 ∷ 0 ∷ 2 ∷ 22 ∷ 4 ∷ 0 ∷ []) 2 two
    ∷ advances 0 0 other 4 []
    ∷ advances 1 8 (0 ∷ 0 ∷ 2 ∷ 22 ∷ 4 ∷ 0 ∷ []) 4 []
    ∷ []
    )
    -- Refused at the opening: 65 is no count.
    ∷ script (nums (3 ∷ 1 ∷ [])) (nums (5 ∷ 1 ∷ 0 ∷ 5 ∷ 3 ∷ 0 ∷ 0 ∷ 0 ∷ [])) (nums (1 ∷ 65 ∷ [])) 2 (5 ∷ 1 ∷ 3 ∷ []) (
    advances 100 2 (5 ∷ 1 ∷ 0 ∷ 0 ∷ 0 ∷ 3 ∷ []) 0 []
    ∷ advances 0 3 other 0 []
    ∷ advances 0 2 (5 ∷ 1 ∷ 0 ∷ 0 ∷ 0 ∷ 3 ∷ []) 0 []
    ∷ []
    )
    -- The game writes over the room: rows before are not written again.
    ∷ pair 8 (
    advances 9 8 (7 ∷ 0 ∷ 1 ∷ 9 ∷ 2 ∷ 0 ∷ []) 0 two
    ∷ fills (minus 1)
    ∷ advances 12 8 (7 ∷ 0 ∷ 2 ∷ 21 ∷ 4 ∷ 0 ∷ []) 2 two
    ∷ fills (pos 5)
    ∷ advances 12 8 (0 ∷ 0 ∷ 2 ∷ 22 ∷ 4 ∷ 0 ∷ []) 4 []
    ∷ []
    )
    -- Left and taken up again inside a not; a row of no words.
    ∷ script (nums (2 ∷ 1 ∷ [])) (nums (10 ∷ 4 ∷ [])) (braces (nums (5 ∷ []))) 0 (0 ∷ 0 ∷ 0 ∷ []) (
    advances 1 0 (7 ∷ 0 ∷ 0 ∷ 1 ∷ 0 ∷ 0 ∷ []) 0 []
    ∷ advances 1 0 (7 ∷ 0 ∷ 0 ∷ 2 ∷ 0 ∷ 0 ∷ []) 0 []
    ∷ advances 1 0 (0 ∷ 0 ∷ 1 ∷ 3 ∷ 0 ∷ 0 ∷ []) 0 []
    ∷ []
    )
    -- The same on an empty list: the search inside has found its row, and what follows the not is dropped with it.
    ∷ script (nums (2 ∷ 1 ∷ [])) (nums (10 ∷ 4 ∷ [])) (braces []) 0 (0 ∷ 0 ∷ 0 ∷ []) (
    advances 2 0 (7 ∷ 0 ∷ 0 ∷ 2 ∷ 0 ∷ 0 ∷ []) 0 []
    ∷ advances 1 0 (0 ∷ 0 ∷ 0 ∷ 3 ∷ 0 ∷ 0 ∷ []) 0 []
    ∷ []
    )
    -- In form 2, a pair's row is where its unit stands; the room of five words holds one.
    ∷ script_in 2 1 (nums (3 ∷ 1 ∷ [])) (nums (5 ∷ 1 ∷ 0 ∷ 5 ∷ 3 ∷ 0 ∷ 0 ∷ 0 ∷ [])) (braces (nums (2 ∷ 8 ∷ 2 ∷ []))) 5 (0 ∷ 0 ∷ 0 ∷ []) (
    advances 9 5 (7 ∷ 0 ∷ 1 ∷ 9 ∷ 3 ∷ 0 ∷ []) 0 (nums (2 ∷ 0 ∷ 0 ∷ []))
    ∷ advances 11 5 (7 ∷ 0 ∷ 1 ∷ 20 ∷ 3 ∷ 0 ∷ []) 3 []
    ∷ advances 11 5 (8 ∷ 0 ∷ 1 ∷ 21 ∷ 3 ∷ 0 ∷ []) 3 []
    ∷ []
    )
    -- An unknown row form, before 1.
    ∷ script_in 3 1 [] [] [] 2 (20 ∷ 0 ∷ 0 ∷ []) (
    advances 9 2 (20 ∷ 0 ∷ 0 ∷ 0 ∷ 0 ∷ 0 ∷ []) 0 []
    ∷ advances 9 1 other 0 []
    ∷ []
    )
    -- An unknown dialect, before 1; an unknown form comes first, and a room of another size before either.
    ∷ script_in 2 3 (nums (9 ∷ [])) (nums (0 ∷ [])) (nums (1 ∷ 0 ∷ [])) 8 (22 ∷ 0 ∷ 0 ∷ []) (
    advances 1 8 (22 ∷ 0 ∷ 0 ∷ 0 ∷ 0 ∷ 0 ∷ []) 0 []
    ∷ advances 1 7 other 0 []
    ∷ []
    )
    ∷ script_in 1 0 [] [] [] 2 (22 ∷ 0 ∷ 0 ∷ []) []
    ∷ script_in 3 3 (nums (9 ∷ [])) (nums (0 ∷ [])) (nums (1 ∷ 0 ∷ [])) 8 (20 ∷ 0 ∷ 0 ∷ []) (
    advances 1 8 (20 ∷ 0 ∷ 0 ∷ 0 ∷ 0 ∷ 0 ∷ []) 0 []
    ∷ advances 1 9 other 0 []
    ∷ []
    )
    -- In dialect 2 the second unit of rank 2 is no choice of its own, but the pair is still there: one row, at step 9 of 13.
    ∷ script_in 1 2 (nums (3 ∷ 1 ∷ [])) (nums (5 ∷ 1 ∷ 0 ∷ 5 ∷ 3 ∷ 0 ∷ 0 ∷ 0 ∷ [])) (braces (nums (2 ∷ 8 ∷ 2 ∷ []))) 8 (0 ∷ 0 ∷ 0 ∷ []) (
    advances 8 8 (7 ∷ 0 ∷ 0 ∷ 8 ∷ 0 ∷ 0 ∷ []) 0 []
    ∷ advances 1 8 (7 ∷ 0 ∷ 1 ∷ 9 ∷ 2 ∷ 0 ∷ []) 0 two
    ∷ advances 4 8 (0 ∷ 0 ∷ 1 ∷ 13 ∷ 2 ∷ 0 ∷ []) 2 []
    ∷ []
    )
    -- Something in the element matcher: the cons is 4 in dialect 2; in dialect 1 the join inside is.
    ∷ script_in 1 2 (nums (3 ∷ 0 ∷ [])) (nums (5 ∷ 6 ∷ 0 ∷ 0 ∷ 0 ∷ [])) (braces []) 2 (4 ∷ 0 ∷ 0 ∷ []) (advances 9 2 (4 ∷ 0 ∷ 0 ∷ 0 ∷ 0 ∷ 0 ∷ []) 0 [] ∷ [])
    ∷ script_in 1 1 (nums (3 ∷ 0 ∷ [])) (nums (5 ∷ 6 ∷ 0 ∷ 0 ∷ 0 ∷ [])) (braces []) 2 (4 ∷ 1 ∷ 0 ∷ []) (advances 9 2 (4 ∷ 1 ∷ 0 ∷ 0 ∷ 0 ∷ 0 ∷ []) 0 [] ∷ [])
    ∷ []

-- THE CLAIM: each line's numbers and the whole room after it are what the definitions compute.
pub worked_runs_hold : map computed scripts ≡ map stated scripts
unfolding computed stated scripts
worked_runs_hold = refl
