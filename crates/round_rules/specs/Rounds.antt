-- Document 02, No. 10: the other search order. "A list of state lists; in a round each list gives up its first state; the states that follow from them
-- form new lists, which come first, in order, and then the remainders, in order."
use Rattle.std.specs.Prelude.{ℕ, zero, suc, ◌+◌, ◌-◌, ◌/◌, min, Bool, true, false, ◌||◌, length, leb, ℤ}
use Rattle.std.proofs.Math.Option.{none, some}
use mathlib.Core.List.{List, [], ◌∷◌, ◌++◌, map, flat_map}
use Rattle.rules.specs.Dialects.{Dialect, dialect_of}
use Rattle.rules.specs.Forms.{Value}
use Rattle.rules.specs.Rows.{Form, form_of, row}
use Rattle.rules.specs.Search.{Atom, atom, end_of_not, State, state, after_in, leave_not, start, Run, stopped, step, row_step}
use Rattle.rules.specs.Services.{Rule, Judged, accepted, refused, rule_in, target_of, Matched, turned_away, carried_out, cause_in}

-- ---- Lists of states.

-- A list of states that is not empty.
pub record Branch : Type 0 where
  pub first : State
  pub others : List State

-- "Empty lists vanish."
unfoldable pub branch : List State → List Branch
branch [] = []
branch (s ∷ ss) = record { first = s; others = ss } ∷ []

-- What is left of the lists that have given up their first state.
unfoldable pub remainders : List Branch → List Branch
unfolding flat_map branch
remainders bs = flat_map (λ b. branch b.others) bs

-- The states that wait: all states in all lists.
unfoldable pub states : List Branch → List State
unfolding flat_map
states bs = flat_map (λ b. b.first ∷ b.others) bs

unfoldable pub waiting : List Branch → ℕ
unfolding states
waiting bs = length (states bs)

-- ---- A not is taken up whole. The search inside it is depth-first, ends at its first row and writes nothing; its states count as steps at once.

-- The mark is on the state that waits behind a search inside a not; while it stands behind another, that search goes on.
unfoldable pub marked : State → Bool
marked (state g older e) = g

unfoldable pub any_marked : List State → Bool
unfolding marked
any_marked [] = false
any_marked (s ∷ ss) = marked s || any_marked ss

unfoldable pub searching : List State → Bool
unfolding any_marked
searching [] = false
searching (s ∷ ss) = any_marked ss

-- The first state is taken up, depth-first.
unfoldable pub on_first : Dialect → List State → List State
unfolding after_in leave_not
on_first dialect [] = []
on_first dialect (state g [] e ∷ ss) = ss
on_first dialect (state g (end_of_not ∷ older) e ∷ ss) = leave_not ss
on_first dialect (state g (atom p m v ∷ older) e ∷ ss) = after_in dialect p m v older e ++ ss

unfoldable pub unmarked : State → State
unmarked (state g older e) = state false older e

-- The search inside, by a budget: the budget ends within it; or it is left after so many steps, and these states follow.
pub data Inside : Type 0 where
  spent : Inside
  left : (steps : ℕ) (next : List State) → Inside

unfoldable pub one_more : Inside → Inside
one_more spent = spent
one_more (left k ss) = left (suc k) ss

unfoldable pub inside : Dialect → (budget : ℕ) → List State → Inside
unfolding searching on_first unmarked one_more
inside dialect zero ss = elim (searching ss) [ true ↦ spent | false ↦ left 0 (map unmarked ss) ]
inside dialect (suc n) ss = elim (searching ss) [ true ↦ one_more (inside dialect n (on_first dialect ss)) | false ↦ left 0 (map unmarked ss) ]

-- ---- A state is taken up.

-- Some steps before what comes.
unfoldable pub steps : ℕ → Run → Run
steps k r = record { answer = r.answer; rows = r.rows; steps = k + r.steps; written = r.written }

-- After a search inside, with the budget n before it: 7 where the budget ended within it, else what comes `next`, with the budget, the states that follow and
-- the words then left.
unfoldable pub past : (n : ℕ) → Inside → (free : ℕ) → (next : ℕ → List State → ℕ → Run) → Run
unfolding stopped steps
past n spent free next = stopped 7 n
past n (left k ss) free next = steps k (next (n - k) ss free)

-- With the budget n after its own step. The end of a search inside a not stands in no state of a round.
unfoldable pub take_up : Dialect → Form → (n : ℕ) → State → (free : ℕ) → (next : ℕ → List State → ℕ → Run) → Run
unfolding stopped step row_step row after_in inside past
take_up dialect f n (state g [] e) free next = elim (leb (length (row f e)) free) [
  | true ↦ row_step (row f e) (next n [] (free - length (row f e)))
  | false ↦ stopped 8 1
]
take_up dialect f n (state g (end_of_not ∷ older) e) free next = step (next n [] free)
take_up dialect f n (state g (atom p m v ∷ older) e) free next = step (past n (inside dialect n (after_in dialect p m v older e)) free next)

-- ---- A round: the first state of each list, in the order of the lists; `new` are the new lists so far. `rest` comes after it, with the budget, all new
-- lists and the words then left.

unfoldable pub take_round : Dialect → Form → (budget : ℕ) → (lists new : List Branch) → (free : ℕ) → (rest : ℕ → List Branch → ℕ → Run) → Run
unfolding stopped branch take_up
take_round dialect f zero [] new free rest = rest 0 new free
take_round dialect f zero (b ∷ bs) new free rest = stopped 7 0
take_round dialect f (suc n) [] new free rest = rest (suc n) new free
take_round dialect f (suc n) (b ∷ bs) new free rest = take_up dialect f n b.first free (λ left ss room. take_round dialect f left bs (new ++ branch ss) room rest)

-- ---- A run.

-- At most `rounds` rounds. 0: no state remains. 7: the budget is used up and states remain, "also where the budget ends with a round". 21: the round would
-- begin with more than `limit` waiting states.
unfoldable pub by_rounds : Dialect → Form → (rounds limit budget : ℕ) → List Branch → (free : ℕ) → Run
unfolding stopped waiting take_round remainders
by_rounds dialect f zero limit n [] free = stopped 0 0
by_rounds dialect f zero limit n (b ∷ bs) free = stopped 7 0
by_rounds dialect f (suc r) limit n [] free = stopped 0 0
by_rounds dialect f (suc r) limit zero (b ∷ bs) free = stopped 7 0
by_rounds dialect f (suc r) limit (suc n) (b ∷ bs) free = elim (leb (waiting (b ∷ bs)) limit) [
  | true ↦ take_round dialect f (suc n) (b ∷ bs) [] free (λ left new room. by_rounds dialect f r limit left (new ++ remainders (b ∷ bs)) room)
  | false ↦ stopped 21 0
]

-- "More than 256 waiting states or more than the lent table holds."
abbrev pub waiting_limit : ℕ
waiting_limit = 256

unfoldable pub limit_of : (table : ℕ) → ℕ
limit_of table = min waiting_limit table

-- What a lent table holds "at a fixed size of a state".
unfoldable pub states_in : (size words : ℕ) → ℕ
states_in size words = words / size

-- Each round takes a step, so that the budget bounds the rounds too.
unfoldable pub run_rounds : Dialect → Form → (table budget : ℕ) → List State → (free : ℕ) → Run
unfolding by_rounds branch limit_of
run_rounds dialect f table n ss free = by_rounds dialect f n (limit_of table) n (branch ss) free

-- ---- The service: match in the other order, with a table that holds `table` states.

unfoldable pub rounds_target : Dialect → Form → (table budget : ℕ) (room : List ℤ) (ts : List ℤ) → Rule → Judged Value → Matched
unfolding turned_away carried_out cause_in run_rounds start
rounds_target dialect f table budget room ts r (refused a i) = turned_away a i (cause_in a ts) room
rounds_target dialect f table budget room ts r (accepted v) = carried_out (run_rounds dialect f table budget (start r.matcher r.pattern v ∷ []) (length room)) room

unfoldable pub rounds_rule : Dialect → Form → (table budget : ℕ) (room : List ℤ) (ts : List ℤ) → Judged Rule → Matched
unfolding turned_away rounds_target target_of
rounds_rule dialect f table budget room ts (refused a i) = turned_away a i 0 room
rounds_rule dialect f table budget room ts (accepted r) = rounds_target dialect f table budget room ts r (target_of r.matcher ts)

unfoldable pub match_rounds : Dialect → Form → (ms ps ts : List ℤ) (table budget : ℕ) (room : List ℤ) → Matched
unfolding rounds_rule rule_in
match_rounds dialect f ms ps ts table budget room = rounds_rule dialect f table budget room ts (rule_in dialect ms ps)

-- "20, unknown row form, before 1"; "22, unknown dialect, before 1 and after 20": with 0 in every further number, and the room as it was.
unfoldable pub match_rounds_picked : (form dialect : ℕ) (ms ps ts : List ℤ) (table budget : ℕ) (room : List ℤ) → Matched
unfolding form_of dialect_of turned_away match_rounds
match_rounds_picked form dialect ms ps ts table budget room = elim (form_of form) [
  | none ↦ turned_away 20 0 0 room
  | some f ↦ elim (dialect_of dialect) [ none ↦ turned_away 22 0 0 room | some d ↦ match_rounds d f ms ps ts table budget room ]
]
