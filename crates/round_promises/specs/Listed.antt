-- A round as the list of what it takes up: each state with the states that follow from it, a not with all states of the search inside it. The proofs go over
-- this form; Told shows that it is the definitions'.
use Rattle.std.specs.Prelude.{ℕ, zero, suc, ◌-◌, true, false, length, leb}
use mathlib.Core.List.{List, [], ◌∷◌, ◌++◌, flat_map}
use Rattle.rules.specs.Dialects.{Dialect}
use Rattle.rules.specs.Forms.{Matcher}
use Rattle.rules.specs.Forms.{Pattern, wildcard, variable, constant, value, nil, cons, join, tuple, both, either, never}
use Rattle.rules.specs.Origins.{Valueᵒ, Bindings}
use Rattle.rules.specs.Rows.{Form, row}
use Rattle.rules.specs.Search.{Atom, atom, end_of_not, State, state, drop_if, after_in, Run, stopped, step, row_step}
use Rattle.rules.specs.Following.{no_solution, solve}
use Rattle.round_rules.specs.Rounds.{Branch, branch, remainders, waiting}
use Rattle.promises.specs.Trace.{Taken, passed, found, trace}
use Rattle.promises.proofs.Nots.{inner}

-- ---- One state is taken up.

-- What is taken up with it, in order, each a step; and the states that follow from it.
pub record Step : Type 0 where
  pub taken : List Taken
  pub next : List State

-- A state with an atom that is no not is one step.
unfoldable pub one : List State → Step
one ss = record { taken = passed ∷ []; next = ss }

-- A not is taken up whole: its own state and those of the search inside it, which is depth-first, ends at its first row and writes nothing. "One state
-- if p has no good way from the bindings held, else none."
unfoldable pub whole : (dialect : Dialect) → Pattern → Matcher → Valueᵒ → (older : List Atom) → Bindings → Step
unfolding trace solve no_solution drop_if
whole dialect p m v older e = record { taken = passed ∷ trace dialect (inner dialect p m v e ∷ []); next = drop_if (no_solution (solve dialect p m v e)) older e }

unfoldable pub up_atom : (dialect : Dialect) → Pattern → Matcher → Valueᵒ → (older : List Atom) → Bindings → Step
unfolding one whole after_in
up_atom dialect wildcard m v older e = one (after_in dialect wildcard m v older e)
up_atom dialect (variable x) m v older e = one (after_in dialect (variable x) m v older e)
up_atom dialect (constant c) m v older e = one (after_in dialect (constant c) m v older e)
up_atom dialect (value x c) m v older e = one (after_in dialect (value x c) m v older e)
up_atom dialect nil m v older e = one (after_in dialect nil m v older e)
up_atom dialect (cons p q) m v older e = one (after_in dialect (cons p q) m v older e)
up_atom dialect (join p q) m v older e = one (after_in dialect (join p q) m v older e)
up_atom dialect (tuple ps) m v older e = one (after_in dialect (tuple ps) m v older e)
up_atom dialect (both p q) m v older e = one (after_in dialect (both p q) m v older e)
up_atom dialect (either p q) m v older e = one (after_in dialect (either p q) m v older e)
up_atom dialect (never p) m v older e = whole dialect p m v older e

-- (A end_of_not stands only inside a not, so in no state of a round.)
unfoldable pub up : (dialect : Dialect) → State → Step
unfolding one up_atom
up dialect (state g [] e) = record { taken = found e ∷ []; next = [] }
up dialect (state g (end_of_not ∷ older) e) = one []
up dialect (state g (atom p m v ∷ older) e) = up_atom dialect p m v older e

-- ---- A round.

-- What a round takes up: the first state of each list, in the order of the lists.
unfoldable pub round : (dialect : Dialect) → List Branch → List Taken
unfolding flat_map up
round dialect bs = flat_map (λ b. (up dialect b.first).taken) bs

-- The lists after it: the new ones, and then the remainders.
unfoldable pub fresh : (dialect : Dialect) → List Branch → List Branch
unfolding flat_map up branch
fresh dialect bs = flat_map (λ b. branch (up dialect b.first).next) bs

unfoldable pub onward : (dialect : Dialect) → List Branch → List Branch
unfolding fresh remainders
onward dialect bs = fresh dialect bs ++ remainders bs

-- ---- A run.

-- States are taken up in order, by a budget and with `free` words of the room left; `rest` comes after them, with the budget and the words left then.
unfoldable pub through : Form → (budget : ℕ) → List Taken → (free : ℕ) → (rest : ℕ → ℕ → Run) → Run
unfolding stopped step row_step row
through f n [] free rest = rest n free
through f zero (t ∷ ts) free rest = stopped 7 0
through f (suc n) (passed ∷ ts) free rest = step (through f n ts free rest)
through f (suc n) (found e ∷ ts) free rest = elim (leb (length (row f e)) free) [
  | true ↦ row_step (row f e) (through f n ts (free - length (row f e)) rest)
  | false ↦ stopped 8 1
]

-- At most `rounds` rounds. 0: no state remains. 7: the budget is used up and states remain, "also where the budget ends with a round". 21: the round would
-- begin with more than `limit` waiting states.
unfoldable pub by_lists : (dialect : Dialect) → Form → (rounds limit budget : ℕ) → List Branch → (free : ℕ) → Run
unfolding stopped waiting through round onward
by_lists dialect f zero limit n [] free = stopped 0 0
by_lists dialect f zero limit n (b ∷ bs) free = stopped 7 0
by_lists dialect f (suc r) limit n [] free = stopped 0 0
by_lists dialect f (suc r) limit zero (b ∷ bs) free = stopped 7 0
by_lists dialect f (suc r) limit (suc n) (b ∷ bs) free = elim (leb (waiting (b ∷ bs)) limit) [
  | true ↦ through f (suc n) (round dialect (b ∷ bs)) free (λ left room. by_lists dialect f r limit left (onward dialect (b ∷ bs)) room)
  | false ↦ stopped 21 0
]
