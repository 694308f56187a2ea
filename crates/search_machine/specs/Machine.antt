-- The run as a machine that is stepped: what a program holds between two steps, one step, and that n steps give what `run n` gives. Since steps
-- compose, a run that is advanced in portions gives what one run with their sum gives.
use Rattle.std.specs.Prelude.{ℕ, zero, suc, ◌+◌, ◌-◌, ◌≡◌, refl, Bool, true, false, List, [], ◌∷◌, ◌++◌, length, leb, ℤ}
use Rattle.std.proofs.Common.{zero-add, suc-add, add-zero, arith, sym, ap, ◌∙◌, append-nil, append_assoc}
use Rattle.rules.specs.Rows.{Form, row}
use Rattle.rules.specs.Search.{atom, end_of_not, State, state, leave_not, Run, stopped, step, row_step, after_in, cons_halves_in, run_in}
use Rattle.rules.specs.Dialects.{Dialect}

-- The waiting states, the free words, the rows, steps and words so far; `full` is set by a row that does not fit.
pub record Machine : Type 0 where
  pub waiting : List State
  pub left : ℕ
  pub rows : ℕ
  pub steps : ℕ
  pub written : List ℤ
  pub full : Bool

-- A state with atoms left, one whose row fits, one whose row does not.
unfoldable pub passing : Machine → List State → Machine
passing k ss = record { waiting = ss; left = k.left; rows = k.rows; steps = suc k.steps; written = k.written; full = false }

unfoldable pub writing : Machine → List ℤ → List State → Machine
writing k ws ss = record { waiting = ss; left = k.left - length ws; rows = suc k.rows; steps = suc k.steps; written = k.written ++ ws; full = false }

unfoldable pub filling : Machine → List State → Machine
filling k ss = record { waiting = ss; left = k.left; rows = k.rows; steps = suc k.steps; written = k.written; full = true }

-- One step. A machine that has ended stays as it is.
unfoldable pub step_on : Dialect → Form → Machine → List State → Machine
unfolding passing writing filling after_in cons_halves_in leave_not row
step_on dialect form k [] = k
step_on dialect form k (state g [] e ∷ ss) = elim (leb (length (row form e)) k.left) [ true ↦ writing k (row form e) ss | false ↦ filling k ss ]
step_on dialect form k (state g (end_of_not ∷ older) e ∷ ss) = passing k (leave_not ss)
step_on dialect form k (state g (atom p m v ∷ older) e ∷ ss) = passing k (after_in dialect p m v older e ++ ss)

unfoldable pub once : Dialect → Form → Machine → Machine
unfolding step_on
once dialect form k = elim k.full [ true ↦ k | false ↦ step_on dialect form k k.waiting ]

unfoldable pub times : Dialect → Form → ℕ → Machine → Machine
unfolding once
times dialect form zero k = k
times dialect form (suc n) k = times dialect form n (once dialect form k)

-- The answer: 8 once full, 0 with no state left, else 7.
unfoldable pub answer_by : Bool → List State → ℕ
answer_by true ss = 8
answer_by false [] = 0
answer_by false (s ∷ ss) = 7

unfoldable pub told : Machine → Run
unfolding answer_by
told k = record { answer = answer_by k.full k.waiting; rows = k.rows; steps = k.steps; written = k.written }

unfoldable pub opened : State → ℕ → Machine
opened s room = record { waiting = s ∷ []; left = room; rows = 0; steps = 0; written = []; full = false }

-- Portions add up.
pub times_add : (dialect : Dialect) (form : Form) (a b : ℕ) (k : Machine) → times dialect form (a + b) k ≡ times dialect form b (times dialect form a k)
unfolding times
times_add dialect form zero b k = rw (zero-add b)
times_add dialect form (suc a) b k = rw (suc-add a b) (times_add dialect form a b (once dialect form k))

-- A machine that has ended stays as it is.
still : (dialect : Dialect) (form : Form) (n : ℕ) (k : Machine) → once dialect form k ≡ k → times dialect form n k ≡ k
unfolding times
still dialect form zero k h = refl
still dialect form (suc n) k h = ap (times dialect form n) h ∙ still dialect form n k h

-- What a run adds to what a machine has done.
on : ℕ → ℕ → List ℤ → Run → Run
on rows steps written r = record { answer = r.answer; rows = rows + r.rows; steps = steps + r.steps; written = written ++ r.written }

machine : List State → ℕ → ℕ → ℕ → List ℤ → Bool → Machine
machine ss left rows steps written full = record { waiting = ss; left = left; rows = rows; steps = steps; written = written; full = full }

same_run : (a : ℕ) {x x' y y' : ℕ} {w w' : List ℤ} → x ≡ x' → y ≡ y' → w ≡ w'
    → ◌≡◌ {A = Run} (record { answer = a; rows = x; steps = y; written = w }) (record { answer = a; rows = x'; steps = y'; written = w' })
same_run a p q r i = record { answer = a; rows = p i; steps = q i; written = r i }

on_step_lem : (rows steps : ℕ) (written : List ℤ) (r : Run) → on rows (suc steps) written r ≡ on rows steps written (step r)
unfolding on step
on_step_lem rows steps written r = same_run r.answer refl (omega arith) refl

on_row : (rows steps : ℕ) (written ws : List ℤ) (r : Run) → on (suc rows) (suc steps) (written ++ ws) r ≡ on rows steps written (row_step ws r)
unfolding on row_step
on_row rows steps written ws r = same_run r.answer (omega arith) (omega arith) (append_assoc written ws r.written)

-- n steps give what the run gives.
goes_on_lem : (dialect : Dialect) (form : Form) (n : ℕ) (ss : List State) (left rows steps : ℕ) (written : List ℤ)
    → told (times dialect form n (machine ss left rows steps written false)) ≡ on rows steps written (run_in dialect form n ss left)
unfolding told times run_in machine on
goes_on_lem dialect form zero [] left rows steps written = same_run 0 (sym (add-zero rows)) (sym (add-zero steps)) (sym (append-nil written))
goes_on_lem dialect form zero (s ∷ ss) left rows steps written = same_run 7 (sym (add-zero rows)) (sym (add-zero steps)) (sym (append-nil written))
goes_on_lem dialect form (suc n) [] left rows steps written =
    ap told (still dialect form n (machine [] left rows steps written false) refl) ∙ same_run 0 (sym (add-zero rows)) (sym (add-zero steps)) (sym (append-nil written))
goes_on_lem dialect form (suc n) (state g [] e ∷ ss) left rows steps written =
    go (leb (length (row form e)) left) (goes_on_lem dialect form n ss (left - length (row form e)) (suc rows) (suc steps) (written ++ row form e))
  where
    k : Machine
    k = machine (state g [] e ∷ ss) left rows steps written false

    go : (b : Bool) → told (times dialect form n (writing k (row form e) ss)) ≡ on (suc rows) (suc steps) (written ++ row form e) (run_in dialect form n ss (left - length (row form e)))
        → told (times dialect form n (elim b as (λ _. Machine) [ true ↦ writing k (row form e) ss | false ↦ filling k ss ]))
        ≡ on rows steps written (elim b as (λ _. Run) [ true ↦ row_step (row form e) (run_in dialect form n ss (left - length (row form e))) | false ↦ stopped 8 1 ])
    go true h = h ∙ on_row rows steps written (row form e) (run_in dialect form n ss (left - length (row form e)))
    go false h = ap told (still dialect form n (filling k ss) refl) ∙ same_run 8 (sym (add-zero rows)) (omega arith) (sym (append-nil written))
goes_on_lem dialect form (suc n) (state g (end_of_not ∷ older) e ∷ ss) left rows steps written =
    goes_on_lem dialect form n (leave_not ss) left rows (suc steps) written ∙ on_step_lem rows steps written (run_in dialect form n (leave_not ss) left)
goes_on_lem dialect form (suc n) (state g (atom p m v ∷ older) e ∷ ss) left rows steps written =
    goes_on_lem dialect form n (after_in dialect p m v older e ++ ss) left rows (suc steps) written ∙ on_step_lem rows steps written (run_in dialect form n (after_in dialect p m v older e ++ ss) left)

-- The whole run, by steps; and in portions.
pub run_steps : (dialect : Dialect) (form : Form) (n : ℕ) (s : State) (room : ℕ) → told (times dialect form n (opened s room)) ≡ run_in dialect form n (s ∷ []) room
unfolding machine on opened
run_steps dialect form n s room = goes_on_lem dialect form n (s ∷ []) room 0 0 [] ∙ same_run (run_in dialect form n (s ∷ []) room).answer (zero-add _) (zero-add _) refl

pub portions : (dialect : Dialect) (form : Form) (a b : ℕ) (s : State) (room : ℕ) → told (times dialect form b (times dialect form a (opened s room))) ≡ run_in dialect form (a + b) (s ∷ []) room
portions dialect form a b s room = ap told (sym (times_add dialect form a b (opened s room))) ∙ run_steps dialect form (a + b) s room
