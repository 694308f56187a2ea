-- The machine that is stepped n times: what it tells is what document 01's run tells, and what waits in it is what remains after that run.
use Prim.Native.Nat.{ℕ, zero, suc, ◌+◌, ◌-◌}
use Rattle.std.proofs.Common.{add-zero, arith, ◌∙◌}
use Rattle.std.specs.Prelude.{◌≡◌, Bool, true, leb, ℤ}
use Rattle.std.proofs.Math.Path.{refl, sym, ap}
use Rattle.std.proofs.Math.Bool.{false}
use mathlib.Core.List.{List, [], ◌∷◌, ◌++◌, append-nil, append_assoc}
use Rattle.std.proofs.Math.ListN.{length}
use Rattle.rules.specs.Rows.{row}
use Rattle.rules.specs.Search.{atom, end_of_not, State, state, after_in, leave_not, Run, stopped, step, row_step, run_in}
use Rattle.run_rules.specs.Lent.{Terms, run, remaining}
use Rattle.search_machine.specs.Machine.{Machine, passing, writing, filling, step_on, once, times, answer_by}

abbrev pub machine : (ss : List State) (left rows steps : ℕ) (written : List ℤ) (full : Bool) → Machine
machine ss left rows steps written full = record { waiting = ss; left = left; rows = rows; steps = steps; written = written; full = full }

-- After a run r over states of which `rest` remain: the machine k, which had some rows, steps and words before.
pub record After (rows steps : ℕ) (written : List ℤ) (r : Run) (rest : List State) (k : Machine) : Type 0 where
  pub answer : answer_by k.full k.waiting ≡ r.answer
  pub rows_are : k.rows ≡ rows + r.rows
  pub steps_are : k.steps ≡ steps + r.steps
  pub words_are : k.written ≡ written ++ r.written
  pub waits : k.full ≡ false → k.waiting ≡ rest
  pub none : k.full ≡ true → rest ≡ []

clash : {A : Type 0} → ◌≡◌ {A = Bool} true false → A
clash h = let z : ◌≡◌ {A = ℕ} 0 1 = cc in absurd (omega arith)

module _ (t : Terms) where
  still : (n : ℕ) (k : Machine) → once t.dialect t.form k ≡ k → times t.dialect t.form n k ≡ k
  unfolding times
  still zero k h = refl
  still (suc n) k h = ap (times t.dialect t.form n) h ∙ still n k h

  -- No step is taken.
  rests : (a rows steps : ℕ) (written : List ℤ) (rest : List State) (k : Machine) → answer_by k.full k.waiting ≡ a → k.rows ≡ rows → k.steps ≡ steps
      → k.written ≡ written → k.full ≡ false → k.waiting ≡ rest → After rows steps written (stopped a 0) rest k
  unfolding stopped
  rests a rows steps written rest k e r s w f h = record {
    answer = e;
    rows_are = omega (arith, r);
    steps_are = omega (arith, s);
    words_are = w ∙ sym (append-nil written);
    waits = λ z. h;
    none = λ z. clash (sym z ∙ f);
  }

  -- One step before what comes; one step and one row before it.
  a_step : (rows steps : ℕ) (written : List ℤ) (r : Run) (rest : List State) (k : Machine) → After rows (suc steps) written r rest k → After rows steps written (step r) rest k
  unfolding step
  a_step rows steps written r rest k a = record {
    answer = a.answer;
    rows_are = a.rows_are;
    steps_are = let h = a.steps_are in omega arith;
    words_are = a.words_are;
    waits = a.waits;
    none = a.none;
  }

  a_row : (rows steps : ℕ) (written ws : List ℤ) (r : Run) (rest : List State) (k : Machine) → After (suc rows) (suc steps) (written ++ ws) r rest k
      → After rows steps written (row_step ws r) rest k
  unfolding row_step
  a_row rows steps written ws r rest k a = record {
    answer = a.answer;
    rows_are = let h = a.rows_are in omega arith;
    steps_are = let h = a.steps_are in omega arith;
    words_are = a.words_are ∙ append_assoc written ws r.written;
    waits = a.waits;
    none = a.none;
  }

  pub goes : (n : ℕ) (ss : List State) (left rows steps : ℕ) (written : List ℤ)
      → After rows steps written (run t n ss left) (remaining t n ss left) (times t.dialect t.form n (machine ss left rows steps written false))
  unfolding times run_in remaining answer_by stopped filling
  goes zero [] left rows steps written = rests 0 rows steps written [] _ refl refl refl refl refl refl
  goes zero (s ∷ ss) left rows steps written = rests 7 rows steps written (s ∷ ss) _ refl refl refl refl refl refl
  goes (suc n) [] left rows steps written =
      rw (still n (machine [] left rows steps written false) refl) (rests 0 rows steps written [] (machine [] left rows steps written false) refl refl refl refl refl refl)
  goes (suc n) (state g [] e ∷ ss) left rows steps written =
      go (leb (length (row t.form e)) left) (goes n ss (left - length (row t.form e)) (suc rows) (suc steps) (written ++ row t.form e))
    where
      k : Machine
      k = machine (state g [] e ∷ ss) left rows steps written false

      go : (b : Bool) → After (suc rows) (suc steps) (written ++ row t.form e) (run t n ss (left - length (row t.form e))) (remaining t n ss (left - length (row t.form e)))
          (times t.dialect t.form n (writing k (row t.form e) ss))
          → After rows steps written (elim b as (λ _. Run) [ true ↦ row_step (row t.form e) (run t n ss (left - length (row t.form e))) | false ↦ stopped 8 1 ])
          (elim b as (λ _. List State) [ true ↦ remaining t n ss (left - length (row t.form e)) | false ↦ [] ])
          (times t.dialect t.form n (elim b as (λ _. Machine) [ true ↦ writing k (row t.form e) ss | false ↦ filling k ss ]))
      go true h = a_row rows steps written (row t.form e) _ _ _ h
      go false h = rw (still n (filling k ss) refl) (record {
        answer = refl;
        rows_are = omega arith;
        steps_are = omega arith;
        words_are = sym (append-nil written);
        waits = λ z. clash z;
        none = λ z. refl;
      })
  goes (suc n) (state g (end_of_not ∷ older) e ∷ ss) left rows steps written = a_step rows steps written _ _ _ (goes n (leave_not ss) left rows (suc steps) written)
  goes (suc n) (state g (atom p m v ∷ older) e ∷ ss) left rows steps written = a_step rows steps written _ _ _ (goes n (after_in t.dialect p m v older e ++ ss) left rows (suc steps) written)
