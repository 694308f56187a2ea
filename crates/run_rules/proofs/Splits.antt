-- A run by p + q steps is a run by p steps and then, if states remain, one by q steps over these.
use Prim.Native.Nat.{ℕ, zero, suc, ◌+◌, ◌-◌, ◌≤◌, zero-le}
use Rattle.std.proofs.Common.{zero-add, suc-add, ◌∙◌, leb→le}
use Rattle.std.proofs.Math.Nat.{sub-zero}
use native.Mathlib.Omega.{arith}
use Rattle.std.proofs.Math.Path.{◌≡◌, refl, sym, ap}
use Rattle.std.specs.Prelude.{Bool, T, ℤ}
use Rattle.std.proofs.Math.Bool.{true, false}
use mathlib.Core.List.{List, [], ◌∷◌, ◌++◌, append_assoc}
use Rattle.std.proofs.Math.ListN.{length, length-append}
use Rattle.std.proofs.Math.Dec.{leb}
use Rattle.rules.specs.Rows.{row}
use Rattle.rules.specs.Search.{atom, end_of_not, State, state, after_in, leave_not, Run, stopped, step, row_step, run_in}
use Rattle.run_rules.specs.Lent.{Terms, run, remaining}

-- A run after what another has done.
unfoldable pub behind : Run → Run → Run
behind a b = record { answer = b.answer; rows = a.rows + b.rows; steps = a.steps + b.steps; written = a.written ++ b.written }

same_run : (a : ℕ) {x x' y y' : ℕ} {w w' : List ℤ} → x ≡ x' → y ≡ y' → w ≡ w'
    → ◌≡◌ {A = Run} (record { answer = a; rows = x; steps = y; written = w }) (record { answer = a; rows = x'; steps = y'; written = w' })
same_run a p q r i = record { answer = a; rows = p i; steps = q i; written = r i }

-- Everything below is of rows in one form.
module _ (terms : Terms) where
  pub data Split (p q : ℕ) (ss : List State) (free : ℕ) : Type 0 where
    -- After p steps it has ended.
    over : remaining terms p ss free ≡ [] → ((run terms p ss free).answer ≡ 7 → ⊥) → remaining terms (p + q) ss free ≡ [] → run terms (p + q) ss free ≡ run terms p ss free → Split p q ss free
    -- It has taken p steps, and states remain.
    further : (s : State) (others : List State) → remaining terms p ss free ≡ s ∷ others → (run terms p ss free).answer ≡ 7 → (run terms p ss free).steps ≡ p
        → remaining terms (p + q) ss free ≡ remaining terms q (s ∷ others) (free - length (run terms p ss free).written)
        → run terms (p + q) ss free ≡ behind (run terms p ss free) (run terms q (s ∷ others) (free - length (run terms p ss free).written)) → Split p q ss free

  -- ---- One step before what comes; one step and one row before it.

  module _ (p q : ℕ) (ss next : List State) (free : ℕ) (runs : (n : ℕ) → run terms (suc n) ss free ≡ step (run terms n next free))
      (waits : (n : ℕ) → remaining terms (suc n) ss free ≡ remaining terms n next free) where
    behind_step : (a b : Run) → step (behind a b) ≡ behind (step a) b
    unfolding step behind
    behind_step a b = same_run b.answer refl (sym (suc-add a.steps b.steps)) refl

    on_step_lem : Split p q next free → Split (suc p) q ss free
    unfolding step
    on_step_lem (over e n f r) = over (waits p ∙ e) (λ a. n (sym (ap (λ (x : Run). x.answer) (runs p)) ∙ a))
        (ap (λ i. remaining terms i ss free) (suc-add p q) ∙ waits (p + q) ∙ f)
        (ap (λ i. run terms i ss free) (suc-add p q) ∙ runs (p + q) ∙ ap step r ∙ sym (runs p))
    on_step_lem (further s others e a k f r) =
        let w : (run terms (suc p) ss free).written ≡ (run terms p next free).written = ap (λ (x : Run). x.written) (runs p) in
        further s others (waits p ∙ e) (ap (λ (x : Run). x.answer) (runs p) ∙ a) (ap (λ (x : Run). x.steps) (runs p) ∙ ap suc k)
        (ap (λ i. remaining terms i ss free) (suc-add p q) ∙ waits (p + q) ∙ f ∙ ap (λ (l : List ℤ). remaining terms q (s ∷ others) (free - length l)) (sym w))
        (ap (λ i. run terms i ss free) (suc-add p q) ∙ runs (p + q) ∙ ap step r ∙ behind_step (run terms p next free) _
        ∙ ap (λ x. behind x (run terms q (s ∷ others) (free - length (run terms p next free).written))) (sym (runs p))
        ∙ ap (λ (l : List ℤ). behind (run terms (suc p) ss free) (run terms q (s ∷ others) (free - length l))) (sym w))

  module _ (p q : ℕ) (ss next : List State) (free : ℕ) (ws : List ℤ) (runs : (n : ℕ) → run terms (suc n) ss free ≡ row_step ws (run terms n next (free - length ws)))
      (waits : (n : ℕ) → remaining terms (suc n) ss free ≡ remaining terms n next (free - length ws)) where
    behind_row : (a b : Run) → row_step ws (behind a b) ≡ behind (row_step ws a) b
    unfolding row_step behind
    behind_row a b = same_run b.answer (sym (suc-add a.rows b.rows)) (sym (suc-add a.steps b.steps)) (sym (append_assoc ws a.written b.written))

    left_over_lem : (us : List ℤ) → free - length ws - length us ≡ free - length (ws ++ us)
    left_over_lem us = let l = length-append ws us in omega arith

    on_row : Split p q next (free - length ws) → Split (suc p) q ss free
    unfolding row_step
    on_row (over e n f r) = over (waits p ∙ e) (λ a. n (sym (ap (λ (x : Run). x.answer) (runs p)) ∙ a))
        (ap (λ i. remaining terms i ss free) (suc-add p q) ∙ waits (p + q) ∙ f)
        (ap (λ i. run terms i ss free) (suc-add p q) ∙ runs (p + q) ∙ ap (row_step ws) r ∙ sym (runs p))
    on_row (further s others e a k f r) =
        let w : (run terms (suc p) ss free).written ≡ ws ++ (run terms p next (free - length ws)).written = ap (λ (x : Run). x.written) (runs p) in
        let z : free - length ws - length (run terms p next (free - length ws)).written ≡ free - length (run terms (suc p) ss free).written =
        left_over_lem (run terms p next (free - length ws)).written ∙ ap (λ (l : List ℤ). free - length l) (sym w) in
        further s others (waits p ∙ e) (ap (λ (x : Run). x.answer) (runs p) ∙ a) (ap (λ (x : Run). x.steps) (runs p) ∙ ap suc k)
        (ap (λ i. remaining terms i ss free) (suc-add p q) ∙ waits (p + q) ∙ f ∙ ap (λ i. remaining terms q (s ∷ others) i) z)
        (ap (λ i. run terms i ss free) (suc-add p q) ∙ runs (p + q) ∙ ap (row_step ws) r ∙ behind_row (run terms p next (free - length ws)) _
        ∙ ap (λ x. behind x (run terms q (s ∷ others) (free - length ws - length (run terms p next (free - length ws)).written))) (sym (runs p))
        ∙ ap (λ i. behind (run terms (suc p) ss free) (run terms q (s ∷ others) i)) z)

  -- ---- No step.

  none_run : (n free : ℕ) → run terms n [] free ≡ stopped 0 0
  unfolding run_in
  none_run zero free = refl
  none_run (suc n) free = refl

  none_remain : (n free : ℕ) → remaining terms n [] free ≡ []
  unfolding remaining
  none_remain zero free = refl
  none_remain (suc n) free = refl

  none_split : (p q free : ℕ) → Split p q [] free
  unfolding stopped
  none_split p q free = over (none_remain p free) (λ a. clash (sym (ap (λ (x : Run). x.answer) (none_run p free)) ∙ a)) (none_remain (p + q) free)
      (none_run (p + q) free ∙ sym (none_run p free))
    where
      clash : ◌≡◌ {A = ℕ} 0 7 → ⊥
      clash h = omega arith

  first_split : (q : ℕ) (s : State) (ss : List State) (free : ℕ) → Split 0 q (s ∷ ss) free
  unfolding run_in remaining stopped behind
  first_split q s ss free = further s ss refl refl refl
      (ap (λ i. remaining terms i (s ∷ ss) free) (zero-add q) ∙ ap (λ i. remaining terms q (s ∷ ss) i) (sym (sub-zero free)))
      (ap (λ i. run terms i (s ∷ ss) free) (zero-add q) ∙ ap (λ i. run terms q (s ∷ ss) i) (sym (sub-zero free))
      ∙ same_run (run terms q (s ∷ ss) (free - 0)).answer (sym (zero-add _)) (sym (zero-add _)) refl)

  -- ---- Every run is so divided.

  pub split : (p q : ℕ) (ss : List State) (free : ℕ) → Split p q ss free
  unfolding run_in remaining
  split zero q [] free = none_split 0 q free
  split zero q (s ∷ ss) free = first_split q s ss free
  split (suc p) q [] free = none_split (suc p) q free
  split (suc p) q (state g [] e ∷ ss) free = go (leb (length (row terms.form e)) free) refl (split p q ss (free - length (row terms.form e)))
    where
      go : (b : Bool) → leb (length (row terms.form e)) free ≡ b → Split p q ss (free - length (row terms.form e)) → Split (suc p) q (state g [] e ∷ ss) free
      go true t h = on_row p q (state g [] e ∷ ss) ss free (row terms.form e)
          (λ n. ap (λ b. elim b as (λ _. Run) [ true ↦ row_step (row terms.form e) (run terms n ss (free - length (row terms.form e))) | false ↦ stopped 8 1 ]) t)
          (λ n. ap (λ b. elim b as (λ _. List State) [ true ↦ remaining terms n ss (free - length (row terms.form e)) | false ↦ [] ]) t) h
      go false t h = over (none p) (λ a. clash (sym (ap (λ (x : Run). x.answer) (full p)) ∙ a))
          (ap (λ i. remaining terms i (state g [] e ∷ ss) free) (suc-add p q) ∙ none (p + q)) (ap (λ i. run terms i (state g [] e ∷ ss) free) (suc-add p q) ∙ full (p + q) ∙ sym (full p))
        where
          full : (n : ℕ) → run terms (suc n) (state g [] e ∷ ss) free ≡ stopped 8 1
          full n = ap (λ b. elim b as (λ _. Run) [ true ↦ row_step (row terms.form e) (run terms n ss (free - length (row terms.form e))) | false ↦ stopped 8 1 ]) t

          none : (n : ℕ) → remaining terms (suc n) (state g [] e ∷ ss) free ≡ []
          none n = ap (λ b. elim b as (λ _. List State) [ true ↦ remaining terms n ss (free - length (row terms.form e)) | false ↦ [] ]) t

          clash : ◌≡◌ {A = ℕ} 8 7 → ⊥
          clash h = omega arith
  split (suc p) q (state g (end_of_not ∷ older) e ∷ ss) free =
      on_step_lem p q (state g (end_of_not ∷ older) e ∷ ss) (leave_not ss) free (λ n. refl) (λ n. refl) (split p q (leave_not ss) free)
  split (suc p) q (state g (atom x m v ∷ older) e ∷ ss) free =
      on_step_lem p q (state g (atom x m v ∷ older) e ∷ ss) (after_in terms.dialect x m v older e ++ ss) free (λ n. refl) (λ n. refl) (split p q (after_in terms.dialect x m v older e ++ ss) free)

  -- ---- What is written has its place in the room.

  pub written_fits : (n : ℕ) (ss : List State) (free : ℕ) → length (run terms n ss free).written ≤ free
  unfolding run_in
  written_fits zero [] free = zero-le
  written_fits zero (s ∷ ss) free = zero-le
  written_fits (suc n) [] free = zero-le
  written_fits (suc n) (state g [] e ∷ ss) free =
      go (leb (length (row terms.form e)) free) (leb→le (length (row terms.form e)) free) (written_fits n ss (free - length (row terms.form e)))
    where
      go : (b : Bool) → (T b → length (row terms.form e) ≤ free) → length (run terms n ss (free - length (row terms.form e))).written ≤ free - length (row terms.form e)
          → length (elim b as (λ _. Run) [ true ↦ row_step (row terms.form e) (run terms n ss (free - length (row terms.form e))) | false ↦ stopped 8 1 ]).written ≤ free
      go true f h = let k = f tt in omega (arith, length-append (row terms.form e) (run terms n ss (free - length (row terms.form e))).written)
      go false f h = zero-le
  written_fits (suc n) (state g (end_of_not ∷ older) e ∷ ss) free = written_fits n (leave_not ss) free
  written_fits (suc n) (state g (atom p m v ∷ older) e ∷ ss) free = written_fits n (after_in terms.dialect p m v older e ++ ss) free
