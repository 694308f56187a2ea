-- The states of one round, by a budget and a room: either one of the two stops the run among them, or they are all taken up and what comes after them goes
-- on with what is left.
use Prim.Native.Nat.{ℕ, zero, suc, ◌+◌, ◌-◌, ◌≤◌, ◌<◌, zero-le, suc-le-suc}
use Rattle.std.proofs.Math.Nat.{sub-zero}
use Rattle.std.proofs.Common.{zero-add, suc-add, arith, ◌∙◌, inl, inr, leb→le, le→leb}
use Rattle.std.specs.Prelude.{◌≡◌, ◌⊎◌, Bool, T, leb}
use Rattle.std.proofs.Math.Path.{refl, sym, ap, ap₂}
use Rattle.std.proofs.Math.Bool.{true, false}
use mathlib.Core.List.{List, [], ◌∷◌, ◌++◌, append_assoc}
use Rattle.std.proofs.Math.ListN.{length, length-append}
use Rattle.rules.specs.Origins.{Bindings}
use Rattle.rules.specs.Rows.{Form, row}
use Rattle.rules.specs.Search.{Run, stopped, step, row_step}
use Rattle.promises.specs.Trace.{Taken, passed, found, walk}
use Rattle.promises.specs.Solve.{founds}
use Rattle.promises.proofs.Solve.{founds_append}
use Rattle.promises.specs.Budget.{rows_of, report}
use Rattle.promises.proofs.Budget.{rows_append}
use Rattle.round_promises.specs.Listed.{through}

-- Everything here is of rows in one form.
module _ (form : Form) where
  -- A run after the states ts.
  unfoldable pub behind : List Taken → Run → Run
  unfolding founds rows_of
  behind ts r = record { answer = r.answer; rows = length (founds ts) + r.rows; steps = length ts + r.steps; written = rows_of form ts ++ r.written }

  pub data Passage (n : ℕ) (ts : List Taken) (free : ℕ) : Type 0 where
    -- It stops among them, whatever would come after.
    stops : (n < length ts) ⊎ (free < length (rows_of form ts)) → ((f g : ℕ → ℕ → Run) → through form n ts free f ≡ through form n ts free g) → Passage n ts free
    passes : length ts ≤ n → length (rows_of form ts) ≤ free
        → ((f : ℕ → ℕ → Run) → through form n ts free f ≡ behind ts (f (n - length ts) (free - length (rows_of form ts)))) → Passage n ts free

  -- ---- Every list of states is one of the two.

  behind_none : (r : Run) → behind [] r ≡ r
  unfolding behind rows_of founds
  behind_none r = ap₂ {C = Run} (λ a b. record { answer = r.answer; rows = a; steps = b; written = r.written }) (zero-add r.rows) (zero-add r.steps)

  behind_passed : (ts : List Taken) (r : Run) → step (behind ts r) ≡ behind (passed ∷ ts) r
  unfolding behind rows_of founds step
  behind_passed ts r = ap {B = Run} (λ b. record { answer = r.answer; rows = length (founds ts) + r.rows; steps = b; written = rows_of form ts ++ r.written })
      (sym (suc-add (length ts) r.steps))

  behind_found : (e : Bindings) (ts : List Taken) (r : Run) → row_step (row form e) (behind ts r) ≡ behind (found e ∷ ts) r
  unfolding behind rows_of founds row_step
  behind_found e ts r =
      ap₂ {C = Run} (λ a b. record { answer = r.answer; rows = a; steps = b; written = row form e ++ (rows_of form ts ++ r.written) })
      (sym (suc-add (length (founds ts)) r.rows)) (sym (suc-add (length ts) r.steps))
      ∙ ap {B = Run} (λ w. record { answer = r.answer; rows = suc (length (founds ts)) + r.rows; steps = suc (length ts) + r.steps; written = w })
      (sym (append_assoc (row form e) (rows_of form ts) r.written))

  pass_passed : (n : ℕ) (ts : List Taken) (free : ℕ) → Passage n ts free → Passage (suc n) (passed ∷ ts) free
  unfolding through rows_of founds
  pass_passed n ts free (stops (inl h) q) = stops (inl (suc-le-suc h)) (λ f g. ap step (q f g))
  pass_passed n ts free (stops (inr h) q) = stops (inr h) (λ f g. ap step (q f g))
  pass_passed n ts free (passes h k q) = passes (suc-le-suc h) k
      (λ f. ap step (q f) ∙ behind_passed ts (f (n - length ts) (free - length (rows_of form ts)))
      ∙ ap (λ i. behind (passed ∷ ts) (f i (free - length (rows_of form ts)))) (omega arith))

  module _ (n : ℕ) (e : Bindings) (ts : List Taken) (free : ℕ) where
    found_fits : leb (length (row form e)) free ≡ true → (f : ℕ → ℕ → Run)
        → through form (suc n) (found e ∷ ts) free f ≡ row_step (row form e) (through form n ts (free - length (row form e)) f)
    unfolding through
    found_fits t f = ap (λ b. elim b as (λ _. Run) [ true ↦ row_step (row form e) (through form n ts (free - length (row form e)) f) | false ↦ stopped 8 1 ]) t

    found_over : leb (length (row form e)) free ≡ false → (f : ℕ → ℕ → Run) → through form (suc n) (found e ∷ ts) free f ≡ stopped 8 1
    unfolding through
    found_over t f = ap (λ b. elim b as (λ _. Run) [ true ↦ row_step (row form e) (through form n ts (free - length (row form e)) f) | false ↦ stopped 8 1 ]) t

    rows_found : length (rows_of form (found e ∷ ts)) ≡ length (row form e) + length (rows_of form ts)
    unfolding rows_of founds
    rows_found = length-append (row form e) (rows_of form ts)

    pass_found : (b : Bool) → leb (length (row form e)) free ≡ b → (T b → length (row form e) ≤ free) → (length (row form e) ≤ free → T b)
        → Passage n ts (free - length (row form e)) → Passage (suc n) (found e ∷ ts) free
    pass_found true t u w (stops (inl h) q) =
        stops (inl (suc-le-suc h)) (λ f g. found_fits t f ∙ ap (row_step (row form e)) (q f g) ∙ sym (found_fits t g))
    pass_found true t u w (stops (inr h) q) =
        stops (inr (omega (arith, u tt, rows_found))) (λ f g. found_fits t f ∙ ap (row_step (row form e)) (q f g) ∙ sym (found_fits t g))
    pass_found true t u w (passes h k q) = passes (suc-le-suc h) (omega (arith, u tt, rows_found))
        (λ f. found_fits t f ∙ ap (row_step (row form e)) (q f) ∙ behind_found e ts (f (n - length ts) (free - length (row form e) - length (rows_of form ts)))
        ∙ ap₂ (λ i j. behind (found e ∷ ts) (f i j)) (omega arith) (omega (arith, rows_found)))
    pass_found false t u w p = stops (inr (omega (arith, w, rows_found))) (λ f g. found_over t f ∙ sym (found_over t g))

  pub passage : (n : ℕ) (ts : List Taken) (free : ℕ) → Passage n ts free
  unfolding through rows_of founds
  passage n [] free = passes zero-le zero-le (λ f. sym (behind_none (f (n - 0) (free - 0)) ∙ ap₂ f (sub-zero n) (sub-zero free)))
  passage zero (t ∷ ts) free = stops (inl (suc-le-suc zero-le)) (λ f g. refl)
  passage (suc n) (passed ∷ ts) free = pass_passed n ts free (passage n ts free)
  passage (suc n) (found e ∷ ts) free = pass_found n e ts free (leb (length (row form e)) free) refl (leb→le (length (row form e)) free) (le→leb (length (row form e)) free)
      (passage n ts (free - length (row form e)))

  -- ---- A walk goes through the first states and on along the others.

  pub walk_through : (n : ℕ) (ts us : List Taken) (free : ℕ) → walk form n (ts ++ us) free ≡ through form n ts free (λ left room. walk form left us room)
  unfolding walk through
  walk_through n [] us free = refl
  walk_through zero (t ∷ ts) us free = refl
  walk_through (suc n) (passed ∷ ts) us free = ap step (walk_through n ts us free)
  walk_through (suc n) (found e ∷ ts) us free =
      ap (λ z. elim (leb (length (row form e)) free) as (λ _. Run) [ true ↦ row_step (row form e) z | false ↦ stopped 8 1 ]) (walk_through n ts us (free - length (row form e)))

  pub behind_report : (a : ℕ) (ts us : List Taken) → behind ts (report form a (length us) us) ≡ report form a (length (ts ++ us)) (ts ++ us)
  unfolding behind report
  behind_report a ts us =
      ap₂ {C = Run} (λ x y. record { answer = a; rows = x; steps = y; written = rows_of form ts ++ rows_of form us })
      (sym (ap length (founds_append ts us) ∙ length-append (founds ts) (founds us))) (sym (length-append ts us))
      ∙ ap {B = Run} (λ w. record { answer = a; rows = length (founds (ts ++ us)); steps = length (ts ++ us); written = w }) (sym (rows_append form ts us))
