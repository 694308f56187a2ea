-- A state is taken up, and then so many more: what the code of the run asks for. Assumes nothing.
use Prim.Native.Nat.{ℕ, zero, suc, ◌+◌, ◌-◌, ◌<◌, ◌≤◌}
use native.Mathlib.Omega.{arith}
use mathlib.Core.Path.{◌≡◌, refl, sym, ap, subst, ◌∙◌}
use mathlib.Core.Bool.{Bool, true, false}
use mathlib.Core.List.{List}
use lib.ListN.{length}
use lib.Dec.{eqb}
use lib.IntN.{ℤ}
use borrow.Author.Tests.{eqb-true, eqb-false}
use Rattle.words.specs.Words.{entries}
use Rattle.value_places.specs.Places.{Target}
use Rattle.value_rows.specs.declared.Binding.{Binding}
use Rattle.tables.specs.Slot.{Tables}
use Rattle.search_step.specs.declared.State.{State}
use Rattle.search_choice.specs.Choices.{PicksIf}
use Rattle.search.specs.Run.{Env, Run, run, take_of, settled, run_of}
use Rattle.search.specs.Valid.{Fine, Valid}
use Rattle.search.proofs.Keeps.{take_keeps}
use Rattle.search.proofs.Settles.{settle_keeps}
use Rattle.search.proofs.Counts.{settled_is, takes_is, run_over, run_more}
use Rattle.search.proofs.Sweeps.{run_add}
use Rattle.search.proofs.Laws.{Here, Taken}

-- ---- Turns keep a run valid, and its room as long as it is.

pub record Kept (e : Env) (room : List ℤ) (r : Run) : Type 0 where
  pub valid : Valid e r
  pub long : length r.room ≡ length room

module _ (e : Env) (fine : Fine e) (g : Target e.words) (room : List ℤ) where
  pub turn_kept : (r : Run) → Kept e room r → r.state.live ≡ 1 → Kept e room (settled e (take_of e r))
  turn_kept r k l = record {
    valid = settle_keeps e fine g (take_of e r) (take_keeps e fine g r k.valid l);
    long = ap length (settled_is e (take_of e r)).room ∙ (takes_is e r k.valid.room).long ∙ k.long;
  }

  pub run_kept : (n : ℕ) (r : Run) → Kept e room r → Kept e room (run_of e n r)
  unfolding run_of
  run_kept zero r k = k
  run_kept (suc n) r k = go (eqb r.state.live 1) refl (λ l. run_kept n (settled e (take_of e r)) (turn_kept r k l))
    where
      go : (d : Bool) → eqb r.state.live 1 ≡ d → (r.state.live ≡ 1 → Kept e room (run_of e n (settled e (take_of e r)))) → Kept e room (run_of e (suc n) r)
      go true j f = let l = eqb-true _ _ j in subst (Kept e room) (sym (run_more e n r l)) (f l)
      go false j f = subst (Kept e room) (sym (run_over e (suc n) r (eqb-false _ _ j))) k

-- ---- A state taken up, and so many more.

pub record Swept (e : Env) (r : Run) (budget : ℕ) (y : State) (u : Tables) (b : List Binding) (room : List ℤ) : Type 0 where
  pub more : ℕ
  pub next : settled e (run y u b room) ≡ run_of e more (settled e (take_of e r))
  pub steps : y.steps ≡ r.state.steps + 1 + more
  pub within : y.steps ≤ budget
  pub picks : PicksIf y.live e.op e.words y.top u.ats u.wholes u.lefts
  pub long : length u.backs ≡ entries

module _ (e : Env) (w : Run) (budget : ℕ) (room : List ℤ) (r : Run) (h : Here e w budget room r) (fine : Fine e) (g : Target e.words) (l : r.state.live ≡ 1)
    (y : State) (u : Tables) (b : List Binding) (room' : List ℤ) (m : Swept e r budget y u b room') (z : Run) (q : z ≡ settled e (run y u b room')) where
  swept_steps : z.state.steps ≡ y.steps
  swept_steps = ap (λ (k : Run). k.state.steps) q ∙ (settled_is e (run y u b room')).steps

  pub here_swept : Here e w budget room z
  here_swept =
      let p : budget - r.state.steps ≡ suc (m.more + (budget - z.state.steps)) = omega (arith, swept_steps, m.steps, m.within) in
      let i = q ∙ m.next in
      let k = subst (Kept e room) (sym i) (run_kept e fine g room m.more (settled e (take_of e r)) (turn_kept e fine g room r (record { valid = h.valid; long = h.long }) l)) in
      record {
        whole = h.whole ∙ ap (λ (n : ℕ). run_of e n r) p ∙ run_more e (m.more + (budget - z.state.steps)) r l
            ∙ run_add e m.more (budget - z.state.steps) (settled e (take_of e r)) ∙ ap (run_of e (budget - z.state.steps)) (sym i);
        valid = k.valid;
        long = k.long;
      }

  pub swept_less : budget - z.state.steps < budget - r.state.steps
  swept_less = omega (arith, swept_steps, m.steps, m.within)

pub swept_at : (e : Env) (r : Run) (budget : ℕ) (y y' : State) (u u' : Tables) (b : List Binding) (room room' : List ℤ) → y ≡ y' → u ≡ u' → room ≡ room'
    → Swept e r budget y' u' b room' → Swept e r budget y u b room
swept_at e r budget y y' u u' b room room' p q i m = rw (p, q, i) m

-- ---- A state that is taken up.

module _ (e : Env) (r : Run) (y : State) (u : Tables) (b : List Binding) (room : List ℤ) (k : Taken e r y u b room) (v : r.state.words ≤ length r.room)
    (budget : ℕ) (s : r.state.steps < budget) where
  taken_steps : y.steps ≡ r.state.steps + 1
  taken_steps = sym (settled_is e (run y u b room)).steps ∙ ap (λ (z : Run). z.state.steps) k.next ∙ (settled_is e (take_of e r)).steps ∙ (takes_is e r v).steps

  pub swept_none : Swept e r budget y u b room
  unfolding run_of
  swept_none = record { more = 0; next = k.next; steps = omega (arith, taken_steps); within = omega (arith, taken_steps); picks = k.picks; long = k.long }
