-- The machine on a pattern that fits gives what the definitions' run gives, at every budget and room; and in portions.
use Rattle.std.specs.Prelude.{ℕ, zero, suc, ◌+◌, ◌≤◌, ◌<◌, ◌≡◌, refl, Bool, true, false, List, [], ◌∷◌, length, get_or, set, eqb, T, ℤ}
use Rattle.std.proofs.Common.{zero-add, suc-add, arith, sym, ap, ◌∙◌, get_or-set_same, get_or-set_other, eqb→eq}
use Rattle.std.proofs.Math.Path.{fun_ext}
use Rattle.std.proofs.Math.Option.{Option, none, some}
use Rattle.std.proofs.Math.Dec.{eqb_refl}
use Rattle.rules.specs.Forms.{Matcher, Pattern, Value}
use Rattle.rules.specs.Reading.{ok}
use Rattle.rules.specs.Fit.{fits}
use Rattle.rules.specs.Origins.{target}
use Rattle.rules.specs.Search.{State, run_in, start}
use Rattle.forms.specs.Written.{Widthsᵖ}
use Rattle.program_rules.specs.Closed.{Closed}
use Rattle.search_machine.specs.Machine.{opened}
use Rattle.program_rules.specs.Points.{Instr, Point, known, within, inside}
use Rattle.search_machine.specs.Held.{Data}
use Rattle.search_machine.specs.Engine.{Slot, Conf, put}
use Rattle.search_machine.specs.Rep.{waits_none, bound_none, At, at, at_cut, done, shut, Rep, live}
use Rattle.search_machine.specs.Drive.{Engine, advance, turn, turns, reports, Same, running, engine_runs}
use Rattle.program_rules.specs.Length.{instrs, instrs_all, to_come, all_some}
use Rattle.program_rules.specs.Program.{program, point_at}
use Rattle.program_rules.specs.Walk.{in_range_lem}
use Rattle.program_rules.specs.Fitted.{program_follows}

-- The engine before the first step. The slots and the entries for bindings may hold anything.
unfoldable pub fresh : (D : Data) → D.Held → (ℕ → Slot D) → (ℕ → D.Held) → ℕ → Engine D
fresh D h slots binds room =
    record { conf = some (record { pc = 0; cur = h; top = 0; slots = slots; binds = binds }); left = room; rows = 0; steps = 0; written = []; full = false }

module _ (D : Data) (m : Matcher) (p : Pattern) (v : Value) (h : D.Held) (is : D.Is m h (target v)) (at₀ : ℕ) (ks : List Matcher) (fit : fits p m at₀ [] ≡ ok ks) (wide : Widthsᵖ p) (closed : Closed p) where
  -- Before the first step it stands for the first state.
  pub fresh_same : (slots : ℕ → Slot D) (binds : ℕ → D.Held) (room : ℕ)
      → Same D (program m p) (point_at m p) (program_follows m p at₀ ks fit wide closed) (fresh D h slots binds room) (opened (start m p v) room)
  unfolding fresh opened start point_at known within inside
  fresh_same slots binds room = running (live {c = record { pc = 0; cur = h; top = 0; slots = slots; binds = binds }} (omega arith) (at is waits_none bound_none) shut)

  pub machine_runs : (slots : ℕ → Slot D) (binds : ℕ → D.Held) (budget room : ℕ)
      → reports D (turns D (program m p) budget (fresh D h slots binds room)) ≡ run_in D.dialect D.form budget (start m p v ∷ []) room
  machine_runs slots binds budget room =
      engine_runs D (program m p) (point_at m p) (program_follows m p at₀ ks fit wide closed) budget (start m p v) room (fresh D h slots binds room) (fresh_same slots binds room)

-- Portions add up.
pub turns_add : (D : Data) (code : ℕ → Instr) (a b : ℕ) (k : Engine D) → turns D code (a + b) k ≡ turns D code b (turns D code a k)
unfolding turns
turns_add D code zero b k = rw (zero-add b)
turns_add D code (suc a) b k = rw (suc-add a b) (turns_add D code a b (turn D code k))

module _ (D : Data) (m : Matcher) (p : Pattern) (v : Value) (h : D.Held) (is : D.Is m h (target v)) (at₀ : ℕ) (ks : List Matcher) (fit : fits p m at₀ [] ≡ ok ks) (wide : Widthsᵖ p) (closed : Closed p) where
  pub machine_portions : (slots : ℕ → Slot D) (binds : ℕ → D.Held) (a b room : ℕ)
      → reports D (turns D (program m p) b (turns D (program m p) a (fresh D h slots binds room))) ≡ run_in D.dialect D.form (a + b) (start m p v ∷ []) room
  machine_portions slots binds a b room =
      ap (reports D) (sym (turns_add D (program m p) a b (fresh D h slots binds room))) ∙ machine_runs D m p v h is at₀ ks fit wide closed slots binds (a + b) room

-- A machine that has ended stays as it is: no state is left, or a row did not fit.
pub ended_stays : (D : Data) (code : ℕ → Instr) (left rows steps : ℕ) (written : List ℤ)
    → turn D code (record { conf = none; left = left; rows = rows; steps = steps; written = written; full = false })
    ≡ record { conf = none; left = left; rows = rows; steps = steps; written = written; full = false }
unfolding turn advance
ended_stays D code left rows steps written = refl

pub full_stays : (D : Data) (code : ℕ → Instr) (c : Option (Conf D)) (left rows steps : ℕ) (written : List ℤ)
    → turn D code (record { conf = c; left = left; rows = rows; steps = steps; written = written; full = true })
    ≡ record { conf = c; left = left; rows = rows; steps = steps; written = written; full = true }
unfolding turn
full_stays D code c left rows steps written = refl

-- A table that is an array: a store in range is the table with that entry changed.
pub table_set : {A : Type 0} (l : List A) (i : ℕ) (x d : A) → i < length l → (λ j. get_or (set l i x) j d) ≡ put (λ j. get_or l j d) i x
unfolding put
table_set {A} l i x d h = fun_ext (λ j. go j (eqb i j) (eqb→eq i j) (λ e. rw e (eqb_refl j)))
  where
    go : (j : ℕ) (b : Bool) → (T b → i ≡ j) → (i ≡ j → T b) → get_or (set l i x) j d ≡ elim b as (λ _. A) [ true ↦ x | false ↦ get_or l j d ]
    go j true f g = rw (sym (f tt)) (get_or-set_same l i x d h)
    go j false f g = get_or-set_other l i j x d (λ e. g (sym e))

-- ---- Where a machine stands that stands for states.

come_some : {D : Data} {slots : ℕ → Slot D} {b : ℕ → D.Held} {pc : ℕ} {h : D.Held} {P : Point} {s : State} → At D slots b pc h P s → 1 ≤ to_come P
unfolding to_come instrs_all
come_some (at {ts = ts} x ws bs) = let h = all_some ts in omega arith
come_some (at_cut {ts = ts} x bs) = let h = all_some ts in omega arith
come_some (done bs) = omega arith

-- At one of the places of the program, and the last open frame is before it.
pub place_bound : (D : Data) (m : Matcher) (p : Pattern) {c : Conf D} {ss : List State} → Rep D (program m p) (point_at m p) (some c) ss
    → (c.pc ≤ instrs p m) × (c.top ≤ c.pc)
place_bound D m p (live {c = c} l a ch) = let h = come_some a in let r = in_range_lem m p c.pc in (omega arith, l)
