-- Laws of what specs/Told.antt defines.
use Prim.Native.Nat.{ℕ, zero, suc, ◌-◌, ◌≤◌, ◌<◌}
use Rattle.std.proofs.Common.{zero-add, suc-add, not-suc-le-zero, le_of_suc-le-suc, arith, ◌∙◌, leb→le, le→leb}
use Rattle.std.proofs.Math.Nat.{sub-zero}
use Rattle.std.specs.Prelude.{◌≡◌, Bool, T, leb}
use Rattle.std.proofs.Math.Path.{refl, sym, ap, fun_ext}
use Rattle.std.proofs.Math.Bool.{true, false}
use mathlib.Core.List.{List, [], ◌∷◌, ◌++◌, map, flat_map, append-nil, append_assoc}
use Rattle.std.proofs.Math.ListN.{length}
use Rattle.rules.specs.Dialects.{Dialect}
use Rattle.rules.specs.Forms.{Matcher}
use Rattle.rules.specs.Forms.{Pattern, never}
use Rattle.rules.specs.Origins.{Valueᵒ, Bindings}
use Rattle.rules.specs.Rows.{Form, row}
use Rattle.rules.specs.Search.{Atom, atom, end_of_not, State, state, drop_if, after_in, Run, stopped, step, row_step}
use Rattle.rules.specs.Following.{no_solution, solve}
use Rattle.round_rules.specs.Rounds.{Branch, branch, remainders, waiting, marked, any_marked, searching, on_first, unmarked, Inside, spent, left, one_more, inside}
use Rattle.round_rules.specs.Rounds.{steps, past, take_up, take_round, by_rounds}
use Rattle.promises.specs.Trace.{Taken, passed, found, Met, taken, ended, met, close}
use Rattle.promises.proofs.Nots.{inner}
use Rattle.round_promises.specs.Listed.{Step, one, whole, up_atom, up, round, fresh, onward, through, by_lists}
use Rattle.round_promises.specs.Tree.{Unmarked, Taking, single, denied, taking, up_some}
use Rattle.round_promises.specs.Told.{Rowless, its_stops, not_short, not_whole, rowless, search}

-- Everything below is of rows in one form.
module _ (dialect : Dialect) (form : Form) where
  -- ---- The states of a search inside a not are passed.

  unfoldable Silent : List Taken → Type 0
  Silent [] = Unit {0}
  Silent (passed ∷ ts) = Silent ts
  Silent (found e ∷ ts) = ⊥

  silent : (ms : List Met) → Rowless ms → Silent (close ms)
  unfolding Silent Rowless close
  silent [] h = tt
  silent (taken passed ∷ ms) h = silent ms h
  silent (taken (found e) ∷ ms) h = absurd h
  silent (ended ∷ ms) h = tt

  through_short : (n : ℕ) (ts us : List Taken) (free : ℕ) (f : ℕ → ℕ → Run) → Silent ts → n < length ts → through form n (ts ++ us) free f ≡ stopped 7 n
  unfolding through Silent stopped step
  through_short n [] us free f s h = absurd (not-suc-le-zero h)
  through_short zero (t ∷ ts) us free f s h = refl
  through_short (suc n) (passed ∷ ts) us free f s h = ap step (through_short n ts us free f s (le_of_suc-le-suc h))
  through_short (suc n) (found e ∷ ts) us free f s h = absurd s

  steps_zero : (r : Run) → r ≡ steps 0 r
  unfolding steps
  steps_zero r = ap {B = Run} (λ i. record { answer = r.answer; rows = r.rows; steps = i; written = r.written }) (sym (zero-add r.steps))

  steps_suc : (k : ℕ) (r : Run) → step (steps k r) ≡ steps (suc k) r
  unfolding steps step
  steps_suc k r = ap {B = Run} (λ i. record { answer = r.answer; rows = r.rows; steps = i; written = r.written }) (sym (suc-add k r.steps))

  through_whole : (n : ℕ) (ts : List Taken) (free : ℕ) (f : ℕ → ℕ → Run) → Silent ts → length ts ≤ n
      → through form n ts free f ≡ steps (length ts) (f (n - length ts) free)
  unfolding through Silent
  through_whole n [] free f s h = ap (λ i. f i free) (sym (sub-zero n)) ∙ steps_zero (f (n - 0) free)
  through_whole zero (t ∷ ts) free f s h = absurd (not-suc-le-zero h)
  through_whole (suc n) (passed ∷ ts) free f s h = ap step (through_whole n ts free f s (le_of_suc-le-suc h)) ∙ steps_suc (length ts) (f (n - length ts) free)
      ∙ ap (λ i. steps (suc (length ts)) (f i free)) (omega arith)
  through_whole (suc n) (found e ∷ ts) free f s h = absurd s

  -- ---- A state.

  none_searching : (ss : List State) → Unmarked ss → any_marked ss ≡ false
  unfolding any_marked marked Unmarked
  none_searching [] u = refl
  none_searching (state true o e ∷ ss) u = absurd u
  none_searching (state false o e ∷ ss) u = none_searching ss u

  not_searching : (ss : List State) → Unmarked ss → searching ss ≡ false
  unfolding searching Unmarked
  not_searching [] u = refl
  not_searching (state true o e ∷ ss) u = absurd u
  not_searching (state false o e ∷ ss) u = none_searching ss u

  all_unmarked : (ss : List State) → Unmarked ss → map unmarked ss ≡ ss
  unfolding unmarked Unmarked
  all_unmarked [] u = refl
  all_unmarked (state true o e ∷ ss) u = absurd u
  all_unmarked (state false o e ∷ ss) u = ap {B = List State} (λ l. state false o e ∷ l) (all_unmarked ss u)

  at_once : (n : ℕ) (ss : List State) → Unmarked ss → inside dialect n ss ≡ left 0 ss
  unfolding inside
  at_once zero ss u = ap (λ b. elim b as (λ _. Inside) [ true ↦ spent | false ↦ left 0 (map unmarked ss) ]) (not_searching ss u) ∙ ap (left 0) (all_unmarked ss u)
  at_once (suc n) ss u = ap (λ b. elim b as (λ _. Inside) [ true ↦ one_more (inside dialect n (on_first dialect ss)) | false ↦ left 0 (map unmarked ss) ]) (not_searching ss u)
      ∙ ap (left 0) (all_unmarked ss u)

  module _ (n : ℕ) (m : Matcher) (v : Valueᵒ) (older : List Atom) (e : Bindings) (free : ℕ) (next : ℕ → List State → ℕ → Run) where
    atom_told : (p : Pattern) → Taking dialect m v older e p → step (past n (inside dialect n (after_in dialect p m v older e)) free next)
        ≡ through form (suc n) (up_atom dialect p m v older e).taken free (λ i room. next i (up_atom dialect p m v older e).next room)
    unfolding past through one up_atom whole
    atom_told p (single q u) = ap (λ x. step (past n x free next)) (at_once n (after_in dialect p m v older e) u)
        ∙ ap step (sym (ap (λ i. next i (after_in dialect p m v older e) free) (sym (sub-zero n)) ∙ steps_zero (next (n - 0) (after_in dialect p m v older e) free)))
        ∙ sym (ap (λ (x : Step). through form (suc n) x.taken free (λ i room. next i x.next room)) q)
    atom_told _ (denied p) = go (leb (length (search dialect p m v older e)) n) (leb→le (length (search dialect p m v older e)) n) (le→leb (length (search dialect p m v older e)) n)
      where
        quiet : Silent (search dialect p m v older e)
        quiet = silent (met dialect [] (inner dialect p m v e ∷ [])) (rowless dialect e older (met dialect [] (inner dialect p m v e ∷ [])) (solve dialect p m v e) (its_stops dialect p m v older e))

        go : (b : Bool) → (T b → length (search dialect p m v older e) ≤ n) → (length (search dialect p m v older e) ≤ n → T b)
            → step (past n (inside dialect n (after_in dialect (never p) m v older e)) free next)
            ≡ step (through form n (search dialect p m v older e) free (λ i room. next i (drop_if (no_solution (solve dialect p m v e)) older e) room))
        go true f g = ap (λ x. step (past n x free next)) (not_whole dialect p m v older e n (f tt))
            ∙ ap step (sym (through_whole n (search dialect p m v older e) free (λ i room. next i (drop_if (no_solution (solve dialect p m v e)) older e) room) quiet (f tt)))
        go false f g = ap (λ x. step (past n x free next)) (not_short dialect p m v older e n (omega (arith, g)))
            ∙ ap step (sym (ap (λ l. through form n l free (λ i room. next i (drop_if (no_solution (solve dialect p m v e)) older e) room)) (sym (append-nil (search dialect p m v older e)))
            ∙ through_short n (search dialect p m v older e) [] free (λ i room. next i (drop_if (no_solution (solve dialect p m v e)) older e) room) quiet (omega (arith, g))))

  state_told : (n : ℕ) (s : State) (free : ℕ) (next : ℕ → List State → ℕ → Run)
      → take_up dialect form n s free next ≡ through form (suc n) (up dialect s).taken free (λ i room. next i (up dialect s).next room)
  unfolding take_up through up one
  state_told n (state g [] e) free next = refl
  state_told n (state g (end_of_not ∷ older) e) free next = refl
  state_told n (state g (atom p m v ∷ older) e) free next = atom_told n m v older e free next p (taking dialect p m v older e)

  -- ---- A round.

  through_append : (n : ℕ) (ts us : List Taken) (free : ℕ) (f : ℕ → ℕ → Run) → through form n (ts ++ us) free f ≡ through form n ts free (λ i room. through form i us room f)
  unfolding through
  through_append n [] us free f = refl
  through_append zero (t ∷ ts) us free f = refl
  through_append (suc n) (passed ∷ ts) us free f = ap step (through_append n ts us free f)
  through_append (suc n) (found e ∷ ts) us free f =
      ap (λ z. elim (leb (length (row form e)) free) as (λ _. Run) [ true ↦ row_step (row form e) z | false ↦ stopped 8 1 ]) (through_append n ts us (free - length (row form e)) f)

  through_none : (ts us : List Taken) (free : ℕ) (f : ℕ → ℕ → Run) → 1 ≤ length ts → stopped 7 0 ≡ through form 0 (ts ++ us) free f
  unfolding through
  through_none [] us free f h = absurd (not-suc-le-zero h)
  through_none (t ∷ ts) us free f h = refl

  round_told : (bs : List Branch) (n : ℕ) (new : List Branch) (free : ℕ) (rest : ℕ → List Branch → ℕ → Run)
      → take_round dialect form n bs new free rest ≡ through form n (round dialect bs) free (λ i room. rest i (new ++ fresh dialect bs) room)
  unfolding take_round through round fresh flat_map
  round_told [] zero new free rest = ap (λ l. rest 0 l free) (sym (append-nil new))
  round_told [] (suc n) new free rest = ap (λ l. rest (suc n) l free) (sym (append-nil new))
  round_told (b ∷ bs) zero new free rest =
      through_none (up dialect b.first).taken (flat_map (λ x. (up dialect x.first).taken) bs) free (λ i room. rest i (new ++ fresh dialect (b ∷ bs)) room) (up_some dialect b.first)
  round_told (b ∷ bs) (suc n) new free rest =
      state_told n b.first free (λ i ss room. take_round dialect form i bs (new ++ branch ss) room rest)
      ∙ ap (through form (suc n) (up dialect b.first).taken free)
      (fun_ext (λ i. fun_ext (λ room. round_told bs i (new ++ branch (up dialect b.first).next) room rest
      ∙ ap (λ l. through form i (round dialect bs) room (λ j x. rest j l x)) (append_assoc new (branch (up dialect b.first).next) (fresh dialect bs)))))
      ∙ sym (through_append (suc n) (up dialect b.first).taken (flat_map (λ x. (up dialect x.first).taken) bs) free (λ i room. rest i (new ++ fresh dialect (b ∷ bs)) room))

  -- ---- A run.

  pub run_told : (r limit n : ℕ) (bs : List Branch) (free : ℕ) → by_rounds dialect form r limit n bs free ≡ by_lists dialect form r limit n bs free
  unfolding by_rounds by_lists onward
  run_told zero limit n [] free = refl
  run_told zero limit n (b ∷ bs) free = refl
  run_told (suc r) limit n [] free = refl
  run_told (suc r) limit zero (b ∷ bs) free = refl
  run_told (suc r) limit (suc n) (b ∷ bs) free = ap (λ x. elim (leb (waiting (b ∷ bs)) limit) as (λ _. Run) [ true ↦ x | false ↦ stopped 21 0 ])
      (round_told (b ∷ bs) (suc n) [] free (λ i new room. by_rounds dialect form r limit i (new ++ remainders (b ∷ bs)) room)
      ∙ ap (through form (suc n) (round dialect (b ∷ bs)) free) (fun_ext (λ i. fun_ext (λ room. run_told r limit i (onward dialect (b ∷ bs)) room))))
