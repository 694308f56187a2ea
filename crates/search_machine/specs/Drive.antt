-- The whole machine with its counts, and that n steps of it give what a run with budget n gives, at every budget and room.
use Prim.Native.Nat.{ℕ, zero, suc, ◌-◌}
use Rattle.std.proofs.Common.{arith, ◌∙◌}
use Rattle.std.specs.Prelude.{◌≡◌, Bool, List, [], ◌∷◌, ◌++◌, length, leb, ℤ}
use Rattle.std.proofs.Math.Path.{refl}
use Rattle.std.proofs.Math.Bool.{true, false}
use Rattle.std.proofs.Math.Option.{Option, none, some}
use Rattle.rules.specs.Forms.{Matcher}
use Rattle.rules.specs.Origins.{Bindings}
use Rattle.rules.specs.Rows.{row}
use Rattle.rules.specs.Search.{State, Run, run_in}
use Rattle.search_machine.specs.Machine.{Machine, passing, writing, filling, step_on, once, times, answer_by, told, opened, run_steps}
use Rattle.program_rules.specs.Points.{Instr, strip, keep, other, close, drop, bind, test, split, apart, choice, deny, cut_at, end, Point, resume}
use Rattle.program_rules.specs.Points.{Follows, strips, drops, binds, tests, splits, aparts, keeps, chooses, denies, cuts, elses, closes, reserves, ends, after_end_lem}
use Rattle.search_machine.specs.Held.{Data}
use Rattle.search_machine.specs.Engine.{Conf, exec, settle}
use Rattle.search_machine.specs.Rep.{Bound, bound_none, bound, At, at, at_cut, done, Rep, over_all, live}
use Rattle.search_machine.specs.Sim.{step_rep}

pub record Engine (D : Data) : Type 0 where
  pub conf : Option (Conf D)
  pub left : ℕ
  pub rows : ℕ
  pub steps : ℕ
  pub written : List ℤ
  pub full : Bool

-- An ended engine, one that goes on, one that has written a row, one whose row does not fit.
module _ (D : Data) where
  unfoldable pub row_from : (ℕ → D.Held) → ℕ → ℕ → List ℤ
  row_from b i zero = []
  row_from b i (suc n) = D.words_of (b i) ++ row_from b (suc i) n

  unfoldable pub passed : Engine D → Option (Conf D) → Engine D
  passed k c = record { conf = c; left = k.left; rows = k.rows; steps = suc k.steps; written = k.written; full = false }

  unfoldable pub wrote : Engine D → List ℤ → Option (Conf D) → Engine D
  wrote k ws c = record { conf = c; left = k.left - length ws; rows = suc k.rows; steps = suc k.steps; written = k.written ++ ws; full = false }

  unfoldable pub filled : Engine D → Engine D
  filled k = record { conf = k.conf; left = k.left; rows = k.rows; steps = suc k.steps; written = k.written; full = true }

  unfoldable pub row_done : Engine D → List ℤ → Option (Conf D) → Engine D
  unfolding wrote filled
  row_done k ws c = elim (leb (length ws) k.left) [ true ↦ wrote k ws c | false ↦ filled k ]

  unfoldable pub result : Engine D → Instr → (ℕ → D.Held) → Option (Conf D) → Engine D
  unfolding passed row_done row_from
  result k strip b c = passed k c
  result k (drop n to) b c = passed k c
  result k (bind i n to) b c = passed k c
  result k (test t n to) b c = passed k c
  result k (split d) b c = passed k c
  result k (apart n) b c = passed k c
  result k keep b c = passed k c
  result k (choice to) b c = passed k c
  result k (deny n to) b c = passed k c
  result k (cut_at j) b c = passed k c
  result k other b c = passed k c
  result k close b c = passed k c
  result k (end n) b c = row_done k (row_from b 0 n) c

  module _ (code : ℕ → Instr) where
    unfoldable pub advance : Engine D → Option (Conf D) → Engine D
    unfolding result settle exec
    advance k none = k
    advance k (some c) = result k (code c.pc) c.binds (settle D code (exec D (code c.pc) c))

    unfoldable pub turn : Engine D → Engine D
    unfolding advance
    turn k = elim k.full [ true ↦ k | false ↦ advance k k.conf ]

    unfoldable pub turns : ℕ → Engine D → Engine D
    unfolding turn
    turns zero k = k
    turns (suc n) k = turns n (turn k)

  unfoldable pub verdict : Bool → Option (Conf D) → ℕ
  verdict true c = 8
  verdict false none = 0
  verdict false (some c) = 7

  unfoldable pub reports : Engine D → Run
  unfolding verdict
  reports k = record { answer = verdict k.full k.conf; rows = k.rows; steps = k.steps; written = k.written }

  row_ok : {b : ℕ → D.Held} {i : ℕ} {ms : List Matcher} {e : Bindings} → Bound D b i ms e → row_from b i (length ms) ≡ row D.form e
  unfolding row_from row
  row_ok bound_none = refl
  row_ok {b} {i = i} (bound {m = m} {v = v} g r) = rw (D.words_of_ok m (b i) v g, row_ok r)

  module _ (code : ℕ → Instr) (points : ℕ → Point) (follows : (pc : ℕ) → Follows points pc (code pc) (points pc)) where
    -- The engine and the machine of the definitions.
    pub data Same : Engine D → Machine → Type 0 where
      running : {c : Option (Conf D)} {ss : List State} {left rows steps : ℕ} {written : List ℤ} → Rep D code points c ss
          → Same (record { conf = c; left = left; rows = rows; steps = steps; written = written; full = false })
          (record { waiting = ss; left = left; rows = rows; steps = steps; written = written; full = false })
      stopped : {c : Option (Conf D)} {ss : List State} {left rows steps : ℕ} {written : List ℤ}
          → Same (record { conf = c; left = left; rows = rows; steps = steps; written = written; full = true })
          (record { waiting = ss; left = left; rows = rows; steps = steps; written = written; full = true })

    -- An engine that is not full stands for the waiting states.
    pub same_waiting : {k : Engine D} {K : Machine} → Same k K → k.full ≡ false → Rep D code points k.conf K.waiting
    same_waiting (running r) e = r
    same_waiting stopped e = let z : ◌≡◌ {A = ℕ} 0 1 = cc in absurd (omega arith)

    pub same_result : {k : Engine D} {K : Machine} → Same k K → reports k ≡ told K
    unfolding reports told verdict answer_by
    same_result (running over_all) = refl
    same_result (running (live l a ch)) = refl
    same_result stopped = refl

    same_row : (b : Bool) (k : Engine D) (K : Machine) (ws : List ℤ) (c : Option (Conf D)) (ss : List State) → Same k K → Rep D code points c ss
        → Same (elim b as (λ _. Engine D) [ true ↦ wrote k ws c | false ↦ filled k ]) (elim b as (λ _. Machine) [ true ↦ writing K ws ss | false ↦ filling K ss ])
    unfolding wrote filled writing filling
    same_row true k K ws c ss (running x) r = running r
    same_row true k K ws c ss stopped r = running r
    same_row false k K ws c ss (running x) r = stopped
    same_row false k K ws c ss stopped r = stopped

    same_pass : (k : Engine D) (K : Machine) (c : Option (Conf D)) (ss : List State) → Same k K → Rep D code points c ss → Same (passed k c) (passing K ss)
    unfolding passed passing
    same_pass k K c ss (running x) r = running r
    same_pass k K c ss stopped r = running r

    same_step : (c : Conf D) (i : Instr) {P : Point} {s : State} (ss : List State) (o : Option (Conf D)) (k : Engine D) (K : Machine) → Same k K
        → Follows points c.pc i P → At D c.slots c.binds c.pc c.cur P s → Rep D code points o (resume D.dialect s ss)
        → Same (result k i c.binds o) (step_on D.dialect D.form K (s ∷ ss))
    unfolding result step_on passed passing resume row_done
    same_step c i ss o k K x (strips h n pt) (at a ws bs) r = same_pass k K o _ x r
    same_step c i ss o k K x (drops h pt) (at a ws bs) r = same_pass k K o _ x r
    same_step c i ss o k K x (binds h pt) (at a ws bs) r = same_pass k K o _ x r
    same_step c i ss o k K x (tests t h l pt) (at a ws bs) r = same_pass k K o _ x r
    same_step c i ss o k K x (splits d p q pt) (at a ws bs) r = same_pass k K o _ x r
    same_step c i ss o k K x (aparts p q ps m d ks n t pt) (at a ws bs) r = same_pass k K o _ x r
    same_step c i ss o k K x (keeps p q pt) (at a ws bs) r = same_pass k K o _ x r
    same_step c i ss o k K x (chooses p q h pt pt₂) (at a ws bs) r = same_pass k K o _ x r
    same_step c i ss o k K x (denies p h pt pt₂) (at a ws bs) r = same_pass k K o _ x r
    same_step c i ss o k K x cuts (at_cut a bs) r = same_pass k K o _ x r
    same_step c i ss o k K (running y) ends (done {e = e} bs) r = rw (row_ok bs) (same_row (leb (length (row D.form e)) k.left) k K (row D.form e) o ss (running y) r)
    same_step c i ss o k K stopped ends (done {e = e} bs) r = rw (row_ok bs) (same_row (leb (length (row D.form e)) k.left) k K (row D.form e) o ss stopped r)
    same_step c i ss o k K x elses a r = elim a [ ]
    same_step c i ss o k K x closes a r = elim a [ ]
    same_step c i ss o k K x reserves a r = elim a [ ]
    same_step c i ss o k K x after_end_lem a r = elim a [ ]

    pub same_turn : {k : Engine D} {K : Machine} → Same k K → Same (turn code k) (once D.dialect D.form K)
    unfolding turn once advance step_on
    same_turn (running over_all) = running over_all
    same_turn (running (live {c = c} {ss = ss} l a ch)) = same_step c (code c.pc) ss _ _ _ (running (live l a ch))
        (follows c.pc) a (step_rep D code points c (code c.pc) ss refl (follows c.pc) l a ch)
    same_turn stopped = stopped

    same_turns : (n : ℕ) {k : Engine D} {K : Machine} → Same k K → Same (turns code n k) (times D.dialect D.form n K)
    unfolding turns times
    same_turns zero s = s
    same_turns (suc n) s = same_turns n (same_turn s)

    pub engine_runs : (n : ℕ) (s : State) (room : ℕ) (k : Engine D) → Same k (opened s room) → reports (turns code n k) ≡ run_in D.dialect D.form n (s ∷ []) room
    engine_runs n s room k h = same_result (same_turns n h) ∙ run_steps D.dialect D.form n s room
