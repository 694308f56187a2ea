-- The search inside a not, taken up whole: it goes on as long as a frame is open, and then at most one state follows.
use Rattle.std.specs.Prelude.{ℕ, zero, suc, ◌+◌, ◌-◌, ◌≤◌, ◌<◌, ◌⊎◌, Bool, ◌||◌}
use Rattle.std.proofs.Common.{arith, sym, ap₂, ◌∙◌, subst, inl, inr, ⊎_elim}
use Rattle.std.proofs.Math.Path.{◌≡◌, refl, ap}
use Rattle.std.proofs.Math.Bool.{true, false}
use Rattle.std.proofs.Math.Option.{Option, none, some}
use mathlib.Core.List.{List, [], ◌∷◌, ◌++◌, map}
use Rattle.rules.specs.Dialects.{Dialect}
use Rattle.rules.specs.Origins.{Bindings}
use Rattle.rules.specs.Search.{Halves, Atom, atom, end_of_not, State, state, leave_not, after_in, Run, stopped, step}
use Rattle.round_rules.specs.Rounds.{marked, any_marked, searching, on_first, unmarked, Inside, spent, left, one_more, inside, steps, past}
use Rattle.program_rules.specs.Points.{Kind, branch, Instr, deny, end, Item, Point, finish, resume, Follows, strips, drops, binds, tests, splits, aparts, keeps, chooses, denies, cuts, ends}
use Rattle.program_rules.specs.Points as point
use Rattle.search_machine.specs.Held.{Data}
use Rattle.search_machine.specs.Engine.{Slot, Conf, exec, settle}
use Rattle.search_machine.specs.Rep.{At, at, at_cut, done, Chain, shut, open_at, choice_at_lem, deny_at, Rep, over_all, live}
use Rattle.search_machine.specs.Sim.{step_rep}
use Rattle.round_states.specs.Kept.{chain_none}
use Rattle.round_states.specs.Branches.{Shallow, Shallows, plain_rep, chain_plain, row_outside}

-- ---- States behind one: none, or the last of them has a mark.

unfoldable pub okay : List State → Bool
unfolding marked
okay [] = true
okay (s ∷ []) = marked s
okay (s ∷ t ∷ ss) = okay (t ∷ ss)

-- The states behind the first are so.
unfoldable pub behind : List State → Bool
unfolding okay
behind [] = true
behind (s ∷ ss) = okay ss

clash : {A : Type 0} → ◌≡◌ {A = Bool} false true → A
clash h = let z : ◌≡◌ {A = ℕ} 0 1 = cc in absurd (omega arith)

okay_tail : (s : State) (ss : List State) → okay (s ∷ ss) ≡ true → okay ss ≡ true
unfolding okay
okay_tail s [] h = refl
okay_tail s (t ∷ ss) h = h

okay_before : (us : List State) (t : State) (ss : List State) → okay (t ∷ ss) ≡ true → okay (us ++ (t ∷ ss)) ≡ true
unfolding okay
okay_before [] t ss h = h
okay_before (u ∷ []) t ss h = h
okay_before (u ∷ w ∷ us) t ss h = okay_before (w ∷ us) t ss h

behind_before : (us : List State) (t : State) (ss : List State) → okay (t ∷ ss) ≡ true → behind (us ++ (t ∷ ss)) ≡ true
unfolding behind
behind_before [] t ss h = okay_tail t ss h
behind_before (u ∷ us) t ss h = okay_before us t ss h

behind_okay : (ss : List State) → okay ss ≡ true → behind ss ≡ true
unfolding behind
behind_okay [] h = refl
behind_okay (s ∷ ss) h = okay_tail s ss h

okay_leave : (ss : List State) → okay ss ≡ true → okay (leave_not ss) ≡ true
unfolding leave_not
okay_leave [] h = h
okay_leave (state true older e ∷ ss) h = okay_tail (state true older e) ss h
okay_leave (state false older e ∷ ss) h = okay_leave ss (okay_tail (state false older e) ss h)

or_true : (b : Bool) → b || true ≡ true
or_true true = refl
or_true false = refl

some_marked : (s : State) (ss : List State) → okay (s ∷ ss) ≡ true → any_marked (s ∷ ss) ≡ true
unfolding okay any_marked
some_marked s [] h = ap (λ b. b || false) h
some_marked s (t ∷ ss) h = ap (λ b. marked s || b) (some_marked t ss h) ∙ or_true (marked s)

-- ---- One step of it, and its end.

pub past_more : (n : ℕ) (i : Inside) (free : ℕ) (next : ℕ → List State → ℕ → Run) → past (suc n) (one_more i) free next ≡ step (past n i free next)
unfolding past one_more stopped step steps
past_more n spent free next = refl
past_more n (left k ss) free next =
    let e : suc n - suc k ≡ n - k = omega arith in
    let f : suc k + (next (n - k) ss free).steps ≡ suc (k + (next (n - k) ss free).steps) = omega arith in
    rw (e, f)

pub inside_over : (dialect : Dialect) (n : ℕ) (ss : List State) → searching ss ≡ false → inside dialect n ss ≡ left 0 (map unmarked ss)
unfolding inside
inside_over dialect zero ss h = ap (λ b. elim b as (λ _. Inside) [ true ↦ spent | false ↦ left 0 (map unmarked ss) ]) h
inside_over dialect (suc n) ss h = ap (λ b. elim b as (λ _. Inside) [ true ↦ one_more (inside dialect n (on_first dialect ss)) | false ↦ left 0 (map unmarked ss) ]) h

pub inside_spent : (dialect : Dialect) (ss : List State) → searching ss ≡ true → inside dialect 0 ss ≡ spent
unfolding inside
inside_spent dialect ss h = ap (λ b. elim b as (λ _. Inside) [ true ↦ spent | false ↦ left 0 (map unmarked ss) ]) h

pub inside_more : (dialect : Dialect) (n : ℕ) (ss : List State) → searching ss ≡ true → inside dialect (suc n) ss ≡ one_more (inside dialect n (on_first dialect ss))
unfolding inside
inside_more dialect n ss h = ap (λ b. elim b as (λ _. Inside) [ true ↦ one_more (inside dialect n (on_first dialect ss)) | false ↦ left 0 (map unmarked ss) ]) h

pub past_over : (n : ℕ) (ss : List State) (free : ℕ) (next : ℕ → List State → ℕ → Run) → past n (left 0 ss) free next ≡ next n ss free
unfolding past steps
past_over n ss free next =
    let e : n - 0 ≡ n = omega arith in
    ap (λ i. steps 0 (next i ss free)) e ∙ same (next n ss free)
  where
    same : (r : Run) → steps 0 r ≡ r
    same r i = record { answer = r.answer; rows = r.rows; steps = (let e : 0 + r.steps ≡ r.steps = omega arith in e) i; written = r.written }

module _ (D : Data) (code : ℕ → Instr) (points : ℕ → Point) where
  -- An open frame stands for some state.
  pub chain_some : {f : ℕ → Slot D} {a : ℕ → D.Held} {top n w : ℕ} {ss : List State} → Chain D code points f a top n w ss → (top ≡ 0 → ⊥)
      → (t : State) × (ts : List State) × (ss ≡ t ∷ ts)
  unfolding branch
  chain_some shut z = absurd (z refl)
  chain_some {f} (open_at {j = j} {older = older} {e = e} {hs = hs} {ss = ss} k p q cd pt i u l lf ws bs ch) z =
      let r = D.pick_ok k (f j).held (f j).rem hs lf in
      (branch k p q older e r.0, map (branch k p q older e) r.1 ++ ss, ap (λ xs. map (branch k p q older e) xs ++ ss) r.2)
  chain_some (choice_at_lem {m = m} {v = v} {older = older} {e = e} {ss = ss} q cd t pt i u l is ws bs ch) z = (state false (atom q m v ∷ older) e, ss, refl)
  chain_some (deny_at {older = older} {e = e} {ss = ss} cd r pt l w ws bs ch) z = (state true older e, ss, refl)

  -- Whether the search goes on inside.
  pub inside_open : {c : Conf D} {ss : List State} → Rep D code points (some c) ss → behind ss ≡ true → (c.top ≡ 0 → ⊥) → searching ss ≡ true
  unfolding behind searching
  inside_open (live {ss = ss} l a ch) o z = let r = chain_some ch z in rw r.2 (some_marked r.0 r.1 (rw r.2 at o))

  pub inside_left : {c : Conf D} {ss : List State} → Rep D code points (some c) ss → c.top ≡ 0 → searching ss ≡ false
  unfolding searching any_marked
  inside_left (live {ss = ss} l a ch) z = rw (chain_none D (λ _. Unit {0}) code points ch z).1

  module _ (follows : (pc : ℕ) → Follows points pc (code pc) (points pc)) where
    -- One step of the search inside.
    pub inside_step : {c : Conf D} {ss : List State} → Rep D code points (some c) ss → behind ss ≡ true → (c.top ≡ 0 → ⊥)
        → Rep D code points (settle D code (exec D (code c.pc) c)) (on_first D.dialect ss) × (behind (on_first D.dialect ss) ≡ true)
    unfolding on_first resume behind
    inside_step {c} (live {s = s} {ss = ss} l a ch) o z =
        let r = chain_some ch z in
        (subst (λ q. Rep D code points (settle D code (exec D (code c.pc) c)) q) (resume_is s ss) (step_rep D code points c (code c.pc) ss refl (follows c.pc) l a ch), go s r.0 r.1 r.2 o)
      where
        resume_is : (s : State) (ss : List State) → resume D.dialect s ss ≡ on_first D.dialect (s ∷ ss)
        resume_is (state g [] e) ss = refl
        resume_is (state g (end_of_not ∷ older) e) ss = refl
        resume_is (state g (atom p m v ∷ older) e) ss = refl

        go : (s : State) (t : State) (ts : List State) → ss ≡ t ∷ ts → okay ss ≡ true → behind (on_first D.dialect (s ∷ ss)) ≡ true
        go (state g [] e) t ts q o = behind_okay ss o
        go (state g (end_of_not ∷ older) e) t ts q o = behind_okay (leave_not ss) (okay_leave ss o)
        go (state g (atom p m v ∷ older) e) t ts q o = rw q (behind_before (after_in D.dialect p m v older e) t ts (rw q at o))

    -- A not is taken up: what is inside, and behind it what follows.
    pub not_step : {c : Conf D} {s : State} → Rep D code points (some c) (s ∷ []) → (n to : ℕ) → code c.pc ≡ deny n to → behind (resume D.dialect s []) ≡ true
    not_step {c} (live {s = s} l a ch) n to e = go s (follows c.pc) a e
      where
        go : {i : Instr} {P : Point} {f : ℕ → Slot D} {b : ℕ → D.Held} {pc : ℕ} {h : D.Held} (s : State) → Follows points c.pc i P → At D f b pc h P s → i ≡ deny n to → behind (resume D.dialect s []) ≡ true
        go s (denies p r pt pt₂) (at x ws bs) q = unfold resume behind okay after_in marked in refl
        go s (strips h n pt) (at x ws bs) q = let z : ◌≡◌ {A = ℕ} 0 1 = cc in absurd (omega arith)
        go s (drops r pt) (at x ws bs) q = let z : ◌≡◌ {A = ℕ} 0 1 = cc in absurd (omega arith)
        go s (binds r pt) (at x ws bs) q = let z : ◌≡◌ {A = ℕ} 0 1 = cc in absurd (omega arith)
        go s (tests t h r pt) (at x ws bs) q = let z : ◌≡◌ {A = ℕ} 0 1 = cc in absurd (omega arith)
        go s (splits k p q₁ pt) (at x ws bs) q = let z : ◌≡◌ {A = ℕ} 0 1 = cc in absurd (omega arith)
        go s (aparts p q₁ ps m k ks n t pt) (at x ws bs) q = let z : ◌≡◌ {A = ℕ} 0 1 = cc in absurd (omega arith)
        go s (keeps p q₁ pt) (at x ws bs) q = let z : ◌≡◌ {A = ℕ} 0 1 = cc in absurd (omega arith)
        go s (chooses p q₁ r pt pt₂) (at x ws bs) q = let z : ◌≡◌ {A = ℕ} 0 1 = cc in absurd (omega arith)
        go s cuts (at_cut x bs) q = let z : ◌≡◌ {A = ℕ} 0 1 = cc in absurd (omega arith)
        go s ends (done bs) q = let z : ◌≡◌ {A = ℕ} 0 1 = cc in absurd (omega arith)
        go s w a q = elim a [ ]

    -- A not's state has an atom.
    pub not_row : {c : Conf D} {g : Bool} {e : Bindings} → Rep D code points (some c) (state g [] e ∷ []) → (n to : ℕ) → code c.pc ≡ deny n to → ⊥
    not_row {c} {g} {e} (live l a ch) n to h = go (follows c.pc) a h
      where
        go : {i : Instr} {P : Point} {f : ℕ → Slot D} {b : ℕ → D.Held} {pc : ℕ} {h : D.Held} → Follows points c.pc i P → At D f b pc h P (state g [] e) → i ≡ deny n to → ⊥
        go ends (done bs) q = let z : ◌≡◌ {A = ℕ} 0 1 = cc in omega arith
        go w a q = elim a [ ]

  -- No state inside has a row.
  pub no_row : {c : Conf D} {g : Bool} {e : Bindings} {ss : List State} → Rep D code points (some c) (state g [] e ∷ ss) → searching (state g [] e ∷ ss) ≡ true → ⊥
  unfolding searching
  no_row (live l a ch) h = clash (sym (chain_plain D code points ch (row_outside D a)).1 ∙ h)
