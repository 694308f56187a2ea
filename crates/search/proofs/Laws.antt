-- The laws that the code of the run asks for. Assumes nothing.
use mathlib.Core.Path.{◌≡◌, refl, sym, ◌∙◌, ap, subst}
use mathlib.Core.Bool.{Bool, true, false}
use mathlib.Core.List.{List}
use Prim.Native.Nat.{ℕ, ◌+◌, ◌-◌, ◌*◌, ◌^◌, ◌<◌, ◌≤◌}
use native.Mathlib.Omega.{arith}
use borrow.Author.Tests.{eq-eqb, ne_eqb, lt-ltb, le-ltb, eqb-true, eqb-false, ltb-true, ltb-false}
use lib.ListN.{length, get_or, set}
use lib.Dec.{eqb, ltb}
use lib.IntN.{ℤ, pos}
use mir.Syntax.{w64}
use mir.Val.{Fits}
use Rattle.rules.specs.Dialects.{Dialect, every_place, first_places}
use Rattle.rules.specs.Rows.{Form, row}
use Rattle.words.specs.Words.{entries}
use Rattle.value_places.specs.Places.{Target}
use Rattle.value_places.specs.Held.{Held, put}
use Rattle.value_rows.specs.Row.{bound, Bound, nothing}
use Rattle.value_equality.specs.Equality.{equal_at, is_sum}
use Rattle.value_rows.specs.declared.Binding.{Binding}
use Rattle.value_places.proofs.Elements.{second}
use Rattle.value_places.proofs.Held.{held_64}
use Rattle.value_rows.proofs.Row.{row_within}
use Rattle.search_step.specs.declared.State.{State}
use Rattle.search_atom.specs.Leaves.{when, passes_of, opens_of}
use Rattle.tables.specs.Slot.{Tables, view_of}
use Rattle.search_step.specs.Steps as steps
use Rattle.search_step.specs.Steps.{Turned, turned, counted, dropped, head_of, Steps}
use Rattle.search_machine.specs.Operations.{opens_with}
use Rattle.search.specs.Plain.{split_of, divide_of, step_by, step_of}
use Rattle.search_choice.specs.Choices.{pick_of, settle_of, Named, PicksIf}
use Rattle.search.specs.Stops.{stop_of}
use Rattle.search.specs.Run.{Env, Run, run, goes_on, value_of, filled, wrote_to, wrote, Ended, ended, end_by, end_of, ask_of, bound_at, asked, choices_in, choices_of, after_turn, after_end, take_end, take_bind, take_step, take_of, settled, run_of}
use Rattle.search.specs.declared.Report.{Report}
use Rattle.search.specs.Told.{reported}
use Rattle.search.specs.Valid.{Fine, Valid, Rows}
use Rattle.search.proofs.Keeps.{take_keeps}
use Rattle.search.proofs.Counts.{run_over}
use Rattle.search.proofs.Heads.{head_next, head_picks, head_backs}

-- ---- Whether a state is taken up, and whether a row is short of room.

module _ (x : State) (n : ℕ) (r : Bool) (e : r ≡ goes_on x n) where
  goes : r ≡ true → (x.live ≡ 1) × (x.steps < n)
  unfolding goes_on when
  goes t = go (eqb x.live 1) refl (ltb x.steps n) refl (sym e ∙ t)
    where
      go : (d : Bool) → eqb x.live 1 ≡ d → (c : Bool) → ltb x.steps n ≡ c → when d c false ≡ true → (x.live ≡ 1) × (x.steps < n)
      go true j true k y = (eqb-true _ _ j, ltb-true _ _ k)
      go true j false k y = let w : ◌≡◌ {A = ℕ} 0 1 = cc in absurd (omega arith)
      go false j c k y = let w : ◌≡◌ {A = ℕ} 0 1 = cc in absurd (omega arith)

  pub goes_live : r ≡ true → x.live ≡ 1
  goes_live t = (goes t).0

  pub goes_less : r ≡ true → x.steps < n
  goes_less t = (goes t).1

module _ (form : Form) (s : List ℤ) (b : List Binding) (n free : ℕ) (g : Target s) (w : 0 < length s) (q : Bound s b n) where
  pub short_asked : (r : Bool) (size : ℕ) → size ≡ length (row form (bound s b n)) → r ≡ ltb free size → r ≡ ltb free (length (row form (bound s b n)))
  short_asked r size e d = rw (sym e) d

  pub short_ample : n * (length s + 1) ≤ free → false ≡ ltb free (length (row form (bound s b n)))
  short_ample l = let m = row_within s b n q g form w in sym (le-ltb free (length (row form (bound s b n))) (omega arith))

pub fits_short : (words long size : ℕ) → words ≤ long → (r : Bool) → r ≡ ltb (long - words) size → r ≡ false → words + size ≤ long
fits_short words long size w r p f = let l = ltb-false (long - words) size (sym p ∙ f) in omega (arith, l, w)

pub turned_path : {x y : State} {t u : Tables} → x ≡ y → t ≡ u → turned x t ≡ turned y u
turned_path p q i = turned (p i) (q i)

-- ---- A state with no atom left: its row does not fit; or it is written.

module _ (form : Form) (s : List ℤ) (n : ℕ) (x : State) (b : List Binding) (room : List ℤ) (y : State) (room' : List ℤ) where
  pub end_full : length room - x.words < length (row form (bound s b n)) → y ≡ filled x → room' ≡ room → ended y room' ≡ end_of form s n x b room
  unfolding end_of end_by when
  end_full l p k = rw (p, k, lt-ltb _ _ l)

  pub end_wrote : (w : ℕ) → length (row form (bound s b n)) ≤ length room - x.words → y ≡ wrote_to x w → w ≡ x.words + length (row form (bound s b n))
      → room' ≡ put room x.words (row form (bound s b n)) → ended y room' ≡ end_of form s n x b room
  unfolding end_of end_by when wrote wrote_to
  end_wrote w l p i k = rw (p, i, k, le-ltb _ _ l)

pub ended_at : (y y' : State) (room room' : List ℤ) → y ≡ y' → room ≡ room' → ended y room ≡ ended y' room'
ended_at y y' room room' p q i = ended (p i) (q i)

-- ---- At the loop's head: the whole run w is what is left of it from here.

pub record Here (e : Env) (w : Run) (budget : ℕ) (room : List ℤ) (r : Run) : Type 0 where
  pub whole : w ≡ run_of e (budget - r.state.steps) r
  pub valid : Valid e r
  pub long : length r.room ≡ length room

pub here_start : (e : Env) (n : ℕ) (r : Run) → Valid e r → Here e (run_of e (n - r.state.steps) r) n r.room r
here_start e n r v = record { whole = refl; valid = v; long = refl }

module _ (e : Env) (w : Run) (budget : ℕ) (room : List ℤ) (r : Run) (h : Here e w budget room r) where
  here_over : (r.state.live ≡ 1 → ⊥) → r ≡ w
  here_over m = sym (h.whole ∙ run_over e (budget - r.state.steps) r m)

  here_spent : budget ≤ r.state.steps → r ≡ w
  unfolding run_of
  here_spent l = let z : budget - r.state.steps ≡ 0 = omega arith in sym (h.whole ∙ ap (λ (k : ℕ). run_of e k r) z)

  pub here_end : (c : Bool) → c ≡ goes_on r.state budget → c ≡ false → r ≡ w
  unfolding goes_on when
  here_end c p f = go (eqb r.state.live 1) refl (ltb r.state.steps budget) refl (sym p ∙ f)
    where
      go : (d : Bool) → eqb r.state.live 1 ≡ d → (k : Bool) → ltb r.state.steps budget ≡ k → when d k false ≡ false → r ≡ w
      go true j true k y = let z : ◌≡◌ {A = ℕ} 0 1 = cc in absurd (omega arith)
      go true j false k y = here_spent (ltb-false _ _ k)
      go false j d k y = here_over (eqb-false _ _ j)

-- ---- What tag 3 asks, by the numbers of its line.

pub sum_is : (s : List ℤ) (a at : ℕ) (c z : ℤ) (r : Bool) → r ≡ is_sum s a c at → c ≡ z → r ≡ is_sum s a z at
sum_is s a at c z r e d = e ∙ ap (λ y. is_sum s a y at) d

pub equal_is : (mt s : List ℤ) (i j a x b y : ℕ) (r : Bool) → r ≡ equal_at mt i s a x b y → i ≡ j → r ≡ equal_at mt j s a x b y
equal_is mt s i j a x b y r e d = e ∙ ap (λ k. equal_at mt k s a x b y) d

-- ---- What the branches before a step leave: the answer to tag 3, and the bindings.

pub record Asked (e : Env) (r : Run) (q : Bool) (b : List Binding) : Type 0 where
  pub ask : q ≡ asked e r
  pub binds : b ≡ when (eqb (get_or e.op r.state.pc 0) 3) (set r.binds (get_or e.arg r.state.pc 0) (record { at = r.state.at; marks = r.state.marks })) r.binds

-- The line's instruction is o.
module _ (e : Env) (x : State) (t : Tables) (b : List Binding) (room : List ℤ) (q : Bool) (b' : List Binding) (o : ℕ) (i : o ≡ get_or e.op x.pc 0) where
  not_asked : (o ≡ 5 → ⊥) → (o ≡ 6 → ⊥) → asked e (run x t b room) ≡ false
  unfolding asked ask_of when
  not_asked n m = rw (ne_eqb (get_or e.op x.pc 0) 5 (λ z. n (i ∙ z)), ne_eqb (get_or e.op x.pc 0) 6 (λ z. m (i ∙ z)))

  pub asked_3 : (v : ℕ) (y : Binding) → o ≡ 3 → v ≡ get_or e.arg x.pc 0 → y ≡ value_of x → b' ≡ set b v y → q ≡ false
      → Asked e (run x t b room) q b'
  unfolding when value_of
  asked_3 v y z a d p f = record {
    ask = f ∙ sym (not_asked (λ y. omega arith) (λ y. omega arith));
    binds = p ∙ rw (d, a, eq-eqb (get_or e.op x.pc 0) 3 (sym i ∙ z));
  }

  asked_n : (o ≡ 3 → ⊥) → (o ≡ 5 → ⊥) → (o ≡ 6 → ⊥) → b' ≡ b → q ≡ false → Asked e (run x t b room) q b'
  unfolding when
  asked_n n m k p f = record { ask = f ∙ sym (not_asked m k); binds = p ∙ rw (ne_eqb (get_or e.op x.pc 0) 3 (λ z. n (i ∙ z))) }

  -- Instructions below 3; 4; from 7 on.
  pub asked_below : o ≤ 2 → b' ≡ b → q ≡ false → Asked e (run x t b room) q b'
  asked_below l = asked_n (λ y. omega arith) (λ y. omega arith) (λ y. omega arith)

  pub asked_4 : o < 5 → (o ≡ 3 → ⊥) → b' ≡ b → q ≡ false → Asked e (run x t b room) q b'
  asked_4 l n = asked_n n (λ y. omega arith) (λ y. omega arith)

  pub asked_above : 7 ≤ o → b' ≡ b → q ≡ false → Asked e (run x t b room) q b'
  asked_above l = asked_n (λ y. omega arith) (λ y. omega arith) (λ y. omega arith)

  pub asked_5 : (v : ℕ) (r : Bool) → o ≡ 5 → v ≡ get_or e.arg x.pc 0 → b' ≡ b → q ≡ r
      → r ≡ is_sum e.words (get_or b v nothing).at (get_or e.con x.pc (pos 0)) x.at → Asked e (run x t b room) q b'
  unfolding asked ask_of bound_at when
  asked_5 v r z a p f h =
      record { ask = f ∙ h ∙ rw (a, eq-eqb (get_or e.op x.pc 0) 5 (sym i ∙ z)); binds = p ∙ rw (ne_eqb (get_or e.op x.pc 0) 3 (λ y. omega arith)) }

  pub asked_6 : (v : ℕ) (r : Bool) → (o ≡ 5 → ⊥) → 5 ≤ o → o < 7 → v ≡ get_or e.arg x.pc 0
      → b' ≡ b → q ≡ r → r ≡ equal_at e.matcher (get_or e.mat x.pc 0) e.words (get_or b v nothing).at (get_or b v nothing).marks x.at x.marks
      → Asked e (run x t b room) q b'
  unfolding asked ask_of bound_at when
  asked_6 v r m j l a p f h =
      let z : get_or e.op x.pc 0 ≡ 6 = omega arith in
      record { ask = f ∙ h ∙ rw (a, ne_eqb (get_or e.op x.pc 0) 5 (λ y. m (i ∙ y)), eq-eqb (get_or e.op x.pc 0) 6 z); binds = p ∙ rw (ne_eqb (get_or e.op x.pc 0) 3 (λ y. omega arith)) }

-- ---- A turn.

step_3 : (from to : List ℕ) (con s : List ℤ) (q : Bool) (c : ℕ) (x : State) (t : Tables) → step_by 3 from to con s q c x t ≡ turned (dropped from to t.ats t.backs x) t
unfolding step_by when passes_of
step_3 from to con s q c x t = refl

step_bind : (op from to : List ℕ) (con s : List ℤ) (q : Bool) (c : ℕ) (x : State) (t : Tables) → get_or op x.pc 0 ≡ 3
    → step_of op from to con s q c x t ≡ turned (dropped from to t.ats t.backs (counted x)) t
unfolding step_of
step_bind op from to con s q c x t z = ap (λ (o : ℕ). step_by o from to con s q c (counted x) t) z ∙ step_3 from to con s q c (counted x) t

-- The code's step: of a list's cons, and of any other line.
head_code : (op from to : List ℕ) (con s : List ℤ) (q : Bool) (x : State) (t : Tables) → get_or op x.pc 0 ≡ 8 → steps.step_of op from to con s q x t ≡ head_of s (counted x) t
unfolding steps.step_of steps.step_by steps.divide_of when
head_code op from to con s q x t z = ap (λ (o : ℕ). steps.step_by o from to con s q (counted x) t) z

head_plain : (op from to : List ℕ) (con s : List ℤ) (q : Bool) (c : ℕ) (x : State) (t : Tables) → get_or op x.pc 0 ≡ 8 → step_of op from to con s q c x t ≡ split_of 8 c (counted x) t
unfolding step_of step_by divide_of when
head_plain op from to con s q c x t z = ap (λ (o : ℕ). step_by o from to con s q c (counted x) t) z

other_code : (op from to : List ℕ) (con s : List ℤ) (q : Bool) (c : ℕ) (x : State) (t : Tables) → (get_or op x.pc 0 ≡ 8 → ⊥) → c ≡ x.marks
    → steps.step_of op from to con s q x t ≡ step_of op from to con s q c x t
unfolding steps.step_of steps.step_by steps.divide_of steps.split_of step_of step_by divide_of split_of opens_of opens_with when counted
other_code op from to con s q c x t n e = rw (e, ne_eqb (get_or op x.pc 0) 8 n)

-- No cons under a multiset stands here.
not_chosen : (e : Env) (r : Run) → (get_or e.op r.state.pc 0 ≡ 9 → ⊥) → choices_of e r ≡ r.state.marks
unfolding choices_of choices_in when
not_chosen e r n = go e.dialect
  where
    go : (d : Dialect) → choices_in d (get_or e.op r.state.pc 0) e.matcher (get_or e.mat r.state.pc 0) e.words r.state.at r.state.marks ≡ r.state.marks
    go every_place = refl
    go first_places = rw (ne_eqb (get_or e.op r.state.pc 0) 9 n)

-- A state taken up, by a row or a step.
pub record Taken (e : Env) (r : Run) (y : State) (u : Tables) (b : List Binding) (room : List ℤ) : Type 0 where
  pub next : settled e (run y u b room) ≡ settled e (take_of e r)
  pub picks : PicksIf y.live e.op e.words y.top u.ats u.wholes u.lefts
  pub long : length u.backs ≡ entries

module _ (e : Env) (x : State) (t : Tables) (b : List Binding) (room : List ℤ) (q : Bool) (b' : List Binding) (a : Asked e (run x t b room) q b') where
  same_binds : (get_or e.op x.pc 0 ≡ 3 → ⊥) → b' ≡ b
  unfolding when
  same_binds n = a.binds ∙ rw (ne_eqb _ _ n)

  new_binds : get_or e.op x.pc 0 ≡ 3 → b' ≡ set b (get_or e.arg x.pc 0) (record { at = x.at; marks = x.marks })
  unfolding when
  new_binds z = a.binds ∙ rw (eq-eqb _ _ z)

  -- The row is taken up, or a step is taken.
  pub took_end : (y : State) (u : Tables) (room' : List ℤ) → get_or e.op x.pc 0 ≡ 0 → ended y room' ≡ end_of e.form e.words e.vars x b' room → u ≡ t
      → run y u b' room' ≡ take_of e (run x t b room)
  unfolding take_of take_end after_end when
  took_end y u room' z p d =
      let s = same_binds (λ w. omega arith) in
      let q : ended y room' ≡ end_of e.form e.words e.vars x b room = rw s at p in
      rw (d, s, eq-eqb _ _ z) (ap (λ (k : Ended). after_end k t b) q)

  stepped : Turned
  stepped = step_of e.op e.from e.to e.con e.words q (choices_of e (run x t b room)) x t

  took_3 : get_or e.op x.pc 0 ≡ 3 → run stepped.state stepped.tables b' room ≡ take_of e (run x t b room)
  unfolding stepped take_of take_bind when
  took_3 z =
      rw (ne_eqb _ 0 (λ (y : get_or e.op x.pc 0 ≡ 0). omega arith), eq-eqb _ 3 z, new_binds z)
      (ap (λ (u : Turned). run u.state u.tables (set b (get_or e.arg x.pc 0) (record { at = x.at; marks = x.marks })) room)
      (step_bind e.op e.from e.to e.con e.words q (choices_of e (run x t b room)) x t z))

  took_n : (get_or e.op x.pc 0 ≡ 0 → ⊥) → (get_or e.op x.pc 0 ≡ 3 → ⊥) → run stepped.state stepped.tables b' room ≡ take_of e (run x t b room)
  unfolding stepped take_of take_step after_turn when
  took_n n m = rw (ne_eqb _ _ n, ne_eqb _ _ m, same_binds m, a.ask)

  took_plain : (get_or e.op x.pc 0 ≡ 0 → ⊥) → run stepped.state stepped.tables b' room ≡ take_of e (run x t b room)
  took_plain n = go (eqb (get_or e.op x.pc 0) 3) refl
    where
      go : (d : Bool) → eqb (get_or e.op x.pc 0) 3 ≡ d → run stepped.state stepped.tables b' room ≡ take_of e (run x t b room)
      go true j = took_3 (eqb-true _ _ j)
      go false j = took_n n (eqb-false _ _ j)

  -- What a row and a step ask.
  module _ (fine : Fine e) (g : Target e.words) (v : Valid e (run x t b room)) (l : x.steps + 1 < 2 ^ 64) where
    pub turn_steps : (slots : List ℕ) → t ≡ view_of e.arg slots → Steps e.words e.op e.from e.arg e.con slots x
    turn_steps slots w = record {
      place = v.place;
      constant = fine.constants x.pc v.place;
      next = fine.slots x.pc v.place;
      held = v.held;
      word = second e.words x.at g v.held.tag;
      count = l;
      owns = record {
        slot = fine.slot;
        long = rw w at v.long.backs;
        alone = fine.alone x.pc v.place;
        fits = fine.parts x.pc v.place;
        parts = fine.each x.pc v.place;
      };
    }

    rows_ask : Rows e.words b e.vars x room
    rows_ask =
        let c = v.counts in
        record {
          bound = record { most = fine.few; long = v.binds.long; are = λ i h. v.binds.are i (let k = fine.few in omega arith) };
          steps = l;
          rows = omega arith;
          words = v.room;
        }

    pub turn_row : get_or e.op x.pc 0 ≡ 0 → Rows e.words b' e.vars x room
    turn_row z = rw (same_binds (λ y. omega arith)) rows_ask

    -- The state is taken up: the next choice can be taken, and then the run is at its next state.
    pub taken_is : x.live ≡ 1 → (y : State) (u : Tables) (room' : List ℤ) → run y u b' room' ≡ take_of e (run x t b room) → Taken e (run x t b room) y u b' room'
    taken_is o y u room' p =
        let k = subst (Valid e) (sym p) (take_keeps e fine g (run x t b room) v o) in
        record { next = ap (settled e) p; picks = record { picks = λ z. k.frames.last }; long = k.long.backs }

    taken_head : (y : State) (u : Tables) → get_or e.op x.pc 0 ≡ 8 → turned y u ≡ steps.step_of e.op e.from e.to e.con e.words q x t → Taken e (run x t b room) y u b' room
    unfolding stepped after_turn counted
    taken_head y u z p =
        let h = p ∙ head_code e.op e.from e.to e.con e.words q x t z in
        let c = ap (λ (w : Turned). run w.state w.tables b' room) (head_plain e.op e.from e.to e.con e.words q (choices_of e (run x t b room)) x t z) in
        record {
          next = head_next e (counted x) t b' room v.long v.place (choices_of e (run x t b room)) y u h z (held_64 e.words x.at x.marks g v.held) ∙ ap (settled e) (sym c ∙ took_plain (λ w. omega arith));
          picks = head_picks e (counted x) t b' room v.long v.place y u h v.frames.last;
          long = head_backs e (counted x) t b' room v.long v.place y u h;
        }

    -- A step with the choices that there are.
    pub taken_chosen : x.live ≡ 1 → (y : State) (u : Tables) (room' : List ℤ) → (get_or e.op x.pc 0 ≡ 0 → ⊥)
        → turned y u ≡ step_of e.op e.from e.to e.con e.words q (choices_of e (run x t b room)) x t → room' ≡ room → Taken e (run x t b room) y u b' room'
    unfolding stepped
    taken_chosen o y u room' n p k = taken_is o y u room' (rw k (ap (λ (w : Turned). run w.state w.tables b' room) p ∙ took_plain n))

    pub taken_step : x.live ≡ 1 → (y : State) (u : Tables) (room' : List ℤ) → (get_or e.op x.pc 0 ≡ 0 → ⊥) → (get_or e.op x.pc 0 ≡ 9 → ⊥)
        → turned y u ≡ steps.step_of e.op e.from e.to e.con e.words q x t → room' ≡ room → Taken e (run x t b room) y u b' room'
    taken_step o y u room' n m p k = go (eqb (get_or e.op x.pc 0) 8) refl
      where
        go : (d : Bool) → eqb (get_or e.op x.pc 0) 8 ≡ d → Taken e (run x t b room) y u b' room'
        go true j = rw k (taken_head y u (eqb-true _ _ j) p)
        go false j = taken_chosen o y u room' n (p ∙ other_code e.op e.from e.to e.con e.words q (choices_of e (run x t b room)) x t (eqb-false _ _ j) (not_chosen e (run x t b room) m)) k

settle_by : (e : Env) (r : Run) (c : Bool)
    → after_turn (when c (pick_of e.op e.from e.to e.words r.state r.tables) (turned r.state r.tables)) r.binds r.room
    ≡ when c (after_turn (pick_of e.op e.from e.to e.words r.state r.tables) r.binds r.room) r
unfolding when after_turn
settle_by e r true = refl
settle_by e r false = refl

pub settled_by : (e : Env) (r : Run) (y : State) (u : Tables) → turned y u ≡ settle_of e.op e.from e.to e.words r.state r.tables → run y u r.binds r.room ≡ settled e r
unfolding settled settle_of after_turn
settled_by e r y u p = ap (λ (z : Turned). run z.state z.tables r.binds r.room) p ∙ go (eqb r.state.live 2)
  where
    go : (c : Bool) → after_turn (when c (pick_of e.op e.from e.to e.words r.state r.tables) (turned r.state r.tables)) r.binds r.room
        ≡ when c (after_turn (pick_of e.op e.from e.to e.words r.state r.tables) r.binds r.room) r
    go c = settle_by e r c

pub fine_named : (e : Env) → Fine e → (slots : List ℕ) → length (view_of e.arg slots).backs ≡ entries → Named e.op e.from e.arg slots
fine_named e f slots l = record { there = f.slots; slot = f.slot; alone = f.alone; long = l }

-- ---- A state stands, and the budget is not used up.

pub record Ready (e : Env) (r : Run) : Type 0 where
  pub fine : Fine e
  pub target : Target e.words
  pub valid : Valid e r
  pub live : r.state.live ≡ 1
  pub count : r.state.steps + 1 < 2 ^ 64

pub ready : (e : Env) (w : Run) (budget : ℕ) (room : List ℤ) (r : Run) → Here e w budget room r → Fine e → Target e.words → r.state.live ≡ 1
    → r.state.steps < budget → budget < 2 ^ 64 → Ready e r
ready e w budget room r h f g l s b = record { fine = f; target = g; valid = h.valid; live = l; count = omega arith }

module _ (e : Env) (x : State) (t : Tables) (b : List Binding) (room : List ℤ) (h : Ready e (run x t b room)) where
  pub ready_place : x.pc < entries
  ready_place = h.valid.place

  pub ready_constant : x.pc < length e.con
  ready_constant = h.fine.constants x.pc h.valid.place

  -- The variable that the line names, whose instruction is o.
  module _ (o : ℕ) (i : o ≡ get_or e.op x.pc 0) (low : 2 < o) (high : o < 7) (v : ℕ) (n : v ≡ get_or e.arg x.pc 0) where
    pub ready_number : v < 16
    ready_number = rw n (h.fine.numbers x.pc h.valid.place (omega arith) (omega arith))

    pub ready_number_mul : Fits w64 (v * 16)
    ready_number_mul = let l = ready_number in record { fits = omega arith }

    pub ready_bound : Held e.words (get_or b v nothing).at (get_or b v nothing).marks
    ready_bound = h.valid.binds.are v ready_number

    pub ready_sum : ((get_or b v nothing).at + 1 < length e.words) × (x.at + 1 < length e.words)
    ready_sum = (second e.words (get_or b v nothing).at h.target ready_bound.tag, second e.words x.at h.target h.valid.held.tag)

-- ---- What is told.

pub report_is : (x : State) (r : Report) → r.stop ≡ stop_of x.live → r.rows ≡ x.rows → r.steps ≡ x.steps → r.words ≡ x.words → r ≡ reported x
unfolding reported
report_is x r a b c d i = record { stop = a i; rows = b i; steps = c i; words = d i }
