-- A cons under a multiset: the step with every place, and then narrowed, is the step with the choices that there are. Assumes nothing.
use Prim.Native.Nat.{ℕ, zero, suc, ◌+◌, ◌-◌, ◌%◌, ◌^◌, ◌<◌, ◌≤◌}
use native.Mathlib.Omega.{arith}
use native.Mathlib.Nat.{mod-le}
use mathlib.Core.Path.{◌≡◌, refl, sym, ap, ◌∙◌}
use mathlib.Core.Bool.{Bool, true, false, not}
use mathlib.Core.List.{List, [], ◌∷◌}
use lib.ListN.{length, get_or}
use lib.Seq.{get_or-set_same, set-set}
use lib.Dec.{eqb, ltb}
use lib.IntN.{ℤ}
use borrow.Author.Tests.{eq-eqb, ne_eqb, lt-ltb, le-ltb, eqb-true, eqb-false, ltb-true, not-true, not-false}
use mir.Syntax.{w64}
use mir.Val.{Fits}
use Rattle.rules.specs.Dialects.{Dialect, every_place, first_places}
use Rattle.rules.specs.Equality.{equal}
use Rattle.words.specs.Dialects.{dialect_by}
use Rattle.words.specs.Words.{entries}
use Rattle.matchers.specs.Places.{matcher_at}
use Rattle.value_places.specs.Places.{Target, value_at, elements}
use Rattle.value_places.specs.Held.{Held}
use Rattle.value_places.proofs.Held.{held_64, held_less}
use Rattle.value_firsts.specs.Firsts.{firsts_of, firsts_at, Lower}
use Rattle.value_firsts.proofs.Differing.{firsts_le}
use Rattle.tables.specs.declared.slot.Frame.{Frame}
use Rattle.tables.specs.Slot.{slot_count, Tables, frame_in, put_left, view_of, Alone}
use Rattle.search_atom.specs.Leaves.{when, none_of, opens_of}
use Rattle.search_step.specs.declared.State.{State}
use Rattle.search_step.specs.Steps as steps
use Rattle.search_step.specs.Steps.{Turned, turned, counted, lived, pushed, pushed_in}
use Rattle.search_machine.specs.Operations.{opens_with}
use Rattle.search.specs.Plain.{split_of, divide_of, step_by, step_of}
use Rattle.search.specs.Run.{choices_in}
use Rattle.search.specs.Narrow.{narrowed, Opened, Above, Replaced}
use Rattle.search.specs.Valid.{Long}

firsts_few : (mt : List ℤ) (i : ℕ) (s : List ℤ) (at m : ℕ) → firsts_at mt i s at m ≤ m
unfolding firsts_at firsts_of
firsts_few mt i s at m = firsts_le (equal (matcher_at mt i)) [] (elements (value_at s at)) m

-- ---- Marks that give way to their first places.

pub lower_le : {m stop : ℕ} → Lower m stop → stop ≤ m
lower_le {m} l = let h = mod-le m (2 ^ l.digits) in omega (arith, l.are)

module _ (mt : List ℤ) (i : ℕ) (s : List ℤ) (j m stop : ℕ) (t : Tables) (k : ℕ) (e : k ≡ i) where
  pub replaced_none : length mt ≤ k → Replaced mt i s j m stop t t
  unfolding when
  replaced_none l = record { left = 0; is = rw (le-ltb i (length mt) (omega arith)); sum = λ h. absurd (omega arith) }

  module _ (l : k < length mt) (f : Frame) (p : f ≡ frame_in t j) (c : ℕ) (q : c + firsts_at mt (k + 1) s f.at stop ≡ firsts_at mt (k + 1) s f.at m) where
    pub replaced_sum : m - stop ≤ get_or t.lefts j 0
        → (f.left - (m - stop) + c) + (firsts_at mt (i + 1) s (get_or t.ats j 0) stop + (m - stop)) ≡ get_or t.lefts j 0 + firsts_at mt (i + 1) s (get_or t.ats j 0) m
    unfolding frame_in
    replaced_sum w =
        let a : f.at ≡ get_or t.ats j 0 = ap (λ (g : Frame). g.at) p in
        let b : f.left ≡ get_or t.lefts j 0 = ap (λ (g : Frame). g.left) p in
        let d : c + firsts_at mt (i + 1) s (get_or t.ats j 0) stop ≡ firsts_at mt (i + 1) s (get_or t.ats j 0) m = rw (← a, ← e) q in
        omega (arith, b, d, w)

    pub replaced_put : (u : Tables) → u ≡ put_left j (f.left - (m - stop) + c) t → m - stop ≤ get_or t.lefts j 0 → Replaced mt i s j m stop t u
    unfolding when
    replaced_put u g w =
        record { left = f.left - (m - stop) + c; is = g ∙ rw (lt-ltb i (length mt) (omega arith)); sum = λ h. replaced_sum w }

module _ (mt : List ℤ) (mat arg : List ℕ) (s : List ℤ) (slots : List ℕ) (top m stop : ℕ) (a : Above mt mat arg s slots top m stop)
    (k : ℕ) (e : k ≡ get_or mat (top - 1) 0) (l : k < length mt) where
  pub above_left : m - stop ≤ get_or (view_of arg slots).lefts (top - 1) 0
  above_left = a.within (omega (arith, e, l))

module _ (mt : List ℤ) (mat arg : List ℕ) (s : List ℤ) (slots : List ℕ) (top m stop : ℕ) (a : Above mt mat arg s slots top m stop)
    (k : ℕ) (e : k ≡ get_or mat (top - 1) 0) (l : k < length mt) (f : Frame) (p : f ≡ frame_in (view_of arg slots) (top - 1)) where
  pub above_held : Held s f.at m
  unfolding frame_in
  above_held = rw p a.held

  pub above_within : m - stop ≤ f.left
  unfolding frame_in
  above_within = rw p (a.within (omega (arith, e, l)))

  pub above_fits : (c : ℕ) → c + firsts_at mt (k + 1) s f.at stop ≡ firsts_at mt (k + 1) s f.at m → Fits w64 (f.left - (m - stop) + c)
  above_fits c q =
      let i : get_or mat (top - 1) 0 < length mt = omega (arith, e, l) in
      let h = a.fits i in
      let z = replaced_sum mt (get_or mat (top - 1) 0) s (top - 1) m stop (view_of arg slots) k e l f p c q (a.within i) in
      record { fits = omega (arith, h, z) }

-- ---- The lower half, and then the upper.

pub half_lower : (m : ℕ) → Lower m (m % 4294967296)
half_lower m = record { digits = 32; are = refl }

pub none_lower : (l : ℕ) → Lower l 0
none_lower l = record { digits = 0; are = omega arith }

-- A number that is there stands within its list.
inside : (l : List ℕ) (j : ℕ) → 0 < get_or l j 0 → j < length l
inside [] j h = absurd (omega arith)
inside (x ∷ l) zero h = omega arith
inside (x ∷ l) (suc j) h = let n = inside l j h in omega arith

none : (mt : List ℤ) (i : ℕ) (s : List ℤ) (at : ℕ) → firsts_at mt i s at 0 ≡ 0
none mt i s at = let h = firsts_few mt i s at 0 in omega arith

module _ (mt : List ℤ) (mat arg : List ℕ) (s : List ℤ) (g : Target s) (slots : List ℕ) (x : State) (p : 0 < x.marks) (o : Opened arg s slots x) where
  pub opened_lower : Above mt mat arg s slots x.top (x.marks % 4294967296) 0
  opened_lower =
      let h = mod-le x.marks 4294967296 in
      let f = firsts_few mt (get_or mat (x.top - 1) 0 + 1) s (get_or (view_of arg slots).ats (x.top - 1) 0) (x.marks % 4294967296) in
      let n = held_64 s x.at x.marks g o.held in
      record {
        some = o.some;
        slotted = o.slotted;
        alone = o.alone;
        held = rw o.place (held_less s x.at x.marks (x.marks % 4294967296) o.held h);
        lower = none_lower (x.marks % 4294967296);
        within = λ k. omega (arith, h, o.left);
        fits = λ k. omega (arith, f, n, o.left);
      }

  module _ (slots' : List ℕ) (r : Replaced mt (get_or mat (x.top - 1) 0) s (x.top - 1) (x.marks % 4294967296) 0 (view_of arg slots) (view_of arg slots')) where
    same_backs : (view_of arg slots').backs ≡ (view_of arg slots).backs
    unfolding when put_left
    same_backs = ap (λ (t : Tables). t.backs) r.is ∙ go (ltb (get_or mat (x.top - 1) 0) (length mt))
      where
        go : (b : Bool) → (when b (put_left (x.top - 1) r.left (view_of arg slots)) (view_of arg slots)).backs ≡ (view_of arg slots).backs
        go true = refl
        go false = refl

    same_ats : (view_of arg slots').ats ≡ (view_of arg slots).ats
    unfolding when put_left
    same_ats = ap (λ (t : Tables). t.ats) r.is ∙ go (ltb (get_or mat (x.top - 1) 0) (length mt))
      where
        go : (b : Bool) → (when b (put_left (x.top - 1) r.left (view_of arg slots)) (view_of arg slots)).ats ≡ (view_of arg slots).ats
        go true = refl
        go false = refl

    first_left : get_or mat (x.top - 1) 0 < length mt → get_or (view_of arg slots').lefts (x.top - 1) 0 ≡ r.left
    unfolding when put_left
    first_left k =
        let i = inside (view_of arg slots).lefts (x.top - 1) (omega (arith, p, o.left)) in
        let z : view_of arg slots' ≡ put_left (x.top - 1) r.left (view_of arg slots) = r.is ∙ rw (lt-ltb _ _ k) in
        ap (λ (t : Tables). get_or t.lefts (x.top - 1) 0) z ∙ get_or-set_same (view_of arg slots).lefts (x.top - 1) r.left 0 i

    first_sum : get_or mat (x.top - 1) 0 < length mt
        → r.left + x.marks % 4294967296 ≡ x.marks + firsts_at mt (get_or mat (x.top - 1) 0 + 1) s x.at (x.marks % 4294967296)
    first_sum k =
        let z = none mt (get_or mat (x.top - 1) 0 + 1) s x.at in
        let q = rw o.place at (r.sum k) in
        omega (arith, z, q, o.left)

    pub opened_upper : Above mt mat arg s slots' x.top x.marks (x.marks % 4294967296)
    opened_upper =
        let h = mod-le x.marks 4294967296 in
        let f = firsts_few mt (get_or mat (x.top - 1) 0 + 1) s x.at x.marks in
        let n = held_64 s x.at x.marks g o.held in
        record {
          some = o.some;
          slotted = record { place = o.slotted.place; slot = o.slotted.slot; long = ap length same_backs ∙ o.slotted.long };
          alone = o.alone;
          held = rw (same_ats, o.place) o.held;
          lower = half_lower x.marks;
          within = λ k. omega (arith, h, first_left k, first_sum k);
          fits = λ k. rw (same_ats, o.place) (omega (arith, h, f, n, first_left k, first_sum k));
        }

    module _ (t : Tables) (q : Replaced mt (get_or mat (x.top - 1) 0) s (x.top - 1) x.marks (x.marks % 4294967296) (view_of arg slots') t) where
      both_left : (k : get_or mat (x.top - 1) 0 < length mt) → q.left ≡ firsts_at mt (get_or mat (x.top - 1) 0 + 1) s x.at x.marks
      both_left k =
          let h = mod-le x.marks 4294967296 in
          let z = rw (same_ats, o.place) at (q.sum k) in
          omega (arith, h, z, first_left k, first_sum k)

      pub both_narrowed : t ≡ narrowed first_places mt (get_or mat (x.top - 1) 0) s x (view_of arg slots)
      unfolding narrowed when put_left
      both_narrowed = go (ltb (get_or mat (x.top - 1) 0) (length mt)) refl
        where
          go : (b : Bool) → ltb (get_or mat (x.top - 1) 0) (length mt) ≡ b → t ≡ narrowed first_places mt (get_or mat (x.top - 1) 0) s x (view_of arg slots)
          go true j =
              let k = ltb-true _ _ j in
              let a : view_of arg slots' ≡ put_left (x.top - 1) r.left (view_of arg slots) = r.is ∙ rw j in
              let c : t ≡ put_left (x.top - 1) q.left (view_of arg slots') = q.is ∙ rw j in
              c ∙ rw (a, set-set (view_of arg slots).lefts (x.top - 1) r.left q.left, both_left k, ne_eqb x.marks 0 (λ z. omega arith), j)
          go false j =
              let a : view_of arg slots' ≡ view_of arg slots = r.is ∙ rw j in
              let c : t ≡ view_of arg slots' = q.is ∙ rw j in
              c ∙ a ∙ rw (ne_eqb x.marks 0 (λ z. omega arith), j)

-- ---- As the code asks for it.

pub some_marks : (m : ℕ) → (m ≡ 0 → ⊥) → 0 < m
some_marks m n = omega (arith, n)

module _ (firsts : Bool) (mt : List ℤ) (i : ℕ) (s : List ℤ) (x : State) (t : Tables) where
  pub narrow_every : not firsts ≡ true → t ≡ narrowed (dialect_by firsts) mt i s x t
  unfolding narrowed dialect_by
  narrow_every h = rw (not-true firsts h)

  pub narrow_empty : not firsts ≡ false → x.marks ≡ 0 → t ≡ narrowed (dialect_by firsts) mt i s x t
  unfolding narrowed dialect_by when
  narrow_empty h z = rw (not-false firsts h, eq-eqb x.marks 0 z)

module _ (firsts : Bool) (f : not firsts ≡ false) (mt : List ℤ) (mat arg : List ℕ) (s : List ℤ) (g : Target s) (slots : List ℕ) (x : State) (p : 0 < x.marks) (o : Opened arg s slots x)
    (slots' : List ℕ) (r : Replaced mt (get_or mat (x.top - 1) 0) s (x.top - 1) (x.marks % 4294967296) 0 (view_of arg slots) (view_of arg slots'))
    (t : Tables) (q : Replaced mt (get_or mat (x.top - 1) 0) s (x.top - 1) x.marks (x.marks % 4294967296) (view_of arg slots') t) where
  pub narrow_both : t ≡ narrowed (dialect_by firsts) mt (get_or mat (x.top - 1) 0) s x (view_of arg slots)
  unfolding dialect_by
  narrow_both = rw (not-false firsts f) (both_narrowed mt mat arg s g slots x p o slots' r t q)

-- ---- The step.

module _ (op from to mat arg : List ℕ) (con mt s : List ℤ) (b : Bool) (x : State) (t : Tables) (z : get_or op x.pc 0 ≡ 9) (long : Long t) (place : x.pc < entries) (y : State) (u : Tables)
    (p : turned y u ≡ steps.step_of op from to con s b x t) where
  split_code : turned y u ≡ steps.split_of 9 (counted x) t
  unfolding steps.step_of steps.step_by steps.divide_of when
  split_code = p ∙ ap (λ (o : ℕ). steps.step_by o from to con s b (counted x) t) z

  split_plain : (c : ℕ) → step_of op from to con s b c x t ≡ split_of 9 c (counted x) t
  unfolding step_of step_by divide_of when
  split_plain c = ap (λ (o : ℕ). step_by o from to con s b c (counted x) t) z

  unopened : turned y u ≡ turned (lived (counted x) 2) t → x.marks ≡ 0 → (d : Dialect) → narrowed d mt (get_or mat (y.top - 1) 0) s y u ≡ u
  unfolding narrowed when lived counted
  unopened q n every_place = refl
  unopened q n first_places = let m : y.marks ≡ x.marks = ap (λ (w : Turned). w.state.marks) q in rw (eq-eqb y.marks 0 (m ∙ n))

  -- The frame is open, with every place.
  module _ (q : turned y u ≡ turned (pushed (counted x)) (pushed_in x.marks (counted x) t)) where
    opened_top : y.top - 1 ≡ x.pc
    unfolding pushed counted
    opened_top = let h : y.top ≡ x.pc + 1 = ap (λ (w : Turned). w.state.top) q in omega (arith, h)

    choices_put : (c : ℕ) → put_left (y.top - 1) c u ≡ pushed_in c (counted x) t
    unfolding put_left pushed_in counted
    choices_put c = let v : u ≡ pushed_in x.marks (counted x) t = ap (λ (w : Turned). w.tables) q in rw (v, opened_top, set-set t.lefts x.pc x.marks c)

    narrow_open : (x.marks ≡ 0 → ⊥) → (d : Dialect) → narrowed d mt (get_or mat (y.top - 1) 0) s y u ≡ pushed_in (choices_in d 9 mt (get_or mat x.pc 0) s x.at x.marks) (counted x) t
    unfolding narrowed choices_in when pushed counted
    narrow_open n every_place = ap (λ (w : Turned). w.tables) q
    narrow_open n first_places =
        let m : y.marks ≡ x.marks = ap (λ (w : Turned). w.state.marks) q in
        let a : y.at ≡ x.at = ap (λ (w : Turned). w.state.at) q in
        rw (ne_eqb y.marks 0 (λ i. n (sym m ∙ i)), opened_top, m, a) (go (ltb (get_or mat x.pc 0) (length mt)))
      where
        go : (b : Bool) → when b (put_left x.pc (firsts_at mt (get_or mat x.pc 0 + 1) s x.at x.marks) u) u ≡ pushed_in (when b (firsts_at mt (get_or mat x.pc 0 + 1) s x.at x.marks) x.marks) (counted x) t
        go true = rw opened_top at (choices_put (firsts_at mt (get_or mat x.pc 0 + 1) s x.at x.marks))
        go false = ap (λ (w : Turned). w.tables) q

  -- The step, narrowed.
  pub narrow_code : (d : Dialect) (u' : Tables) → u' ≡ narrowed d mt (get_or mat (y.top - 1) 0) s y u
      → turned y u' ≡ step_of op from to con s b (choices_in d (get_or op x.pc 0) mt (get_or mat x.pc 0) s x.at x.marks) x t
  unfolding split_of steps.split_of none_of opens_of opens_with when counted
  narrow_code d u' e = rw (z, e) (go (eqb x.marks 0) refl ∙ sym (split_plain (choices_in d 9 mt (get_or mat x.pc 0) s x.at x.marks)))
    where
      go : (f : Bool) → eqb x.marks 0 ≡ f → turned y (narrowed d mt (get_or mat (y.top - 1) 0) s y u) ≡ split_of 9 (choices_in d 9 mt (get_or mat x.pc 0) s x.at x.marks) (counted x) t
      go true j = let q : turned y u ≡ turned (lived (counted x) 2) t = split_code ∙ rw j in rw (unopened q (eqb-true _ _ j) d, j) q
      go false j =
          let q : turned y u ≡ turned (pushed (counted x)) (pushed_in x.marks (counted x) t) = split_code ∙ rw j in
          rw (narrow_open q (eqb-false _ _ j) d, j) (ap (λ (w : Turned). turned w.state (pushed_in (choices_in d 9 mt (get_or mat x.pc 0) s x.at x.marks) (counted x) t)) q)

  -- What narrowing asks.
  pub narrow_asks : Held s x.at x.marks → (slots : List ℕ) → u ≡ view_of arg slots → get_or arg x.pc 0 < slot_count → Alone arg x.pc → 0 < y.marks → Opened arg s slots y
  unfolding split_of steps.split_of none_of opens_of when counted pushed pushed_in
  narrow_asks w slots v c a p = go (eqb x.marks 0) refl
    where
      go : (f : Bool) → eqb x.marks 0 ≡ f → Opened arg s slots y
      go true j =
          let q : turned y u ≡ turned (lived (counted x) 2) t = split_code ∙ rw j in
          let m : y.marks ≡ x.marks = unfold lived in ap (λ (w : Turned). w.state.marks) q in
          absurd (omega (arith, m, eqb-true x.marks 0 j, p))
      go false j =
          let q : turned y u ≡ turned (pushed (counted x)) (pushed_in x.marks (counted x) t) = split_code ∙ rw j in
          let m : y.marks ≡ x.marks = ap (λ (w : Turned). w.state.marks) q in
          let n : y.at ≡ x.at = ap (λ (w : Turned). w.state.at) q in
          let k : view_of arg slots ≡ pushed_in x.marks (counted x) t = sym v ∙ ap (λ (w : Turned). w.tables) q in
          let i : y.top ≡ x.pc + 1 = ap (λ (w : Turned). w.state.top) q in
          record {
            some = omega (arith, i);
            slotted = rw (opened_top q) (record { place = place; slot = c; long = ap (λ (w : Tables). length w.backs) k ∙ long.backs });
            alone = rw (opened_top q) a;
            place = rw (opened_top q, k, n) (get_or-set_same t.ats x.pc x.at 0 (rw long.ats place));
            held = rw (n, m) w;
            left = rw (opened_top q, k, m) (get_or-set_same t.lefts x.pc x.marks 0 (rw long.lefts place));
          }
