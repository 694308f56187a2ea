-- One step of the machine is one step of the search: what a configuration stands for afterwards.
use Prim.Native.Nat.{ℕ, zero, suc, ◌+◌, ◌≤◌, ◌<◌}
use Rattle.std.proofs.Common.{add-zero, zero-add, suc-add, add-suc, ap, ◌∙◌}
use native.Mathlib.Omega.{arith}
use Rattle.std.proofs.Math.Path.{◌≡◌, refl, sym}
use Rattle.std.specs.Prelude.{Bool, ℤ, pos}
use Rattle.std.proofs.Math.Bool.{true, false}
use Rattle.std.proofs.Math.Option.{Option, none, some}
use mathlib.Core.List.{List, [], ◌∷◌, ◌++◌, map}
use Rattle.std.proofs.Math.ListN.{length, get_elem?, length-append}
use Rattle.rules.specs.Forms.{Matcher, something, tuple_of, Matchers, no_matchers, ◌▸ᵐ◌, countᵐ, Value}
use Rattle.rules.specs.Origins.{Valueᵒ, tupledᵒ, Valuesᵒ, emptyᵒ, ◌▸ᵒ◌, Origin, Bindings, plain}
use Rattle.rules.specs.Forms.{Pattern, Patterns, no_patterns, ◌▸ᵖ◌, countᵖ}
use Rattle.rules.specs.Fit.{members, is_something}
use Rattle.rules.specs.Reading.{entry}
use Rattle.rules.specs.Equality.{raised, equal_to, is_value}
use Rattle.rules.specs.Search.{Halves, Atom, State, state, drop_if, atoms, apart as takeApart, leave_not, after_in, cons_halves_in}
use Rattle.program_rules.specs.Points.{Kind, over, first_by, halves, branch, after_whole, Test, as_constant, as_value, as_nil, test_by, passes, Sound, after_test}
use Rattle.program_rules.specs.Points.{Instr, split, apart, Item, item, or_else, end_or, stop, Point, point, cutting, finish, enter, from, known, within, inside, first_of, others_of, items}
use Rattle.program_rules.specs.Points.{resume, Follows, after_loose, strips, drops, binds, tests, splits, aparts, keeps, chooses, denies, cuts, elses, closes, reserves, ends, after_end_lem}
use Rattle.search_machine.specs.Held.{Data, Opened, Parts}
use Rattle.search_machine.specs.Engine.{put, Slot, Conf, Turn, on, back, check, next, pushed, opening, kept, kept_here, framed, framed_here, without, keeping, parting, exec, slot_after, top_after, chosen, resumed, choose, next_choice, settle}
use Rattle.search_machine.specs.Rep.{Waits, waits_none, waits, waits_else, waits_end, waits_cut, Bound, bound_none, bound, At, at, at_cut, done, Chain, shut, open_at, choice_at_lem, deny_at, Rep, over_all, live, put_same, put_below, waits_agree, bound_agree, chain_agree}

plain_at_lem : (e : Bindings) (x : ℕ) (w : Valueᵒ) → get_elem? e x ≡ some w → get_elem? (map plain e) x ≡ some (plain w)
plain_at_lem [] x w h = let z : ◌≡◌ {A = ℕ} 0 1 = cc in absurd (omega arith)
plain_at_lem (v ∷ e) zero w h = let z : v ≡ w = cc in ap (λ (u : Valueᵒ). some (plain u)) z
plain_at_lem (v ∷ e) (suc x) w h = plain_at_lem e x w h

is_value_at : (m : Matcher) (e : Bindings) (x : ℕ) (c : ℤ) (v : Value) (w : Valueᵒ) → get_elem? e x ≡ some w
    → is_value m (map plain e) (pos x) c v ≡ equal_to m (raised c (plain w)) v
unfolding is_value entry
is_value_at m e x c v w h = ap (λ z. elim z as (λ _. Bool) [ none ↦ false | some w ↦ equal_to m (raised c w) v ]) (plain_at_lem e x w h)

module _ (D : Data) where
  pub bound_snoc : {f : ℕ → D.Held} {i : ℕ} {ms : List Matcher} {e : Bindings} {m : Matcher} {v : Valueᵒ}
      → Bound D f i ms e → D.Is m (f (i + length ms)) v → Bound D f i (ms ++ (m ∷ [])) (e ++ (v ∷ []))
  bound_snoc {i = i} bound_none h = bound (rw (add-zero i) at h) bound_none
  bound_snoc {i = i} (bound {ms = ms} g b) h = bound g (bound_snoc b (rw (add-suc i (length ms), ← suc-add i (length ms)) at h))

  bound_at : {f : ℕ → D.Held} {i : ℕ} {ms : List Matcher} {e : Bindings} {m : Matcher} → Bound D f i ms e
      → (x : ℕ) → get_elem? ms x ≡ some m → (w : Valueᵒ) × (get_elem? e x ≡ some w) × D.Is m (f (i + x)) w
  bound_at bound_none x h = let z : ◌≡◌ {A = ℕ} 0 1 = cc in absurd (omega arith)
  bound_at {i = i} {m = m} (bound {m = k} {v = v} g b) zero h = let z : k ≡ m = cc in (v, refl, rw (add-zero i, ← z) g)
  bound_at {i = i} (bound g b) (suc x) h = let r = bound_at b x h in (r.0, r.1, rw (suc-add i x, ← add-suc i x) at r.2)

  pub check_ok : (t : Test) {b : ℕ → D.Held} {h : D.Held} {v : Valueᵒ} {ms : List Matcher} {e : Bindings}
      → Sound t ms → D.Is (test_by t) h v → Bound D b 0 ms e → check D t b h ≡ passes t e v
  unfolding Sound test_by check passes
  check_ok (as_constant c) {h = h} {v = v} s i b = D.is_number_ok c h v i
  check_ok (as_value m x c) {b = f} {h = h} {v = v} {e = e} s i b =
      let r = bound_at b x s.1 in
      D.is_same_ok m s.0 c (f x) h r.0 v s.3 s.2 (rw (zero-add x) at r.2) i ∙ sym (is_value_at m e x c (plain v) r.0 r.1)
  check_ok (as_nil m) {h = h} {v = v} s i b = D.is_empty_held_ok m h v s i

  -- ---- The parts of a tuple.

  -- The slots below are not written.
  keeping_below : (f : ℕ → Slot D) (j : ℕ) (h : D.Held) (i n c : ℕ) → c < j → keeping D f j h i n c ≡ f c
  unfolding keeping
  keeping_below f j h i zero c l = refl
  keeping_below f j h i (suc n) c l = keeping_below (put f j (kept D (f j) (D.part h i))) (suc j) h (suc i) n c (omega arith) ∙ put_below f j _ c l

  parts_wait : (ps : Patterns) (ms : Matchers) (vs : Valuesᵒ) (f : ℕ → Slot D) (j : ℕ) (h : D.Held) (i : ℕ) {ts : List Item} {older : List Atom}
      → countᵖ ps ≡ countᵐ ms → Parts D.Is (D.part h) i ms vs → Waits D f j ts older
      → Waits D (keeping D f j h i (countᵖ ps)) (j + countᵖ ps) (items ps ms j ts) (atoms ps ms vs ++ older)
  unfolding keeping items first_of others_of atoms Parts kept countᵖ countᵐ
  parts_wait no_patterns ms vs f j h i n p w = waits_agree D (omega arith) (λ i h. refl) w
  parts_wait (p ▸ᵖ ps) no_matchers vs f j h i n q w = absurd (omega arith)
  parts_wait (p ▸ᵖ ps) (m ▸ᵐ ms) emptyᵒ f j h i n q w = absurd q
  parts_wait (p ▸ᵖ ps) (m ▸ᵐ ms) (v ▸ᵒ vs) f j h i n q w =
      let x = kept D (f j) (D.part h i) in
      let e : keeping D (put f j x) (suc j) h (suc i) (countᵖ ps) j ≡ x = keeping_below (put f j x) (suc j) h (suc i) (countᵖ ps) j (omega arith) ∙ put_same f j x in
      let z : countᵖ ps ≡ countᵐ ms = omega arith in
      let next = parts_wait ps ms vs (put f j x) (suc j) h (suc i) z q.1 (waits_agree D (omega arith) (λ c u. sym (put_below f j x c u)) w) in
      waits {p = p} {m = m} {c = j} {v = v} (omega arith) (rw e q.0) (waits_agree D (omega arith) (λ c u. refl) next)

  within_items : (ps : Patterns) (ks : Matchers) (c : ℕ) (ts : List Item) → within (items ps ks c ts) ≡ within ts
  unfolding within items
  within_items no_patterns ks c ts = refl
  within_items (p ▸ᵖ ps) ks c ts = within_items ps (others_of ks) (suc c) ts

  module _ (code : ℕ → Instr) (points : ℕ → Point) where
    live_at : {c : Conf D} {s : State} {ss : List State} (P : Point) → points c.pc ≡ P → c.top ≤ c.pc → At D c.slots c.binds c.pc c.cur P s
        → Chain D code points c.slots c.binds c.top (length (known P)) (inside P) ss → Rep D code points (some c) (s ∷ ss)
    live_at {c} {s} {ss} P e l a ch = live {c = c} {s = s} {ss = ss} l (rw e a) (rw e ch)

    -- A choice of the frame at j is taken.
    chosen_rep : (c : Conf D) (j : ℕ) {ms : List Matcher} {ts : List Item} {older : List Atom} {e : Bindings} {ss : List State} (rest : List Halves)
        (k : Kind) (p q : Pattern) (one two : D.Held) (mo : Option D.Rem) (f : Halves)
        → code j ≡ split k → points (suc j) ≡ point ms p (first_by k) (first_by k) (item q (over k) j ∷ ts)
        → (c.slots j).prev ≤ j → Waits D c.slots j ts older → Bound D c.binds 0 ms e
        → Chain D code points c.slots c.binds (c.slots j).prev (length ms) (within ts) ss
        → D.Is (first_by k) one f.first → D.Is (over k) two f.second → Opened (D.Left k (c.slots j).held) mo rest
        → Rep D code points (some (chosen D c j (record { one = one; two = two; more = mo }))) (branch k p q older e f ∷ (map (branch k p q older e) rest ++ ss))
    unfolding chosen slot_after top_after branch Opened known inside within
    chosen_rep c j {ms} {ts} rest k p q one two none f cd pt l ws bs ch i₁ i₂ o =
        rw o (live_at (point ms p (first_by k) (first_by k) (item q (over k) j ∷ ts)) pt (omega arith)
        (at i₁ (waits {c = j} (omega arith) (rw put_same i₂) (waits_agree D (omega arith) same ws)) bs)
        (chain_agree D code points (omega arith) (λ i h. same i (omega arith)) (λ i h. refl) ch))
      where
        same : (i : ℕ) → i < j → c.slots i ≡ put c.slots j (slot_after D (c.slots j) none two) i
        same i h = sym (put_below c.slots j _ i h)
    chosen_rep c j {ms} {ts} {older} {e} {ss} rest k p q one two (some r) f cd pt l ws bs ch i₁ i₂ o =
        live_at (point ms p (first_by k) (first_by k) (item q (over k) j ∷ ts)) pt (omega arith)
        (at i₁ (waits {c = j} (omega arith) (rw put_same i₂) (waits_agree D (omega arith) same ws)) bs)
        (open_at {ts = ts} {older = older} {e = e} {hs = rest} {ss = ss} k p q cd pt refl (rw put_same l) (omega arith) (rw put_same o) (waits_agree D (omega arith) same ws) bs
        (rw put_same (chain_agree D code points (omega arith) (λ i h. same i (omega arith)) (λ i h. refl) ch)))
      where
        same : (i : ℕ) → i < j → c.slots i ≡ put c.slots j (slot_after D (c.slots j) (some r) two) i
        same i h = sym (put_below c.slots j _ i h)

    -- An atom is dropped: the next one's value is taken from its slot.
    entered : (c : Conf D) (g : Bool) (n : ℕ) (ms : List Matcher) {ts : List Item} {older : List Atom} {e : Bindings} {ss : List State}
        → points c.pc ≡ enter ms ts → c.top ≤ c.pc → n ≤ c.pc → Waits D c.slots n ts older → Bound D c.binds 0 ms e
        → Chain D code points c.slots c.binds c.top (length ms) (within ts) ss → c.cur ≡ (c.slots (from ts)).second
        → Rep D code points (some c) (state g older e ∷ ss)
    unfolding enter from known inside within
    entered c g n ms pt l k waits_none bs ch q = live_at (finish ms) pt l (done bs) ch
    entered c g n ms pt l k (waits {p = p} {m = m} {ts = ts} h i ws) bs ch q =
        live_at (point ms p m m ts) pt l (at (rw q i) (waits_agree D (omega arith) (λ i h. refl) ws) bs) ch
    entered c g n ms pt l k (waits_else ws) bs ch q = entered c g n ms pt l k ws bs ch q
    entered c g n ms pt l k (waits_end ws) bs ch q = entered c g n ms pt l k ws bs ch q
    entered c g n ms pt l k (waits_cut {m = m} {j = j} {v = v} {ts = ts} h i) bs ch q = live_at (cutting ms j ts) pt l (at_cut {m = m} {v = v} (rw q i) bs) ch

    -- The next choice of the last open frame.
    pub choice_rep : (c : Conf D) {top n w : ℕ} {ss : List State} → Chain D code points c.slots c.binds top n w ss
        → Rep D code points (next_choice D code top c) ss
    unfolding next_choice choose resumed known inside within
    choice_rep c shut = over_all
    choice_rep c (open_at {j = j} {hs = hs} k p q cd pt i l w left ws bs ch) =
        let t = D.pick k (c.slots j).held (c.slots j).rem in
        let r = D.pick_ok k (c.slots j).held (c.slots j).rem hs left in
        rw (cd, r.2) (chosen_rep c j r.1 k p q t.one t.two t.more r.0 cd pt l ws bs (rw (sym i) at ch) r.3 r.4 r.5)
    choice_rep c (choice_at_lem {j = j} {m = m} {ms = ms} {ts = ts} q cd r pt i l w is ws bs ch) =
        rw cd (live_at (point ms q m m (end_or ∷ ts)) pt (omega arith) (at is (waits_end (waits_agree D (omega arith) (λ i h. refl) ws)) bs) (rw (sym i) at ch))
    choice_rep c (deny_at {j = j} {ms = ms} cd r pt l w ws bs ch) = rw cd (entered _ true j ms pt (omega arith) (omega arith) ws bs ch refl)

    -- The search inside the not at j has found its row: what waits of it is dropped, and the state that would have followed the not.
    branches_cut : (k : Kind) (p q : Pattern) (older : List Atom) (e : Bindings) (hs : List Halves) (ss : List State)
        → leave_not (map (branch k p q older e) hs ++ ss) ≡ leave_not ss
    unfolding leave_not branch
    branches_cut k p q older e [] ss = refl
    branches_cut k p q older e (h ∷ hs) ss = branches_cut k p q older e hs ss

    cut_rep : (c : Conf D) (j : ℕ) {top n w : ℕ} {ss : List State} → Chain D code points c.slots c.binds top n w ss → w ≡ suc j
        → Rep D code points (next_choice D code (c.slots j).prev c) (leave_not ss)
    unfolding leave_not
    cut_rep c j shut h = absurd (omega arith)
    cut_rep c j (open_at {older = older} {e = e} {hs = hs} {ss = ss} k p q cd pt i l w left ws bs ch) h = rw (branches_cut k p q older e hs ss) (cut_rep c j ch h)
    cut_rep c j (choice_at_lem q cd r pt i l w is ws bs ch) h = cut_rep c j ch h
    cut_rep c j (deny_at {j = k} cd r pt l w ws bs ch) h = let e : j ≡ k = omega arith in rw e (choice_rep c ch)

    -- A test drops the atom or ends the state.
    tested_rep : (c : Conf D) (b : Bool) (to : ℕ) (ms : List Matcher) {ts : List Item} {older : List Atom} {e : Bindings} {ss : List State}
        → c.pc < to → points to ≡ enter ms ts → c.top ≤ c.pc → Waits D c.slots c.pc ts older → Bound D c.binds 0 ms e
        → Chain D code points c.slots c.binds c.top (length ms) (within ts) ss
        → Rep D code points (settle D code (elim b as (λ _. Turn D) [ true ↦ on (next D c to (c.slots (from ts)).second c.binds) | false ↦ back c ]))
        (drop_if b older e ++ ss)
    unfolding settle drop_if next
    tested_rep c true to ms r pt l ws bs ch = entered _ false c.pc ms pt (omega arith) (omega arith) ws bs ch refl
    tested_rep c false to ms r pt l ws bs ch = choice_rep c ch

    -- A division opens a frame, if there is a choice.
    opened_rep : (c : Conf D) (k : Kind) (p q : Pattern) (mo : Option D.Rem) (hs : List Halves) {ms : List Matcher} {ts : List Item} {older : List Atom}
        {e : Bindings} {ss : List State}
        → code c.pc ≡ split k → points (suc c.pc) ≡ point ms p (first_by k) (first_by k) (item q (over k) c.pc ∷ ts)
        → c.top ≤ c.pc → Opened (D.Left k c.cur) mo hs → Waits D c.slots c.pc ts older → Bound D c.binds 0 ms e
        → Chain D code points c.slots c.binds c.top (length ms) (within ts) ss
        → Rep D code points (settle D code (back (opening D c mo))) (map (branch k p q older e) hs ++ ss)
    unfolding settle opening pushed Opened
    opened_rep c k p q none hs cd pt l o ws bs ch = rw o (choice_rep c ch)
    opened_rep c k p q (some r) hs {ms} {ts} {older} {e} {ss} cd pt l o ws bs ch = choice_rep (pushed D c r)
        (open_at {n = length ms} {ts = ts} {older = older} {e = e} {hs = hs} {ss = ss} k p q cd pt refl (rw put_same l) (omega arith) (rw put_same o)
        (waits_agree D (omega arith) same ws) bs (rw put_same (chain_agree D code points (omega arith) (λ i h. same i (omega arith)) (λ i h. refl) ch)))
      where
        same : (i : ℕ) → i < c.pc → c.slots i ≡ (pushed D c r).slots i
        same i h = sym (put_below c.slots c.pc _ i h)

    -- A value waits here, and a frame may be open: the slots below are as they were.
    kept_same : (c : Conf D) (i : ℕ) → i < c.pc → c.slots i ≡ (kept_here D c).slots i
    unfolding kept_here
    kept_same c i h = sym (put_below c.slots c.pc _ i h)

    framed_same : (c : Conf D) (i : ℕ) → i < c.pc → c.slots i ≡ (framed_here D c).slots i
    unfolding framed_here
    framed_same c i h = sym (put_below c.slots c.pc _ i h)

    framed_chain : (c : Conf D) {n w : ℕ} {ss : List State} → c.top ≤ c.pc → Chain D code points c.slots c.binds c.top n w ss
        → Chain D code points (framed_here D c).slots c.binds c.top n w ss
    framed_chain c l ch = chain_agree D code points (omega arith) (λ i h. framed_same c i (omega arith)) (λ i h. refl) ch

    -- A tuple is taken apart.
    wide_rep : (b : Bool) → b ≡ true → (c c' : Conf D) {ss : List State} → Rep D code points (some c') ss
        → Rep D code points (settle D code (elim b as (λ _. Turn D) [ true ↦ on c' | false ↦ back c ])) ss
    unfolding settle
    wide_rep true e c c' r = r
    wide_rep false e c c' r = let z : ◌≡◌ {A = ℕ} 0 1 = cc in absurd (omega arith)

    module _ (c : Conf D) (p q : Pattern) (ps : Patterns) (m k : Matcher) (ks : Matchers) {ms : List Matcher} {ts : List Item} {older : List Atom}
        {e : Bindings} {ss : List State} (n : countᵖ ps ≡ countᵐ ks)
        (pt : points (suc (c.pc + countᵖ ps)) ≡ point ms p m m (item q k c.pc ∷ items ps ks (suc c.pc) ts))
        (l : c.top ≤ c.pc) (ws : Waits D c.slots c.pc ts older) (bs : Bound D c.binds 0 ms e)
        (ch : Chain D code points c.slots c.binds c.top (length ms) (within ts) ss) where
      parted_rep : (o : Origin) (vs : Valuesᵒ) → Parts D.Is (D.part c.cur) 0 (m ▸ᵐ k ▸ᵐ ks) vs
          → Rep D code points (some (parting D c (countᵖ ps))) (takeApart (p ▸ᵖ q ▸ᵖ ps) (m ▸ᵐ k ▸ᵐ ks) (tupledᵒ o vs) older e ++ ss)
      unfolding parting takeApart atoms Parts countᵖ countᵐ known inside within items first_of others_of
      parted_rep o emptyᵒ x = absurd x
      parted_rep o (v ▸ᵒ emptyᵒ) x = absurd x.1
      parted_rep o (v ▸ᵒ w ▸ᵒ vs) x =
          let y : countᵖ (q ▸ᵖ ps) ≡ countᵐ (k ▸ᵐ ks) = omega arith in
          let z : c.pc + suc (countᵖ ps) ≡ suc (c.pc + countᵖ ps) = omega arith in
          live_at (point ms p m m (items (q ▸ᵖ ps) (k ▸ᵐ ks) c.pc ts)) pt (omega arith)
          (at x.0 (rw z at (parts_wait (q ▸ᵖ ps) (k ▸ᵐ ks) (w ▸ᵒ vs) c.slots c.pc c.cur 1 y x.1 ws)) bs)
          (rw (within_items ps ks (suc c.pc) ts)
          (chain_agree D code points (omega arith) (λ i h. sym (keeping_below c.slots c.pc c.cur 1 (suc (countᵖ ps)) i (omega arith))) (λ i h. refl) ch))

      apart_rep : (v : Valueᵒ) → D.Is (tuple_of (m ▸ᵐ k ▸ᵐ ks)) c.cur v
          → Rep D code points (settle D code (exec D (apart (countᵖ ps)) c)) (takeApart (p ▸ᵖ q ▸ᵖ ps) (m ▸ᵐ k ▸ᵐ ks) v older e ++ ss)
      unfolding exec countᵐ
      apart_rep v x =
          let r = D.parts_ok (m ▸ᵐ k ▸ᵐ ks) c.cur v x in
          rw r.3 (wide_rep (D.is_wide (suc (suc (countᵖ ps))) c.cur) (rw n r.0) c (parting D c (countᵖ ps)) (parted_rep r.1 r.2 r.4))

    -- The step, by the instruction.
    pub step_rep : (c : Conf D) (i : Instr) {P : Point} {s : State} (ss : List State) → code c.pc ≡ i → Follows points c.pc i P
        → c.top ≤ c.pc → At D c.slots c.binds c.pc c.cur P s → Chain D code points c.slots c.binds c.top (length (known P)) (inside P) ss
        → Rep D code points (settle D code (exec D i c)) (resume D.dialect s ss)
    unfolding settle exec resume after_in cons_halves_in members known inside within is_something next kept_here kept framed_here framed without
    step_rep c i ss cd (strips {ms = ms} {p = p} {m = m} {ts = ts} h n pt) l (at {v = v} {older = older} {e = e} x ws bs) ch =
        rw (after_loose D.dialect h m v older e n) (live_at (point ms p something m ts) pt (omega arith) (at x (waits_agree D (omega arith) (λ i h. refl) ws) bs) ch)
    step_rep c i ss cd (drops {ms = ms} r pt) l (at x ws bs) ch = entered _ false c.pc ms pt (omega arith) (omega arith) ws bs ch refl
    step_rep c i ss cd (binds {ms = ms} {m = m} r pt) l (at x ws bs) ch =
        let same : (i : ℕ) → i < length ms → c.binds i ≡ put c.binds (length ms) c.cur i = λ i h. sym (put_below c.binds (length ms) c.cur i h) in
        entered _ false c.pc (ms ++ (m ∷ [])) pt (omega arith) (omega arith) ws
        (bound_snoc (bound_agree D (omega arith) same bs) (rw (zero-add (length ms), put_same) x))
        (chain_agree D code points (omega (arith, length-append ms (m ∷ []))) (λ i h. refl) same ch) refl
    step_rep c i ss cd (tests {ms = ms} {to = to} t sound r pt) l (at {v = v} {older = older} {e = e} x ws bs) ch =
        rw (after_test D.dialect t v older e, ← check_ok t sound x bs) (tested_rep c (check D t c.binds c.cur) to ms r pt l ws bs ch)
    step_rep c i ss cd (splits k p q pt) l (at {v = v} {older = older} {e = e} x ws bs) ch =
        rw (after_whole D.dialect k p q v older e) (opened_rep c k p q (D.opens k c.cur) (halves D.dialect k v) cd pt l (D.opens_ok k c.cur v x) ws bs ch)
    step_rep c i ss cd (aparts p q ps m k ks n t pt) l (at {v = v} x ws bs) ch = apart_rep c p q ps m k ks n pt l ws bs ch v x
    step_rep c i ss cd (keeps {ms = ms} {m = m} {ts = ts} p q pt) l (at x ws bs) ch =
        live_at (point ms p m m (item q m c.pc ∷ ts)) pt (omega arith)
        (at x (waits {c = c.pc} (omega arith) (rw put_same x) (waits_agree D (omega arith) (kept_same c) ws)) bs)
        (chain_agree D code points (omega arith) (λ i h. kept_same c i (omega arith)) (λ i h. refl) ch)
    step_rep c i ss cd (chooses {ms = ms} {m = m} {ts = ts} p q r pt pt₂) l (at {v = v} {older = older} {e = e} x ws bs) ch =
        live_at (point ms p m m (or_else q m ∷ ts)) pt (omega arith) (at x (waits_else (waits_agree D (omega arith) (framed_same c) ws)) bs)
        (choice_at_lem {m = m} {ts = ts} {v = v} {older = older} {e = e} {ss = ss} q cd r pt₂ refl (rw put_same l) (omega arith) (rw put_same x)
        (waits_agree D (omega arith) (framed_same c) ws) bs (rw put_same (framed_chain c l ch)))
    step_rep c i ss cd (denies {ms = ms} {m = m} {ts = ts} p r pt pt₂) l (at {v = v} {older = older} {e = e} x ws bs) ch =
        live_at (point ms p m m (stop c.pc ∷ ts)) pt (omega arith) (at x (waits_cut {m = m} {v = v} (omega arith) (rw put_same x)) bs)
        (deny_at {ts = ts} {older = older} {e = e} {ss = ss} cd r pt₂ (rw put_same l) (omega arith)
        (waits_agree D (omega arith) (framed_same c) ws) bs (rw put_same (framed_chain c l ch)))
    step_rep c i ss cd (cuts {j = j}) l (at_cut x bs) ch = cut_rep (without D c j) j ch refl
    step_rep c i ss cd ends l (done bs) ch = choice_rep c ch
    step_rep c i ss cd elses l a ch = elim a [ ]
    step_rep c i ss cd closes l a ch = elim a [ ]
    step_rep c i ss cd reserves l a ch = elim a [ ]
    step_rep c i ss cd after_end_lem l a ch = elim a [ ]
