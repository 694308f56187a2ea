-- A list of states of a round as a configuration with at most one open frame: its first state alone, its remainder, and what follows when a state is taken up.
use Prim.Native.Nat.{ℕ, zero, suc, ◌+◌, ◌≤◌, ◌<◌}
use native.Mathlib.Omega.{arith}
use Rattle.std.specs.Prelude.{◌≡◌, Bool, ◌||◌, length}
use Rattle.std.proofs.Math.Path.{refl}
use Rattle.std.proofs.Common.{sym, ap, ap₂, ◌∙◌, subst}
use Rattle.std.proofs.Math.Bool.{true, false}
use Rattle.std.proofs.Math.Option.{Option, none, some}
use mathlib.Core.List.{List, [], ◌∷◌, ◌++◌, map}
use Rattle.rules.specs.Forms.{Matcher, Pattern}
use Rattle.rules.specs.Origins.{Valueᵒ, Bindings}
use Rattle.rules.specs.Search.{Halves, Atom, atom, end_of_not, State, state}
use Rattle.round_rules.specs.Rounds.{marked, any_marked, searching, unmarked}
use Rattle.program_rules.specs.Points.{Kind, over, first_by, branch, Test, Instr, strip, keep, other, close, drop, bind, test, split, apart, choice, deny, cut_at, end, Item, Point, resume, inside, Follows, strips, drops, binds, tests, splits, aparts, keeps, chooses, denies, cuts, elses, closes, reserves, ends, after_end_lem}
use Rattle.search_machine.specs.Held.{Data, Picked}
use Rattle.search_machine.specs.Engine.{put, Slot, Conf, Turn, on, back, check, next, pushed, opening, kept_here, framed_here, parting, exec, slot_after, top_after, chosen, resumed, choose, next_choice, settle}
use Rattle.search_machine.specs.Rep.{Waits, Bound, At, at, at_cut, done, Chain, shut, open_at, choice_at_lem, deny_at, Rep, over_all, live, put_same}
use Rattle.search_machine.specs.Sim.{choice_rep, step_rep}
use Rattle.round_states.specs.Kept.{Opens, opens_split, opens_choice, chain_none}

module _ (D : Data) (code : ℕ → Instr) (points : ℕ → Point) where
  -- At most one frame is open, a division's or an or's.
  pub record Shallow (c : Conf D) : Type 0 where
    pub frame : (j : ℕ) → c.top ≡ suc j → Opens (code j) × ((c.slots j).prev ≡ 0)

  unfoldable pub Shallows : Option (Conf D) → Type 0
  Shallows none = Unit {0}
  Shallows (some c) = Shallow c

  -- The first state alone.
  unfoldable pub alone : Conf D → Conf D
  alone c = record { pc = c.pc; cur = c.cur; top = 0; slots = c.slots; binds = c.binds }

  pub no_deny : {n to : ℕ} {i : Instr} {A : Type 0} → Opens i → i ≡ deny n to → A
  no_deny opens_split e = let z : ◌≡◌ {A = ℕ} 0 1 = cc in absurd (omega arith)
  no_deny opens_choice e = let z : ◌≡◌ {A = ℕ} 0 1 = cc in absurd (omega arith)

  -- So it is inside no not.
  chain_outside : {f : ℕ → Slot D} {a : ℕ → D.Held} {top n w : ℕ} {ss : List State} → ((j : ℕ) → top ≡ suc j → Opens (code j) × ((f j).prev ≡ 0))
      → Chain D code points f a top n w ss → w ≡ 0
  chain_outside k shut = refl
  chain_outside k (open_at {j = j} κ p q cd pt i u l left ws bs ch) = (chain_none D (λ _. Unit {0}) code points ch (k j refl).1).0
  chain_outside k (choice_at_lem {j = j} q cd t pt i u l is ws bs ch) = (chain_none D (λ _. Unit {0}) code points ch (k j refl).1).0
  chain_outside k (deny_at {j = j} cd r pt l w ws bs ch) = no_deny (k j refl).0 cd

  pub outside : {c : Conf D} {ss : List State} → Rep D code points (some c) ss → Shallow c → inside (points c.pc) ≡ 0
  outside (live l a ch) h = chain_outside h.frame ch

  pub alone_rep : {c : Conf D} {s : State} {ss : List State} → Rep D code points (some c) (s ∷ ss) → Shallow c → Rep D code points (some (alone c)) (s ∷ [])
  unfolding alone
  alone_rep {c} (live {s = s} l a ch) h =
      live {c = record { pc = c.pc; cur = c.cur; top = 0; slots = c.slots; binds = c.binds }} {s = s} {ss = []} (omega arith) a (rw (chain_outside h.frame ch) shut)

  -- The remainder.
  pub rest_rep : {c : Conf D} {s : State} {ss : List State} → Rep D code points (some c) (s ∷ ss) → Rep D code points (next_choice D code c.top c) ss
  rest_rep {c} (live l a ch) = choice_rep D code points c ch

  none_shallow : (c : Conf D) → c.top ≡ 0 → Shallow c
  none_shallow c e = record { frame = λ j h. absurd (omega arith) }

  chosen_shallow : (c : Conf D) (j : ℕ) (one two : D.Held) (mo : Option D.Rem) → Opens (code j) → (c.slots j).prev ≡ 0
      → Shallow (chosen D c j (record { one = one; two = two; more = mo }))
  unfolding chosen slot_after top_after
  chosen_shallow c j one two none o e = record { frame = λ i h. absurd (omega arith) }
  chosen_shallow c j one two (some r) o e = record {
    frame = λ i h. let z : i ≡ j = omega arith in rw z (o, rw put_same e);
  }

  choose_shallow : (c : Conf D) (j : ℕ) (i : Instr) → code j ≡ i → Opens i → (c.slots j).prev ≡ 0 → Shallows (choose D i j c)
  unfolding choose Shallows resumed
  choose_shallow c j i e (opens_split {k}) z =
      let t = D.pick k (c.slots j).held (c.slots j).rem in
      chosen_shallow c j t.one t.two t.more (rw e opens_split) z
  choose_shallow c j i e opens_choice z = record { frame = λ i h. absurd (omega arith) }

  rest_from : (c : Conf D) (top : ℕ) → c.top ≡ top → Shallow c → Shallows (next_choice D code top c)
  unfolding next_choice Shallows
  rest_from c zero e h = tt
  rest_from c (suc j) e h = let f = h.frame j e in choose_shallow c j (code j) refl f.0 f.1

  pub rest_shallow : (c : Conf D) → Shallow c → Shallows (next_choice D code c.top c)
  rest_shallow c h = rest_from c c.top refl h

  -- A state that stands alone, on an instruction that is no not and no end of one, is taken up.
  back_shallow : (c : Conf D) → c.top ≡ 0 → Shallows (settle D code (back c))
  unfolding settle
  back_shallow c e = rest_shallow c (none_shallow c e)

  split_shallow : (c : Conf D) (k : Kind) (mo : Option D.Rem) → code c.pc ≡ split k → c.top ≡ 0 → Shallows (settle D code (back (opening D c mo)))
  unfolding settle opening pushed
  split_shallow c k none e z = back_shallow c z
  split_shallow c k (some r) e z = rest_shallow (pushed D c r) (record {
    frame = λ j h. let q : j ≡ c.pc = omega arith in rw q (rw e opens_split, rw put_same z);
  })

  test_shallow : (c c' : Conf D) (b : Bool) → c.top ≡ 0 → c'.top ≡ 0 → Shallows (settle D code (elim b as (λ _. Turn D) [ true ↦ on c' | false ↦ back c ]))
  unfolding settle Shallows
  test_shallow c c' true z y = none_shallow c' y
  test_shallow c c' false z y = back_shallow c z

  pub step_shallow : (c : Conf D) (i : Instr) → code c.pc ≡ i → c.top ≡ 0 → ((n to : ℕ) → i ≡ deny n to → ⊥) → ((j : ℕ) → i ≡ cut_at j → ⊥)
      → Shallows (settle D code (exec D i c))
  unfolding exec settle Shallows next parting kept_here framed_here
  step_shallow c strip e z p q = none_shallow _ z
  step_shallow c (drop n to) e z p q = none_shallow _ z
  step_shallow c (bind i n to) e z p q = none_shallow _ z
  step_shallow c (test t n to) e z p q = test_shallow c _ (check D t c.binds c.cur) z z
  step_shallow c (split k) e z p q = split_shallow c k (D.opens k c.cur) e z
  step_shallow c (apart n) e z p q = test_shallow c _ (D.is_wide (suc (suc n)) c.cur) z z
  step_shallow c keep e z p q = none_shallow _ z
  step_shallow c (choice to) e z p q = record { frame = λ j h. let y : j ≡ c.pc = omega arith in rw y (rw e opens_choice, rw put_same z) }
  step_shallow c (deny n to) e z p q = absurd (p n to refl)
  step_shallow c (cut_at j) e z p q = absurd (q j refl)
  step_shallow c other e z p q = back_shallow c z
  step_shallow c close e z p q = back_shallow c z
  step_shallow c (end n) e z p q = back_shallow c z

  -- ---- Marks on states: none is on one that waits outside every not, and the mark on a state that stands is of no account.

  branches_plain : (k : Kind) (p q : Pattern) (older : List Atom) (e : Bindings) (hs : List Halves) (ss : List State) → map unmarked ss ≡ ss → any_marked ss ≡ false
      → (map unmarked (map (branch k p q older e) hs ++ ss) ≡ map (branch k p q older e) hs ++ ss) × (any_marked (map (branch k p q older e) hs ++ ss) ≡ false)
  unfolding branch unmarked any_marked marked
  branches_plain k p q older e [] ss a b = (a, b)
  branches_plain k p q older e (h ∷ hs) ss a b = let r = branches_plain k p q older e hs ss a b in (ap (λ xs. branch k p q older e h ∷ xs) r.0, r.1)

  pub chain_plain : {f : ℕ → Slot D} {a : ℕ → D.Held} {top n w : ℕ} {ss : List State} → Chain D code points f a top n w ss → w ≡ 0
      → (map unmarked ss ≡ ss) × (any_marked ss ≡ false)
  unfolding unmarked any_marked marked
  chain_plain shut z = (refl, refl)
  chain_plain (open_at {older = older} {e = e} {hs = hs} {ss = ss} κ p q cd pt i u l left ws bs ch) z = let r = chain_plain ch z in branches_plain κ p q older e hs ss r.0 r.1
  chain_plain (choice_at_lem {m = m} {v = v} {older = older} {e = e} q cd t pt i u l is ws bs ch) z = let r = chain_plain ch z in (ap (λ xs. state false (atom q m v ∷ older) e ∷ xs) r.0, r.1)
  chain_plain (deny_at {j = j} cd r pt l w ws bs ch) z = absurd (omega arith)

  at_unmarked : {f : ℕ → Slot D} {a : ℕ → D.Held} {pc : ℕ} {h : D.Held} {P : Point} {s : State} → At D f a pc h P s → At D f a pc h P (unmarked s)
  unfolding unmarked
  at_unmarked (at x ws bs) = at x ws bs
  at_unmarked (at_cut {m = m} {v = v} x bs) = at_cut {m = m} {v = v} x bs
  at_unmarked (done bs) = done bs

  pub plain_rep : {o : Option (Conf D)} {ss : List State} → Rep D code points o ss → Shallows o → Rep D code points o (map unmarked ss) × (searching ss ≡ false)
  unfolding Shallows searching
  plain_rep over_all h = (over_all, refl)
  plain_rep (live {c = c} {s = s} {ss = ss} l a ch) h =
      let r = chain_plain ch (chain_outside h.frame ch) in
      (live {c = c} {s = unmarked s} {ss = map unmarked ss} l (at_unmarked a) (rw r.0 ch), r.1)

-- ---- What stands outside every not.

unfoldable Cuts : Instr → Point → Type 0
Cuts strip P = Unit {0}
Cuts keep P = Unit {0}
Cuts other P = Unit {0}
Cuts close P = Unit {0}
Cuts (drop n to) P = Unit {0}
Cuts (bind i n to) P = Unit {0}
Cuts (test t n to) P = Unit {0}
Cuts (split k) P = Unit {0}
Cuts (apart n) P = Unit {0}
Cuts (choice to) P = Unit {0}
Cuts (deny n to) P = Unit {0}
Cuts (cut_at j) P = inside P ≡ suc j
Cuts (end n) P = Unit {0}

follows_cuts : {points : ℕ → Point} {pc : ℕ} {i : Instr} {P : Point} → Follows points pc i P → Cuts i P
unfolding Cuts inside
follows_cuts (strips h n pt) = tt
follows_cuts (drops r pt) = tt
follows_cuts (binds r pt) = tt
follows_cuts (tests t h r pt) = tt
follows_cuts (splits k p q pt) = tt
follows_cuts (aparts p q ps m k ks n t pt) = tt
follows_cuts (keeps p q pt) = tt
follows_cuts (chooses p q r pt pt₂) = tt
follows_cuts (denies p r pt pt₂) = tt
follows_cuts cuts = refl
follows_cuts elses = tt
follows_cuts closes = tt
follows_cuts reserves = tt
follows_cuts ends = tt
follows_cuts after_end_lem = tt

pub cut_inside : {points : ℕ → Point} {pc : ℕ} {i : Instr} {P : Point} (j : ℕ) → Follows points pc i P → i ≡ cut_at j → inside P ≡ suc j
unfolding Cuts
cut_inside {P = P} j f e = subst (λ k. Cuts k P) e (follows_cuts f)

module _ (D : Data) where
  -- The end of the search inside a not stands inside it.
  pub end_inside : {f : ℕ → Slot D} {b : ℕ → D.Held} {pc : ℕ} {h : D.Held} {P : Point} {g : Bool} {older : List Atom} {e : Bindings}
      → At D f b pc h P (state g (end_of_not ∷ older) e) → inside P ≡ 0 → ⊥
  unfolding inside
  end_inside (at_cut x bs) z = omega arith

  -- A state with no atom left stands outside.
  pub row_outside : {f : ℕ → Slot D} {b : ℕ → D.Held} {pc : ℕ} {h : D.Held} {P : Point} {g : Bool} {e : Bindings}
      → At D f b pc h P (state g [] e) → inside P ≡ 0
  unfolding inside
  row_outside (done bs) = refl
