-- What of a configuration has to be kept between two rounds: the values that wait in slots of lines that have one, the bindings that there are, and the
-- last open frame. Two that agree in these stand for the same states.
use Rattle.std.specs.Prelude.{ℕ, zero, suc, ◌+◌, ◌≤◌, ◌<◌, ◌≡◌, Bool, true, false, List, [], ◌∷◌, ◌++◌, map, length}
use Rattle.std.proofs.Common.{arith, sym, ap, ◌∙◌, subst, append-nil}
use Rattle.std.proofs.Math.Path.{refl}
use Rattle.std.proofs.Math.Option.{Option, none, some}
use Rattle.rules.specs.Forms.{Matcher, Pattern}
use Rattle.rules.specs.Origins.{Valueᵒ, Bindings}
use Rattle.rules.specs.Search.{Halves, Atom, State, state}
use Rattle.program_rules.specs.Points.{Kind, over, first_by, branch, Instr, split, choice, deny, Item, item, or_else, end_or, stop, Point, point, else_place, end_place, cutting, finish, reserve, beyond, enter, known, within, inside}
use Rattle.search_machine.specs.Held.{Data}
use Rattle.search_machine.specs.Engine.{Slot, Conf}
use Rattle.search_machine.specs.Rep.{Waits, waits_none, waits, waits_else, waits_end, waits_cut, Bound, bound_none, bound, At, at, at_cut, done, Chain, shut, open_at, choice_at_lem, deny_at, Rep, live, Agree, bound_agree}

-- ---- Lines at which values wait.

-- Every line at which a value waits has a slot of its own, as Q says.
unfoldable pub Owned : (Q : ℕ → Type 0) → List Item → Type 0
Owned Q [] = Unit {0}
Owned Q (item p m c ∷ ts) = Q c × Owned Q ts
Owned Q (or_else q m ∷ ts) = Owned Q ts
Owned Q (end_or ∷ ts) = Owned Q ts
Owned Q (stop j ∷ ts) = Q j × Owned Q ts

unfoldable pub OwnedAt : (Q : ℕ → Type 0) → Point → Type 0
unfolding Owned
OwnedAt Q (point ms p m k ts) = Owned Q ts
OwnedAt Q (else_place ms q m ts) = Owned Q ts
OwnedAt Q (end_place ms ts) = Owned Q ts
OwnedAt Q (cutting ms j ts) = Owned Q ts
OwnedAt Q (finish ms) = Unit {0}
OwnedAt Q (reserve P) = OwnedAt Q P
OwnedAt Q beyond = Unit {0}

-- An open frame that may stand between two rounds: a division or an or, and none below it.
pub data Opens : Instr → Type 0 where
  opens_split : {k : Kind} → Opens (split k)
  opens_choice : {to : ℕ} → Opens (choice to)

module _ (D : Data) (Q : ℕ → Type 0) where
  -- The same values wait.
  abbrev pub Seconds : (f g : ℕ → Slot D) → (n : ℕ) → Type 0
  Seconds f g n = (i : ℕ) → i < n → Q i → (f i).second ≡ (g i).second

  waits_kept : {f g : ℕ → Slot D} {n : ℕ} {ts : List Item} {older : List Atom} → Owned Q ts → Seconds f g n → Waits D f n ts older → Waits D g n ts older
  unfolding Owned
  waits_kept o a waits_none = waits_none
  waits_kept o a (waits {c = c} h i w) = waits {c = c} h (rw (a c h o.0) at i) (waits_kept o.1 a w)
  waits_kept o a (waits_else w) = waits_else (waits_kept o a w)
  waits_kept o a (waits_end w) = waits_end (waits_kept o a w)
  waits_kept o a (waits_cut {m = m} {j = j} {v = v} h i) = waits_cut {m = m} {j = j} {v = v} h (rw (a j h o.0) at i)

  module _ (code : ℕ → Instr) (points : ℕ → Point) where
    -- No frame is open.
    pub chain_none : {f : ℕ → Slot D} {a : ℕ → D.Held} {top n w : ℕ} {ss : List State} → Chain D code points f a top n w ss → top ≡ 0 → (w ≡ 0) × (ss ≡ [])
    chain_none shut e = (refl, refl)
    chain_none (open_at k p q cd pt i l w left ws bs ch) e = absurd (omega arith)
    chain_none (choice_at_lem q cd r pt i l w is ws bs ch) e = absurd (omega arith)
    chain_none (deny_at cd r pt l w ws bs ch) e = absurd (omega arith)

    pub none_chain : {f : ℕ → Slot D} {a : ℕ → D.Held} {top n : ℕ} → top ≡ 0 → Chain D code points f a top n 0 []
    none_chain e = rw e shut

    -- The last open frame of f, and of g: the same division, and none is below it.
    pub record Frame (f g : ℕ → Slot D) (j : ℕ) : Type 0 where
      pub opens : Opens (code j)
      pub held : (f j).held ≡ (g j).held
      pub rem : (f j).rem ≡ (g j).rem
      pub alone : (f j).prev ≡ 0
      pub still : (g j).prev ≡ 0

    no_deny : {n to : ℕ} {i : Instr} {A : Type 0} → Opens i → i ≡ deny n to → A
    no_deny opens_split e = let z : ◌≡◌ {A = ℕ} 0 1 = cc in absurd (omega arith)
    no_deny opens_choice e = let z : ◌≡◌ {A = ℕ} 0 1 = cc in absurd (omega arith)

    module _ (owned : (pc : ℕ) → OwnedAt Q (points pc)) (sides : (j to : ℕ) → code j ≡ choice to → Q j) (many : ℕ) (few : (pc : ℕ) → length (known (points pc)) ≤ many) where
      owned_as : {pc : ℕ} {P : Point} → points pc ≡ P → OwnedAt Q P
      owned_as {pc} e = rw e at (owned pc)

      few_as : {pc : ℕ} {P : Point} → points pc ≡ P → length (known P) ≤ many
      few_as {pc} e = rw e at (few pc)

      -- The open frames stand for the same states.
      pub chain_kept : {f g : ℕ → Slot D} {a b : ℕ → D.Held} {top n w : ℕ} {ss : List State} → ((j : ℕ) → top ≡ suc j → Frame f g j) → Seconds f g top → Agree D a b many
          → Chain D code points f a top n w ss → Chain D code points g b top n w ss
      unfolding OwnedAt Owned known
      chain_kept k s y shut = shut
      chain_kept {f} {g} {a} {b} k s y (open_at {j = j} {n = n} {w = w} {ms = ms} {ts = ts} {older = older} {e = e} {hs = hs} {ss = ss} κ p q cd pt i u l left ws bs ch) =
          let r = k j refl in
          let z = chain_none ch r.alone in
          let h = few_as pt in
          let inner : Chain D code points g b (g j).prev (length ms) w ss = rw (z.0, z.1) (none_chain r.still) in
          open_at {n = n} {ts = ts} {older = older} {e = e} {hs = hs} {ss = ss} κ p q cd pt i (let v = r.still in omega arith) l (rw (r.held, r.rem) at left)
          (waits_kept (owned_as pt).1 (λ c m. s c (omega arith)) ws) (bound_agree D {n = many} (omega arith) y bs) inner
      chain_kept {f} {g} {a} {b} k s y (choice_at_lem {j = j} {n = n} {w = w} {to = to} {m = m} {ms = ms} {ts = ts} {v = v} {older = older} {e = e} {ss = ss} q cd t pt i u l is ws bs ch) =
          let r = k j refl in
          let z = chain_none ch r.alone in
          let h = few_as pt in
          let inner : Chain D code points g b (g j).prev (length ms) w ss = rw (z.0, z.1) (none_chain r.still) in
          choice_at_lem {n = n} {ts = ts} {v = v} {older = older} {e = e} {ss = ss} q cd t pt i (let v = r.still in omega arith) l (rw (s j (omega arith) (sides j to cd)) at is)
          (waits_kept (owned_as pt) (λ c m. s c (omega arith)) ws) (bound_agree D {n = many} (omega arith) y bs) inner
      chain_kept k s y (deny_at {j = j} cd r pt l w ws bs ch) = no_deny (k j refl).opens cd

      pub at_kept : {f g : ℕ → Slot D} {a b : ℕ → D.Held} {pc : ℕ} {h : D.Held} {P : Point} {s : State} → points pc ≡ P → Seconds f g pc → Agree D a b many
          → At D f a pc h P s → At D g b pc h P s
      unfolding OwnedAt known
      at_kept e s y (at {ms = ms} x ws bs) = let h = few_as e in at x (waits_kept (owned_as e) s ws) (bound_agree D {n = many} (omega arith) y bs)
      at_kept e s y (at_cut {ms = ms} {m = m} {v = v} x bs) = let h = few_as e in at_cut {m = m} {v = v} x (bound_agree D {n = many} (omega arith) y bs)
      at_kept e s y (done {ms = ms} bs) = let h = few_as e in done (bound_agree D {n = many} (omega arith) y bs)
