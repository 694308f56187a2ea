-- Which waiting states a configuration of the machine stands for.
use Rattle.std.specs.Prelude.{ℕ, suc, ◌+◌, ◌≤◌, ◌<◌, ◌≡◌, refl, Bool, true, false, List, [], ◌∷◌, ◌++◌, map, length, eqb, T}
use Rattle.std.proofs.Common.{arith, eqb→eq}
use Rattle.std.proofs.Math.Option.{Option, none, some}
use Rattle.std.proofs.Math.Dec.{eqb_refl}
use Rattle.rules.specs.Forms.{Matcher, Pattern}
use Rattle.rules.specs.Origins.{Valueᵒ, Bindings}
use Rattle.rules.specs.Search.{Halves, Atom, atom, end_of_not, State, state}
use Rattle.program_rules.specs.Points.{Kind, over, first_by, branch, Instr, split, choice, deny, Item, item, or_else, end_or, stop, Point, point, cutting, finish, enter, from, known, within, inside}
use Rattle.search_machine.specs.Held.{Data}
use Rattle.search_machine.specs.Engine.{put, Slot, Conf}

module _ (D : Data) where
  -- The later atoms: their values wait in slots below n. At the end of a search inside the not at j, the not's own value waits there.
  pub data Waits (slots : ℕ → Slot D) (n : ℕ) : List Item → List Atom → Type 0 where
    waits_none : Waits slots n [] []
    waits : {p : Pattern} {m : Matcher} {c : ℕ} {v : Valueᵒ} {ts : List Item} {older : List Atom}
        → c < n → D.Is m (slots c).second v → Waits slots n ts older → Waits slots n (item p m c ∷ ts) (atom p m v ∷ older)
    waits_else : {q : Pattern} {m : Matcher} {ts : List Item} {older : List Atom} → Waits slots n ts older → Waits slots n (or_else q m ∷ ts) older
    waits_end : {ts : List Item} {older : List Atom} → Waits slots n ts older → Waits slots n (end_or ∷ ts) older
    waits_cut : {m : Matcher} {j : ℕ} {v : Valueᵒ} {ts : List Item} → j < n → D.Is m (slots j).second v → Waits slots n (stop j ∷ ts) (end_of_not ∷ [])

  -- The bindings, from entry i on; entries after them are left over.
  pub data Bound (binds : ℕ → D.Held) : ℕ → List Matcher → Bindings → Type 0 where
    bound_none : {i : ℕ} → Bound binds i [] []
    bound : {i : ℕ} {m : Matcher} {v : Valueᵒ} {ms : List Matcher} {e : Bindings}
        → D.Is m (binds i) v → Bound binds (suc i) ms e → Bound binds i (m ∷ ms) (v ∷ e)

  -- The state at a place of the program.
  pub data At (slots : ℕ → Slot D) (binds : ℕ → D.Held) (pc : ℕ) (h : D.Held) : Point → State → Type 0 where
    at : {g : Bool} {ms : List Matcher} {p : Pattern} {m k : Matcher} {ts : List Item} {v : Valueᵒ} {older : List Atom} {e : Bindings}
        → D.Is k h v → Waits slots pc ts older → Bound binds 0 ms e → At slots binds pc h (point ms p m k ts) (state g (atom p m v ∷ older) e)
    at_cut : {g : Bool} {ms : List Matcher} {m : Matcher} {j : ℕ} {ts : List Item} {v : Valueᵒ} {e : Bindings}
        → D.Is m h v → Bound binds 0 ms e → At slots binds pc h (cutting ms j ts) (state g (end_of_not ∷ []) e)
    done : {g : Bool} {ms : List Matcher} {e : Bindings} → Bound binds 0 ms e → At slots binds pc h (finish ms) (state g [] e)

  module _ (code : ℕ → Instr) (points : ℕ → Point) where
    -- The open frames from the last one on, and the states that they stand for. Each has at most the n bindings, and all are inside the not w (0: none,
    -- j + 1: the one at j) up to the frame of that not.
    pub data Chain (slots : ℕ → Slot D) (binds : ℕ → D.Held) : (top n w : ℕ) → List State → Type 0 where
      shut : {n : ℕ} → Chain slots binds 0 n 0 []
      open_at : {j n w : ℕ} {ms : List Matcher} {ts : List Item} {older : List Atom} {e : Bindings} {hs : List Halves} {ss : List State}
          (k : Kind) (p q : Pattern)
          → code j ≡ split k → points (suc j) ≡ point ms p (first_by k) (first_by k) (item q (over k) j ∷ ts) → within ts ≡ w
          → (slots j).prev ≤ j → length ms ≤ n
          → D.Left k (slots j).held (slots j).rem hs → Waits slots j ts older → Bound binds 0 ms e
          → Chain slots binds (slots j).prev (length ms) w ss
          → Chain slots binds (suc j) n w (map (branch k p q older e) hs ++ ss)
      choice_at_lem : {j n w to : ℕ} {m : Matcher} {ms : List Matcher} {ts : List Item} {v : Valueᵒ} {older : List Atom} {e : Bindings} {ss : List State}
          (q : Pattern)
          → code j ≡ choice to → j < to → points to ≡ point ms q m m (end_or ∷ ts) → within ts ≡ w
          → (slots j).prev ≤ j → length ms ≤ n
          → D.Is m (slots j).second v → Waits slots j ts older → Bound binds 0 ms e
          → Chain slots binds (slots j).prev (length ms) w ss
          → Chain slots binds (suc j) n w (state false (atom q m v ∷ older) e ∷ ss)
      deny_at : {j n to : ℕ} {ms : List Matcher} {ts : List Item} {older : List Atom} {e : Bindings} {ss : List State}
          → code j ≡ deny (from ts) to → j < to → points to ≡ enter ms ts
          → (slots j).prev ≤ j → length ms ≤ n
          → Waits slots j ts older → Bound binds 0 ms e
          → Chain slots binds (slots j).prev (length ms) (within ts) ss
          → Chain slots binds (suc j) n (suc j) (state true older e ∷ ss)

    pub data Rep : Option (Conf D) → List State → Type 0 where
      over_all : Rep none []
      live : {c : Conf D} {s : State} {ss : List State} → c.top ≤ c.pc → At c.slots c.binds c.pc c.cur (points c.pc) s
          → Chain c.slots c.binds c.top (length (known (points c.pc))) (inside (points c.pc)) ss → Rep (some c) (s ∷ ss)

-- ---- Tables.
pub put_same : {A : Type 0} (f : ℕ → A) (i : ℕ) (x : A) → put f i x i ≡ x
unfolding put
put_same {A} f i x = go (eqb i i) (eqb_refl i)
  where
    go : (b : Bool) → T b → elim b as (λ _. A) [ true ↦ x | false ↦ f i ] ≡ x
    go true h = refl
    go false h = absurd h

pub put_below : {A : Type 0} (f : ℕ → A) (i : ℕ) (x : A) (j : ℕ) → j < i → put f i x j ≡ f j
unfolding put
put_below {A} f i x j l = go (eqb i j) (eqb→eq i j)
  where
    go : (b : Bool) → (T b → i ≡ j) → elim b as (λ _. A) [ true ↦ x | false ↦ f j ] ≡ f j
    go true h = let e = h tt in absurd (omega arith)
    go false h = refl

-- ---- The frame lemma: a chain means the same where the slots below its last frame and the bindings that it counts are the same.
module _ (D : Data) where
  -- Two tables agree below n.
  abbrev pub Agree : {A : Type 0} → (ℕ → A) → (ℕ → A) → ℕ → Type 0
  Agree f g n = (i : ℕ) → i < n → f i ≡ g i

  pub waits_agree : {f g : ℕ → Slot D} {n k : ℕ} {ts : List Item} {older : List Atom} → n ≤ k → Agree f g n → Waits D f n ts older → Waits D g k ts older
  waits_agree l a (waits_none) = waits_none
  waits_agree {f} {g} {n} {k} l a (waits {m = m} {c = c} {v = v} h i w) =
      waits {c = c} (omega arith) (rw (a c h) at i) (waits_agree l a w)
  waits_agree l a (waits_else w) = waits_else (waits_agree l a w)
  waits_agree l a (waits_end w) = waits_end (waits_agree l a w)
  waits_agree {f} {g} {n} {k} l a (waits_cut {m = m} {j = j} {v = v} h i) = waits_cut {m = m} {j = j} {v = v} (omega arith) (rw (a j h) at i)

  pub bound_agree : {f g : ℕ → D.Held} {i n : ℕ} {ms : List Matcher} {e : Bindings} → i + length ms ≤ n → Agree f g n → Bound D f i ms e → Bound D g i ms e
  bound_agree l a bound_none = bound_none
  bound_agree {i = i} l a (bound {ms = ms} h b) = bound (rw (a i (omega arith)) at h) (bound_agree (omega arith) a b)

  module _ (code : ℕ → Instr) (points : ℕ → Point) where
    pub chain_agree : {f g : ℕ → Slot D} {a b : ℕ → D.Held} {top n k w : ℕ} {ss : List State} → n ≤ k → Agree f g top → Agree a b n
        → Chain D code points f a top n w ss → Chain D code points g b top k w ss
    chain_agree l x y shut = shut
    chain_agree {n = n} {k = k} l x y (open_at {j = j} {ms = ms} κ p q c t i u w left ws bs ch) =
        let e = x j (omega arith) in
        open_at {n = k} κ p q c t i (rw e at u) (omega arith) (rw e at left)
        (waits_agree (omega arith) (λ i h. x i (omega arith)) ws) (bound_agree {n = length ms} (omega arith) (λ i h. y i (omega arith)) bs)
        (rw e at (chain_agree {k = length ms} (omega arith) (λ i h. x i (omega arith)) (λ i h. y i (omega arith)) ch))
    chain_agree {n = n} {k = k} l x y (choice_at_lem {j = j} {ms = ms} q c r t i u w is ws bs ch) =
        let e = x j (omega arith) in
        choice_at_lem {n = k} q c r t i (rw e at u) (omega arith) (rw e at is)
        (waits_agree (omega arith) (λ i h. x i (omega arith)) ws) (bound_agree {n = length ms} (omega arith) (λ i h. y i (omega arith)) bs)
        (rw e at (chain_agree {k = length ms} (omega arith) (λ i h. x i (omega arith)) (λ i h. y i (omega arith)) ch))
    chain_agree {n = n} {k = k} l x y (deny_at {j = j} {ms = ms} c r t u w ws bs ch) =
        let e = x j (omega arith) in
        deny_at {n = k} c r t (rw e at u) (omega arith)
        (waits_agree (omega arith) (λ i h. x i (omega arith)) ws) (bound_agree {n = length ms} (omega arith) (λ i h. y i (omega arith)) bs)
        (rw e at (chain_agree {k = length ms} (omega arith) (λ i h. x i (omega arith)) (λ i h. y i (omega arith)) ch))
