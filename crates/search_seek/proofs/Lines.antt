-- The laws of the lines by which a multiset's cons asks for an integer. Assumes nothing.
use mathlib.Core.Path.{◌≡◌, refl, sym, ap, subst, ◌∙◌}
use mathlib.Core.Logic.{◌⊎◌, inl, inr}
use mathlib.Core.Bool.{Bool, true, false, not}
use mathlib.Core.List.{List}
use Prim.Native.Nat.{ℕ, ◌+◌, ◌-◌, ◌<◌, ◌≤◌}
use native.Mathlib.Omega.{arith}
use borrow.Author.Rules.{rules}
use Rattle.std.specs.Prelude.{Some, None}
use borrow.Author.Tests.{eq-eqb, ne_eqb, eqb-true, eqb-false, lt-ltb, le-ltb}
use lib.ListN.{length, get_or}
use lib.Dec.{eqb, ltb}
use lib.IntN.{ℤ, pos}
use mir.Syntax.{w64}
use mir.Val.{Fits}
use Rattle.words.specs.Words.{entries}
use Rattle.tables.specs.Slot.{Tables, view_of}
use Rattle.search_atom.specs.Leaves.{when}
use Rattle.search_step.specs.declared.State.{State}
use Rattle.search_seek.specs.Asked.{part_of, first_of, second_of, asked_of, sum_of, sum_if, wanted_by, wanted_of, Opens, Seeking}
use Rattle.search_seek.specs.Pairs.{OverPairs, SeeksPairs}
use Rattle.search_seek.specs.declared.asked.Asking.{Asking}
use Rattle.search_seek.specs.declared.pairs.Sum.{Sum}
use Rattle.search_seek.specs.declared.pairs.Wanted.{Wanted}

-- ---- The first line.

module _ (op : List ℕ) (top p : ℕ) (i : p ≡ get_or op top 0) where
  pub part_sum : p ≡ 5 → top ≡ part_of op top
  unfolding part_of when
  part_sum n = rw (← i, eq-eqb p 5 n)

  module _ (n : p ≡ 5 → ⊥) where
    pub part_other : (p ≡ 11 → ⊥) → 0 ≡ part_of op top
    unfolding part_of when
    part_other m = rw (← i, ne_eqb p 5 n, ne_eqb p 11 m)

    module _ (m : p ≡ 11) (q : ℕ) (j : q ≡ get_or op (top + 1) 0) where
      pub part_pair : q ≡ 5 → top + 1 ≡ part_of op top
      unfolding part_of when
      part_pair z = rw (← i, ne_eqb p 5 n, eq-eqb p 11 m, ← j, eq-eqb q 5 z)

      pub part_pair_other : (q ≡ 5 → ⊥) → 0 ≡ part_of op top
      unfolding part_of when
      part_pair_other z = rw (← i, ne_eqb p 5 n, eq-eqb p 11 m, ← j, ne_eqb q 5 z)

  pub pair_next : (to : List ℕ) (x : State) → Opens op to x → top < entries → p ≡ 11 → top + 1 < entries
  pair_next to x h t m = let d : top ≡ entries - 1 → ⊥ = λ e. absurd (omega (arith, i, m, ap (λ (y : ℕ). get_or op y 0) e, h.last)) in omega (arith, t, d)

module _ (op : List ℕ) (x : State) where
  pub first_stands : (x.live ≡ 2 → ⊥) → 0 ≡ first_of op x
  unfolding first_of when
  first_stands n = rw (ne_eqb x.live 2 n)

  module _ (l : x.live ≡ 2) where
    pub first_none : x.top ≡ 0 → 0 ≡ first_of op x
    unfolding first_of when
    first_none z = rw (eq-eqb x.live 2 l, eq-eqb x.top 0 z)

    module _ (t : x.top ≡ 0 → ⊥) (o : ℕ) (i : o ≡ get_or op (x.top - 1) 0) where
      pub first_other : (o ≡ 9 → ⊥) → 0 ≡ first_of op x
      unfolding first_of when
      first_other n = rw (eq-eqb x.live 2 l, ne_eqb x.top 0 t, ← i, ne_eqb o 9 n)

      pub first_part : (r : ℕ) → o ≡ 9 → r ≡ part_of op x.top → r ≡ first_of op x
      unfolding first_of when
      first_part r n q = q ∙ rw (eq-eqb x.live 2 l, ne_eqb x.top 0 t, ← i, eq-eqb o 9 n)

      pub first_after : (to : List ℕ) → Opens op to x → o ≡ 9 → x.top < entries
      first_after to h n =
          let m = h.place l t in
          let d : x.top - 1 ≡ entries - 1 → ⊥ = λ e. absurd (omega (arith, i, n, ap (λ (y : ℕ). get_or op y 0) e, h.last)) in
          omega (arith, m, d)

    pub first_frame : (to : List ℕ) → Opens op to x → (x.top ≡ 0 → ⊥) → x.top - 1 < entries
    first_frame to h t = h.place l t

pub next_fits : (n : ℕ) → n < entries → Fits w64 (n + 1)
next_fits n h = record { fits = omega arith }

pub ruleset first_rules = (next_fits, part_sum, part_other, part_pair, part_pair_other, pair_next, first_stands, first_none, first_other, first_part, first_after, first_frame, rules)

-- ---- The line that asks: the first part's own, or that of a pair's first part.

pub record Asks (op : List ℕ) (x : State) (i : ℕ) : Type 0 where
  pub live : x.live ≡ 2
  pub top : x.top ≡ 0 → ⊥
  pub cons : get_or op (x.top - 1) 0 ≡ 9
  pub line : get_or op i 0 ≡ 5
  pub kind : (i ≡ x.top) ⊎ ((i ≡ x.top + 1) × (get_or op x.top 0 ≡ 11))

pub first_asks : (op : List ℕ) (x : State) (i : ℕ) → i ≡ first_of op x → 0 < i → Asks op x i
unfolding first_of part_of when
first_asks op x i a s =
    go (eqb x.live 2) refl (eqb x.top 0) refl (eqb (get_or op (x.top - 1) 0) 9) refl (eqb (get_or op x.top 0) 5) refl (eqb (get_or op x.top 0) 11) refl (eqb (get_or op (x.top + 1) 0) 5) refl a
  where
    go : (l : Bool) → eqb x.live 2 ≡ l → (t : Bool) → eqb x.top 0 ≡ t → (c : Bool) → eqb (get_or op (x.top - 1) 0) 9 ≡ c → (f : Bool) → eqb (get_or op x.top 0) 5 ≡ f
        → (p : Bool) → eqb (get_or op x.top 0) 11 ≡ p → (q : Bool) → eqb (get_or op (x.top + 1) 0) 5 ≡ q
        → i ≡ when l (when t 0 (when c (when f x.top (when p (when q (x.top + 1) 0) 0)) 0)) 0 → Asks op x i
    go true l false t true c true f p i₁ q i₂ h =
        record { live = eqb-true _ _ l; top = eqb-false _ _ t; cons = eqb-true _ _ c; line = rw h (eqb-true _ _ f); kind = inl h }
    go true l false t true c false f true p true q h =
        record { live = eqb-true _ _ l; top = eqb-false _ _ t; cons = eqb-true _ _ c; line = rw h (eqb-true _ _ q); kind = inr (h, eqb-true _ _ p) }
    go true l false t true c false f true p false q h = absurd (omega (arith, h, s))
    go true l false t true c false f false p q i₂ h = absurd (omega (arith, h, s))
    go true l false t false c f i₀ p i₁ q i₂ h = absurd (omega (arith, h, s))
    go true l true t c i₃ f i₀ p i₁ q i₂ h = absurd (omega (arith, h, s))
    go false l t i₄ c i₃ f i₀ p i₁ q i₂ h = absurd (omega (arith, h, s))

-- ---- The second line.

module _ (op from to : List ℕ) (top i : ℕ) where
  pub second_low : i ≤ top → i ≡ second_of op from to top i
  unfolding second_of when
  second_low h = rw (le-ltb top i h)

  module _ (h : top < i) (f : ℕ) (p : f ≡ get_or from i 0) where
    pub second_other : (f ≡ top → ⊥) → i ≡ second_of op from to top i
    unfolding second_of when
    second_other n = rw (lt-ltb top i h, ← p, ne_eqb f top n)

    module _ (n : f ≡ top) (k : ℕ) (q : k ≡ get_or to i 0) (o : ℕ) (j : o ≡ get_or op k 0) where
      pub second_sum : o ≡ 5 → k ≡ second_of op from to top i
      unfolding second_of when
      second_sum z = rw (lt-ltb top i h, ← p, eq-eqb f top n, ← q, ← j, eq-eqb o 5 z)

      pub second_not : (o ≡ 5 → ⊥) → i ≡ second_of op from to top i
      unfolding second_of when
      second_not z = rw (lt-ltb top i h, ← p, eq-eqb f top n, ← q, ← j, ne_eqb o 5 z)

pub second_there : (to : List ℕ) (top i k : ℕ) → (top < i → (i < entries) × (get_or to i 0 < entries)) → top < i → k ≡ get_or to i 0 → k < entries
second_there to top i k f h q = rw q (f h).1

pub ruleset second_rules = (second_low, second_other, second_sum, second_not, rules)

-- Where the second line is another, it asks for what waits at the line `top`.
pub record Also (op from to : List ℕ) (top i k : ℕ) : Type 0 where
  pub waits : get_or from i 0 ≡ top
  pub next : k ≡ get_or to i 0
  pub line : get_or op k 0 ≡ 5

pub second_asks : (op from to : List ℕ) (top i k : ℕ) → k ≡ second_of op from to top i → (k ≡ i) ⊎ Also op from to top i k
unfolding second_of when
second_asks op from to top i k a = go (ltb top i) (eqb (get_or from i 0) top) refl (eqb (get_or op (get_or to i 0) 0) 5) refl a
  where
    go : (h : Bool) → (f : Bool) → eqb (get_or from i 0) top ≡ f → (o : Bool) → eqb (get_or op (get_or to i 0) 0) 5 ≡ o
        → k ≡ when h (when f (when o (get_or to i 0) i) i) i → (k ≡ i) ⊎ Also op from to top i k
    go true true f true o e = inr (record { waits = eqb-true _ _ f; next = e; line = rw e (eqb-true _ _ o) })
    go true true f false o e = inl e
    go true false f o i₀ e = inl e
    go false f i₁ o i₀ e = inl e

-- ---- Both, and what they ask for.

pub first_line_lem : (op to : List ℕ) (x : State) (i : ℕ) → Opens op to x → i ≡ first_of op x → 0 < i → i < entries
first_line_lem op to x i h a s = let k = first_asks op x i a s in go k k.kind
  where
    go : Asks op x i → (i ≡ x.top) ⊎ ((i ≡ x.top + 1) × (get_or op x.top 0 ≡ 11)) → i < entries
    go k (inl e) = rw e (first_after op x k.live k.top _ refl to h k.cons)
    go k (inr (e, p)) = rw e (pair_next op x.top _ refl to x h (first_after op x k.live k.top _ refl to h k.cons) p)

pub second_line : (op to : List ℕ) (x : State) (i : ℕ) → Opens op to x → i ≡ first_of op x → x.top < i → (i < entries) × (get_or to i 0 < entries)
second_line op to x i h a s = let l = first_line_lem op to x i h a (omega (arith, s)) in (l, h.places i l)

pub asked_is : (op from to : List ℕ) (x : State) (i k : ℕ) → i ≡ first_of op x → k ≡ second_of op from to x.top i
    → ◌≡◌ {A = Asking} (record { part = x.top; first = i; second = k }) (asked_of op from to x)
unfolding asked_of
asked_is op from to x i k a b = rw (b, a)

pub sum_is : (con : List ℤ) (i at : ℕ) (c : ℤ) → c ≡ get_or con i (pos 0) → ◌≡◌ {A = Sum} (record { at = at; plus = c }) (sum_of con i at)
unfolding sum_of
sum_is con i at c p = rw p

pub ruleset asked_rules = (asked_is, sum_is, rules)

module _ (con : List ℤ) (a : Asking) (g h : ℕ) (first : Sum) (p : first ≡ sum_of con a.first g) where
  pub wanted_one : a.first ≡ a.second → ◌≡◌ {A = Wanted} (record { first = first; second = None }) (wanted_of con a g h)
  unfolding wanted_of wanted_by sum_if
  wanted_one e = rw (p, eq-eqb a.first a.second e)

  pub wanted_two : (second : Sum) → second ≡ sum_of con a.second h → (a.first ≡ a.second → ⊥)
      → ◌≡◌ {A = Wanted} (record { first = first; second = Some second }) (wanted_of con a g h)
  unfolding wanted_of wanted_by sum_if
  wanted_two second q n = rw (p, q, ne_eqb a.first a.second n)

module _ (s con : List ℤ) (arg slots : List ℕ) (a : Asking) (g h budget begun : ℕ) where
  -- Where a second integer is asked for, it is that of the second line.
  second_in : Seeking s con arg slots a g h budget begun → (both : Bool) (q : Sum) → sum_if con a.second h both ≡ Some q → q.at + 1 < length s
  unfolding sum_if sum_of
  second_in k true q e = let z : sum_of con a.second h ≡ q = cc in rw (← z) k.other
  second_in k false q e = absurd (cc)

  pub seeks_pairs : Seeking s con arg slots a g h budget begun → (w : Wanted) → w ≡ wanted_of con a g h → SeeksPairs s w budget a.part begun (view_of arg slots)
  unfolding wanted_of wanted_by sum_of
  seeks_pairs k w p = record {
    some = k.seeks.some;
    place = k.seeks.place;
    integers = record { first = rw p k.seeks.number; second = λ q e. second_in k (not (eqb a.first a.second)) q (ap (λ (v : Wanted). v.second) (sym p) ∙ e) };
    steps = k.seeks.steps;
    held = k.seeks.held;
    choice = k.seeks.choice;
  }

pub over_pairs : {s : List ℤ} {w w' : Wanted} {budget top begun steps : ℕ} {t u : Tables} → w ≡ w' → OverPairs s w budget top begun t steps u → OverPairs s w' budget top begun t steps u
over_pairs {s} {w} {w'} {budget} {top} {begun} {steps} {t} {u} e o = subst (λ (v : Wanted). OverPairs s v budget top begun t steps u) e o
