-- The laws that the lines of a leaf ask for. Assumes nothing.
use Prim.Native.Nat.{ℕ, ◌+◌, ◌-◌, ◌<◌}
use native.Mathlib.Omega.{arith}
use mathlib.Core.Path.{◌≡◌, refl, sym, ap, ◌∙◌}
use mathlib.Core.Logic.{inl, inr}
use mathlib.Core.Bool.{true, false}
use mathlib.Core.List.{List}
use lib.ListN.{get_or}
use lib.Dec.{eqb}
use borrow.Author.Rules.{rules}
use borrow.Author.Tests.{eqb-true}
use mir.Syntax.{w64}
use mir.Val.{Fits}
use Rattle.words.specs.Words.{entries}
use Rattle.tables.specs.Slot.{Slotted}
use Rattle.search_step.specs.declared.State.{State}
use Rattle.search_leaf.specs.Lines.{Tested, Last, Leafs, Ends, Looks}

pub no_answer : {X : Type 0} → false ≡ true → X
no_answer e = let w : ◌≡◌ {A = ℕ} 0 1 = cc in absurd (omega arith)

-- ---- The line after one that is no end.

module _ (op to : List ℕ) (i o : ℕ) (g : Ends op to) (h : i < entries) (d : o ≡ get_or op i 0) where
  pub after_line : (o ≡ 0 → ⊥) → i + 1 < entries
  after_line n =
      let m : i ≡ entries - 1 → ⊥ = λ e. n (d ∙ ap (λ (y : ℕ). get_or op y 0) e ∙ g.last) in
      omega (arith, m)

  pub after_same : o ≡ 1 → i + 1 < entries
  after_same e = after_line (λ z. absurd (omega arith))

  pub after_same_fits : o ≡ 1 → Fits w64 (i + 1)
  after_same_fits e = let l = after_same e in record { fits = omega arith }

  pub after_cons : o ≡ 9 → i + 1 < entries
  after_cons e = after_line (λ z. absurd (omega arith))

pub named_line : (op to : List ℕ) (i a : ℕ) → Ends op to → i < entries → a ≡ get_or to i 0 → a < entries
named_line op to i a g h d = rw d (g.places i h)

-- ---- The line of the first part.

module _ (op : List ℕ) (top o : ℕ) (d : o ≡ get_or op top 0) where
  pub tested_sum : top < entries → o ≡ 5 → Tested op top top
  tested_sum h e = record { place = h; kind = inl (refl, sym d ∙ e) }

  module _ (e : o ≡ 1) (h : top + 1 < entries) (p : ℕ) (k : p ≡ get_or op (top + 1) 0) where
    pub tested_drop : p ≡ 2 → Tested op top (top + 1)
    tested_drop z = record { place = h; kind = inr (sym d ∙ e, refl, inl (sym k ∙ z)) }

    pub tested_bind : p ≡ 3 → Tested op top (top + 1)
    tested_bind z = record { place = h; kind = inr (sym d ∙ e, refl, inr (sym k ∙ z)) }

pub tested_none : (op : List ℕ) (top : ℕ) → 0 < 0 → Tested op top 0
tested_none op top h = absurd (omega arith)

pub ruleset tested_rules = (after_same, after_same_fits, tested_sum, tested_drop, tested_bind, tested_none, rules)

-- ---- The lines behind it.

pub last_is : (op to : List ℕ) (i a o p z q : ℕ) → a ≡ get_or to i 0 → o ≡ get_or op a 0 → o ≡ 1 → p ≡ get_or op (a + 1) 0 → p ≡ 2 → z ≡ get_or to (a + 1) 0 → q ≡ get_or op z 0
    → eqb q 0 ≡ true → Last op to i
last_is op to i a o p z q d e x f y k l t = record {
  same = rw (← d) (sym e ∙ x);
  drop = rw (← d) (sym f ∙ y);
  end = rw (← d, ← k) (sym l ∙ eqb-true q 0 t);
}

pub ruleset last_rules = (after_same, after_same_fits, named_line, last_is, no_answer, rules)

-- ---- The last open frame.

module _ (op to : List ℕ) (x : State) where
  pub leafs_none : 0 < 0 → Leafs op to x 0
  leafs_none h = absurd (omega arith)

  pub leafs_are : (i o : ℕ) → x.live ≡ 2 → (x.top ≡ 0 → ⊥) → o ≡ get_or op (x.top - 1) 0 → o ≡ 9 → Tested op x.top i → Last op to i → Leafs op to x i
  leafs_are i o l t d e a b = record { live = l; some = t; cons = sym d ∙ e; tested = a; last = b }

module _ (op to arg slots : List ℕ) (x : State) (h : Looks op to arg slots x) where
  pub looks_ends : Ends op to
  looks_ends = h.ends

  module _ (l : x.live ≡ 2) (t : x.top ≡ 0 → ⊥) where
    pub frame_slotted : Slotted arg slots (x.top - 1)
    frame_slotted = h.frame l t

    pub frame_place : x.top - 1 < entries
    frame_place = (h.frame l t).place

    pub frame_after : (o : ℕ) → o ≡ get_or op (x.top - 1) 0 → o ≡ 9 → x.top < entries
    frame_after o d e = let n = after_cons op to (x.top - 1) o h.ends frame_place d e in omega (arith, n, t)

pub tested_place : (op : List ℕ) (top i : ℕ) → (0 < i → Tested op top i) → (i ≡ 0 → ⊥) → i < entries
tested_place op top i f n = (f (omega (arith, n))).place

pub ruleset frame_rules = (leafs_none, looks_ends, frame_slotted, frame_place, frame_after, rules)
