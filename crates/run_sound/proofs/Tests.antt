-- The tests of held values and open choices, each answer as the code asks for it. Assumes nothing.
use Prim.Native.Nat.{ℕ, zero, suc, ◌+◌, ◌%◌, ◌^◌, ◌≤◌, ◌<◌}
use native.Mathlib.Omega.{arith}
use lib.Pow.{pow_mono}
use mathlib.Core.Path.{◌≡◌, refl, sym, ap, ◌∙◌}
use mathlib.Core.Bool.{Bool, true, false, not}
use mathlib.Core.List.{List}
use lib.ListN.{length, get_or}
use lib.Dec.{eqb, leb, ltb}
use lib.IntN.{ℤ}
use borrow.Author.Rules.{rules}
use borrow.Author.Tests.{ltb-true, lt-ltb, leb-true, le-leb, eqb-true, eqb-false}
use Rattle.words.specs.Words.{tag_at, entries}
use Rattle.value_places.specs.Places.{Tag, marks_by, marks_at}
use Rattle.value_places.specs.Held.{Held}
use Rattle.value_rows.specs.Row.{nothing, Bound}
use Rattle.value_rows.specs.declared.Binding.{Binding}
use Rattle.search_choice.specs.Choices.{Frame}
use Rattle.run_sound.specs.Tested.{Decides}

-- ---- Tests as such.

clash : false ≡ true → ⊥
clash h = let z : ◌≡◌ {A = ℕ} 0 1 = cc in absurd (omega arith)

pub refuted : (t : Bool) → not t ≡ true → t ≡ true → ⊥
refuted true h e = let z : ◌≡◌ {A = ℕ} 0 1 = cc in absurd (omega arith)
refuted false h e = clash e

pub upheld : (t : Bool) → not t ≡ false → t ≡ true
upheld true h = refl
upheld false h = let z : ◌≡◌ {A = ℕ} 0 1 = cc in absurd (omega arith)

pub never : {P : Type 0} → (P → ⊥) → Decides false P
never h = record { sound = λ e. absurd (clash e); whole = λ p. absurd (h p) }

pub always : {P : Type 0} → P → Decides true P
always p = record { sound = λ e. p; whole = λ q. refl }

-- A test of another fact that holds together with this one.
pub alike : {P Q : Type 0} {r : Bool} → Decides r P → (P → Q) → (Q → P) → Decides r Q
alike d f g = record { sound = λ e. f (d.sound e); whole = λ q. d.whole (g q) }

less : (a b : ℕ) → Decides (ltb a b) (a < b)
less a b = record { sound = λ e. ltb-true a b e; whole = λ h. lt-ltb a b h }

most : (a b : ℕ) → Decides (leb a b) (a ≤ b)
most a b = record { sound = λ e. leb-true a b e; whole = λ h. le-leb a b h }

-- ---- Marks.

pub within_few : (m n x : ℕ) → x ≡ 2 ^ n → Decides (ltb m x) (m < 2 ^ n)
within_few m n x e = rw e (less m (2 ^ n))

pub within_all : (m n : ℕ) → m < 2 ^ 64 → 64 ≤ n → Decides true (m < 2 ^ n)
within_all m n h l = let p : 2 ^ 64 ≤ 2 ^ n = pow_mono l in always (omega arith)

pub marks_some : (s : List ℤ) (at t n : ℕ) → t ≡ tag_at s at → t ≡ 1 → n ≡ tag_at s (at + 1) → n ≡ marks_at s at
unfolding marks_at
marks_some s at t n e z h = rw (sym e ∙ z) h

pub marks_none : (s : List ℤ) (at t : ℕ) → t ≡ tag_at s at → (t ≡ 1 → ⊥) → 0 ≡ marks_at s at
unfolding marks_at
marks_none s at t e z = rw (← e) (go t z)
  where
    go : (k : ℕ) → (k ≡ 1 → ⊥) → ◌≡◌ {A = ℕ} 0 (marks_by k (tag_at s (at + 1)))
    go zero z = refl
    go (suc zero) z = absurd (z refl)
    go (suc (suc k)) z = refl

pub ruleset mark_rules = (within_few, within_all, marks_some, marks_none, rules)

-- ---- Held values.

module _ (s : List ℤ) (at m : ℕ) where
  pub held_out : length s ≤ at → Decides false (Held s at m)
  held_out h = never (λ w. let i = w.tag.inside in omega arith)

  pub held_odd : (at % 2 ≡ 0 → ⊥) → Decides false (Held s at m)
  held_odd h = never (λ w. h w.tag.even)

  pub held_then : (n : ℕ) (r : Bool) → at < length s → at % 2 ≡ 0 → n ≡ marks_at s at → Decides r (m < 2 ^ n) → Decides r (Held s at m)
  held_then n r h e k d = alike d
      (λ l. record { tag = record { even = e; inside = h }; marks = rw (← k) l })
      (λ w. rw k w.marks)

pub ruleset held_rules = (held_out, held_odd, held_then, rules)

-- ---- Bindings: each before v is held.

pub record BoundTo (s : List ℤ) (b : List Binding) (v : ℕ) : Type 0 where
  pub are : (i : ℕ) → i < v → Held s (get_or b i nothing).at (get_or b i nothing).marks

pub bound_first : (s : List ℤ) (b : List Binding) → BoundTo s b 0
bound_first s b = record { are = λ i h. absurd (omega arith) }

pub bound_not : (s : List ℤ) (b : List Binding) (v : ℕ) (x : Binding) (r : Bool) → v < 16 → x ≡ get_or b v nothing → Decides r (Held s x.at x.marks) → not r ≡ true → Decides false (Bound s b 16)
bound_not s b v x r h e d n = never (λ w. refuted r n (d.whole (rw e (w.are v h))))

pub bound_next : (s : List ℤ) (b : List Binding) (v : ℕ) (x : Binding) (r : Bool) → v < 16 → x ≡ get_or b v nothing → Decides r (Held s x.at x.marks) → not r ≡ false → BoundTo s b v → BoundTo s b (v + 1)
bound_next s b v x r h e d n t = record { are = λ i l. go i l (eqb i v) refl }
  where
    here : Held s (get_or b v nothing).at (get_or b v nothing).marks
    here = rw (← e) (d.sound (upheld r n))

    go : (i : ℕ) → i < v + 1 → (q : Bool) → eqb i v ≡ q → Held s (get_or b i nothing).at (get_or b i nothing).marks
    go i l true z = rw (eqb-true i v z) here
    go i l false z = t.are i (let y = eqb-false i v z in omega arith)

pub bound_all : (s : List ℤ) (b : List Binding) (v : ℕ) → 16 ≤ v → length b ≡ 16 → BoundTo s b v → Decides true (Bound s b 16)
bound_all s b v h l t = always (record { most = omega arith; long = l; are = λ i k. t.are i (omega arith) })

pub ruleset bound_rules = (bound_first, bound_not, bound_next, bound_all, rules)

-- ---- Open choices.

module _ (o : ℕ) (s : List ℤ) (j at m c : ℕ) where
  pub frame_out : entries ≤ j → Decides false (Frame o s j at m c)
  frame_out h = never (λ f. let p = f.place in omega arith)

  pub frame_low : o < 8 → Decides false (Frame o s j at m c)
  frame_low h = never (λ f. let p = f.splits in omega arith)

  pub frame_high : 16 < o → Decides false (Frame o s j at m c)
  frame_high h = never (λ f. let p = f.chooses in omega arith)

  module _ (p : j < entries) (l : 8 ≤ o) (u : o ≤ 16) where
    pub frame_side : 10 < o → Decides (ltb 14 o) (Frame o s j at m c)
    frame_side h = alike (less 14 o)
        (λ k. record {
          place = p;
          splits = omega arith;
          chooses = omega arith;
          whole = λ z. k;
          held = λ z. absurd (omega arith);
          within = λ z. absurd (omega arith);
          some = λ z. absurd (omega arith);
          there = λ z. absurd (omega arith);
        })
        (λ f. f.whole h)

    module _ (h : o ≤ 10) (t : Bool) (d : Decides t (Held s at m)) where
      pub frame_unheld : not t ≡ true → Decides false (Frame o s j at m c)
      frame_unheld n = never (λ f. refuted t n (d.whole (f.held (omega arith))))

      module _ (n : not t ≡ false) where
        pub frame_join : o ≡ 10 → Decides (leb c m) (Frame o s j at m c)
        frame_join e = alike (most c m)
            (λ k. record {
              place = p;
              splits = omega arith;
              chooses = omega arith;
              whole = λ z. absurd (omega arith);
              held = λ z. d.sound (upheld t n);
              within = λ z. k;
              some = λ z. absurd (omega arith);
              there = λ z. absurd (omega arith);
            })
            (λ f. f.within e)

        pub frame_none : (o ≡ 10 → ⊥) → c ≡ 0 → Decides false (Frame o s j at m c)
        frame_none e z = never (λ f. let k = f.some (omega arith) in omega arith)

        pub frame_cons : (o ≡ 10 → ⊥) → (c ≡ 0 → ⊥) → (r : Bool) → Decides r (Held s at c) → Decides r (Frame o s j at m c)
        frame_cons e z r q = alike q
            (λ w. record {
              place = p;
              splits = omega arith;
              chooses = omega arith;
              whole = λ y. absurd (omega arith);
              held = λ y. d.sound (upheld t n);
              within = λ y. absurd (e y);
              some = λ y. omega arith;
              there = λ y. w.marks;
            })
            (λ f. record { tag = (d.sound (upheld t n)).tag; marks = f.there (omega arith) })

pub ruleset frame_rules = (frame_out, frame_low, frame_high, frame_side, frame_unheld, frame_join, frame_none, frame_cons, rules)
