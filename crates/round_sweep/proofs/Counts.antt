-- The count of an open frame's choices, as the code asks for it.
use Prim.Native.Nat.{ℕ, ◌+◌, ◌-◌, ◌^◌, ◌≤◌, ◌<◌}
use native.Mathlib.Omega.{arith}
use borrow.Author.Rules.{rules}
use borrow.Author.Tests.{ne_eqb}
use mathlib.Core.Path.{◌≡◌, refl, sym, ap, ◌∙◌}
use mathlib.Core.List.{List}
use lib.ListN.{get_or}
use lib.Count.{ones, ones-le}
use lib.Dec.{eqb}
use Rattle.words.specs.Words.{entries}
use Rattle.tables.specs.Slot.{Tables, view_of, Slotted, frame_in}
use Rattle.tables.specs.declared.slot.Frame.{Frame}
use Rattle.search_atom.specs.Leaves.{when}
use Rattle.round_states.specs.Counts.{choices_by, choices_in}
use Rattle.round_sweep.specs.Frames.{Framing}

module _ (op : List ℕ) (top : ℕ) (t : Tables) where
  pub count_none : top ≡ 0 → 0 ≡ choices_in op top t
  unfolding choices_in when
  count_none h = rw h

  module _ (n : top ≡ 0 → ⊥) (o : ℕ) (is : o ≡ get_or op (top - 1) 0) where
    pub count_or : o ≡ 15 → 1 ≡ choices_in op top t
    unfolding choices_in choices_by when
    count_or h = rw (ne_eqb top 0 n, sym is, h)

    module _ (f : Frame) (q : f ≡ frame_in t (top - 1)) (k j : ℕ) (r : j ≡ k) where
      pub count_join : o ≡ 10 → k ≡ ones (f.whole - f.left) → j + 1 ≡ choices_in op top t
      unfolding choices_in choices_by when frame_in
      count_join h p = rw (ne_eqb top 0 n, sym is, h) (ap (λ i. i + 1) (r ∙ p ∙ ap (λ (g : Frame). ones (g.whole - g.left)) q))

      pub count_cons : (o ≡ 15 → ⊥) → (o ≡ 10 → ⊥) → k ≡ ones f.left → j ≡ choices_in op top t
      unfolding choices_in choices_by when frame_in
      count_cons a b p = rw (ne_eqb top 0 n, sym is, ne_eqb o 15 a, ne_eqb o 10 b) (r ∙ p ∙ ap (λ (g : Frame). ones g.left) q)

pub count_few : (m k j : ℕ) → m < 2 ^ 64 → k ≡ ones m → j ≡ k → j ≤ 64
count_few m k j h p q = let a = ones-le 64 m h in omega arith

module _ {op arg slots : List ℕ} {top : ℕ} (F : Framing op arg slots top) (n : top ≡ 0 → ⊥) where
  pub frame_place : top - 1 < entries
  frame_place = (F.slotted n).place

  pub frame_within : (o : ℕ) → o ≡ get_or op (top - 1) 0 → o ≡ 10 → (f : Frame) → f ≡ frame_in (view_of arg slots) (top - 1) → f.left ≤ f.whole
  unfolding frame_in
  frame_within o p h f q = rw q (F.within n (sym p ∙ h))
