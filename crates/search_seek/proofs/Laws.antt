-- The laws that the choices passed over ask for. Assumes nothing.
use mathlib.Core.Path.{◌≡◌, sym, ap, subst, ◌∙◌}
use mathlib.Core.Bool.{Bool, false}
use mathlib.Core.List.{List}
use Prim.Native.Nat.{ℕ, ◌+◌, ◌-◌, ◌^◌, ◌<◌, ◌≤◌}
use native.Mathlib.Omega.{arith}
use borrow.Author.Rules.{rules}
use lib.ListN.{length, get_or}
use lib.Count.{count_trailing_zeros}
use lib.IntN.{ℤ, pos}
use mir.Syntax.{w64}
use mir.Val.{Fits}
use Rattle.words.specs.Marks.{clear}
use Rattle.words.proofs.marks.Places.{clear_le}
use Rattle.value_places.specs.Places.{Target, element_at}
use Rattle.value_places.specs.Held.{Held}
use Rattle.value_places.proofs.Elements.{second}
use Rattle.value_places.proofs.Held.{held_tag, held_clear, next_in, next_less, next_tag}
use Rattle.value_equality.specs.Equality.{is_sum}
use Rattle.tables.specs.declared.slot.Frame.{Frame}
use Rattle.tables.specs.Slot.{Tables, frame_in, put_left}
use Rattle.search_seek.specs.Passed.{later, is_lowest, Passed, stays, over, Over}

-- ---- One choice.

pub passed_over : (s : List ℤ) (at g : ℕ) (z : ℤ) (first begun left steps more k e : ℕ) (found : Bool) → Passed s at g z first begun left steps
    → more ≡ clear (count_trailing_zeros 64 left) left → 0 < more → k ≡ count_trailing_zeros 64 left → e ≡ element_at s at k → found ≡ is_sum s g z e → found ≡ false
    → Passed s at g z first begun more (steps + 1)
unfolding later is_lowest
passed_over s at g z first begun left steps more k e found p m h i j f n =
    rw m (over left steps p (rw m at h) (ap (λ (y : ℕ). is_sum s g z y) (ap (element_at s at) (sym i) ∙ sym j) ∙ sym f ∙ n))

pub passed_by_lem : {s : List ℤ} {at g first begun left steps : ℕ} {z z' : ℤ} → z ≡ z' → Passed s at g z first begun left steps → Passed s at g z' first begun left steps
passed_by_lem {s} {at} {g} {first} {begun} {left} {steps} e p = subst (λ (y : ℤ). Passed s at g y first begun left steps) e p

-- What is left is some of what there was, and not nothing.
pub passed_some : (s : List ℤ) (at g : ℕ) (z : ℤ) (first begun left steps : ℕ) → Passed s at g z first begun left steps → 0 < first → 0 < left
passed_some s at g z first begun left steps stays h = h
passed_some s at g z first begun left steps (over l n p m f) h = m

pub passed_le : (s : List ℤ) (at g : ℕ) (z : ℤ) (first begun left steps : ℕ) → Passed s at g z first begun left steps → left ≤ first
unfolding later
passed_le s at g z first begun left steps stays = omega arith
passed_le s at g z first begun left steps (over l n p m f) = let h = passed_le s at g z first begun l n p in let k = clear_le (count_trailing_zeros 64 l) l in omega arith

pub next_word : (s : List ℤ) (at m k e : ℕ) → Target s → Held s at m → k ≡ count_trailing_zeros 64 m → 0 < m → e ≡ element_at s at k → e + 1 < length s
next_word s at m k e g w d h i = second s e g (next_tag s at m k g w d h e i)

pub one_more : (n m : ℕ) → n < m → n + 1 ≤ m
one_more n m h = omega arith

pub one_fits : (n m : ℕ) → n < m → m < 2 ^ 64 → Fits w64 (n + 1)
one_fits n m h l = record { fits = omega arith }

pub ruleset seek_rules = (passed_over, next_word, one_more, one_fits, held_tag, held_clear, next_in, next_less, rules)

-- ---- The frame before line `top`.

module _ (s : List ℤ) (top : ℕ) (t : Tables) (f : Frame) (i : f ≡ frame_in t (top - 1)) where
  pub frame_held : Held s (get_or t.ats (top - 1) 0) (get_or t.lefts (top - 1) 0) → Held s f.at f.left
  unfolding frame_in
  frame_held h = rw i h

  pub frame_some : 0 < get_or t.lefts (top - 1) 0 → 0 < f.left
  unfolding frame_in
  frame_some h = rw i h

  pub over_is : (con : List ℤ) (g budget begun left steps : ℕ) (z : ℤ) (u : Tables) → z ≡ get_or con top (pos 0) → Passed s f.at g z f.left begun left steps → steps ≤ budget
      → u ≡ put_left (top - 1) left t → Over s con g budget top begun t steps u
  unfolding frame_in
  over_is con g budget begun left steps z u d p b w = record { left = left; passed = rw (i, d) at p; within = b; tables = w }
