-- What keeps a run valid and what is the same for a state taken up and a choice taken: cases, places and marks, frames.
use Prim.Native.Nat.{ℕ, ◌+◌, ◌-◌, ◌^◌, ◌≤◌, ◌<◌}
use native.Mathlib.Omega.{arith}
use lib.Pow.{pow_pos}
use mathlib.Core.Path.{◌≡◌, refl}
use mathlib.Core.Bool.{Bool, true, false}
use mathlib.Core.List.{List}
use lib.ListN.{get_or, set}
use lib.Seq.{get_or-set_same, get_or-set_other}
use lib.Dec.{eqb}
use lib.Count.{count_trailing_zeros}
use lib.IntN.{ℤ}
use borrow.Author.Tests.{eqb-true, eqb-false}
use Rattle.words.proofs.marks.Places.{low_digit, digit_le}
use Rattle.words.specs.Words.{entries}
use Rattle.value_places.specs.Places.{Tag, marks_at}
use Rattle.value_places.specs.Held.{Held, whole_at}
use Rattle.search_atom.specs.Leaves.{when, now_left}
use Rattle.tables.specs.Slot.{Tables}
use Rattle.search_choice.specs.Choices.{Frame}
use Rattle.search.specs.Valid.{Long}

-- ---- By cases.

pub when_if : {A : Type 0} (P : A → Type 0) (b : Bool) (x y : A) → (b ≡ true → P x) → (b ≡ false → P y) → P (when b x y)
unfolding when
when_if P true x y p q = p refl
when_if P false x y p q = q refl

pub by_place : (P : Type 0) (i j : ℕ) → (j ≡ i → P) → ((j ≡ i → ⊥) → P) → P
by_place P i j f g = go (eqb j i) (eqb-true j i) (eqb-false j i)
  where
    go : (b : Bool) → (b ≡ true → j ≡ i) → (b ≡ false → j ≡ i → ⊥) → P
    go true t u = f (t refl)
    go false t u = g (u refl)

-- ---- Places and marks.

-- The line after one that is no end.
pub next_place_lem : (op : List ℕ) (pc : ℕ) → get_or op (entries - 1) 0 ≡ 0 → pc < entries → (get_or op pc 0 ≡ 0 → ⊥) → pc + 1 < entries
next_place_lem op pc e h n = by_place _ (entries - 1) pc (λ z. absurd (n (rw z e))) (λ z. omega arith)

pub held_less : {s : List ℤ} {at m : ℕ} (c : ℕ) → Held s at m → c ≤ m → Held s at c
held_less c h l = record { tag = h.tag; marks = (let k = h.marks in omega arith) }

pub held_whole : {s : List ℤ} (at : ℕ) → Tag s at → Held s at (whole_at s at)
unfolding whole_at
held_whole {s} at w = record { tag = w; marks = let p = pow_pos (marks_at s at) in omega arith }

pub low_le : (m : ℕ) → 0 < m → m < 2 ^ 64 → 2 ^ count_trailing_zeros 64 m ≤ m
low_le m h l = digit_le (count_trailing_zeros 64 m) m (low_digit 64 m h l)

-- ---- Frames.

-- The frame of an or or a not asks nothing of its slot.
pub frame_beyond : (o : ℕ) (s : List ℤ) (j at m c : ℕ) → j < entries → 14 < o → o < 17 → Frame o s j at m c
frame_beyond o s j at m c p h k = record {
  place = p;
  splits = omega arith;
  chooses = k;
  whole = λ z. h;
  held = λ z. absurd (omega arith);
  within = λ z. absurd (omega arith);
  some = λ z. absurd (omega arith);
  there = λ z. absurd (omega arith);
}

-- A slot written keeps every frame a frame.
module _ (op : List ℕ) (s : List ℤ) (t : Tables) (l : Long t) (i : ℕ) (h : i < entries) where
  pub frame_waits : 13 < get_or op i 0 → (at j : ℕ) → Frame (get_or op j 0) s j (get_or t.ats j 0) (get_or t.wholes j 0) (get_or t.lefts j 0)
      → Frame (get_or op j 0) s j (get_or (set t.ats i at) j 0) (get_or t.wholes j 0) (get_or t.lefts j 0)
  frame_waits k at j old = by_place _ i j
      (λ e. let p : 13 < get_or op j 0 = rw e k in frame_beyond (get_or op j 0) s j _ _ _ old.place (old.whole (omega arith)) old.chooses)
      (λ n. rw (get_or-set_other t.ats i j at 0 n) old)

  pub frame_pushed : (at m c j : ℕ) → Frame (get_or op i 0) s i at m c
      → Frame (get_or op j 0) s j (get_or t.ats j 0) (get_or t.wholes j 0) (get_or t.lefts j 0)
      → Frame (get_or op j 0) s j (get_or (set t.ats i at) j 0) (get_or (set t.wholes i m) j 0) (get_or (set t.lefts i c) j 0)
  frame_pushed at m c j new old = by_place _ i j
      (λ e. rw (e, get_or-set_same t.ats i at 0 (omega (arith, l.ats)), get_or-set_same t.wholes i m 0 (omega (arith, l.wholes)), get_or-set_same t.lefts i c 0 (omega (arith, l.lefts))) new)
      (λ n. rw (get_or-set_other t.ats i j at 0 n, get_or-set_other t.wholes i j m 0 n, get_or-set_other t.lefts i j c 0 n) old)

  pub frame_left : (more j : ℕ) → ((more ≡ 0 → ⊥) → Frame (get_or op i 0) s i (get_or t.ats i 0) (get_or t.wholes i 0) more)
      → Frame (get_or op j 0) s j (get_or t.ats j 0) (get_or t.wholes j 0) (get_or t.lefts j 0)
      → Frame (get_or op j 0) s j (get_or t.ats j 0) (get_or t.wholes j 0) (get_or (now_left more i t.lefts) j 0)
  unfolding now_left
  frame_left more j new old = when_if (λ (k : List ℕ). Frame (get_or op j 0) s j (get_or t.ats j 0) (get_or t.wholes j 0) (get_or k j 0)) (eqb more 0) t.lefts (set t.lefts i more)
      (λ z. old)
      (λ z. by_place _ i j
      (λ e. rw (e, get_or-set_same t.lefts i more 0 (omega (arith, l.lefts))) (new (eqb-false more 0 z)))
      (λ n. rw (get_or-set_other t.lefts i j more 0 n) old))
