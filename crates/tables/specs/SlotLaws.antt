-- Laws of the slots: what is read from a section by lines is what stands in the list, and a number that is put for a line leaves the other lines and
-- the other sections.
use Prim.Native.Nat.{ℕ, zero, suc, ◌+◌, ◌*◌, ◌<◌, ◌≤◌}
use native.Mathlib.Omega.{arith}
use Rattle.std.specs.Prelude.{◌≡◌, refl, length, take, drop, replicate}
use Rattle.std.proofs.Math.Path.{sym, ap}
use Rattle.std.proofs.Common.{ap₂, ◌∙◌, length-drop, get_or-set_same}
use mathlib.Core.List.{List, [], ◌∷◌}
use Rattle.std.proofs.Math.ListN.{get_or, set, length-set}
use Rattle.std.proofs.lemmas.List.{length-replicate}
use Rattle.std.proofs.Math.Seq.{get_or-set_other}
use Rattle.words.specs.Words.{entries}
use Rattle.tables.specs.declared.slot.Held.{Held}
use Rattle.tables.specs.declared.slot.Frame.{Frame}
use Rattle.tables.specs.Section.{section, section_at, section_put, section_after, section_before, section_long, section_zeros}
use Rattle.tables.specs.Slot.{slot_count, tables, listed, by_line, view_of, no_slots, Slotted, Alone, held_in, frame_in, put_held, put_frame, put_side, put_left, put_back}

-- ---- A list by its entries.

pub length_listed : (n : ℕ) (f : ℕ → ℕ) → length (listed n f) ≡ n
unfolding listed
length_listed zero f = refl
length_listed (suc n) f = ap suc (length_listed n (λ j. f (suc j)))

pub listed_at : (n : ℕ) (f : ℕ → ℕ) (j : ℕ) → j < n → get_or (listed n f) j 0 ≡ f j
unfolding listed
listed_at zero f j h = absurd (omega arith)
listed_at (suc n) f zero h = refl
listed_at (suc n) f (suc j) h = listed_at n (λ i. f (suc i)) j (omega arith)

listed_same : (n : ℕ) (f g : ℕ → ℕ) → ((j : ℕ) → f j ≡ g j) → listed n f ≡ listed n g
unfolding listed
listed_same zero f g h = refl
listed_same (suc n) f g h = ap₂ (λ x l. x ∷ l) (h 0) (listed_same n (λ j. f (suc j)) (λ j. g (suc j)) (λ j. h (suc j)))

-- One entry changed.
listed_put : (n : ℕ) (f g : ℕ → ℕ) (i v : ℕ) → g i ≡ v → ((j : ℕ) → (j ≡ i → ⊥) → g j ≡ f j) → listed n g ≡ set (listed n f) i v
unfolding listed
listed_put zero f g i v e h = refl
listed_put (suc n) f g zero v e h =
    ap₂ (λ x l. x ∷ l) e (listed_same n (λ j. g (suc j)) (λ j. f (suc j)) (λ j. h (suc j) (λ z. absurd (omega arith))))
listed_put (suc n) f g (suc i) v e h =
    ap₂ (λ x l. x ∷ l) (h 0 (λ z. absurd (omega arith))) (listed_put n (λ j. f (suc j)) (λ j. g (suc j)) i v e (λ j z. h (suc j) (λ y. z (omega arith))))

-- ---- The list has all of its numbers.

take_short : {A : Type 0} (n : ℕ) (l : List A) → length (take n l) ≤ length l
take_short zero l = omega arith
take_short (suc n) [] = omega arith
take_short (suc n) (x ∷ l) = let h = take_short n l in omega arith

pub long_list : (arg t : List ℕ) → length (view_of arg t).backs ≡ entries → 5 * slot_count ≤ length t
unfolding view_of by_line section
long_list arg t h =
    let a = length_listed (length (section slot_count 4 t) + 378) (λ j. get_or (section slot_count 4 t) (get_or arg j 0) 0) in
    let b = take_short slot_count (drop (4 * slot_count) t) in
    let d = length-drop (4 * slot_count) t in
    omega arith

long_section : (c : ℕ) (t : List ℕ) → c ≤ 4 → 5 * slot_count ≤ length t → length (section slot_count c t) ≡ slot_count
long_section c t h l = section_long slot_count c t (omega arith)

pub long_line : (c : ℕ) (arg t : List ℕ) → c ≤ 4 → 5 * slot_count ≤ length t → length (by_line arg (section slot_count c t)) ≡ entries
unfolding by_line
long_line c arg t h l =
    let a = length_listed (length (section slot_count c t) + 378) (λ j. get_or (section slot_count c t) (get_or arg j 0) 0) in
    let b = long_section c t h l in
    omega arith

-- ---- A section by lines.

module _ (arg t : List ℕ) (pc : ℕ) (p : pc < entries) (q : get_or arg pc 0 < slot_count) (l : 5 * slot_count ≤ length t) where
  pub line_at : (c : ℕ) → c ≤ 4 → get_or t (c * slot_count + get_or arg pc 0) 0 ≡ get_or (by_line arg (section slot_count c t)) pc 0
  unfolding by_line
  line_at c h =
      let b = long_section c t h l in
      sym (listed_at (length (section slot_count c t) + 378) (λ j. get_or (section slot_count c t) (get_or arg j 0) 0) pc (omega arith) ∙ section_at slot_count c t (get_or arg pc 0) q)

  module _ (a : Alone arg pc) (v : ℕ) where
    pub line_put : (c : ℕ) → c ≤ 4 → by_line arg (section slot_count c (set t (c * slot_count + get_or arg pc 0) v)) ≡ set (by_line arg (section slot_count c t)) pc v
    unfolding by_line
    line_put c h =
        let b = long_section c t h l in
        let n = length-set (section slot_count c t) (get_or arg pc 0) v in
        rw (section_put slot_count c t (get_or arg pc 0) v q, n)
        (listed_put (length (section slot_count c t) + 378) (λ j. get_or (section slot_count c t) (get_or arg j 0) 0) (λ j. get_or (set (section slot_count c t) (get_or arg pc 0) v) (get_or arg j 0) 0) pc v
        (get_or-set_same (section slot_count c t) (get_or arg pc 0) v 0 (omega arith))
        (λ j z. get_or-set_other (section slot_count c t) (get_or arg pc 0) (get_or arg j 0) v 0 (λ y. z (a.only j y))))

-- ---- A number put for a line, by section.

module _ (arg t : List ℕ) (pc v : ℕ) (p : pc < entries) (q : get_or arg pc 0 < slot_count) (l : 5 * slot_count ≤ length t) (a : Alone arg pc) where
  abbrev j : ℕ
  j = get_or arg pc 0

  pub put_at_lem : view_of arg (set t (get_or arg pc 0) v) ≡ tables (set (view_of arg t).ats pc v) (view_of arg t).wholes (view_of arg t).lefts (view_of arg t).lows (view_of arg t).backs
  unfolding view_of
  put_at_lem =
      let e : 0 + j ≡ j = omega arith in
      let f : by_line arg (section slot_count 0 (set t j v)) ≡ set (by_line arg (section slot_count 0 t)) pc v = rw e at (line_put arg t pc p q l a v 0 (omega arith)) in
      rw (f, section_after slot_count 1 t j v (omega arith), section_after slot_count 2 t j v (omega arith), section_after slot_count 3 t j v (omega arith), section_after slot_count 4 t j v (omega arith))

  pub put_whole : view_of arg (set t (slot_count + get_or arg pc 0) v) ≡ tables (view_of arg t).ats (set (view_of arg t).wholes pc v) (view_of arg t).lefts (view_of arg t).lows (view_of arg t).backs
  unfolding view_of
  put_whole = rw (section_before slot_count 0 t (slot_count + j) v (omega arith), line_put arg t pc p q l a v 1 (omega arith), section_after slot_count 2 t (slot_count + j) v (omega arith), section_after slot_count 3 t (slot_count + j) v (omega arith), section_after slot_count 4 t (slot_count + j) v (omega arith))

  pub put_left_lem : view_of arg (set t (2 * slot_count + get_or arg pc 0) v) ≡ put_left pc v (view_of arg t)
  unfolding view_of put_left
  put_left_lem = rw (section_before slot_count 0 t (2 * slot_count + j) v (omega arith), section_before slot_count 1 t (2 * slot_count + j) v (omega arith), line_put arg t pc p q l a v 2 (omega arith), section_after slot_count 3 t (2 * slot_count + j) v (omega arith), section_after slot_count 4 t (2 * slot_count + j) v (omega arith))

  pub put_low : view_of arg (set t (3 * slot_count + get_or arg pc 0) v) ≡ tables (view_of arg t).ats (view_of arg t).wholes (view_of arg t).lefts (set (view_of arg t).lows pc v) (view_of arg t).backs
  unfolding view_of
  put_low = rw (section_before slot_count 0 t (3 * slot_count + j) v (omega arith), section_before slot_count 1 t (3 * slot_count + j) v (omega arith), section_before slot_count 2 t (3 * slot_count + j) v (omega arith), line_put arg t pc p q l a v 3 (omega arith), section_after slot_count 4 t (3 * slot_count + j) v (omega arith))

  pub put_back_lem : view_of arg (set t (4 * slot_count + get_or arg pc 0) v) ≡ put_back pc v (view_of arg t)
  unfolding view_of put_back
  put_back_lem = rw (section_before slot_count 0 t (4 * slot_count + j) v (omega arith), section_before slot_count 1 t (4 * slot_count + j) v (omega arith), section_before slot_count 2 t (4 * slot_count + j) v (omega arith), section_before slot_count 3 t (4 * slot_count + j) v (omega arith), line_put arg t pc p q l a v 4 (omega arith))

-- ---- As the leaves read and write.

module _ (arg t : List ℕ) (pc : ℕ) (s : Slotted arg t pc) where
  full : 5 * slot_count ≤ length t
  full = long_list arg t s.long

  module _ (j : ℕ) (e : j ≡ get_or arg pc 0) where
    pub at_is : get_or t j 0 ≡ get_or (view_of arg t).ats pc 0
    unfolding view_of
    at_is = let z : 0 + get_or arg pc 0 ≡ get_or arg pc 0 = omega arith in rw e (rw z at (line_at arg t pc s.place s.slot full 0 (omega arith)))

    pub whole_is : get_or t (slot_count + j) 0 ≡ get_or (view_of arg t).wholes pc 0
    unfolding view_of
    whole_is = rw e (line_at arg t pc s.place s.slot full 1 (omega arith))

    pub left_is : get_or t (2 * slot_count + j) 0 ≡ get_or (view_of arg t).lefts pc 0
    unfolding view_of
    left_is = rw e (line_at arg t pc s.place s.slot full 2 (omega arith))

    pub low_is : get_or t (3 * slot_count + j) 0 ≡ get_or (view_of arg t).lows pc 0
    unfolding view_of
    low_is = rw e (line_at arg t pc s.place s.slot full 3 (omega arith))

    pub back_is : get_or t (4 * slot_count + j) 0 ≡ get_or (view_of arg t).backs pc 0
    unfolding view_of
    back_is = rw e (line_at arg t pc s.place s.slot full 4 (omega arith))

    pub held_is : record { at = get_or t j 0; marks = get_or t (4 * slot_count + j) 0 } ≡ held_in (view_of arg t) pc
    unfolding held_in
    held_is = rw (at_is, back_is)

    pub frame_is : record { at = get_or t j 0; whole = get_or t (slot_count + j) 0; left = get_or t (2 * slot_count + j) 0 } ≡ frame_in (view_of arg t) pc
    unfolding frame_in
    frame_is = rw (at_is, whole_is, left_is)

    module _ (a : Alone arg pc) where
      pub left_put : (v : ℕ) → view_of arg (set t (2 * slot_count + j) v) ≡ put_left pc v (view_of arg t)
      left_put v = rw e (put_left_lem arg t pc v s.place s.slot full a)

      pub back_put : (v : ℕ) → view_of arg (set t (4 * slot_count + j) v) ≡ put_back pc v (view_of arg t)
      back_put v = rw e (put_back_lem arg t pc v s.place s.slot full a)

      pub held_put : (h : Held) → view_of arg (set (set t j h.at) (4 * slot_count + j) h.marks) ≡ put_held pc h (view_of arg t)
      unfolding put_held put_back
      held_put h =
          let n = length-set t (get_or arg pc 0) h.at in
          let f = full in
          rw e (put_back_lem arg (set t (get_or arg pc 0) h.at) pc h.marks s.place s.slot (omega arith) a
          ∙ ap (put_back pc h.marks) (put_at_lem arg t pc h.at s.place s.slot full a))

      pub side_put : (h : Held) (n : ℕ) → view_of arg (set (set (set t j h.at) (3 * slot_count + j) n) (4 * slot_count + j) h.marks) ≡ put_side pc h n (view_of arg t)
      unfolding put_side put_back
      side_put h n =
          let t1 : List ℕ = set t (get_or arg pc 0) h.at in
          let n1 = length-set t (get_or arg pc 0) h.at in
          let n2 = length-set (set t (get_or arg pc 0) h.at) (3 * slot_count + get_or arg pc 0) n in
          let f = full in
          rw e (put_back_lem arg (set (set t (get_or arg pc 0) h.at) (3 * slot_count + get_or arg pc 0) n) pc h.marks s.place s.slot (omega arith) a
          ∙ ap (put_back pc h.marks) (put_low arg (set t (get_or arg pc 0) h.at) pc n s.place s.slot (omega arith) a
          ∙ ap (λ u. tables u.ats u.wholes u.lefts (set u.lows pc n) u.backs) (put_at_lem arg t pc h.at s.place s.slot full a)))

      pub frame_put : (h : Frame) (n : ℕ)
          → view_of arg (set (set (set (set t j h.at) (slot_count + j) h.whole) (2 * slot_count + j) h.left) (3 * slot_count + j) n) ≡ put_frame pc h n (view_of arg t)
      unfolding put_frame put_left
      frame_put h n =
          let n1 = length-set t (get_or arg pc 0) h.at in
          let n2 = length-set (set t (get_or arg pc 0) h.at) (slot_count + get_or arg pc 0) h.whole in
          let n3 = length-set (set (set t (get_or arg pc 0) h.at) (slot_count + get_or arg pc 0) h.whole) (2 * slot_count + get_or arg pc 0) h.left in
          let f = full in
          rw e (put_low arg (set (set (set t (get_or arg pc 0) h.at) (slot_count + get_or arg pc 0) h.whole) (2 * slot_count + get_or arg pc 0) h.left) pc n s.place s.slot (omega arith) a
          ∙ ap (λ u. tables u.ats u.wholes u.lefts (set u.lows pc n) u.backs)
          (put_left_lem arg (set (set t (get_or arg pc 0) h.at) (slot_count + get_or arg pc 0) h.whole) pc h.left s.place s.slot (omega arith) a
          ∙ ap (put_left pc h.left) (put_whole arg (set t (get_or arg pc 0) h.at) pc h.whole s.place s.slot (omega arith) a
          ∙ ap (λ u. tables u.ats (set u.wholes pc h.whole) u.lefts u.lows u.backs) (put_at_lem arg t pc h.at s.place s.slot full a))))

-- ---- Before the first step: zeros for every line.

zeros_at : (n i : ℕ) → ◌≡◌ {A = ℕ} (get_or (replicate n 0) i 0) 0
zeros_at zero i = refl
zeros_at (suc n) zero = refl
zeros_at (suc n) (suc i) = zeros_at n i

listed_zeros : (n : ℕ) (f : ℕ → ℕ) → ((j : ℕ) → f j ≡ 0) → listed n f ≡ replicate n 0
unfolding listed
listed_zeros zero f h = refl
listed_zeros (suc n) f h = ap₂ (λ x l. x ∷ l) (h 0) (listed_zeros n (λ j. f (suc j)) (λ j. h (suc j)))

by_zeros : (arg : List ℕ) (n : ℕ) → by_line arg (replicate n 0) ≡ replicate (n + 378) 0
unfolding by_line
by_zeros arg n = rw (length-replicate {A = ℕ} n 0) (listed_zeros (n + 378) (λ j. get_or (replicate n 0) (get_or arg j 0) 0) (λ j. zeros_at n (get_or arg j 0)))

zeros : (n : ℕ) (arg : List ℕ) → n ≡ 5 * slot_count
    → view_of arg (replicate n 0) ≡ tables (replicate entries 0) (replicate entries 0) (replicate entries 0) (replicate entries 0) (replicate entries 0)
unfolding view_of
zeros n arg e =
    rw (
      section_zeros slot_count 0 n (4 * slot_count) (omega arith),
      section_zeros slot_count 1 n (3 * slot_count) (omega arith),
      section_zeros slot_count 2 n (2 * slot_count) (omega arith),
      section_zeros slot_count 3 n slot_count (omega arith),
      section_zeros slot_count 4 n 0 (omega arith),
      by_zeros arg slot_count,
    )

pub no_slots_lem : (arg : List ℕ) → view_of arg no_slots
    ≡ tables (replicate entries 0) (replicate entries 0) (replicate entries 0) (replicate entries 0) (replicate entries 0)
no_slots_lem arg = zeros (5 * slot_count) arg refl
