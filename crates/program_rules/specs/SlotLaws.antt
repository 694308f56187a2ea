-- Laws of the numbers of slots: no two lines have the same, and every line that divides has one.
use Rattle.std.specs.Prelude.{ℕ, zero, suc, ◌+◌, ◌-◌, ◌<◌, ◌≤◌, ◌≡◌, refl, Bool, true, false, cond, List, [], ◌∷◌, ◌++◌, eqb, ltb, length, get_or, set, ℤ, pos}
use Rattle.std.proofs.Common.{arith, sym, ap, ◌∙◌, ltb-true, ltb-false, lt-ltb, le-ltb, ne_eqb, length-set, get_or-set_same, get_or-set_other}
use Rattle.tables.specs.declared.line.Line.{Line}
use Rattle.program_rules.specs.Lines.{line, end_line, else_line, fi_line, cut_line, reserved_line, reserved_lines, leaf_line, Waiting, slot_of, from_by, close_line, lines_of}
use Rattle.program_rules.specs.Link.{ops_of}
use Rattle.program_rules.specs.Made.{Reserving, reserving_none, reserving, Made, made_end, made_skip, made_divided, made_leaf, made_leaf_two, after_end_lem, after_close, after_else, after_part, made}
use Rattle.program_rules.specs.Slots.{width, slotted, Own, slot_at, slots_in, over}

-- ---- How many from a line on.

pub width_low : (o left : ℕ) → o < 8 → width o left ≡ left
unfolding width
width_low o left h = rw (lt-ltb o 8 h)

pub width_high : (o left : ℕ) → 16 < o → width o left ≡ left
unfolding width
width_high o left h = rw (le-ltb o 8 (omega arith), lt-ltb 16 o h)

pub width_tuple : (o left : ℕ) → 10 < o → o < 14 → width o left ≡ o - 10
unfolding width
width_tuple o left h l = rw (le-ltb o 8 (omega arith), le-ltb 16 o (omega arith), lt-ltb 10 o h, lt-ltb o 14 l)

pub width_parts : (o left : ℕ) → 8 ≤ o → o ≤ 10 → width o left ≡ 1
unfolding width
width_parts o left h l = rw (le-ltb o 8 h, le-ltb 16 o (omega arith), le-ltb 10 o l)

pub width_sides : (o left : ℕ) → 14 ≤ o → o ≤ 16 → width o left ≡ 1
unfolding width
width_sides o left h l = rw (le-ltb o 8 (omega arith), le-ltb 16 o l, lt-ltb 10 o (omega arith), le-ltb o 14 h)

-- A line by its number: without parts, divided, a tuple's, one of a side, an end.
data Kinds (o : ℕ) : Type 0 where
  is_low : o < 8 → Kinds o
  is_parts : 8 ≤ o → o ≤ 10 → Kinds o
  is_tuple : 10 < o → o < 14 → Kinds o
  is_sides : 14 ≤ o → o ≤ 16 → Kinds o
  is_high : 16 < o → Kinds o

kinds : (o : ℕ) → Kinds o
kinds o = go (ltb o 8) refl (ltb 10 o) refl (ltb o 14) refl (ltb 16 o) refl
  where
    go : (a : Bool) → ltb o 8 ≡ a → (b : Bool) → ltb 10 o ≡ b → (c : Bool) → ltb o 14 ≡ c → (d : Bool) → ltb 16 o ≡ d → Kinds o
    go true p b q c r d s = is_low (ltb-true o 8 p)
    go false p false q c r d s = is_parts (ltb-false o 8 p) (ltb-false 10 o q)
    go false p true q true r d s = is_tuple (ltb-true 10 o q) (ltb-true o 14 r)
    go false p true q false r false s = is_sides (ltb-false o 14 r) (ltb-false 16 o s)
    go false p true q false r true s = is_high (ltb-true 16 o s)

width_some : (o left : ℕ) → 8 ≤ o → o ≤ 16 → 0 < width o left
width_some o left h l = go (kinds o)
  where
    go : Kinds o → 0 < width o left
    go (is_low k) = absurd (omega arith)
    go (is_parts k m) = let e = width_parts o left k m in omega arith
    go (is_tuple k m) = let e = width_tuple o left k m in omega arith
    go (is_sides k m) = let e = width_sides o left k m in omega arith
    go (is_high k) = absurd (omega arith)

-- Where nothing is left and the line is no tuple's of more than two parts: one at most.
width_one : (o : ℕ) → (12 ≤ o → 14 ≤ o) → width o 0 ≤ 1
width_one o h = go (kinds o)
  where
    go : Kinds o → width o 0 ≤ 1
    go (is_low k) = let e = width_low o 0 k in omega arith
    go (is_parts k m) = let e = width_parts o 0 k m in omega arith
    go (is_tuple k m) = let e = width_tuple o 0 k m in go_tuple (ltb o 12) refl e
      where
        go_tuple : (b : Bool) → ltb o 12 ≡ b → width o 0 ≡ o - 10 → width o 0 ≤ 1
        go_tuple true p e = let a = ltb-true o 12 p in omega arith
        go_tuple false p e = let a = h (ltb-false o 12 p) in absurd (omega arith)
    go (is_sides k m) = let e = width_sides o 0 k m in omega arith
    go (is_high k) = let e = width_high o 0 k in omega arith

-- ---- The number at an index, by whether the first line has a slot.

data First (o left : ℕ) : Type 0 where
  has : 0 < width o left → First o left
  has_none : width o left ≡ 0 → First o left

first : (o left : ℕ) → First o left
first o left = go (ltb 0 (width o left)) refl
  where
    go : (b : Bool) → ltb 0 (width o left) ≡ b → First o left
    go true p = has (ltb-true 0 (width o left) p)
    go false p = let a = ltb-false 0 (width o left) p in has_none (omega arith)

at_end : (next left j : ℕ) → slot_at next left [] j ≡ 0
unfolding slot_at
at_end next left j = refl

module _ (next left o : ℕ) (os : List ℕ) where
  at_here : 0 < width o left → slot_at next left (o ∷ os) 0 ≡ next
  unfolding slot_at
  at_here h = rw (lt-ltb 0 (width o left) h)

  at_later : 0 < width o left → (j : ℕ) → slot_at next left (o ∷ os) (suc j) ≡ slot_at (suc next) (width o left - 1) os j
  unfolding slot_at
  at_later h j = rw (lt-ltb 0 (width o left) h)

  none_here : width o left ≡ 0 → slot_at next left (o ∷ os) 0 ≡ 0
  unfolding slot_at
  none_here e = rw e

  none_later : width o left ≡ 0 → (j : ℕ) → slot_at next left (o ∷ os) (suc j) ≡ slot_at next 0 os j
  unfolding slot_at
  none_later e j = rw e

  count_more : 0 < width o left → slots_in left (o ∷ os) ≡ suc (slots_in (width o left - 1) os)
  unfolding slots_in
  count_more h = rw (lt-ltb 0 (width o left) h)

  count_none : width o left ≡ 0 → slots_in left (o ∷ os) ≡ slots_in 0 os
  unfolding slots_in
  count_none e = rw e

-- ---- The numbers: from `next` on, and no two the same.

pub slot_low : (next left : ℕ) (os : List ℕ) (j : ℕ) → 0 < slot_at next left os j → next ≤ slot_at next left os j
slot_low next left [] j h = let e = at_end next left j in absurd (omega arith)
slot_low next left (o ∷ os) zero h = go (first o left)
  where
    go : First o left → next ≤ slot_at next left (o ∷ os) 0
    go (has p) = let e = at_here next left o os p in omega arith
    go (has_none p) = let e = none_here next left o os p in absurd (omega arith)
slot_low next left (o ∷ os) (suc j) h = go (first o left) (λ n l. slot_low n l os j)
  where
    go : First o left → ((n l : ℕ) → 0 < slot_at n l os j → n ≤ slot_at n l os j) → next ≤ slot_at next left (o ∷ os) (suc j)
    go (has p) on = let e = at_later next left o os p j in let r = on (suc next) (width o left - 1) (omega arith) in omega arith
    go (has_none p) on = let e = none_later next left o os p j in let r = on next 0 (omega arith) in omega arith

pub slot_most : (next left : ℕ) (os : List ℕ) (j : ℕ) → 0 < slot_at next left os j → slot_at next left os j < next + slots_in left os
slot_most next left [] j h = let e = at_end next left j in absurd (omega arith)
slot_most next left (o ∷ os) zero h = go (first o left)
  where
    go : First o left → slot_at next left (o ∷ os) 0 < next + slots_in left (o ∷ os)
    go (has p) = let e = at_here next left o os p in let c = count_more next left o os p in omega arith
    go (has_none p) = let e = none_here next left o os p in absurd (omega arith)
slot_most next left (o ∷ os) (suc j) h = go (first o left) (λ n l. slot_most n l os j)
  where
    go : First o left → ((n l : ℕ) → 0 < slot_at n l os j → slot_at n l os j < n + slots_in l os) → slot_at next left (o ∷ os) (suc j) < next + slots_in left (o ∷ os)
    go (has p) on =
        let e = at_later next left o os p j in
        let c = count_more next left o os p in
        let r = on (suc next) (width o left - 1) (omega arith) in
        omega arith
    go (has_none p) on =
        let e = none_later next left o os p j in
        let c = count_none next left o os p in
        let r = on next 0 (omega arith) in
        omega arith

pub slot_alone : (next left : ℕ) (os : List ℕ) (i j : ℕ) → 0 < next → 0 < slot_at next left os i → slot_at next left os j ≡ slot_at next left os i → j ≡ i
slot_alone next left [] i j n h e = let z = at_end next left i in absurd (omega arith)
slot_alone next left (o ∷ os) zero zero n h e = refl
slot_alone next left (o ∷ os) zero (suc j) n h e = go (first o left)
  where
    go : First o left → suc j ≡ 0
    go (has p) =
        let a = at_here next left o os p in
        let b = at_later next left o os p j in
        let c = slot_low (suc next) (width o left - 1) os j (omega arith) in
        absurd (omega arith)
    go (has_none p) = let a = none_here next left o os p in absurd (omega arith)
slot_alone next left (o ∷ os) (suc i) zero n h e = go (first o left)
  where
    go : First o left → 0 ≡ suc i
    go (has p) =
        let a = at_here next left o os p in
        let b = at_later next left o os p i in
        let c = slot_low (suc next) (width o left - 1) os i (omega arith) in
        absurd (omega arith)
    go (has_none p) = let a = none_here next left o os p in absurd (omega arith)
slot_alone next left (o ∷ os) (suc i) (suc j) n h e = go (first o left) (λ m l. slot_alone m l os i j)
  where
    go : First o left → ((m l : ℕ) → 0 < m → 0 < slot_at m l os i → slot_at m l os j ≡ slot_at m l os i → j ≡ i) → suc j ≡ suc i
    go (has p) on =
        let a = at_later next left o os p i in
        let b = at_later next left o os p j in
        ap suc (on (suc next) (width o left - 1) (omega arith) (omega arith) (omega arith))
    go (has_none p) on =
        let a = none_later next left o os p i in
        let b = none_later next left o os p j in
        ap suc (on next 0 n (omega arith) (omega arith))

-- ---- Which lines have one: those that divide, and the k-th after a tuple's if those between are without parts.

pub slot_own : (next left : ℕ) (os : List ℕ) (j : ℕ) → 0 < next → 8 ≤ get_or os j 0 → get_or os j 0 ≤ 16 → 0 < slot_at next left os j
slot_own next left [] j n h l = absurd (omega arith)
slot_own next left (o ∷ os) zero n h l = let e = at_here next left o os (width_some o left h l) in omega arith
slot_own next left (o ∷ os) (suc j) n h l = go (first o left) (λ m k y. slot_own m k os j y h l)
  where
    go : First o left → ((m k : ℕ) → 0 < m → 0 < slot_at m k os j) → 0 < slot_at next left (o ∷ os) (suc j)
    go (has p) on = let e = at_later next left o os p j in let r = on (suc next) (width o left - 1) (omega arith) in omega arith
    go (has_none p) on = let e = none_later next left o os p j in let r = on next 0 n in omega arith

-- So many are left.
slot_left : (next left : ℕ) (os : List ℕ) (k : ℕ) → 0 < next → k < left → ((i : ℕ) → i ≤ k → get_or os i 0 ≡ 1) → 0 < slot_at next left os k
slot_left next left [] k n h f = let e = f 0 (omega arith) in absurd (omega arith)
slot_left next left (o ∷ os) zero n h f =
    let g = f 0 (omega arith) in
    let w = width_low o left (omega arith) in
    let e = at_here next left o os (omega arith) in
    omega arith
slot_left next left (o ∷ os) (suc k) n h f =
    let g = f 0 (omega arith) in
    let w = width_low o left (omega arith) in
    let e = at_later next left o os (omega arith) k in
    let r = slot_left (suc next) (width o left - 1) os k (omega arith) (omega arith) (λ i l. f (suc i) (omega arith)) in
    omega arith

pub slot_part : (next left : ℕ) (os : List ℕ) (j k : ℕ) → 0 < next → 11 + k ≤ get_or os j 0 → get_or os j 0 ≤ 13
    → ((i : ℕ) → 0 < i → i ≤ k → get_or os (j + i) 0 ≡ 1) → 0 < slot_at next left os (j + k)
slot_part next left [] j k n h l f = absurd (omega arith)
slot_part next left (o ∷ os) zero zero n h l f = slot_own next left (o ∷ os) 0 n (omega arith) (omega arith)
slot_part next left (o ∷ os) zero (suc k) n h l f =
    let w = width_tuple o left (omega arith) (omega arith) in
    let e = at_later next left o os (omega arith) k in
    let r = slot_left (suc next) (width o left - 1) os k (omega arith) (omega arith) (λ i m. let y : 0 + suc i ≡ suc i = omega arith in rw y at (f (suc i) (omega arith) (omega arith))) in
    let z : 0 + suc k ≡ suc k = omega arith in
    rw z (omega arith)
slot_part next left (o ∷ os) (suc j) k n h l f =
    go (first o left) (λ m c y. slot_part m c os j k y h l (λ i a b. let w : suc j + i ≡ suc (j + i) = omega arith in rw w at (f i a b)))
  where
    z : suc j + k ≡ suc (j + k)
    z = omega arith

    go : First o left → ((m c : ℕ) → 0 < m → 0 < slot_at m c os (j + k)) → 0 < slot_at next left (o ∷ os) (suc j + k)
    go (has p) on = let e = at_later next left o os p (j + k) in let r = on (suc next) (width o left - 1) (omega arith) in rw z (omega arith)
    go (has_none p) on = let e = none_later next left o os p (j + k) in let r = on next 0 n in rw z (omega arith)

-- There are at most as many as the lines by themselves ask for.
unfoldable pub widths : (ops : List ℕ) → ℕ
unfolding width
widths [] = 0
widths (o ∷ os) = width o 0 + widths os

width_apart : (o left : ℕ) → width o left ≤ left + width o 0
width_apart o left = go (kinds o)
  where
    go : Kinds o → width o left ≤ left + width o 0
    go (is_low k) = let e = width_low o left k in omega arith
    go (is_parts k m) = let e = width_parts o left k m in let f = width_parts o 0 k m in omega arith
    go (is_tuple k m) = let e = width_tuple o left k m in let f = width_tuple o 0 k m in omega arith
    go (is_sides k m) = let e = width_sides o left k m in let f = width_sides o 0 k m in omega arith
    go (is_high k) = let e = width_high o left k in omega arith

pub slots_widths : (left : ℕ) (os : List ℕ) → slots_in left os ≤ left + widths os
unfolding slots_in widths
slots_widths left [] = omega arith
slots_widths left (o ∷ os) = go (first o left) (width_apart o left) (λ l. slots_widths l os)
  where
    go : First o left → width o left ≤ left + width o 0 → ((l : ℕ) → slots_in l os ≤ l + widths os) → slots_in left (o ∷ os) ≤ left + (width o 0 + widths os)
    go (has p) w on = let e = count_more 0 left o os p in let r = on (width o left - 1) in omega arith
    go (has_none p) w on = let e = count_none 0 left o os p in let r = on 0 in omega arith

-- There is none after the last line.
pub slot_after_lem : (next left : ℕ) (os : List ℕ) (j : ℕ) → length os ≤ j → slot_at next left os j ≡ 0
slot_after_lem next left [] j h = at_end next left j
slot_after_lem next left (o ∷ os) zero h = absurd (omega arith)
slot_after_lem next left (o ∷ os) (suc j) h = go (first o left) (λ n l. slot_after_lem n l os j (omega arith))
  where
    go : First o left → ((n l : ℕ) → slot_at n l os j ≡ 0) → slot_at next left (o ∷ os) (suc j) ≡ 0
    go (has p) on = at_later next left o os p j ∙ on (suc next) (width o left - 1)
    go (has_none p) on = none_later next left o os p j ∙ on next 0

-- ---- In the array.

pub slotted_length : (pc next left : ℕ) (os arg : List ℕ) → length (slotted pc next left os arg) ≡ length arg
unfolding slotted
slotted_length pc next left [] arg = refl
slotted_length pc next left (o ∷ os) arg = go (ltb 0 (width o left)) (slotted_length (suc pc) (suc next) (width o left - 1) os (set arg pc next)) (slotted_length (suc pc) next (width o left) os arg)
  where
    go : (b : Bool) → length (slotted (suc pc) (suc next) (width o left - 1) os (set arg pc next)) ≡ length (set arg pc next)
        → length (slotted (suc pc) next (width o left) os arg) ≡ length arg
        → length (cond b (slotted (suc pc) (suc next) (width o left - 1) os (set arg pc next)) (slotted (suc pc) next (width o left) os arg)) ≡ length arg
    go true e f = e ∙ length-set arg pc next
    go false e f = f

module _ (pc next left o : ℕ) (os arg : List ℕ) where
  pub slotted_has : 0 < width o left → slotted pc next left (o ∷ os) arg ≡ slotted (suc pc) (suc next) (width o left - 1) os (set arg pc next)
  unfolding slotted
  slotted_has h = rw (lt-ltb 0 (width o left) h)

  pub slotted_none : width o left ≡ 0 → slotted pc next left (o ∷ os) arg ≡ slotted (suc pc) next 0 os arg
  unfolding slotted
  slotted_none e = rw e

slotted_before : (pc next left : ℕ) (os arg : List ℕ) (j : ℕ) → j < pc → get_or (slotted pc next left os arg) j 0 ≡ get_or arg j 0
unfolding slotted
slotted_before pc next left [] arg j h = refl
slotted_before pc next left (o ∷ os) arg j h = go (first o left) (λ n l a. slotted_before (suc pc) n l os a j (omega arith))
  where
    go : First o left → ((n l : ℕ) (a : List ℕ) → get_or (slotted (suc pc) n l os a) j 0 ≡ get_or a j 0) → get_or (slotted pc next left (o ∷ os) arg) j 0 ≡ get_or arg j 0
    go (has p) on = rw (slotted_has pc next left o os arg p) (on (suc next) (width o left - 1) (set arg pc next) ∙ get_or-set_other arg pc j next 0 (λ e. omega arith))
    go (has_none p) on = rw (slotted_none pc next left o os arg p) (on next 0 arg)

pub over_some : (s a : ℕ) → 0 < s → over s a ≡ s
unfolding over
over_some s a h = rw (ne_eqb s 0 (λ e. omega arith))

pub over_none : (s a : ℕ) → s ≡ 0 → over s a ≡ a
unfolding over
over_none s a e = rw e

pub slotted_at : (pc next left : ℕ) (os arg : List ℕ) → 0 < next → pc + length os ≤ length arg → (j : ℕ)
    → get_or (slotted pc next left os arg) (pc + j) 0 ≡ over (slot_at next left os j) (get_or arg (pc + j) 0)
unfolding slotted slot_at
slotted_at pc next left [] arg n h j = sym (over_none 0 (get_or arg (pc + j) 0) refl)
slotted_at pc next left (o ∷ os) arg n h zero = go (first o left)
  where
    z : pc + 0 ≡ pc
    z = omega arith

    go : First o left → get_or (slotted pc next left (o ∷ os) arg) (pc + 0) 0 ≡ over (slot_at next left (o ∷ os) 0) (get_or arg (pc + 0) 0)
    go (has p) =
        rw (z, slotted_has pc next left o os arg p, at_here next left o os p, over_some next (get_or arg pc 0) n)
        (slotted_before (suc pc) (suc next) (width o left - 1) os (set arg pc next) pc (omega arith) ∙ get_or-set_same arg pc next 0 (omega arith))
    go (has_none p) =
        rw (z, slotted_none pc next left o os arg p, none_here next left o os p)
        (slotted_before (suc pc) next 0 os arg pc (omega arith) ∙ sym (over_none 0 (get_or arg pc 0) refl))
slotted_at pc next left (o ∷ os) arg n h (suc j) =
    go (first o left) (λ m l a y g. slotted_at (suc pc) m l os a y g j)
  where
    z : pc + suc j ≡ suc pc + j
    z = omega arith

    go : First o left
        → ((m l : ℕ) (a : List ℕ) → 0 < m → suc pc + length os ≤ length a → get_or (slotted (suc pc) m l os a) (suc pc + j) 0 ≡ over (slot_at m l os j) (get_or a (suc pc + j) 0))
        → get_or (slotted pc next left (o ∷ os) arg) (pc + suc j) 0 ≡ over (slot_at next left (o ∷ os) (suc j)) (get_or arg (pc + suc j) 0)
    go (has p) on =
        let e = length-set arg pc next in
        rw (z, slotted_has pc next left o os arg p, at_later next left o os p j)
        (on (suc next) (width o left - 1) (set arg pc next) (omega arith) (omega arith)
        ∙ ap (over (slot_at (suc next) (width o left - 1) os j)) (get_or-set_other arg pc (suc pc + j) next 0 (λ y. omega arith)))
    go (has_none p) on = rw (z, slotted_none pc next left o os arg p, none_later next left o os p j) (on next 0 arg n (omega arith))

-- Where the lines' own numbers are variables, below 16.
module _ (os arg : List ℕ) (a : ℕ → ℕ) (is : (j : ℕ) → get_or arg j 0 ≡ over (slot_at 16 0 os j) (a j)) (low : (j : ℕ) → a j < 16) (few : slots_in 0 os ≤ 255) where
  pub number_few : (pc : ℕ) → get_or arg pc 0 < 272
  number_few pc = go (ltb 0 (slot_at 16 0 os pc)) (ltb-true 0 _) (ltb-false 0 _)
    where
      go : (b : Bool) → (b ≡ true → 0 < slot_at 16 0 os pc) → (b ≡ false → slot_at 16 0 os pc ≤ 0) → get_or arg pc 0 < 272
      go true f g =
          let e = over_some (slot_at 16 0 os pc) (a pc) (f refl) in let m = slot_most 16 0 os pc (f refl) in let i = is pc in omega arith
      go false f g =
          let e = over_none (slot_at 16 0 os pc) (a pc) (let h = g refl in omega arith) in let l = low pc in let i = is pc in omega arith

  pub number_own : (pc : ℕ) → 0 < slot_at 16 0 os pc → Own arg pc
  number_own pc h =
      let e = over_some (slot_at 16 0 os pc) (a pc) h in
      let l = slot_low 16 0 os pc h in
      let i = is pc in
      record { low = omega arith; few = number_few pc; only = λ j q. go j q (ltb 0 (slot_at 16 0 os j)) (ltb-true 0 _) (ltb-false 0 _) (omega arith) l }
    where
      go : (j : ℕ) → get_or arg j 0 ≡ get_or arg pc 0 → (b : Bool) → (b ≡ true → 0 < slot_at 16 0 os j) → (b ≡ false → slot_at 16 0 os j ≤ 0)
          → get_or arg pc 0 ≡ slot_at 16 0 os pc → 16 ≤ slot_at 16 0 os pc → j ≡ pc
      go j q true f g i l =
          let e = over_some (slot_at 16 0 os j) (a j) (f refl) in let k = is j in slot_alone 16 0 os pc j (omega arith) (omega arith) (omega arith)
      go j q false f g i l =
          let e = over_none (slot_at 16 0 os j) (a j) (let h = g refl in omega arith) in let k = is j in let m = low j in absurd (omega arith)

-- ---- Of the lines that come about: none at a line that names a variable or a constant.

unfoldable Plain : (next left : ℕ) → List Line → Type 0
Plain next left ls = (j : ℕ) → 2 ≤ (get_or ls j end_line).op → (get_or ls j end_line).op ≤ 7 → slot_at next left (ops_of ls) j ≡ 0

plain_none : (next : ℕ) (l : Line) (ls : List Line) → width l.op 0 ≡ 0 → Plain next 0 ls → Plain next 0 (l ∷ ls)
unfolding Plain ops_of
plain_none next l ls e h zero a b = none_here next 0 l.op (ops_of ls) e
plain_none next l ls e h (suc j) a b = none_later next 0 l.op (ops_of ls) e j ∙ h j a b

plain_has : (next left : ℕ) (l : Line) (ls : List Line) → 0 < width l.op left → (2 ≤ l.op → l.op ≤ 7 → ⊥) → Plain (suc next) (width l.op left - 1) ls
    → Plain next left (l ∷ ls)
unfolding Plain ops_of
plain_has next left l ls e f h zero a b = absurd (f a b)
plain_has next left l ls e f h (suc j) a b = at_later next left l.op (ops_of ls) e j ∙ h j a b

plain_reserved : (n next : ℕ) (ls : List Line) → ((m : ℕ) → Plain m 0 ls) → Plain next n (reserved_lines n ++ ls)
unfolding reserved_lines
plain_reserved zero next ls h = h next
plain_reserved (suc n) next ls h =
    let w = width_low 1 (suc n) (omega arith) in
    let z : width 1 (suc n) - 1 ≡ n = omega arith in
    plain_has next (suc n) reserved_line (reserved_lines n ++ ls) (omega arith) (λ a b. absurd (omega arith)) (rw z (plain_reserved n (suc next) ls h))

plain_end : (next : ℕ) → Plain next 0 (end_line ∷ [])
unfolding Plain
plain_end next zero a b = absurd (omega arith)
plain_end next (suc j) a b = absurd (omega arith)

-- The line of a tuple of 2 + n parts, and those reserved.
plain_tuple : (n f i next : ℕ) (ls : List Line) → n ≤ 2 → ((m : ℕ) → Plain m 0 ls) → Plain next 0 (line (11 + n) f 0 i (pos 0) ∷ (reserved_lines n ++ ls))
plain_tuple n f i next ls l h =
    let w = width_tuple (11 + n) 0 (omega arith) (omega arith) in
    let z : width (11 + n) 0 - 1 ≡ n = omega arith in
    plain_has next 0 (line (11 + n) f 0 i (pos 0)) (reserved_lines n ++ ls) (omega arith) (λ a b. absurd (omega arith)) (rw z (plain_reserved n (suc next) ls h))

-- Any other line of a tag with parts.
plain_divided : (o f i next : ℕ) (ls : List Line) → (12 ≤ o → 14 ≤ o) → ((m : ℕ) → Plain m 0 ls) → Plain next 0 (line o f 0 i (pos 0) ∷ ls)
plain_divided o f i next ls l h = go (first o 0) (width_one o l)
  where
    go : First o 0 → width o 0 ≤ 1 → Plain next 0 (line o f 0 i (pos 0) ∷ ls)
    go (has p) w =
        let z : width o 0 - 1 ≡ 0 = omega arith in
        plain_has next 0 (line o f 0 i (pos 0)) ls p (λ a b. let y = width_low o 0 (omega arith) in absurd (omega arith)) (rw z (h (suc next)))
    go (has_none p) w = plain_none next (line o f 0 i (pos 0)) ls p (h next)

plain_by : {o n s : ℕ} {ws : List ℤ} (f i next : ℕ) (ls : List Line) → Reserving o n s ws → ((m : ℕ) → Plain m 0 ls) → Plain next 0 (line (o + n) f 0 i (pos 0) ∷ (reserved_lines n ++ ls))
unfolding reserved_lines
plain_by {o} f i next ls (reserving_none l) h = let e : o + 0 ≡ o = omega arith in rw e (plain_divided o f i next ls l h)
plain_by f i next ls (reserving {n = n} l q) h = rw q (plain_tuple n f i next ls l h)

close_width : (n c : ℕ) → width (close_line n c).op 0 ≡ 0
unfolding close_line
close_width n c = go (eqb n 4)
  where
    go : (b : Bool) → width (cond b fi_line (cut_line c)).op 0 ≡ 0
    go true = width_high 19 0 (omega arith)
    go false = width_high 17 0 (omega arith)

leaf_width : (o i f : ℕ) (ws : List ℤ) → o ≤ 7 → width (leaf_line o i f ws).op 0 ≡ 0
unfolding leaf_line
leaf_width o i f ws h = width_low o 0 (omega arith)

made_plain : {ms : List ℤ} {a : Bool} {s : ℕ} {ts : List Waiting} {pc : ℕ} {ws : List ℤ} {ls : List Line} → Made ms a s ts pc ws ls → (next : ℕ) → Plain next 0 ls
made_plain made_end next = plain_end next
made_plain (made_skip h) next = made_plain h next
made_plain {ts = ts} (made_divided {ls = ls} o i u q h) next = plain_by (from_by o ts) i next ls q (λ m. made_plain h m)
made_plain {ts = ts} (made_leaf {ws = ws} {ls = ls} s o i l h) next =
    plain_none next (leaf_line o i (slot_of ts) ws) ls (leaf_width o i (slot_of ts) ws l) (made_plain h next)
made_plain {ts = ts} (made_leaf_two {ws = ws} {ls = ls} s o i l h) next =
    plain_none next (line 1 0 0 i (pos 0)) (leaf_line o i (slot_of ts) ws ∷ ls) (width_low 1 0 (omega arith))
    (plain_none next (leaf_line o i (slot_of ts) ws) ls (leaf_width o i (slot_of ts) ws l) (made_plain h next))
made_plain after_end_lem next = plain_end next
made_plain (after_close {c = c} {n = n} {ls = ls} l h) next = plain_none next (close_line n c) ls (close_width n c) (made_plain h next)
made_plain (after_else {ls = ls} h) next = plain_none next else_line ls (width_high 18 0 (omega arith)) (made_plain h next)
made_plain (after_part l h) next = made_plain h next

pub slots_plain : (ms ps : List ℤ) (next j : ℕ) → 2 ≤ (get_or (lines_of ms ps) j end_line).op → (get_or (lines_of ms ps) j end_line).op ≤ 7
    → slot_at next 0 (ops_of (lines_of ms ps)) j ≡ 0
unfolding lines_of Plain
slots_plain ms ps next j a b = made_plain (made ms ps 0 0 [] 0) next j a b
