-- The slots of a program, numbered: a line that divides has one, and so has each line that is reserved after a tuple's. Such a line names no variable,
-- and the number of its slot stands in `arg` instead; the numbers below 16 are the variables'.
use Rattle.std.specs.Prelude.{ℕ, zero, suc, ◌-◌, ◌<◌, ◌≤◌, ◌≡◌, cond, List, [], ◌∷◌, get_or, set, eqb, ltb}
use Rattle.tables.specs.Line.{Columns, named}
use Rattle.program_rules.specs.Link.{ops_in}

-- From this line on so many have a slot, one after the other, `left` being those that an earlier tuple's line leaves.
unfoldable pub width : (op left : ℕ) → ℕ
width o left = cond (ltb o 8) left (cond (ltb 16 o) left (cond (ltb 10 o) (cond (ltb o 14) (o - 10) 1) 1))

-- The lines `ops` from the place pc on, `next` being the first number that no slot has.
unfoldable pub slotted : (pc next left : ℕ) → (ops arg : List ℕ) → List ℕ
unfolding width
slotted pc next left [] arg = arg
slotted pc next left (o ∷ os) arg =
    cond (ltb 0 (width o left)) (slotted (suc pc) (suc next) (width o left - 1) os (set arg pc next)) (slotted (suc pc) next (width o left) os arg)

unfoldable pub numbered : (lines : ℕ) → Columns → Columns
unfolding slotted named
numbered n t = named (slotted 0 16 0 (ops_in t.op 0 n) t.arg) t

-- A slot's number is that of no other line.
pub record Own (arg : List ℕ) (pc : ℕ) : Type 0 where
  pub low : 16 ≤ get_or arg pc 0
  pub few : get_or arg pc 0 < 272
  pub only : (j : ℕ) → get_or arg j 0 ≡ get_or arg pc 0 → j ≡ pc

-- ---- The number of the slot at an index among the lines, and 0 where there is none; how many there are.

unfoldable pub slot_at : (next left : ℕ) → (ops : List ℕ) → (j : ℕ) → ℕ
unfolding width
slot_at next left [] j = 0
slot_at next left (o ∷ os) zero = cond (ltb 0 (width o left)) next 0
slot_at next left (o ∷ os) (suc j) = cond (ltb 0 (width o left)) (slot_at (suc next) (width o left - 1) os j) (slot_at next (width o left) os j)

unfoldable pub slots_in : (left : ℕ) → (ops : List ℕ) → ℕ
unfolding width
slots_in left [] = 0
slots_in left (o ∷ os) = cond (ltb 0 (width o left)) (suc (slots_in (width o left - 1) os)) (slots_in (width o left) os)

unfoldable pub over : (slot arg : ℕ) → ℕ
over s a = cond (eqb s 0) a s
