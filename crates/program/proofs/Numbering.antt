-- The numbers of the slots: one line, and the loop. Assumes nothing.
use Prim.Native.Nat.{ℕ, suc, ◌+◌, ◌-◌, ◌<◌, ◌≤◌}
use native.Mathlib.Numerals.{add-one}
use native.Mathlib.Omega.{arith}
use mathlib.Core.Path.{◌≡◌, sym, ap, ◌∙◌}
use mathlib.Core.List.{List, ◌∷◌}
use borrow.Author.Rules.{rules}
use lib.ListN.{get_or, set}
use mir.Syntax.{w16, w64}
use mir.Val.{Fits}
use Rattle.words.specs.Words.{entries}
use Rattle.tables.specs.Line.{Columns, named}
use Rattle.program_rules.specs.Link.{ops_in}
use Rattle.program_rules.specs.Slots.{width, slotted, numbered}
use Rattle.program_rules.specs.SlotLaws.{width_low, width_high, width_tuple, width_parts, width_sides, slotted_has, slotted_none}

-- ---- One line.

pub wide_low : (o left : ℕ) → o < 8 → left ≡ width o left
wide_low o left h = sym (width_low o left h)

pub wide_high : (o left : ℕ) → 16 < o → left ≡ width o left
wide_high o left h = sym (width_high o left h)

pub wide_parts : (o left : ℕ) → 8 ≤ o → o < 11 → 1 ≡ width o left
wide_parts o left h l = sym (width_parts o left h (omega arith))

pub wide_tuple : (o left : ℕ) → 11 ≤ o → o < 14 → o - 10 ≡ width o left
wide_tuple o left h l = sym (width_tuple o left (omega arith) l)

pub wide_sides : (o left : ℕ) → 14 ≤ o → o ≤ 16 → 1 ≡ width o left
wide_sides o left h l = sym (width_sides o left h l)

pub ruleset width_rules = (wide_low, wide_high, wide_parts, wide_tuple, wide_sides, rules)

-- ---- The loop.

pub record Numbering (last : ℕ) (t₀ t : Columns) (next left pc : ℕ) : Type 0 where
  pub rest : named (slotted pc next left (ops_in t.op pc (suc last - pc)) t.arg) t ≡ numbered (suc last) t₀
  pub reach : pc ≤ suc last
  pub few : next ≤ 16 + pc

pub numbering_start : (last : ℕ) (t : Columns) → Numbering last t t 16 0 0
unfolding numbered
numbering_start last t = let z : suc last - 0 ≡ suc last = omega arith in record { rest = rw z; reach = omega arith; few = omega arith }

ops_more : (op : List ℕ) (last pc : ℕ) → pc ≤ last → ops_in op pc (suc last - pc) ≡ get_or op pc 0 ∷ ops_in op (pc + 1) (suc last - (pc + 1))
unfolding ops_in
ops_more op last pc h = let z : suc last - pc ≡ suc (suc last - (pc + 1)) = omega arith in rw (z, add-one pc)

module _ (last : ℕ) (t₀ t : Columns) (next left pc : ℕ) (N : Numbering last t₀ t next left pc) (low : last < entries) where
  module _ (h : pc ≤ last) where
    pub numbering_index : pc < entries
    numbering_index = omega arith

    pub numbering_fits : Fits w64 (pc + 1)
    numbering_fits = record { fits = omega arith }

    pub numbering_next : Fits w16 (next + 1)
    numbering_next = let f = N.few in record { fits = omega arith }

    pub numbering_less : suc last - (pc + 1) < suc last - pc
    numbering_less = omega arith

    module _ (o w : ℕ) (g : o ≡ get_or t.op pc 0) (e : w ≡ width o left) where
      abbrev os : List ℕ
      os = ops_in t.op (pc + 1) (suc last - (pc + 1))

      step : named (slotted pc next left (o ∷ ops_in t.op (pc + 1) (suc last - (pc + 1))) t.arg) t ≡ numbered (suc last) t₀
      step = rw (g) (rw (ops_more t.op last pc h) at N.rest)

      pub numbering_has : 0 < w → (u : Columns) → u ≡ named (set t.arg pc next) t → Numbering last t₀ u (next + 1) (w - 1) (pc + 1)
      unfolding named
      numbering_has p u k =
          let f = N.few in
          record {
            rest = rw (k, add-one next, e)
                (ap (λ q. named (slotted q (suc next) (width o left - 1) os (set t.arg pc next)) t) (add-one pc)
                ∙ ap (λ a. named a t) (sym (slotted_has pc next left o os t.arg (omega arith))) ∙ step);
            reach = omega arith;
            few = omega arith;
          }

      pub numbering_none : w ≤ 0 → Numbering last t₀ t next w (pc + 1)
      numbering_none p =
          let f = N.few in
          let z : w ≡ 0 = omega arith in
          record {
            rest = rw z
                (ap (λ q. named (slotted q next 0 os t.arg) t) (add-one pc)
                ∙ ap (λ a. named a t) (sym (slotted_none pc next left o os t.arg (omega arith))) ∙ step);
            reach = omega arith;
            few = omega arith;
          }

  pub numbering_end : last < pc → t ≡ numbered (suc last) t₀
  unfolding slotted ops_in named
  numbering_end h = let z : suc last - pc ≡ 0 = omega arith in rw z at N.rest

pub ruleset numbering_rules = (numbering_start, numbering_index, numbering_fits, numbering_next, numbering_less, numbering_has, numbering_none, numbering_end, rules)
