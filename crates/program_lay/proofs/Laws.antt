-- The definitions by the tests of the code. Assumes nothing.
use Prim.Native.Nat.{ℕ, zero, suc, ◌+◌, ◌-◌, ◌<◌, ◌≤◌}
use native.Mathlib.Numerals.{add-one}
use mathlib.Core.Path.{◌≡◌, refl, sym, ◌∙◌}
use mathlib.Core.Bool.{Bool, true, false, cond}
use mathlib.Core.List.{List, [], ◌∷◌}
use native.Mathlib.Omega.{arith}
use borrow.Author.Rules.{rules}
use borrow.Author.Tests.{ne_eqb, lt-ltb, le-ltb}
use lib.Dec.{eqb, ltb}
use lib.ListN.{length}
use lib.IntN.{ℤ, pos}
use mir.Syntax.{w16, w64}
use mir.Val.{Fits}
use Rattle.words.specs.Words.{entries}
use Rattle.program_parts.proofs.Laws.{operands_le}
use Rattle.tables.specs.Line.{Columns, written}
use Rattle.program_rules.specs.Lines.{line, reserved_line, reserved_lines, operands_of, arg_of, con_of, leaf_line, strip_lines, else_line, fi_line, cut_line, close_line, else_lines, laid}

-- ---- One line, its matcher as a number of a line.

pub put_is : (t u : Columns) (pc o f a i i' : ℕ) (c c' : ℤ) → u ≡ written pc (line o f a i' c') t → i' ≡ i → c' ≡ c → u ≡ written pc (line o f a i c) t
put_is t u pc o f a i i' c c' h g k = rw (← g, ← k) h

pub ruleset put_rules = (put_is, rules)

-- ---- Ends.

pub close_fi : (n c pc : ℕ) (t u : Columns) → n ≡ 4 → u ≡ written pc fi_line t → u ≡ written pc (close_line n c) t
unfolding close_line
close_fi n c pc t u e h = rw e h

pub close_cut : (n c pc : ℕ) (t u : Columns) → (n ≡ 4 → ⊥) → u ≡ written pc (cut_line c) t → u ≡ written pc (close_line n c) t
unfolding close_line
close_cut n c pc t u e h = rw (ne_eqb n 4 e) h

pub else_one : (n pc : ℕ) → n ≡ 3 → pc + 1 ≡ pc + length (else_lines n)
unfolding else_lines
else_one n pc e = rw e

pub else_one_laid : (n pc : ℕ) (t u : Columns) → n ≡ 3 → u ≡ written pc else_line t → u ≡ laid pc (else_lines n) t
unfolding else_lines laid
else_one_laid n pc t u e h = rw e h

pub else_no : (n pc : ℕ) → (n ≡ 3 → ⊥) → pc ≡ pc + length (else_lines n)
unfolding else_lines
else_no n pc e = rw (ne_eqb n 3 e) (omega arith)

pub else_no_laid : (n pc : ℕ) (t : Columns) → (n ≡ 3 → ⊥) → t ≡ laid pc (else_lines n) t
unfolding else_lines laid
else_no_laid n pc t e = rw (ne_eqb n 3 e)

pub end_next : (pc : ℕ) → pc < entries → Fits w64 (pc + 1)
end_next pc h = record { fits = omega arith }

pub ruleset ends_rules = (close_fi, close_cut, else_one, else_one_laid, else_no, else_no_laid, end_next, rules)

-- ---- Lines that are reserved.

pub record Reserving (e pc : ℕ) (t₀ t : Columns) (q left : ℕ) : Type 0 where
  pub whole : laid pc (reserved_lines e) t₀ ≡ laid q (reserved_lines left) t
  pub place : q + left ≡ pc + e

pub reserving_start : (e pc x : ℕ) (t : Columns) → x ≡ e → Reserving e pc t t pc (pc + x - pc)
reserving_start e pc x t h = let y : pc + x - pc ≡ e = omega arith in rw y (record { whole = refl; place = refl })

-- Up to the place `end`.
module _ (e pc end : ℕ) (t₀ t : Columns) (q : ℕ) (r : Reserving e pc t₀ t q (end - q)) where
  pub reserving_next : (t' : Columns) → q < end → t' ≡ written q reserved_line t → Reserving e pc t₀ t' (q + 1) (end - (q + 1))
  unfolding laid reserved_lines
  reserving_next t' h w =
      let z : end - (q + 1) ≡ end - q - 1 = omega arith in
      rw z (record { whole = r.whole ∙ go (end - q) (omega arith) ∙ rw (add-one q, w); place = (let p = r.place in omega arith) })
    where
      go : (k : ℕ) → 0 < k → laid q (reserved_lines k) t ≡ laid (suc q) (reserved_lines (k - 1)) (written q reserved_line t)
      go zero z = absurd (omega arith)
      go (suc k) z = let y : suc k - 1 ≡ k = omega arith in rw y

  pub reserving_laid : end ≤ q → t ≡ laid pc (reserved_lines e) t₀
  unfolding laid reserved_lines
  reserving_laid h = let z : end - q ≡ 0 = omega arith in sym (r.whole ∙ rw z)

  pub reserving_low : pc + e < entries → q < end → q < entries
  reserving_low h z = let p = r.place in omega arith

pub ruleset reserve_rules = (reserving_start, reserving_next, reserving_laid, reserving_low, rules)

pub divide_laid : (t u w : Columns) (pc e e' f o i : ℕ) → u ≡ written pc (line (o + e') f 0 i (pos 0)) t → e' ≡ e → w ≡ laid (pc + 1) (reserved_lines e) u
    → w ≡ laid pc (line (o + e) f 0 i (pos 0) ∷ reserved_lines e) t
unfolding laid
divide_laid t u w pc e e' f o i h d k = k ∙ rw (h, d, add-one pc)

pub divide_place : (pc e r : ℕ) → r ≡ pc + 1 + e → r ≡ suc pc + e
divide_place pc e r h = omega arith

pub divide_low : (pc e : ℕ) → suc pc + e < entries → pc < entries
divide_low pc e h = omega arith

pub divide_room : (pc e : ℕ) → suc pc + e < entries → pc + 1 + e < entries
divide_room pc e h = omega arith

pub divide_fits : (o e e' : ℕ) → o + e < 256 → e' ≡ e → Fits w16 (o + e')
divide_fits o e e' h d = record { fits = omega arith }

pub ruleset divide_rules = (divide_laid, divide_place, divide_low, divide_room, divide_fits, rules)

pub strip_bare : (k o i pc : ℕ) → k ≡ 0 → pc ≡ pc + length (strip_lines k o i)
unfolding strip_lines
strip_bare k o i pc e = rw e (omega arith)

pub strip_one : (k o i pc : ℕ) → (k ≡ 0 → ⊥) → o < 4 → pc + 1 ≡ pc + length (strip_lines k o i)
unfolding strip_lines
strip_one k o i pc h l = rw (ne_eqb k 0 h, lt-ltb o 4 l)

pub strip_no : (k o i pc : ℕ) → (k ≡ 0 → ⊥) → 4 ≤ o → pc ≡ pc + length (strip_lines k o i)
unfolding strip_lines
strip_no k o i pc h l = rw (ne_eqb k 0 h, le-ltb o 4 l) (omega arith)

pub strip_bare_laid : (k o i pc : ℕ) (t : Columns) → k ≡ 0 → t ≡ laid pc (strip_lines k o i) t
unfolding strip_lines laid
strip_bare_laid k o i pc t e = rw e

pub strip_one_laid : (k o i pc : ℕ) (t u : Columns) → (k ≡ 0 → ⊥) → o < 4 → u ≡ written pc (line 1 0 0 i (pos 0)) t → u ≡ laid pc (strip_lines k o i) t
unfolding strip_lines laid
strip_one_laid k o i pc t u h l e = rw (ne_eqb k 0 h, lt-ltb o 4 l) e

pub strip_no_laid : (k o i pc : ℕ) (t : Columns) → (k ≡ 0 → ⊥) → 4 ≤ o → t ≡ laid pc (strip_lines k o i) t
unfolding strip_lines laid
strip_no_laid k o i pc t h l = rw (ne_eqb k 0 h, le-ltb o 4 l)

pub leaf_is : (t u : Columns) (pc o i f n a : ℕ) (c : ℤ) (ws : List ℤ) → n ≡ operands_of o → a ≡ arg_of n ws → c ≡ con_of n ws
    → u ≡ written pc (line o f a i c) t → u ≡ written pc (leaf_line o i f ws) t
unfolding leaf_line
leaf_is t u pc o i f n a c ws e g h x = x ∙ rw (g, h, e)

pub con_asks : (len at n o : ℕ) → at ≤ len → n ≡ operands_of o → at + n ≤ len + 2
con_asks len at n o h e = let l = operands_le o in omega arith

pub strip_short : (k o i : ℕ) → length (strip_lines k o i) ≤ 1
unfolding strip_lines
strip_short k o i = go (eqb k 0) (ltb o 4)
  where
    go : (a b : Bool) → length (cond a [] (cond b (line 1 0 0 i (pos 0) ∷ []) [])) ≤ 1
    go true b = omega arith
    go false true = omega arith
    go false false = omega arith

pub leaf_asks : (k o i pc q : ℕ) → pc + 1 < entries → q ≡ pc + length (strip_lines k o i) → q < entries
leaf_asks k o i pc q h e = let l = strip_short k o i in omega arith

pub leaf_fits : (k o i pc q : ℕ) → pc + 1 < entries → q ≡ pc + length (strip_lines k o i) → Fits w64 (q + 1)
leaf_fits k o i pc q h e = let l = leaf_asks k o i pc q h e in record { fits = omega arith }

pub leaf_place : (k o i pc q : ℕ) → q ≡ pc + length (strip_lines k o i) → q + 1 ≡ suc (pc + length (strip_lines k o i))
leaf_place k o i pc q e = omega arith

pub leaf_first : (pc : ℕ) → pc + 1 < entries → pc < entries
leaf_first pc h = omega arith

pub leaf_laid : (t u w : Columns) (k o i f pc q : ℕ) (ws : List ℤ) → q ≡ pc + length (strip_lines k o i) → u ≡ laid pc (strip_lines k o i) t
    → w ≡ written q (leaf_line o i f ws) u → w ≡ written (pc + length (strip_lines k o i)) (leaf_line o i f ws) (laid pc (strip_lines k o i) t)
leaf_laid t u w k o i f pc q ws e g h = h ∙ rw (e, g)

pub ruleset leaf_rules = (strip_bare, strip_one, strip_no, strip_bare_laid, strip_one_laid, strip_no_laid, leaf_is, con_asks, leaf_asks, leaf_first, leaf_fits, leaf_place, leaf_laid, rules)
