-- How the lines come about, word by word, whatever the words.
use Prim.Native.Nat.{ℕ, zero, suc, ◌+◌, ◌-◌, ◌*◌, ◌%◌, ◌<◌, ◌≤◌}
use native.Mathlib.Omega.{arith}
use Rattle.std.specs.Prelude.{◌≡◌, Bool, cond, eqb, get_or, ℤ, pos}
use Rattle.std.proofs.Math.Path.{refl}
use Rattle.std.proofs.Common.{ap, length-append}
use Rattle.std.proofs.Math.Bool.{true, false}
use mathlib.Core.List.{List, [], ◌∷◌, ◌++◌}
use borrow.Author.Tests.{eqb-true, ltb-false, lt-ltb, le-ltb, ne_eqb}
use Rattle.std.proofs.Math.Dec.{ltb}
use Rattle.std.proofs.Math.ListN.{length}
use Rattle.words.specs.Words.{tag_z, tag_at}
use Rattle.tables.specs.declared.line.Line.{Line}
use Rattle.program_rules.specs.Lines.{line, end_line, else_line, fi_line, cut_line, reserved_line, reserved_lines, ops_under, op_of, operands_of, beyond_two, reserved_by, arg_of, strip_lines, leaf_line, first_under, second_under}
use Rattle.program_rules.specs.Lines.{Waiting, waits, slot_of, from_by, slot_by, behind_by, others, else_lines, close_line, resumed, divided, lines_from, lines_split, lines_leaf, lines_of}

-- n places are reserved after a line, and s of the words ws are its operands: only a tuple of more than two parts has such places, and its width is a
-- word.
pub data Reserving (o : ℕ) : (n s : ℕ) → List ℤ → Type 0 where
  reserving_none : {s : ℕ} {ws : List ℤ} → (12 ≤ o → 14 ≤ o) → Reserving o 0 s ws
  reserving : {n : ℕ} {x : ℤ} {ws : List ℤ} → n ≤ 2 → o ≡ 11 → Reserving o n 1 (x ∷ ws)

-- The lines from the place pc on, of what is left of the words after s of them, before what waits: of a pattern (false), or after a tag without
-- parts (true).
pub data Made (ms : List ℤ) : (after : Bool) (s : ℕ) → List Waiting → (pc : ℕ) → List ℤ → List Line → Type 0 where
  made_end : {s : ℕ} {ts : List Waiting} {pc : ℕ} → Made ms false s ts pc [] (end_line ∷ [])
  made_skip : {s : ℕ} {ts : List Waiting} {pc : ℕ} {w : ℤ} {ws : List ℤ} {ls : List Line} → Made ms false s ts pc ws ls → Made ms false (suc s) ts pc (w ∷ ws) ls
  made_divided : {ts : List Waiting} {pc : ℕ} {w : ℤ} {ws : List ℤ} {ls : List Line} (o i u : ℕ) {n s : ℕ} → Reserving o n s ws
      → Made ms false s (waits u (slot_by o pc ts) (behind_by o n) ∷ ts) (suc (pc + n)) ws ls
      → Made ms false 0 ts pc (w ∷ ws) (line (o + n) (from_by o ts) 0 i (pos 0) ∷ (reserved_lines n ++ ls))
  made_leaf : {ts : List Waiting} {pc : ℕ} {w : ℤ} {ws : List ℤ} {ls : List Line} (s o i : ℕ) → o ≤ 7
      → Made ms true s ts (suc pc) ws ls → Made ms false 0 ts pc (w ∷ ws) (leaf_line o i (slot_of ts) ws ∷ ls)
  made_leaf_two : {ts : List Waiting} {pc : ℕ} {w : ℤ} {ws : List ℤ} {ls : List Line} (s o i : ℕ) → o ≤ 7
      → Made ms true s ts (suc (suc pc)) ws ls → Made ms false 0 ts pc (w ∷ ws) (line 1 0 0 i (pos 0) ∷ leaf_line o i (slot_of ts) ws ∷ ls)
  after_end_lem : {s pc : ℕ} {ws : List ℤ} → Made ms true s [] pc ws (end_line ∷ [])
  after_close : {s i c n : ℕ} {ts : List Waiting} {pc : ℕ} {ws : List ℤ} {ls : List Line} → 3 < n → Made ms true s ts (suc pc) ws ls
      → Made ms true s (waits i c n ∷ ts) pc ws (close_line n c ∷ ls)
  after_else : {s i c : ℕ} {ts : List Waiting} {pc : ℕ} {ws : List ℤ} {ls : List Line} → Made ms false s (waits i c 4 ∷ ts) (suc pc) ws ls
      → Made ms true s (waits i c 3 ∷ ts) pc ws (else_line ∷ ls)
  after_part : {s i c n : ℕ} {ts : List Waiting} {pc : ℕ} {ws : List ℤ} {ls : List Line} → n ≤ 2 → Made ms false s (others ms i c n ts) pc ws ls
      → Made ms true s (waits i c n ∷ ts) pc ws ls

pub cond_le : {m : ℕ} (b : Bool) (x y : ℕ) → x ≤ m → y ≤ m → cond b x y ≤ m
cond_le true x y p q = p
cond_le false x y p q = q

-- No tag has more than 16 for its instruction, and none has 12 or 13.
some_op : (o : ℕ) → o ≤ 11 → (o ≤ 16) × (12 ≤ o → 14 ≤ o)
some_op o l = (omega arith, λ h. absurd (omega arith))

op_both : (t k : ℕ) → (op_of t k ≤ 16) × (12 ≤ op_of t k → 14 ≤ op_of t k)
unfolding op_of ops_under
op_both zero k = some_op 2 (omega arith)
op_both (suc zero) k = some_op 3 (omega arith)
op_both (suc (suc zero)) k = some_op 4 (omega arith)
op_both (suc (suc (suc zero))) k = some_op _ (cond_le (eqb k 1) 5 6 (omega arith) (omega arith))
op_both (suc (suc (suc (suc zero)))) k = some_op 7 (omega arith)
op_both (suc (suc (suc (suc (suc zero))))) k = some_op _ (cond_le (eqb k 2) 8 _ (omega arith) (cond_le (eqb k 3) 9 0 (omega arith) (omega arith)))
op_both (suc (suc (suc (suc (suc (suc zero)))))) k = some_op 10 (omega arith)
op_both (suc (suc (suc (suc (suc (suc (suc zero))))))) k = some_op _ (cond_le (eqb k 4) 11 0 (omega arith) (omega arith))
op_both (suc (suc (suc (suc (suc (suc (suc (suc zero)))))))) k = (omega arith, λ h. omega arith)
op_both (suc (suc (suc (suc (suc (suc (suc (suc (suc zero))))))))) k = (omega arith, λ h. omega arith)
op_both (suc (suc (suc (suc (suc (suc (suc (suc (suc (suc zero)))))))))) k = (omega arith, λ h. omega arith)
op_both (suc (suc (suc (suc (suc (suc (suc (suc (suc (suc (suc t))))))))))) k = some_op 0 (omega arith)

pub op_most : (t k : ℕ) → op_of t k ≤ 16
op_most t k = (op_both t k).0

reserving_is : (o : ℕ) (ws : List ℤ) → (12 ≤ o → 14 ≤ o) → Reserving o (reserved_by o ws) (operands_of o) ws
unfolding reserved_by operands_of beyond_two tag_at
reserving_is o ws l = go (eqb o 11) (eqb-true o 11) ws
  where
    go : (b : Bool) → (b ≡ true → o ≡ 11) → (ws : List ℤ) → Reserving o (cond b (beyond_two (tag_at ws 0)) 0) (operands_of o) ws
    go false h ws = reserving_none l
    go true h [] = reserving_none l
    go true h (x ∷ ws) = let e = h refl in let z : operands_of o ≡ 1 = rw e in rw z (reserving (cond_le (eqb (tag_at (x ∷ ws) 0) 3) 1 _ (omega arith) (cond_le (eqb (tag_at (x ∷ ws) 0) 4) 2 0 (omega arith) (omega arith))) e)

-- A number is above 3, 3, or at most 2: an end, the second side of an or, or a part.
pub data Kinds (n : ℕ) : Type 0 where
  is_end : 3 < n → Kinds n
  is_else : n ≡ 3 → Kinds n
  is_part : n ≤ 2 → Kinds n

pub kinds : (n : ℕ) → Kinds n
kinds zero = is_part (omega arith)
kinds (suc zero) = is_part (omega arith)
kinds (suc (suc zero)) = is_part (omega arith)
kinds (suc (suc (suc zero))) = is_else refl
kinds (suc (suc (suc (suc n)))) = is_end (omega arith)

-- What follows a tag without parts, by that number.
module _ (ms : List ℤ) (i c n : ℕ) (ts : List Waiting) (pc : ℕ) (again : ℕ → List Waiting → ℕ → List Line) where
  pub resumed_end : 3 < n → resumed ms (waits i c n ∷ ts) pc again ≡ close_line n c ∷ resumed ms ts (suc pc) again
  unfolding resumed
  resumed_end h = rw (lt-ltb 3 n h)

  pub resumed_else : n ≡ 3 → resumed ms (waits i c n ∷ ts) pc again ≡ else_line ∷ again i (waits i c 4 ∷ ts) (suc pc)
  unfolding resumed else_lines others
  resumed_else e = let z : pc + 1 ≡ suc pc = omega arith in rw (e, z)

  pub resumed_part : n ≤ 2 → resumed ms (waits i c n ∷ ts) pc again ≡ again i (others ms i c n ts) pc
  unfolding resumed else_lines
  resumed_part h = let z : pc + 0 ≡ pc = omega arith in rw (le-ltb 3 n (omega arith), ne_eqb n 3 (λ e. omega arith), z)

module _ (ms : List ℤ) (w : ℤ) (ws : List ℤ) (on : (s i : ℕ) (ts : List Waiting) (pc : ℕ) → Made ms false s ts pc ws (lines_from ms s i ts pc ws)) where
  after_made : (s : ℕ) (ts : List Waiting) (pc : ℕ) → Made ms true s ts pc ws (resumed ms ts pc (λ j us q. lines_from ms s j us q ws))
  unfolding resumed
  after_made s [] pc = after_end_lem
  after_made s (waits i c n ∷ ts) pc = go (kinds n) (after_made s ts (suc pc))
    where
      go : Kinds n → Made ms true s ts (suc pc) ws (resumed ms ts (suc pc) (λ j us q. lines_from ms s j us q ws))
          → Made ms true s (waits i c n ∷ ts) pc ws (resumed ms (waits i c n ∷ ts) pc (λ j us q. lines_from ms s j us q ws))
      go (is_end h) a = rw (resumed_end ms i c n ts pc (λ j us q. lines_from ms s j us q ws) h) (after_close h a)
      go (is_else e) a = rw (resumed_else ms i c n ts pc (λ j us q. lines_from ms s j us q ws) e, e) (after_else (on s i (waits i c 4 ∷ ts) (suc pc)))
      go (is_part h) a = rw (resumed_part ms i c n ts pc (λ j us q. lines_from ms s j us q ws) h) (after_part h (on s i (others ms i c n ts) pc))

  strip_made : (k o i : ℕ) (ts : List Waiting) (pc : ℕ) → o ≤ 7 → Made ms false 0 ts pc (w ∷ ws)
      (strip_lines k o i ++ (leaf_line o i (slot_of ts) ws ∷ resumed ms ts (suc (pc + length (strip_lines k o i))) (λ j us q. lines_from ms (operands_of o) j us q ws)))
  unfolding strip_lines
  strip_made k o i ts pc h = go (eqb k 0) (ltb o 4)
    where
      go : (a b : Bool) → Made ms false 0 ts pc (w ∷ ws)
          (cond a [] (cond b (line 1 0 0 i (pos 0) ∷ []) []) ++ (leaf_line o i (slot_of ts) ws
          ∷ resumed ms ts (suc (pc + length (cond a [] (cond b (line 1 0 0 i (pos 0) ∷ []) [])))) (λ j us q. lines_from ms (operands_of o) j us q ws)))
      go true b = let e : pc + 0 ≡ pc = omega arith in rw e (made_leaf (operands_of o) o i h (after_made (operands_of o) ts (suc pc)))
      go false true = let e : pc + 1 ≡ suc pc = omega arith in rw e (made_leaf_two (operands_of o) o i h (after_made (operands_of o) ts (suc (suc pc))))
      go false false = let e : pc + 0 ≡ pc = omega arith in rw e (made_leaf (operands_of o) o i h (after_made (operands_of o) ts (suc pc)))

  tag_made : (k o i : ℕ) → k ≡ tag_at ms i → o ≡ op_of (tag_z w) k → (ts : List Waiting) (pc : ℕ) → Made ms false 0 ts pc (w ∷ ws) (lines_from ms 0 i ts pc (w ∷ ws))
  unfolding divided
  tag_made k o i g x ts pc = go (ltb 7 o) refl
    where
      go : (b : Bool) → ltb 7 o ≡ b → Made ms false 0 ts pc (w ∷ ws) (lines_from ms 0 i ts pc (w ∷ ws))
      go true l = rw (lines_split ms i w k o g x l ts pc ws) (made_divided o i (second_under ms o i) (reserving_is o ws (rw x (op_both (tag_z w) k).1))
          (on (operands_of o) (first_under o i) (waits (second_under ms o i) (slot_by o pc ts) (behind_by o (reserved_by o ws)) ∷ ts) (suc (pc + reserved_by o ws))))
      go false l = rw (lines_leaf ms i w k o g x l ts pc ws) (strip_made k o i ts pc (ltb-false 7 o l))

pub made : (ms : List ℤ) (ws : List ℤ) (s i : ℕ) (ts : List Waiting) (pc : ℕ) → Made ms false s ts pc ws (lines_from ms s i ts pc ws)
unfolding lines_from
made ms [] s i ts pc = made_end
made ms (w ∷ ws) zero i ts pc = tag_made ms w ws (made ms ws) (tag_at ms i) (op_of (tag_z w) (tag_at ms i)) i refl refl ts pc
made ms (w ∷ ws) (suc s) i ts pc = made_skip (made ms ws s i ts pc)
