-- The numbers of every line are in range, whatever the words: so many lines, the variable below 16, the slot of an earlier line; and after a tuple's
-- line come those that are reserved.
use Rattle.std.specs.Prelude.{ℕ, zero, suc, ◌+◌, ◌-◌, ◌*◌, ◌%◌, ◌<◌, ◌≤◌, ◌≡◌, refl, Bool, true, false, cond, List, [], ◌∷◌, ◌++◌, eqb, ltb, length, get_or, ℤ, pos}
use Rattle.std.proofs.Common.{arith, ap, lt-ltb, le-ltb, ne_eqb, length-append}
use Rattle.words.specs.Words.{tag_at}
use Rattle.tables.specs.declared.line.Line.{Line}
use Rattle.program_rules.specs.Lines.{line, end_line, else_line, fi_line, cut_line, reserved_line, reserved_lines, operands_of, arg_of, leaf_line}
use Rattle.program_rules.specs.Lines.{Waiting, waits, slot_of, from_by, slot_by, behind_by, others, close_line, lines_of}
use Rattle.program_rules.specs.Made.{cond_le, Reserving, reserving_none, reserving, Made, made_end, made_skip, made_divided, made_leaf, made_leaf_two, after_end_lem, after_close, after_else, after_part, made}

-- ---- How many.

-- Twice the number of lines that are sure to come for what waits, with half a line more for the second side of an or.
unfoldable pub heavy : (n : ℕ) → ℕ
heavy n = cond (ltb 3 n) 2 (cond (eqb n 3) 3 0)

unfoldable pub weight : List Waiting → ℕ
unfolding heavy
weight [] = 0
weight (waits i c n ∷ ts) = heavy n + weight ts

pub heavy_most : (n : ℕ) → heavy n ≤ 3
unfolding heavy
heavy_most n = cond_le (ltb 3 n) 2 _ (omega arith) (cond_le (eqb n 3) 3 0 (omega arith) (omega arith))

pub heavy_end : (n : ℕ) → 3 < n → heavy n ≡ 2
unfolding heavy
heavy_end n h = rw (lt-ltb 3 n h)

pub heavy_part : (n : ℕ) → n ≤ 2 → heavy n ≡ 0
unfolding heavy
heavy_part n h = rw (le-ltb 3 n (omega arith), ne_eqb n 3 (λ e. omega arith))

pub weight_one : (i c n : ℕ) (ts : List Waiting) → weight (waits i c n ∷ ts) ≡ heavy n + weight ts
unfolding weight
weight_one i c n ts = refl

-- A part that waits no longer leaves nothing that weighs.
pub weight_others : (ms : List ℤ) (i c n : ℕ) (ts : List Waiting) → n ≤ 2 → weight (others ms i c n ts) ≡ weight ts
unfolding weight others
weight_others ms i c zero ts h = refl
weight_others ms i c (suc n) ts h = rw (ne_eqb n 2 (λ e. omega arith), heavy_part n (omega arith)) (omega arith)

pub reserved_length : (n : ℕ) → length (reserved_lines n) ≡ n
unfolding reserved_lines
reserved_length zero = refl
reserved_length (suc n) = ap suc (reserved_length n)

room_made : {o n s : ℕ} {ws : List ℤ} → Reserving o n s ws → 2 * n + 5 * (length ws - s) ≤ 5 * length ws
room_made (reserving_none l) = omega arith
room_made (reserving l e) = omega arith

made_few : {ms : List ℤ} {a : Bool} {s : ℕ} {ts : List Waiting} {pc : ℕ} {ws : List ℤ} {ls : List Line} → Made ms a s ts pc ws ls
    → 2 * length ls ≤ 5 * (length ws - s) + weight ts + cond a 3 2
unfolding weight heavy
made_few made_end = omega arith
made_few (made_skip h) = let r = made_few h in omega arith
made_few (made_divided {ls = ls} o i u {n = n} q h) =
    let r = made_few h in
    let a = room_made q in
    let b = reserved_length n in
    let c = length-append (reserved_lines n) ls in
    let d = heavy_most (behind_by o n) in
    omega arith
made_few (made_leaf s o i l h) = let r = made_few h in omega arith
made_few (made_leaf_two s o i l h) = let r = made_few h in omega arith
made_few after_end_lem = omega arith
made_few (after_close {n = n} l h) = let r = made_few h in let e = heavy_end n l in omega arith
made_few (after_else h) = let r = made_few h in omega arith
made_few {ms} (after_part {i = i} {c = c} {n = n} {ts = ts} l h) = let r = made_few h in let e = weight_others ms i c n ts l in let f = heavy_part n l in omega arith

-- 256 words have at most 641 lines, the end among them.
pub lines_few : (ms ps : List ℤ) → length ps ≤ 256 → length (lines_of ms ps) ≤ 641
unfolding lines_of weight
lines_few ms ps h = let r = made_few (made ms ps 0 0 [] 0) in omega arith

-- ---- Every line: its slot is that of an earlier line or 0, and it names one of 16 variables.

pub record Small (pc : ℕ) (l : Line) : Type 0 where
  pub from : l.from ≤ pc
  pub arg : l.arg < 16

-- So many slots after its own are those of parts behind it.
unfoldable pub few : (n : ℕ) → ℕ
few n = cond (ltb n 3) n 0

pub few_part : (n : ℕ) → n ≤ 2 → few n ≡ n
unfolding few
few_part n h = rw (lt-ltb n 3 (omega arith))

pub few_other : (n : ℕ) → 3 ≤ n → few n ≡ 0
unfolding few
few_other n h = rw (le-ltb n 3 h)

-- What waits has its slots before pc.
data Before : ℕ → List Waiting → Type 0 where
  before_none : {pc : ℕ} → Before pc []
  before : {pc i c n : ℕ} {ts : List Waiting} → c + few n < pc → Before pc ts → Before pc (waits i c n ∷ ts)

grows : {pc q : ℕ} {ts : List Waiting} → pc ≤ q → Before pc ts → Before q ts
grows l before_none = before_none
grows {q = q} l (before {c = c} {n = n} h b) = let g : c + few n < q = omega arith in before g (grows l b)

before_others : (ms : List ℤ) (j c n : ℕ) {pc : ℕ} {ts : List Waiting} → n ≤ 2 → c + few n < pc → Before pc ts → Before pc (others ms j c n ts)
unfolding others
before_others ms j c zero l h b = b
before_others ms j c (suc n) {pc} l h b =
    let e = few_part (suc n) l in
    let f = few_part n (omega arith) in
    let g : suc c + few n < pc = omega arith in
    rw (ne_eqb n 2 (λ y. omega arith)) (before g b)

slot_before : {pc : ℕ} {ts : List Waiting} → Before pc ts → slot_of ts ≤ pc
unfolding slot_of
slot_before before_none = omega arith
slot_before (before h b) = omega arith

-- The slot and the number of what a tag with parts leaves waiting, at the place pc with n places reserved.
pub by_few : (o pc n : ℕ) (ts : List Waiting) → slot_of ts ≤ pc → n ≤ 2 → slot_by o pc ts + few (behind_by o n) ≤ pc + n
unfolding slot_by behind_by few
by_few o pc n ts h l = go (eqb o 15) (eqb o 16)
  where
    go : (a b : Bool) → cond a (slot_of ts) pc + few (cond a 3 (cond b 5 n)) ≤ pc + n
    go true b = omega arith
    go false true = omega arith
    go false false = let e = few_part n l in omega arith

arg_small : (n : ℕ) (ws : List ℤ) → arg_of n ws < 16
unfolding arg_of
arg_small n ws = go (eqb n 0)
  where
    go : (b : Bool) → cond b 0 (tag_at ws 0 % 16) < 16
    go true = omega arith
    go false = omega arith

leaf_small : {pc : ℕ} (o i f : ℕ) (ws : List ℤ) → f ≤ pc → Small pc (leaf_line o i f ws)
unfolding leaf_line
leaf_small o i f ws l = record { from = l; arg = arg_small (operands_of o) ws }

zero_small : {pc : ℕ} (l : Line) → l.from ≡ 0 → l.arg ≡ 0 → Small pc l
zero_small l e g = record { from = omega arith; arg = omega arith }

end_small : (pc j : ℕ) → Small pc (get_or (end_line ∷ []) j end_line)
end_small pc zero = zero_small end_line refl refl
end_small pc (suc j) = zero_small end_line refl refl

up : {a b : ℕ} {l : Line} → a ≤ b → Small a l → Small b l
up h s = let f = s.from in record { from = omega arith; arg = s.arg }

reserved_small : (n : ℕ) (ls : List Line) (pc : ℕ) → ((j : ℕ) → Small (pc + n + j) (get_or ls j end_line)) → (j : ℕ) → Small (pc + j) (get_or (reserved_lines n ++ ls) j end_line)
unfolding reserved_lines
reserved_small zero ls pc h j = let e : pc + 0 + j ≡ pc + j = omega arith in rw e at (h j)
reserved_small (suc n) ls pc h zero = zero_small reserved_line refl refl
reserved_small (suc n) ls pc h (suc j) =
    up {a = suc pc + j} (omega arith) (reserved_small n ls (suc pc) (λ i. let e : pc + suc n + i ≡ suc pc + n + i = omega arith in rw e at (h i)) j)

close_small : {pc : ℕ} (n c : ℕ) → c ≤ pc → Small pc (close_line n c)
unfolding close_line
close_small {pc} n c h = go (eqb n 4)
  where
    go : (b : Bool) → Small pc (cond b fi_line (cut_line c))
    go true = zero_small fi_line refl refl
    go false = record { from = h; arg = omega arith }

divided_small : {pc : ℕ} (o n i : ℕ) (ts : List Waiting) → slot_of ts ≤ pc → Small pc (line (o + n) (from_by o ts) 0 i (pos 0))
unfolding from_by
divided_small o n i ts h = record { from = cond_le (eqb o 16) (slot_of ts) 0 h (omega arith); arg = omega arith }

room_two : {o n s : ℕ} {ws : List ℤ} → Reserving o n s ws → n ≤ 2
room_two (reserving_none l) = omega arith
room_two (reserving l e) = l

made_small : {ms : List ℤ} {a : Bool} {s : ℕ} {ts : List Waiting} {pc : ℕ} {ws : List ℤ} {ls : List Line} → Before pc ts → Made ms a s ts pc ws ls
    → (j : ℕ) → Small (pc + j) (get_or ls j end_line)
made_small {pc = pc} b made_end j = end_small (pc + j) j
made_small b (made_skip h) j = made_small b h j
made_small {ts = ts} b (made_divided o i u {n = n} q h) zero = let e = slot_before b in divided_small o n i ts (omega arith)
made_small {ts = ts} {pc = pc} b (made_divided {ls = ls} o i u {n = n} q h) (suc j) =
    let f = by_few o pc n ts (slot_before b) (room_two q) in
    let l : slot_by o pc ts + few (behind_by o n) < suc (pc + n) = omega arith in
    let e : suc (pc + n) ≡ suc pc + n = omega arith in
    up {a = suc pc + j} (omega arith) (reserved_small n ls (suc pc) (λ k. rw e at (made_small (before l (grows (omega arith) b)) h k)) j)
made_small {ts = ts} b (made_leaf {ws = ws} s o i l h) zero = let e = slot_before b in leaf_small o i (slot_of ts) ws (omega arith)
made_small {pc = pc} b (made_leaf s o i l h) (suc j) = up {a = suc pc + j} (omega arith) (made_small (grows (omega arith) b) h j)
made_small b (made_leaf_two s o i l h) zero = zero_small (line 1 0 0 i (pos 0)) refl refl
made_small {ts = ts} b (made_leaf_two {ws = ws} s o i l h) (suc zero) = let e = slot_before b in leaf_small o i (slot_of ts) ws (omega arith)
made_small {pc = pc} b (made_leaf_two s o i l h) (suc (suc j)) = up {a = suc (suc pc) + j} (omega arith) (made_small (grows (omega arith) b) h j)
made_small {pc = pc} b after_end_lem j = end_small (pc + j) j
made_small (before g b) (after_close {c = c} {n = n} l h) zero = close_small n c (omega arith)
made_small {pc = pc} (before g b) (after_close l h) (suc j) = up {a = suc pc + j} (omega arith) (made_small (grows (omega arith) b) h j)
made_small b (after_else h) zero = zero_small else_line refl refl
made_small {pc = pc} (before g b) (after_else {c = c} h) (suc j) =
    let e = few_other 4 (omega arith) in
    let f : c + few 4 < suc pc = omega arith in
    up {a = suc pc + j} (omega arith) (made_small (before f (grows (omega arith) b)) h j)
made_small {ms} (before g b) (after_part {i = i} {c = c} {n = n} l h) j = made_small (before_others ms i c n l g b) h j

pub line_small : (ms ps : List ℤ) (pc : ℕ) → Small pc (get_or (lines_of ms ps) pc end_line)
unfolding lines_of
line_small ms ps pc = up {a = 0 + pc} (omega arith) (made_small before_none (made ms ps 0 0 [] 0) pc)

-- ---- After the line of a tuple of 2 + n parts, which has 11 + n, come n lines that are reserved.

unfoldable pub Reserved : List Line → Type 0
Reserved ls = (j k : ℕ) → 0 < k → 11 + k ≤ (get_or ls j end_line).op → (get_or ls j end_line).op ≤ 13 → (get_or ls (j + k) end_line).op ≡ 1

behind : (l : Line) (ls : List Line) → (12 ≤ l.op → 14 ≤ l.op) → Reserved ls → Reserved (l ∷ ls)
unfolding Reserved
behind l ls h r zero k z e d = let g = h (omega arith) in absurd (omega arith)
behind l ls h r (suc j) k z e d = let q : suc j + k ≡ suc (j + k) = omega arith in rw q (r j k z e d)

low : (l : Line) (ls : List Line) → l.op ≤ 11 → Reserved ls → Reserved (l ∷ ls)
low l ls h r = behind l ls (λ e. absurd (omega arith)) r

end_reserved : Reserved (end_line ∷ [])
unfolding Reserved
end_reserved zero k z e l = absurd (omega arith)
end_reserved (suc j) k z e l = absurd (omega arith)

all_reserved : (n : ℕ) (ls : List Line) → Reserved ls → Reserved (reserved_lines n ++ ls)
unfolding reserved_lines
all_reserved zero ls r = r
all_reserved (suc n) ls r = low reserved_line (reserved_lines n ++ ls) (omega arith) (all_reserved n ls r)

reserved_at : (n : ℕ) (ls : List Line) (k : ℕ) → k < n → (get_or (reserved_lines n ++ ls) k end_line).op ≡ 1
unfolding reserved_lines
reserved_at zero ls k h = absurd (omega arith)
reserved_at (suc n) ls zero h = refl
reserved_at (suc n) ls (suc k) h = reserved_at n ls k (omega arith)

divided_reserved : (o n s f i : ℕ) (ws : List ℤ) (ls : List Line) → Reserving o n s ws → Reserved ls → Reserved (line (o + n) f 0 i (pos 0) ∷ (reserved_lines n ++ ls))
unfolding Reserved reserved_lines
divided_reserved o n s f i ws ls (reserving_none l) r j k z e d =
    behind (line (o + 0) f 0 i (pos 0)) ls (let a : o + 0 ≡ o = omega arith in rw a l) r j k z e d
divided_reserved o n s f i ws ls (reserving l q) r zero zero z e d = absurd (omega arith)
divided_reserved o n s f i ws ls (reserving l q) r zero (suc k) z e d = let y : 0 + suc k ≡ suc k = omega arith in rw y (reserved_at n ls k (omega arith))
divided_reserved o n s f i ws ls (reserving l q) r (suc j) k z e d =
    let y : suc j + k ≡ suc (j + k) = omega arith in rw y (all_reserved n ls r j k z e d)

leaf_op : (o i f : ℕ) (ws : List ℤ) → o ≤ 7 → (leaf_line o i f ws).op ≤ 11
unfolding leaf_line
leaf_op o i f ws h = omega arith

close_op : (n c : ℕ) → 14 ≤ (close_line n c).op
unfolding close_line
close_op n c = go (eqb n 4)
  where
    go : (b : Bool) → 14 ≤ (cond b fi_line (cut_line c)).op
    go true = omega arith
    go false = omega arith

made_reserved : {ms : List ℤ} {a : Bool} {s : ℕ} {ts : List Waiting} {pc : ℕ} {ws : List ℤ} {ls : List Line} → Made ms a s ts pc ws ls → Reserved ls
made_reserved made_end = end_reserved
made_reserved (made_skip h) = made_reserved h
made_reserved {ts = ts} (made_divided {ws = ws} {ls = ls} o i u {n = n} {s = s} q h) = divided_reserved o n s (from_by o ts) i ws ls q (made_reserved h)
made_reserved {ts = ts} (made_leaf {ws = ws} {ls = ls} s o i l h) = low (leaf_line o i (slot_of ts) ws) ls (leaf_op o i (slot_of ts) ws l) (made_reserved h)
made_reserved {ts = ts} (made_leaf_two {ws = ws} {ls = ls} s o i l h) =
    low (line 1 0 0 i (pos 0)) _ (omega arith) (low (leaf_line o i (slot_of ts) ws) ls (leaf_op o i (slot_of ts) ws l) (made_reserved h))
made_reserved after_end_lem = end_reserved
made_reserved (after_close {c = c} {n = n} {ls = ls} l h) = behind (close_line n c) ls (λ e. close_op n c) (made_reserved h)
made_reserved (after_else {ls = ls} h) = behind else_line ls (λ e. omega arith) (made_reserved h)
made_reserved (after_part l h) = made_reserved h

pub line_reserved : (ms ps : List ℤ) → Reserved (lines_of ms ps)
unfolding lines_of
line_reserved ms ps = made_reserved (made ms ps 0 0 [] 0)
