-- Laws of the table of lines: what is read from a column is what stands in the list, and a line that is put in its place.
use Rattle.std.specs.Prelude.{ℕ, zero, suc, ◌+◌, ◌*◌, ◌<◌, ◌≤◌, ◌%◌, ◌/◌, ◌≡◌, refl, List, [], ◌∷◌, length, drop, get_or, set, replicate, ℤ, pos}
use Rattle.std.proofs.Common.{arith, sym, ap, ◌∙◌, get_or-drop, drop-set-lt, to_z, of_z, Fits, SFits, to_z-of_z}
use Rattle.std.proofs.lemmas.List.{drop-set-add}
use Rattle.std.specs.Int.{w32}
use Rattle.words.specs.Words.{entries}
use Rattle.tables.specs.declared.line.Line.{Line}
use Rattle.tables.specs.Section.{section, section_at, section_put, section_after, section_before, drop_zeros, section_zeros}
use Rattle.tables.specs.Line.{columns, halves, constants, columns_of, written, aimed, named, no_lines}

-- ---- The constants.

pub constants_at : (t : List ℕ) (i : ℕ) → i < length (constants t) → get_or (constants t) i (pos 0) ≡ to_z w32 (halves (get_or t (2 * i) 0) (get_or t (2 * i + 1) 0))
unfolding constants
constants_at [] i h = absurd (omega arith)
constants_at (l ∷ []) i h = absurd (omega arith)
constants_at (l ∷ (u ∷ t)) zero h = refl
constants_at (l ∷ (u ∷ t)) (suc i) h =
    let a : 2 * suc i ≡ suc (suc (2 * i)) = omega arith in
    let b : 2 * suc i + 1 ≡ suc (suc (2 * i + 1)) = omega arith in
    rw (b, a) (constants_at t i (omega arith))

pub constants_put : (t : List ℕ) (i l u : ℕ) → constants (set (set t (2 * i) l) (2 * i + 1) u) ≡ set (constants t) i (to_z w32 (halves l u))
unfolding constants
constants_put [] i l u = refl
constants_put (x ∷ []) zero l u = refl
constants_put (x ∷ []) (suc i) l u =
    let a : 2 * suc i ≡ suc (suc (2 * i)) = omega arith in
    let b : 2 * suc i + 1 ≡ suc (suc (2 * i + 1)) = omega arith in
    rw (b, a) refl
constants_put (x ∷ (y ∷ t)) zero l u = refl
constants_put (x ∷ (y ∷ t)) (suc i) l u =
    let a : 2 * suc i ≡ suc (suc (2 * i)) = omega arith in
    let b : 2 * suc i + 1 ≡ suc (suc (2 * i + 1)) = omega arith in
    rw (b, a) (ap (λ z. to_z w32 (halves x y) ∷ z) (constants_put t i l u))

-- ---- The table: its columns read back, and a line put in its place.

pub arg_at : (t : List ℕ) (pc : ℕ) → pc < entries → get_or t (entries + pc) 0 ≡ get_or (columns_of t).arg pc 0
unfolding columns_of
arg_at t pc h = sym (section_at entries 1 t pc h)

pub op_at : (t : List ℕ) (pc : ℕ) → pc < entries → get_or t pc 0 ≡ get_or (columns_of t).op pc 0
unfolding columns_of
op_at t pc h = let e : 0 + pc ≡ pc = omega arith in sym (rw e at (section_at entries 0 t pc h))

pub mat_at : (t : List ℕ) (pc : ℕ) → pc < entries → get_or t (2 * entries + pc) 0 ≡ get_or (columns_of t).mat pc 0
unfolding columns_of
mat_at t pc h = sym (section_at entries 2 t pc h)

pub from_at : (t : List ℕ) (pc : ℕ) → pc < entries → get_or t (3 * entries + pc) 0 ≡ get_or (columns_of t).from pc 0
unfolding columns_of
from_at t pc h = sym (section_at entries 3 t pc h)

pub to_at : (t : List ℕ) (pc : ℕ) → pc < entries → get_or t (4 * entries + pc) 0 ≡ get_or (columns_of t).to pc 0
unfolding columns_of
to_at t pc h = sym (section_at entries 4 t pc h)

pub con_at : (t : List ℕ) (pc : ℕ) → pc < length (columns_of t).con
    → to_z w32 (halves (get_or t (5 * entries + 2 * pc) 0) (get_or t (5 * entries + 2 * pc + 1) 0)) ≡ get_or (columns_of t).con pc (pos 0)
unfolding columns_of
con_at t pc h =
    let a = get_or-drop (5 * entries) t (2 * pc) 0 in
    let b = get_or-drop (5 * entries) t (2 * pc + 1) 0 in
    let d : 5 * entries + (2 * pc + 1) ≡ 5 * entries + 2 * pc + 1 = omega arith in
    sym (constants_at (drop (5 * entries) t) pc h ∙ rw (a, b, d))

pub to_put : (t : List ℕ) (pc v : ℕ) → pc < entries → columns_of (set t (4 * entries + pc) v) ≡ aimed (set (columns_of t).to pc v) (columns_of t)
unfolding columns_of aimed
to_put t pc v h =
    rw (
      section_before entries 0 t (4 * entries + pc) v (omega arith),
      section_before entries 1 t (4 * entries + pc) v (omega arith),
      section_before entries 2 t (4 * entries + pc) v (omega arith),
      section_before entries 3 t (4 * entries + pc) v (omega arith),
      section_put entries 4 t pc v h,
      drop-set-lt (5 * entries) t (4 * entries + pc) v (omega arith),
    )

pub arg_named : (t : List ℕ) (pc v : ℕ) → pc < entries → columns_of (set t (entries + pc) v) ≡ named (set (columns_of t).arg pc v) (columns_of t)
unfolding columns_of named
arg_named t pc v h =
    rw (
      section_before entries 0 t (entries + pc) v (omega arith),
      section_put entries 1 t pc v h,
      section_after entries 2 t (entries + pc) v (omega arith),
      section_after entries 3 t (entries + pc) v (omega arith),
      section_after entries 4 t (entries + pc) v (omega arith),
      drop-set-lt (5 * entries) t (entries + pc) v (omega arith),
    )

-- The four numbers of a line that stand in sections, put one after the other.
abbrev pub numbers_put : (t : List ℕ) (pc o a i f : ℕ) → List ℕ
numbers_put t pc o a i f = set (set (set (set t pc o) (entries + pc) a) (2 * entries + pc) i) (3 * entries + pc) f

module _ (t : List ℕ) (pc o a i f : ℕ) (h : pc < entries) where
  abbrev t1 : List ℕ
  t1 = set t pc o

  abbrev t2 : List ℕ
  t2 = set t1 (entries + pc) a

  abbrev t3 : List ℕ
  t3 = set t2 (2 * entries + pc) i

  op_put : section entries 0 (numbers_put t pc o a i f) ≡ set (section entries 0 t) pc o
  op_put =
      section_before entries 0 t3 (3 * entries + pc) f (omega arith)
      ∙ section_before entries 0 t2 (2 * entries + pc) i (omega arith)
      ∙ section_before entries 0 t1 (entries + pc) a (omega arith)
      ∙ (let e : 0 + pc ≡ pc = omega arith in rw e at (section_put entries 0 t pc o h))

  arg_put : section entries 1 (numbers_put t pc o a i f) ≡ set (section entries 1 t) pc a
  arg_put =
      section_before entries 1 t3 (3 * entries + pc) f (omega arith)
      ∙ section_before entries 1 t2 (2 * entries + pc) i (omega arith)
      ∙ section_put entries 1 t1 pc a h
      ∙ ap (λ x. set x pc a) (section_after entries 1 t pc o (omega arith))

  mat_put : section entries 2 (numbers_put t pc o a i f) ≡ set (section entries 2 t) pc i
  mat_put =
      section_before entries 2 t3 (3 * entries + pc) f (omega arith)
      ∙ section_put entries 2 t2 pc i h
      ∙ ap (λ x. set x pc i) (section_after entries 2 t1 (entries + pc) a (omega arith) ∙ section_after entries 2 t pc o (omega arith))

  from_put : section entries 3 (numbers_put t pc o a i f) ≡ set (section entries 3 t) pc f
  from_put =
      section_put entries 3 t3 pc f h
      ∙ ap (λ x. set x pc f) (section_after entries 3 t2 (2 * entries + pc) i (omega arith)
      ∙ section_after entries 3 t1 (entries + pc) a (omega arith)
      ∙ section_after entries 3 t pc o (omega arith))

  to_kept : section entries 4 (numbers_put t pc o a i f) ≡ section entries 4 t
  to_kept =
      section_after entries 4 t3 (3 * entries + pc) f (omega arith)
      ∙ section_after entries 4 t2 (2 * entries + pc) i (omega arith)
      ∙ section_after entries 4 t1 (entries + pc) a (omega arith)
      ∙ section_after entries 4 t pc o (omega arith)

  con_kept : drop (5 * entries) (numbers_put t pc o a i f) ≡ drop (5 * entries) t
  con_kept =
      drop-set-lt (5 * entries) t3 (3 * entries + pc) f (omega arith)
      ∙ drop-set-lt (5 * entries) t2 (2 * entries + pc) i (omega arith)
      ∙ drop-set-lt (5 * entries) t1 (entries + pc) a (omega arith)
      ∙ drop-set-lt (5 * entries) t pc o (omega arith)

-- The two halves of a constant.
abbrev pub constant_put : (t : List ℕ) (pc l u : ℕ) → List ℕ
constant_put t pc l u = set (set t (5 * entries + 2 * pc) l) (5 * entries + 2 * pc + 1) u

section_kept : (c : ℕ) (t : List ℕ) (pc l u : ℕ) → c ≤ 4 → section entries c (constant_put t pc l u) ≡ section entries c t
section_kept c t pc l u h =
    section_before entries c (set t (5 * entries + 2 * pc) l) (5 * entries + 2 * pc + 1) u (omega arith) ∙ section_before entries c t (5 * entries + 2 * pc) l (omega arith)

con_put : (t : List ℕ) (pc l u : ℕ)
    → constants (drop (5 * entries) (constant_put t pc l u)) ≡ set (constants (drop (5 * entries) t)) pc (to_z w32 (halves l u))
con_put t pc l u =
    let d : 5 * entries + 2 * pc + 1 ≡ 5 * entries + (2 * pc + 1) = omega arith in
    rw (d, drop-set-add (5 * entries) (set t (5 * entries + 2 * pc) l) (2 * pc + 1) u, drop-set-add (5 * entries) t (2 * pc) l)
    (constants_put (drop (5 * entries) t) pc l u)

-- A word is what the halves of its bits give.
pub halves_of : (z : ℤ) (b : ℕ) → SFits w32 z → Fits w32 b → b ≡ of_z w32 z → to_z w32 (halves (b % 65536) (b / 65536 % 65536)) ≡ z
halves_of z b f g e =
    let l = g.fits in
    let k : halves (b % 65536) (b / 65536 % 65536) ≡ b = omega arith in
    ap (to_z w32) (k ∙ e) ∙ to_z-of_z f

module _ (t : List ℕ) (pc l u : ℕ) (x : Line) (h : pc < entries) where
  abbrev t' : List ℕ
  t' = numbers_put t pc x.op x.arg x.mat x.from

  pub line_put : to_z w32 (halves l u) ≡ x.con → columns_of (constant_put t' pc l u) ≡ written pc x (columns_of t)
  unfolding columns_of written
  line_put e =
      rw (
        section_kept 0 t' pc l u (omega arith),
        section_kept 1 t' pc l u (omega arith),
        section_kept 2 t' pc l u (omega arith),
        section_kept 3 t' pc l u (omega arith),
        section_kept 4 t' pc l u (omega arith),
        con_put t' pc l u,
        op_put t pc x.op x.arg x.mat x.from h,
        arg_put t pc x.op x.arg x.mat x.from h,
        mat_put t pc x.op x.arg x.mat x.from h,
        from_put t pc x.op x.arg x.mat x.from h,
        con_kept t pc x.op x.arg x.mat x.from h,
        to_kept t pc x.op x.arg x.mat x.from h,
        e,
      )

-- ---- Before a program is laid: zeros.

constants_zeros : (n : ℕ) → constants (replicate (2 * n) 0) ≡ replicate n (pos 0)
unfolding constants
constants_zeros zero = refl
constants_zeros (suc n) = let e : 2 * suc n ≡ suc (suc (2 * n)) = omega arith in rw e (ap (λ l. pos 0 ∷ l) (constants_zeros n))

zeros : (n : ℕ) → n ≡ 7 * entries
    → columns_of (replicate n 0)
    ≡ columns (replicate entries 0) (replicate entries 0) (replicate entries 0) (replicate entries 0) (replicate entries (pos 0)) (replicate entries 0)
unfolding columns_of
zeros n e =
    let g : n ≡ 2 * entries + 5 * entries = omega arith in
    let d : drop {A = ℕ} (5 * entries) (replicate n 0) ≡ replicate (2 * entries) 0 = rw g (drop_zeros (5 * entries) (2 * entries)) in
    rw (
      section_zeros entries 0 n (6 * entries) (omega arith),
      section_zeros entries 1 n (5 * entries) (omega arith),
      section_zeros entries 2 n (4 * entries) (omega arith),
      section_zeros entries 3 n (3 * entries) (omega arith),
      section_zeros entries 4 n (2 * entries) (omega arith),
      d,
      constants_zeros entries,
    )

pub no_lines_lem : columns_of no_lines
    ≡ columns (replicate entries 0) (replicate entries 0) (replicate entries 0) (replicate entries 0) (replicate entries (pos 0)) (replicate entries 0)
no_lines_lem = zeros (7 * entries) refl
