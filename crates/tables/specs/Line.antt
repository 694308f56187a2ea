-- The lines of a program as one list of numbers, and the columns that are read from it.
use Rattle.std.specs.Prelude.{ℕ, ◌+◌, ◌*◌, List, [], ◌∷◌, drop, set, replicate, ℤ}
use Rattle.std.specs.Int.{w32}
use Rattle.std.proofs.Common.{to_z}
use Rattle.words.specs.Words.{entries}
use Rattle.tables.specs.Section.{section}
use Rattle.tables.specs.declared.line.Line.{Line}

-- A column for each number of a line, and one for the places where the next states stand.
pub record Columns : Type 0 where
  pub op : List ℕ
  pub from : List ℕ
  pub arg : List ℕ
  pub mat : List ℕ
  pub con : List ℤ
  pub to : List ℕ

abbrev pub columns : (op from arg mat : List ℕ) → (con : List ℤ) → (to : List ℕ) → Columns
columns o f a i c n = record { op = o; from = f; arg = a; mat = i; con = c; to = n }

-- A line at the place pc; and where the next state stands, which a line alone does not tell.
unfoldable pub written : (pc : ℕ) → Line → Columns → Columns
written pc l t =
    columns (set t.op pc l.op) (set t.from pc l.from) (set t.arg pc l.arg) (set t.mat pc l.mat) (set t.con pc l.con) t.to

unfoldable pub aimed : (to : List ℕ) → Columns → Columns
aimed n t = columns t.op t.from t.arg t.mat t.con n

-- Other numbers in `arg`.
unfoldable pub named : (arg : List ℕ) → Columns → Columns
named a t = columns t.op t.from a t.mat t.con t.to

-- ---- The sections of the list: op, arg, mat, from, to; then the constants, each in two halves of its bits, the low one first.

abbrev pub halves : (low high : ℕ) → ℕ
halves l h = l + 65536 * h

unfoldable pub constants : List ℕ → List ℤ
constants [] = []
constants (l ∷ []) = []
constants (l ∷ (h ∷ t)) = to_z w32 (halves l h) ∷ constants t

unfoldable pub columns_of : List ℕ → Columns
unfolding section constants
columns_of t = columns (section entries 0 t) (section entries 3 t) (section entries 1 t) (section entries 2 t) (constants (drop (5 * entries) t)) (section entries 4 t)

-- Before a program is laid.
abbrev pub no_lines : List ℕ
no_lines = replicate (7 * entries) 0
