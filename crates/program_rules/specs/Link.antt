-- Where the next state stands: the second pass of the compiler, from the last line to the first.
use Rattle.std.specs.Prelude.{ℕ, zero, suc, ◌+◌, Bool, true, false, cond, ◌||◌, List, [], ◌∷◌, get_or, set, eqb}
use Rattle.tables.specs.Line.{Columns, aimed}
use Rattle.tables.specs.declared.line.Line.{Line}
use Rattle.program_rules.specs.Lines.{binding}

-- `to` of a line that drops an atom is the place where the next atom stands: the next place, unless that is between the sides of an or or after the
-- second, where no state stands. Of an or it is the first place of the second side; of a not the place where the next atom after it stands.

-- A line that ends an or or the search inside a not keeps a place for the line that begins it; that line takes it. Between the sides of an or one is
-- taken and another kept.
unfoldable pub keeps : (op : ℕ) → Bool
keeps o = eqb o 17 || (eqb o 18 || eqb o 19)

unfoldable pub takes : (op : ℕ) → Bool
takes o = eqb o 15 || (eqb o 16 || eqb o 18)

unfoldable pub top : List ℕ → ℕ
top [] = 0
top (x ∷ xs) = x

unfoldable pub under : List ℕ → List ℕ
under [] = []
under (x ∷ xs) = xs

-- At a line `op` at the place pc, `land` being where a state stands that comes to the next place, and xs the places kept: the line's `to`, where a state
-- stands that comes to this place, and the places kept then.
unfoldable pub to_by : (op land : ℕ) → (xs : List ℕ) → ℕ
unfolding takes top
to_by o land xs = cond (takes o) (top xs) land

unfoldable pub land_by : (op pc land : ℕ) → (xs : List ℕ) → ℕ
unfolding top
land_by o pc land xs = cond (eqb o 18) (top xs) (cond (eqb o 19) land pc)

unfoldable pub kept_by : (op pc land : ℕ) → (xs : List ℕ) → List ℕ
unfolding keeps takes under
kept_by o pc land xs = cond (keeps o) (cond (eqb o 18) (suc pc) land ∷ cond (takes o) (under xs) xs) (cond (takes o) (under xs) xs)

-- Of the lines from the place pc on.
pub record Linked : Type 0 where
  pub land : ℕ
  pub kept : List ℕ
  pub tos : List ℕ

abbrev pub linked : ℕ → List ℕ → List ℕ → Linked
linked l k t = record { land = l; kept = k; tos = t }

unfoldable pub linked_by : (op pc : ℕ) → Linked → Linked
unfolding to_by land_by kept_by
linked_by o pc r = linked (land_by o pc r.land r.kept) (kept_by o pc r.land r.kept) (to_by o r.land r.kept ∷ r.tos)

unfoldable pub link_from : (pc : ℕ) → (ops : List ℕ) → Linked
unfolding linked_by
link_from pc [] = linked pc [] []
link_from pc (o ∷ os) = linked_by o pc (link_from (suc pc) os)

-- The numbers from a place of the array on; every other entry is what it was.
unfoldable pub placed : (pc : ℕ) → List ℕ → List ℕ → List ℕ
placed pc [] to = to
placed pc (x ∷ xs) to = placed (suc pc) xs (set to pc x)

-- ---- Of the lines of a program.

unfoldable pub tos_by : (ops : List ℕ) → List ℕ
unfolding link_from
tos_by os = (link_from 0 os).tos

unfoldable pub ops_of : List Line → List ℕ
ops_of [] = []
ops_of (l ∷ ls) = l.op ∷ ops_of ls

unfoldable pub tos_of : List Line → List ℕ
unfolding tos_by ops_of
tos_of ls = tos_by (ops_of ls)

-- The same read from their array, n of them from the place pc on.
unfoldable pub ops_in : (op : List ℕ) (pc n : ℕ) → List ℕ
ops_in op pc zero = []
ops_in op pc (suc n) = get_or op pc 0 ∷ ops_in op (suc pc) n

-- A table of n lines with these places.
unfoldable pub linked_in : (lines : ℕ) → Columns → Columns
unfolding tos_by ops_in placed aimed
linked_in n t = aimed (placed 0 (tos_by (ops_in t.op 0 n)) t.to) t

-- How many variables: a row has so many values.
unfoldable pub bindings_in : (ops : List ℕ) → ℕ
unfolding binding
bindings_in [] = 0
bindings_in (o ∷ os) = binding o + bindings_in os
