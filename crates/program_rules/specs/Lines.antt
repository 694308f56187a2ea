-- The compiler on words: the lines of a rule's program, from the matcher's words and the pattern's.
use Rattle.std.specs.Prelude.{ℕ, zero, suc, ◌+◌, ◌-◌, ◌%◌, ◌<◌, ◌≡◌, refl, true, false, cond, List, [], ◌∷◌, ◌++◌, length, get_or, replicate, eqb, ltb, ℤ, pos}
use Rattle.std.proofs.Common.{◌∙◌, arith, ne_eqb}
use Rattle.words.specs.Words.{tag_z, tag_at}
use Rattle.tables.specs.declared.line.Line.{Line}
use Rattle.tables.specs.Line.{Columns, written}
use Rattle.matchers.specs.Places.{matcher_end}

-- ---- A line is one instruction in numbers.

-- `op`: 0 end, 1 the same atom under something, 2 drop, 3 bind, 4 constant, 5 value under integer, 6 value under another matcher, 7 nil, 8 cons under
-- a list, 9 cons under a multiset, 10 join, 11 to 13 a tuple of 2 to 4 parts, 14 and, 15 or, 16 not, 17 the end of the search inside a not, 18 between the
-- two sides of an or, 19 after the second. `from`: the slot of the value for the atom after one that is dropped or after a not; of 17, the place of its not. `arg`: the
-- variable of 3, 5 and 6. `mat`: the index of the matcher's tag in the matcher's words. `con`: the constant of 4, the number that 5 and 6 add.
abbrev pub line : ℕ → ℕ → ℕ → ℕ → ℤ → Line
line o f a i c = record { op = o; from = f; arg = a; mat = i; con = c }

abbrev pub end_line : Line
end_line = line 0 0 0 0 (pos 0)

-- Reserved for a tuple's parts beyond two: only the slot is used, no state stands there.
abbrev pub reserved_line : Line
reserved_line = line 1 0 0 0 (pos 0)

-- Between the two sides of an or, and after the second; the end of the search inside the not at j.
abbrev pub else_line : Line
else_line = line 18 0 0 0 (pos 0)

abbrev pub fi_line : Line
fi_line = line 19 0 0 0 (pos 0)

abbrev pub cut_line : (j : ℕ) → Line
cut_line j = line 17 j 0 0 (pos 0)

unfoldable pub reserved_lines : ℕ → List Line
reserved_lines zero = []
reserved_lines (suc n) = reserved_line ∷ reserved_lines n

-- ---- What a pattern's tag becomes.

-- By the pattern's tag, under a matcher with the tag k. 0: no line of a rule that was accepted.
unfoldable pub ops_under : ℕ → List ℕ
ops_under k =
    2  -- wildcard
    ∷ 3  -- variable
    ∷ 4  -- constant
    ∷ cond (eqb k 1) 5 6  -- value
    ∷ 7  -- nil
    ∷ cond (eqb k 2) 8 (cond (eqb k 3) 9 0)  -- cons
    ∷ 10  -- join
    ∷ cond (eqb k 4) 11 0  -- tuple
    ∷ 14  -- and
    ∷ 15  -- or
    ∷ 16  -- not
    ∷ []

unfoldable pub op_of : (tag k : ℕ) → ℕ
unfolding ops_under
op_of tag k = get_or (ops_under k) tag 0

-- How many operands the words have after the tag; a tuple's is its width.
unfoldable pub operands_of : (op : ℕ) → ℕ
operands_of o = cond (eqb o 11) 1 (cond (ltb o 3) 0 (cond (ltb o 5) 1 (cond (ltb o 7) 2 0)))

-- A tuple of k parts has so many beyond two; and so many places are reserved after the line of a tag with parts, before the words ws.
unfoldable pub beyond_two : (k : ℕ) → ℕ
beyond_two k = cond (eqb k 3) 1 (cond (eqb k 4) 2 0)

unfoldable pub reserved_by : (op : ℕ) → List ℤ → ℕ
unfolding beyond_two tag_at
reserved_by o ws = cond (eqb o 11) (beyond_two (tag_at ws 0)) 0

-- Of n operands the first may name a variable (of a rule that was accepted it is below 16), and the last may be the constant or the number to add.
unfoldable pub arg_of : (n : ℕ) → List ℤ → ℕ
unfolding tag_at
arg_of n ws = cond (eqb n 0) 0 (tag_at ws 0 % 16)

unfoldable pub con_of : (n : ℕ) → List ℤ → ℤ
con_of n ws = cond (eqb n 0) (pos 0) (get_or ws (n - 1) (pos 0))

-- Under a matcher with a tag k other than something's, a wildcard or a variable is first put under something.
unfoldable pub strip_lines : (k op i : ℕ) → List Line
strip_lines k o i = cond (eqb k 0) [] (cond (ltb o 4) (line 1 0 0 i (pos 0) ∷ []) [])

-- The line of a tag without parts, before the words ws.
unfoldable pub leaf_line : (op i from : ℕ) → List ℤ → Line
unfolding operands_of arg_of con_of
leaf_line o i f ws = line o f (arg_of (operands_of o) ws) i (con_of (operands_of o) ws)

-- The matcher of a first part: "cons puts its first part under M", whose words follow the tag of list M or multiset M; join puts it under list M. A
-- tuple's matchers follow its width. And, or, not stand on the same value.
unfoldable pub first_under : (op i : ℕ) → ℕ
first_under o i = cond (ltb 13 o) i (cond (eqb o 10) i (cond (eqb o 11) (i + 2) (i + 1)))

-- That of the second part: the whole's, or the tuple's next.
unfoldable pub second_under : (ms : List ℤ) (op i : ℕ) → ℕ
unfolding matcher_end
second_under ms o i = cond (eqb o 11) (matcher_end ms (i + 2)) i

-- ---- The lines from a place on.

-- A part that waits: the index of its matcher, the slot where its value will be, and how many parts of the same tuple wait behind it, each in the next
-- slot. In place of that number: 3 the second side of an or, 4 the end of an or, both with the slot of what waits below; 5 the end of the search inside
-- the not at the slot.
pub data Waiting : Type 0 where
  waits : (mat slot behind : ℕ) → Waiting

unfoldable pub slot_of : List Waiting → ℕ
slot_of [] = 0
slot_of (waits i c n ∷ ts) = c

-- The slot of the value for the atom after a not.
unfoldable pub from_by : (op : ℕ) → List Waiting → ℕ
unfolding slot_of
from_by o ts = cond (eqb o 16) (slot_of ts) 0

-- What waits when a tag with parts has been taken at the place pc, r places being reserved: its slot, and its number.
unfoldable pub slot_by : (op pc : ℕ) → List Waiting → ℕ
unfolding slot_of
slot_by o pc ts = cond (eqb o 15) (slot_of ts) pc

unfoldable pub behind_by : (op r : ℕ) → ℕ
behind_by o r = cond (eqb o 15) 3 (cond (eqb o 16) 5 r)

-- What waits when that part is no longer waiting: the next of its tuple, the end of the or whose second side it is.
unfoldable pub others : (ms : List ℤ) (i c n : ℕ) → List Waiting → List Waiting
unfolding matcher_end
others ms i c zero ts = ts
others ms i c (suc n) ts = cond (eqb n 2) (waits i c 4 ∷ ts) (waits (matcher_end ms i) (suc c) n ∷ ts)

-- The line before the second side of an or; the end of an or or of the search inside a not.
unfoldable pub else_lines : (n : ℕ) → List Line
else_lines n = cond (eqb n 3) (else_line ∷ []) []

unfoldable pub close_line : (n c : ℕ) → Line
close_line n c = cond (eqb n 4) fi_line (cut_line c)

-- What follows a tag without parts, at the place pc: the ends that wait, and then the part that waits; the end, where none does.
unfoldable pub resumed : (ms : List ℤ) → List Waiting → (pc : ℕ) → (again : ℕ → List Waiting → ℕ → List Line) → List Line
unfolding others else_lines close_line
resumed ms [] pc again = end_line ∷ []
resumed ms (waits i c n ∷ ts) pc again =
    cond (ltb 3 n) (close_line n c ∷ resumed ms ts (suc pc) again) (else_lines n ++ again i (others ms i c n ts) (pc + length (else_lines n)))

-- The lines of a tag with parts, r places being reserved, and of a tag without, at the place pc; and of what follows, of which `again skip i ts pc` has
-- the lines.
unfoldable pub divided : (ms : List ℤ) (r op i : ℕ) → List Waiting → (pc : ℕ) → (again : ℕ → ℕ → List Waiting → ℕ → List Line) → List Line
unfolding reserved_lines first_under second_under from_by slot_by behind_by operands_of
divided ms r o i ts pc again =
    line (o + r) (from_by o ts) 0 i (pos 0)
    ∷ (reserved_lines r ++ again (operands_of o) (first_under o i) (waits (second_under ms o i) (slot_by o pc ts) (behind_by o r) ∷ ts) (suc (pc + r)))

unfoldable pub taken : (ms : List ℤ) (k op i : ℕ) → List Waiting → (pc : ℕ) → List ℤ → (again : ℕ → ℕ → List Waiting → ℕ → List Line) → List Line
unfolding divided reserved_by strip_lines leaf_line slot_of resumed operands_of
taken ms k o i ts pc ws again =
    cond (ltb 7 o) (divided ms (reserved_by o ws) o i ts pc again)
    (strip_lines k o i ++ (leaf_line o i (slot_of ts) ws ∷ resumed ms ts (suc (pc + length (strip_lines k o i))) (λ j us q. again (operands_of o) j us q)))

-- After `skip` operands comes a pattern under the matcher at i, then the parts that wait.
unfoldable pub lines_from : (ms : List ℤ) (skip i : ℕ) → List Waiting → (pc : ℕ) → List ℤ → List Line
unfolding taken op_of tag_at
lines_from ms skip i ts pc [] = end_line ∷ []
lines_from ms (suc skip) i ts pc (w ∷ ws) = lines_from ms skip i ts pc ws
lines_from ms zero i ts pc (w ∷ ws) =
    taken ms (tag_at ms i) (op_of (tag_z w) (tag_at ms i)) i ts pc ws (λ skip j us q. lines_from ms skip j us q ws)

unfoldable pub lines_of : (ms ps : List ℤ) → List Line
unfolding lines_from
lines_of ms ps = lines_from ms 0 0 [] 0 ps

-- How many variables: a row has so many values.
unfoldable pub binding : (op : ℕ) → ℕ
binding o = cond (eqb o 3) 1 0

unfoldable pub variables_in : List Line → ℕ
unfolding binding
variables_in [] = 0
variables_in (l ∷ ls) = binding l.op + variables_in ls

-- A tag with parts is no variable.
pub binding_none : (o : ℕ) → 7 < o → binding o ≡ 0
unfolding binding
binding_none o h = rw (ne_eqb o 3 (λ e. omega arith))

-- ---- The program lies in a table, a column for each field of a line.

-- The lines from a place on; every other entry is what it was.
unfoldable pub laid : ℕ → List Line → Columns → Columns
unfolding written
laid pc [] t = t
laid pc (l ∷ ls) t = laid (suc pc) ls (written pc l t)

-- An array of one value has it at every index, and beyond its end.
pub get_d_same : {A : Type 0} (n i : ℕ) (a : A) → get_or (replicate n a) i a ≡ a
get_d_same zero i a = refl
get_d_same (suc n) zero a = refl
get_d_same (suc n) (suc i) a = get_d_same n i a

-- ---- The lines by the tag of the first word, as the code takes it.

lines_word : (ms : List ℤ) (i : ℕ) (ts : List Waiting) (pc : ℕ) (w : ℤ) (ws : List ℤ) → lines_from ms 0 i ts pc (w ∷ ws)
    ≡ taken ms (tag_at ms i) (op_of (tag_z w) (tag_at ms i)) i ts pc ws (λ skip j us q. lines_from ms skip j us q ws)
unfolding lines_from
lines_word ms i ts pc w ws = refl

module _ (ms : List ℤ) (i : ℕ) (w : ℤ) (k o : ℕ) (g : k ≡ tag_at ms i) (x : o ≡ op_of (tag_z w) k) where
  lines_tag : (ts : List Waiting) (pc : ℕ) (ws : List ℤ)
      → lines_from ms 0 i ts pc (w ∷ ws) ≡ taken ms k o i ts pc ws (λ skip j us q. lines_from ms skip j us q ws)
  lines_tag ts pc ws = lines_word ms i ts pc w ws ∙ rw (← g, ← x)

  pub lines_split : ltb 7 o ≡ true → (ts : List Waiting) (pc : ℕ) (ws : List ℤ)
      → lines_from ms 0 i ts pc (w ∷ ws) ≡ divided ms (reserved_by o ws) o i ts pc (λ skip j us q. lines_from ms skip j us q ws)
  unfolding taken
  lines_split l ts pc ws = lines_tag ts pc ws ∙ rw l

  pub lines_leaf : ltb 7 o ≡ false → (ts : List Waiting) (pc : ℕ) (ws : List ℤ) → lines_from ms 0 i ts pc (w ∷ ws)
      ≡ strip_lines k o i ++ (leaf_line o i (slot_of ts) ws ∷ resumed ms ts (suc (pc + length (strip_lines k o i))) (λ j us q. lines_from ms (operands_of o) j us q ws))
  unfolding taken
  lines_leaf l ts pc ws = lines_tag ts pc ws ∙ rw l
