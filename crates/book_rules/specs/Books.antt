-- Document 02, No. 7: a book and its four calls as functions. Only blocks in use are tested, in every call (readings 74, 103).
use Rattle.std.specs.Prelude.{ℕ, zero, suc, max, Bool, true, false, not, List, [], ◌∷◌, length, take, set, get_or, eqb, leb, ltb}
use Rattle.std.proofs.Math.Option.{Option, none, some}
use Rattle.book_rules.specs.Sums.{word, and_also}
use Rattle.book_rules.specs.Blocks.{Block, Entry, counts, written, emptied, badge_of, entry_of, unless, or_else, known, is_rule, holds, taken, verdict}

pub record Book : Type 0 where
  pub lent : List Block
  pub used : ℕ

abbrev pub in_use : Book → List Block
in_use b = take b.used b.lent

-- 12 to 15, block by block; then, where more are in use than are lent, 13 (reading 102).
unfoldable pub walk : ℕ → List Block → List Block → ℕ
unfolding verdict or_else
walk k earlier [] = 0
walk k earlier (b ∷ bs) = or_else (verdict k earlier b) (walk (suc k) (b ∷ earlier) bs)

unfoldable pub fault : Book → ℕ
unfolding walk or_else unless
fault b = or_else (walk 0 [] (in_use b)) (unless (leb b.used (length b.lent)) 13)

-- How many blocks pass before the first that is refused: its number.
unfoldable pub passes : ℕ → ℕ → ℕ
passes zero n = suc n
passes (suc v) n = 0

unfoldable pub passed : ℕ → List Block → List Block → ℕ
unfolding verdict passes
passed k earlier [] = 0
passed k earlier (b ∷ bs) = passes (verdict k earlier b) (passed (suc k) (b ∷ earlier) bs)

-- What a call answers: 0 or the refusal, a number, the rule that was read, and the book after it.
pub record Told : Type 0 where
  pub answer : ℕ
  pub number : ℕ
  pub found : Option Entry
  pub book : Book

-- "A refused call changes no block."
unfoldable pub unless_refused : ℕ → Book → Told → Told
unless_refused zero b t = t
unless_refused (suc n) b t = record { answer = suc n; number = 0; found = none; book = b }

unfoldable pub changed : Book → Told
changed b = record { answer = 0; number = 0; found = none; book = b }

-- The first block that passes a test.
unfoldable pub place : (Block → Bool) → List Block → Option ℕ
place f [] = none
place f (b ∷ bs) = elim (f b) [ true ↦ some 0 | false ↦ elim (place f bs) [ none ↦ none | some i ↦ some (suc i) ] ]

unfoldable pub withdrawn : Block → Bool
withdrawn b = eqb (badge_of b) 0

-- ---- Total and read.

unfoldable pub live : List Block → ℕ
unfolding withdrawn
live [] = 0
live (b ∷ bs) = elim (withdrawn b) [ true ↦ live bs | false ↦ suc (live bs) ]

unfoldable pub total : Book → Told
unfolding unless_refused fault live
total b = unless_refused (fault b) b (record { answer = 0; number = live (in_use b); found = none; book = b })

unfoldable pub read_at : Book → Option ℕ → Told
unfolding entry_of
read_at b none = record { answer = 0; number = 0; found = none; book = b }
read_at b (some i) = record { answer = 0; number = 1; found = some (entry_of (get_or b.lent i [])); book = b }

unfoldable pub read : ℕ → Book → Told
unfolding unless_refused fault read_at place holds
read badge b = unless_refused (fault b) b (read_at b (place (holds badge) (in_use b)))

-- ---- Withdraw: 12 to 15, 23.

unfoldable pub withdraw_at : Book → ℕ → Book
unfolding emptied
withdraw_at b i = record { lent = set b.lent i (emptied i (word (get_or b.lent i []) 1)); used = b.used }

unfoldable pub withdraw_from : Book → Option ℕ → Told
unfolding changed withdraw_at
withdraw_from b none = changed b
withdraw_from b (some i) = changed (withdraw_at b i)

unfoldable pub withdraw : ℕ → Book → Told
unfolding unless_refused fault or_else unless taken withdraw_from place holds
withdraw badge b = unless_refused (or_else (fault b) (unless (taken badge (in_use b)) 23)) b (withdraw_from b (place (holds badge) (in_use b)))

-- ---- Add: 12 to 15 of the blocks, then 14 and 15 of the add (reading 65), 16, 18, 17.

unfoldable pub dialect_for : (version dialect : ℕ) → Bool
dialect_for v d = elim (eqb d 1) [ true ↦ true | false ↦ elim (eqb d 2) [ true ↦ eqb v 2 | false ↦ false ] ]

unfoldable pub proper : Entry → Bool
unfolding and_also dialect_for is_rule
proper e = and_also (not (eqb e.badge 0)) (and_also (dialect_for e.version e.dialect) (is_rule e.dialect e.matcher e.pattern))

-- "A new rule takes the lowest withdrawn block before the book grows." Blocks past number 65,535 count as not lent.
unfoldable pub growth : Book → Option ℕ
unfolding and_also
growth b = elim (and_also (ltb b.used (length b.lent)) (ltb b.used 65536)) [ true ↦ some b.used | false ↦ none ]

unfoldable pub slot_or : Option ℕ → Option ℕ → Option ℕ
slot_or (some i) other = some i
slot_or none other = other

unfoldable pub slot : Book → Option ℕ
unfolding slot_or place withdrawn growth
slot b = slot_or (place withdrawn (in_use b)) (growth b)

unfoldable pub is_some : Option ℕ → Bool
is_some none = false
is_some (some i) = true

unfoldable pub add_fault : Entry → Book → ℕ
unfolding fault or_else unless known proper taken counts is_some slot
add_fault e b =
    or_else (fault b)
    (or_else (unless (known e.version) 14)
    (or_else (unless (proper e) 15)
    (or_else (unless (not (taken e.badge (in_use b))) 16)
    (or_else (unless (leb (counts e) 124) 18)
    (unless (is_some (slot b)) 17)))))

unfoldable pub add_at : Entry → Book → ℕ → Book
unfolding written
add_at e b i = record { lent = set b.lent i (written i e); used = max b.used (suc i) }

unfoldable pub add_in : Entry → Book → Option ℕ → Told
unfolding changed add_at
add_in e b none = changed b
add_in e b (some i) = changed (add_at e b i)

unfoldable pub add : Entry → Book → Told
unfolding unless_refused add_fault add_in slot
add e b = unless_refused (add_fault e b) b (add_in e b (slot b))
