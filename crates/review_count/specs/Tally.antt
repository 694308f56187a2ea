-- Document 01, section 6, and document 02, No. 3 and No. 12: review's count as a sum over the lines of a rule's program. A line where a state stands is one
-- step, and so is the end.
use Rattle.std.specs.Prelude.{ℕ, zero, suc, ◌+◌, ◌-◌, ◌*◌, ◌^◌, cond, Option, Some, None, List, [], ◌∷◌, get_or, eqb, ltb}
use Rattle.words.specs.Words.{entries}
use Rattle.review_count.specs.declared.count.Tally.{Tally}
use Rattle.review_count.specs.declared.count.Laid.{Laid}
use Rattle.review_count.specs.declared.count.Turn.{Turn}
use Rattle.review_count.specs.declared.count.Turn.TheVariants.{Stay, Rest, Anew, Same, Take}

-- What a line adds: the product of the earlier factors; no state stands between the two sides of an or, nor at its end.
unfoldable pub step_of : (op earlier : ℕ) → ℕ
step_of o earlier = cond (eqb o 18) 0 (cond (eqb o 19) 0 earlier)

-- The factor of a line: the cap less what is taken for cons under a multiset, the cap plus 1 for join, 1 otherwise.
unfoldable pub factor_of : (most taken op : ℕ) → ℕ
factor_of most taken o = cond (eqb o 9) (most - taken) (cond (eqb o 10) (most + 1) 1)

-- How many places after a line are reserved for a tuple's parts: no state stands there.
unfoldable pub reserved_after : (op : ℕ) → ℕ
reserved_after o = cond (eqb o 12) 1 (cond (eqb o 13) 2 0)

-- ---- What waits, the last first: the second part of a cons, a join or an and, the later parts of a tuple, the second side of an or, and the ends of an or
-- and a not; each with the product before the line that laid it aside, and with the number of conses taken from its collection.

abbrev pub aside : ℕ → ℕ → Laid
aside e t = record { product = e; taken = t }

unfoldable pub top_product : List Laid → ℕ
top_product [] = 0
top_product (x ∷ w) = x.product

unfoldable pub top_taken : List Laid → ℕ
top_taken [] = 0
top_taken (x ∷ w) = x.taken

unfoldable pub rest_of : List Laid → List Laid
rest_of [] = []
rest_of (x ∷ w) = w

-- A cons lays aside its rest; a join and a tuple parts that begin anew; an and, an or and a not what stands on the same collection, and so between the
-- sides of an or. A line that ends a part, the end of an or and that of a not go on with what was laid aside last.
unfoldable pub turn_of : (op : ℕ) → Turn
turn_of o = cond (eqb o 17) Take (cond (eqb o 19) Take (cond (ltb o 2) Stay (cond (ltb o 8) Take (cond (ltb o 10) Rest (cond (ltb o 14) Anew Same)))))

-- How many conses are taken: from the collection of what is laid aside, and from the one at the next line.
unfoldable pub laid_of : Turn → (taken : ℕ) → ℕ
laid_of Stay t = 0
laid_of Rest t = t + 1
laid_of Anew t = 0
laid_of Same t = t
laid_of Take t = 0

unfoldable pub taken_of : Turn → (taken top : ℕ) → ℕ
taken_of Stay t x = t
taken_of Rest t x = 0
taken_of Anew t x = 0
taken_of Same t x = t
taken_of Take t x = x

unfoldable pub last_of : Turn → (top : ℕ) → ℕ
last_of Stay x = 0
last_of Rest x = 0
last_of Anew x = 0
last_of Same x = 0
last_of Take x = x

unfoldable pub waiting_of : Turn → Laid → List Laid → List Laid
unfolding rest_of
waiting_of Stay x w = w
waiting_of Rest x w = x ∷ w
waiting_of Anew x w = x ∷ w
waiting_of Same x w = x ∷ w
waiting_of Take x w = rest_of w

-- The product before the next line, `last` being the one that was laid aside with what was taken up last. An or's second side begins as its first, and
-- after the or both count; what follows a not has the product that was before it.
unfoldable pub next_of : (most op earlier taken last : ℕ) → ℕ
unfolding factor_of
next_of most o earlier taken last = cond (eqb o 17) last (cond (eqb o 18) last (cond (eqb o 19) (last + earlier) (earlier * factor_of most taken o)))

-- ---- Where the count stands before a line.

pub record Along : Type 0 where
  pub earlier : ℕ
  pub taken : ℕ
  pub last : ℕ
  pub waiting : List Laid

abbrev pub along : (earlier taken last : ℕ) (waiting : List Laid) → Along
along e t l w = record { earlier = e; taken = t; last = l; waiting = w }

unfoldable pub onward : (most op : ℕ) → Along → Along
unfolding next_of turn_of taken_of last_of waiting_of laid_of top_taken top_product
onward most o s = along (next_of most o s.earlier s.taken s.last) (taken_of (turn_of o) s.taken (top_taken s.waiting)) (last_of (turn_of o) (top_product s.waiting)) (waiting_of (turn_of o) (aside s.earlier (laid_of (turn_of o) s.taken)) s.waiting)

-- A place that is reserved is for one more part of a tuple.
unfoldable pub reserving : Along → Along
reserving s = along s.earlier s.taken s.last (aside 0 0 ∷ s.waiting)

-- The product of the earlier factors for each line from the place pc on where states stand, the first `skip` places being reserved. There are at most
-- `left` places, the end included.
unfoldable pub sum_from : (most : ℕ) (ops : List ℕ) → Along → (skip pc left : ℕ) → ℕ
unfolding step_of onward reserving reserved_after
sum_from most ops s skip pc zero = 0
sum_from most ops s (suc skip) pc (suc left) = sum_from most ops (reserving s) skip (pc + 1) left
sum_from most ops s zero pc (suc left) =
    step_of (get_or ops pc 0) s.earlier + cond (eqb (get_or ops pc 0) 0) 0 (sum_from most ops (onward most (get_or ops pc 0) s) (reserved_after (get_or ops pc 0)) (pc + 1) left)

-- Over the whole program.
unfoldable pub whole_sum : (most : ℕ) (ops : List ℕ) → ℕ
whole_sum most ops = sum_from most ops (along 1 0 0 []) 0 0 entries

-- The product of all factors: the one before the end.
unfoldable pub product_from : (most : ℕ) (ops : List ℕ) → Along → (skip pc left : ℕ) → ℕ
unfolding onward reserving reserved_after
product_from most ops s skip pc zero = s.earlier
product_from most ops s (suc skip) pc (suc left) = product_from most ops (reserving s) skip (pc + 1) left
product_from most ops s zero pc (suc left) =
    cond (eqb (get_or ops pc 0) 0) s.earlier (product_from most ops (onward most (get_or ops pc 0) s) (reserved_after (get_or ops pc 0)) (pc + 1) left)

unfoldable pub whole_product : (most : ℕ) (ops : List ℕ) → ℕ
whole_product most ops = product_from most ops (along 1 0 0 []) 0 0 entries

-- The count and that product, unless the count passes 4,294,967,295.
abbrev pub tally : (count product : ℕ) → Tally
tally n p = record { count = n; product = p }

unfoldable pub within : (count product : ℕ) → Option Tally
within n p = cond (ltb n (2 ^ 32)) (Some (tally n p)) None
