-- Test 2 as a walk over a pattern's words, without the tree: what is still to come stands in counters.
use Rattle.std.specs.Prelude.{ℕ, zero, suc, ◌+◌, cond, List, [], ◌∷◌, length, get_or, eqb, leb, ℤ, negsuc, Result, Ok, Err}
use Rattle.words.specs.Words.{tag_z}
use Rattle.test_forms.specs.Ends.{within}
use Rattle.test_forms.specs.Table.{row_of, by_row}

-- The word after a tag, as a tag.
unfoldable pub width_in : List ℤ → ℕ
width_in ws = tag_z (get_or ws 0 (negsuc 0))

-- What reading o operands and then n patterns in a row finds, from the words that start at place p.
unfoldable pub reads_p : (o n p : ℕ) → List ℤ → Result (Unit {0}) ℕ
unfolding by_row row_of within width_in
reads_p o n p [] = cond (eqb (o + n) 0) (Ok tt) (Err p)
reads_p (suc o) n p (w ∷ ws) = reads_p o n (suc p) ws
reads_p zero zero p (w ∷ ws) = Err p
reads_p zero (suc n) p (w ∷ ws) =
    by_row (row_of 0 (tag_z w))
    (Err p)
    (λ o b. reads_p o (n + b) (suc p) ws)
    (cond (within 2 (width_in ws) 4) (reads_p 1 (n + width_in ws) (suc p) ws) (Err (suc p)))

unfoldable pub pattern_of : List ℤ → Result (Unit {0}) ℕ
unfolding reads_p
pattern_of s = cond (leb (length s) 256) (reads_p 0 1 0 s) (Err 256)
