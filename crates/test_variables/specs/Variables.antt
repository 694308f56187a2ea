-- Test 3 as a walk over a pattern's words.
use Rattle.std.specs.Prelude.{ℕ, zero, suc, ◌+◌, Bool, true, ◌&&◌, cond, List, [], ◌∷◌, length, get_or, eqb, leb, ltb, ℤ, negsuc, Result, Ok, Err}
use Rattle.rules.specs.Reading.{Verdict, ok, fault}
use Rattle.rules.specs.Variables.{is_next, is_left}
use Rattle.words.specs.Words.{tag_z}
use Rattle.test_forms.specs.Ends.{within}
use Rattle.test_forms.specs.Table.{row_of, by_row}
use Rattle.test_forms.specs.Patterns.{width_in}

-- What the code's answer stands for: a verdict of the rules.
unfoldable pub counted : Verdict ℕ → Result ℕ ℕ
counted (ok n) = Ok n
counted (fault i) = Err i

-- Whether the tag t with the operand v may stand where n variables stand to its left: `inside` patterns are to come in the outermost or or not
-- around it, none where it stands in no or and no not.
unfoldable pub allowed_at : (t : ℕ) → ℤ → (inside n : ℕ) → Bool
unfolding is_next is_left
allowed_at t v inside n = cond (eqb t 1) (eqb inside 0 && is_next v n) (cond (eqb t 3) (is_left v n) true)

-- The same of the operand's tag.
unfoldable pub allowed_tag : (t v inside n : ℕ) → Bool
allowed_tag t v inside n = cond (eqb t 1) (eqb inside 0 && (eqb v n && ltb n 16)) (cond (eqb t 3) (ltb v n) true)

-- How many stand to the left of what follows the tag.
unfoldable pub and_next : ℕ → ℕ → ℕ
and_next t n = cond (eqb t 1) (suc n) n

-- How many patterns are to come in the outermost or or not, after the tag t with so many parts: an or or a not opens one.
unfoldable pub inside_after : (t parts inside : ℕ) → ℕ
unfolding within
inside_after t parts zero = cond (within 9 t 10) parts 0
inside_after t parts (suc n) = n + parts

-- The words that start at place p, after o operands, with n variables to the left.
unfoldable pub vars_p : (o n inside p : ℕ) → List ℤ → Result ℕ ℕ
unfolding by_row row_of allowed_at and_next inside_after within width_in
vars_p o n inside p [] = Ok n
vars_p (suc o) n inside p (w ∷ ws) = vars_p o n inside (suc p) ws
vars_p zero n inside p (w ∷ ws) =
    cond (allowed_at (tag_z w) (get_or ws 0 (negsuc 0)) inside n)
    (by_row (row_of 0 (tag_z w))
    (Err p)
    (λ o b. vars_p o (and_next (tag_z w) n) (inside_after (tag_z w) b inside) (suc p) ws)
    (cond (within 2 (width_in ws) 4) (vars_p 1 n (inside_after (tag_z w) (width_in ws) inside) (suc p) ws) (Err (suc p))))
    (Err p)

unfoldable pub vars_of : List ℤ → Result ℕ ℕ
unfolding vars_p
vars_of s = cond (leb (length s) 256) (vars_p 0 0 0 0 s) (Err 256)
