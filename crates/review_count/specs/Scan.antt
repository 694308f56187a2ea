-- Document 02, No. 5, on the lines of a rule's program: none of them is that of a tag that can fail.
use Rattle.std.specs.Prelude.{ℕ, zero, suc, ◌+◌, Bool, true, false, cond, ◌&&◌, ◌||◌, List, get_or, eqb, ltb}

-- 4 constant, 5 and 6 value, 7 nil, 8 and 9 cons, 16 not.
unfoldable pub line_fails : (op : ℕ) → Bool
line_fails o = (ltb 3 o && ltb o 10) || eqb o 16

-- The lines from the place pc on up to the end, of which there are at most `left`.
unfoldable pub none_from : (ops : List ℕ) (pc left : ℕ) → Bool
unfolding line_fails
none_from ops pc zero = true
none_from ops pc (suc left) = cond (eqb (get_or ops pc 0) 0) true (cond (line_fails (get_or ops pc 0)) false (none_from ops (pc + 1) left))
