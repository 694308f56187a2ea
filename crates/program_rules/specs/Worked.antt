-- The programs of two rules of document 01, section 8, and of one with or and not, as the compiler's definition gives them. A line is op, from, arg, mat, con.
use Rattle.std.specs.Prelude.{◌≡◌, refl, [], ◌∷◌, pos}
use Rattle.program_rules.specs.Lines.{line, end_line, lines_of}
use Rattle.program_rules.specs.Link.{tos_of}

-- P1: two of a rank, 5 1 0 5 3 0 0 0, under multiset integer. The value of the second cons's atom waits in slot 0, that of the rest in slot 3.
p1 : lines_of (pos 3 ∷ pos 1 ∷ []) (pos 5 ∷ pos 1 ∷ pos 0 ∷ pos 5 ∷ pos 3 ∷ pos 0 ∷ pos 0 ∷ pos 0 ∷ []) ≡
    line 9 0 0 0 (pos 0)  -- cons
    ∷ line 1 0 0 1 (pos 0)  -- the variable's atom under something
    ∷ line 3 0 0 1 (pos 0)  -- variable 0
    ∷ line 9 0 0 0 (pos 0)  -- cons
    ∷ line 5 3 0 1 (pos 0)  -- value of variable 0, plus 0
    ∷ line 1 0 0 0 (pos 0)  -- the wildcard's atom under something
    ∷ line 2 0 0 0 (pos 0)  -- wildcard
    ∷ end_line
    ∷ []
unfolding lines_of
p1 = refl

-- P8: 5 1 0 5 3 0 0 4 under list of multiset of integer.
p8 : lines_of (pos 2 ∷ pos 3 ∷ pos 1 ∷ []) (pos 5 ∷ pos 1 ∷ pos 0 ∷ pos 5 ∷ pos 3 ∷ pos 0 ∷ pos 0 ∷ pos 4 ∷ []) ≡
    line 8 0 0 0 (pos 0)  -- cons
    ∷ line 1 0 0 1 (pos 0)  -- the variable's atom under something
    ∷ line 3 0 0 1 (pos 0)  -- variable 0
    ∷ line 8 0 0 0 (pos 0)  -- cons
    ∷ line 6 3 0 1 (pos 0)  -- value of variable 0, a multiset
    ∷ line 7 0 0 0 (pos 0)  -- nil
    ∷ end_line
    ∷ []
unfolding lines_of
p8 = refl

-- 9 2 5 10 2 7 under integer: the number 5, or not 7. The first side goes on after the or, at the end; and so does the not.
five : lines_of (pos 1 ∷ []) (pos 9 ∷ pos 2 ∷ pos 5 ∷ pos 10 ∷ pos 2 ∷ pos 7 ∷ []) ≡
    line 15 0 0 0 (pos 0)  -- or
    ∷ line 4 0 5 0 (pos 5)  -- the constant 5
    ∷ line 18 0 0 0 (pos 0)  -- between the sides
    ∷ line 16 0 0 0 (pos 0)  -- not
    ∷ line 4 3 7 0 (pos 7)  -- the constant 7
    ∷ line 17 3 0 0 (pos 0)  -- the end of the search inside the not at 3
    ∷ line 19 0 0 0 (pos 0)  -- after the second side
    ∷ end_line
    ∷ []
unfolding lines_of
five = refl

five_to : tos_of (lines_of (pos 1 ∷ []) (pos 9 ∷ pos 2 ∷ pos 5 ∷ pos 10 ∷ pos 2 ∷ pos 7 ∷ [])) ≡ 3 ∷ 7 ∷ 7 ∷ 7 ∷ 5 ∷ 7 ∷ 7 ∷ 8 ∷ []
unfolding lines_of tos_of
five_to = refl
