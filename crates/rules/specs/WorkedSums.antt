-- Document 02, No. 2: sums of tag 3 at both ends of the range, in the form of section 8's table.
use Rattle.std.specs.Prelude.{ℕ, ◌≡◌, refl, List, [], ◌∷◌, map, ℤ, pos}
use Rattle.rules.specs.Tables.{Case, matching, reviewing, ◌⇒◌writing◌, computed, stated, nums, minus, ints, braces}

-- A unit x and another with x + c, in a store of two.
abbrev plus : ℤ → ℤ → ℤ → ℕ → List ℕ → List ℤ → Case
plus c x y room numbers words = matching (nums (3 ∷ 1 ∷ [])) (pos 5 ∷ pos 1 ∷ pos 0 ∷ pos 5 ∷ pos 3 ∷ pos 0 ∷ c ∷ pos 0 ∷ []) (braces (x ∷ y ∷ [])) 1000 room ⇒ numbers writing words

-- x + c is y: one row, x.
abbrev reaches : ℤ → ℤ → ℤ → Case
reaches c x y = plus c x y 4 (0 ∷ 0 ∷ 1 ∷ 12 ∷ 2 ∷ 0 ∷ []) (pos 0 ∷ x ∷ [])

-- c is 0 and the other is the same: two rows.
abbrev twice : ℤ → Case
twice x = plus (pos 0) x x 4 (0 ∷ 0 ∷ 2 ∷ 15 ∷ 4 ∷ 0 ∷ []) (pos 0 ∷ x ∷ pos 0 ∷ x ∷ [])

-- No sum equals the other.
abbrev fails : ℤ → ℤ → ℤ → Case
fails c x y = plus c x y 4 (0 ∷ 0 ∷ 0 ∷ 9 ∷ 0 ∷ 0 ∷ []) []

abbrev largest : ℤ
largest = pos 2147483647

abbrev smallest : ℤ
smallest = minus 2147483648

unfoldable pub table : List Case
table =
    reaches (pos 1) (pos 2147483646) largest
    ∷ fails (pos 1) largest smallest
    ∷ reaches (minus 1) (minus 2147483647) smallest
    ∷ fails (minus 1) smallest largest
    ∷ fails (pos 0) largest smallest
    ∷ twice largest
    ∷ twice smallest
    ∷ reaches largest (pos 0) largest
    ∷ fails largest (pos 1) smallest
    ∷ reaches smallest (pos 0) smallest
    ∷ reaches smallest largest (minus 1)
    ∷ []

-- THE CLAIM: each line's numbers and words are what the definitions compute.
pub worked_sums_hold : map computed table ≡ map stated table
unfolding computed stated table
worked_sums_hold = refl
