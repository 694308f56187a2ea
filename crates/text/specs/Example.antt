-- Document 01, section 9: the example, byte for byte; with No. 6 a sixth number stands on its first line.
use Rattle.std.specs.Prelude.{ℕ, ◌≡◌, refl, List, [], ◌∷◌}
use Rattle.text.specs.Printed.{printed}

unfoldable pub input : List ℕ
input =
    51 ∷ 32 ∷ 49 ∷ 10 ∷  -- 3 1
    53 ∷ 32 ∷ 49 ∷ 32 ∷ 48 ∷ 32 ∷ 53 ∷ 32 ∷ 51 ∷ 32 ∷ 48 ∷ 32 ∷ 48 ∷ 32 ∷ 48 ∷ 10 ∷  -- 5 1 0 5 3 0 0 0
    49 ∷ 32 ∷ 51 ∷ 32 ∷ 48 ∷ 32 ∷ 50 ∷ 32 ∷ 48 ∷ 32 ∷ 56 ∷ 32 ∷ 48 ∷ 32 ∷ 50 ∷ 10 ∷  -- 1 3 0 2 0 8 0 2
    49 ∷ 48 ∷ 48 ∷ 48 ∷ 32 ∷ 54 ∷ 52 ∷ 10 ∷  -- 1000 64
    []

unfoldable pub output : List ℕ
output =
    48 ∷ 32 ∷ 48 ∷ 32 ∷ 50 ∷ 32 ∷ 50 ∷ 50 ∷ 32 ∷ 52 ∷ 32 ∷ 48 ∷ 10 ∷  -- 0 0 2 22 4 0
    48 ∷ 32 ∷ 50 ∷ 10 ∷  -- 0 2
    48 ∷ 32 ∷ 50 ∷ 10 ∷  -- 0 2
    []

pub example : printed input ≡ output
unfolding printed input output
example = refl
