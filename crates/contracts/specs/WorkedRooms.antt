-- The words that suffice, worked: answer, place and words for a row form, a rule, a cap and the words of the longest target.
use Rattle.std.specs.Prelude.{ℕ, ◌≡◌, refl, List, [], ◌∷◌, ℤ, pos}
use Rattle.room_rules.specs.Rooms.{Roomed, room}

abbrev pub told : (answer place words : ℕ) → Roomed
told a i w = record { answer = a; place = i; words = w }

-- A multiset of integers; two of a rank: rows 3 × 2 at cap 3, 64 × 63 at cap 64, one variable.
pub ranks : List ℤ
ranks = pos 3 ∷ pos 1 ∷ []

pub two_of_a_rank : List ℤ
two_of_a_rank = pos 5 ∷ pos 1 ∷ pos 0 ∷ pos 5 ∷ pos 3 ∷ pos 0 ∷ pos 0 ∷ pos 0 ∷ []

-- One and the rest: 64 rows at cap 64, two variables.
pub one_and_the_rest : List ℤ
one_and_the_rest = pos 5 ∷ pos 1 ∷ pos 0 ∷ pos 1 ∷ pos 1 ∷ []

pub rooms_hold : (room 1 ranks two_of_a_rank (pos 3) 8 ≡ told 0 0 48)
    × (room 2 ranks two_of_a_rank (pos 3) 8 ≡ told 0 0 18)
    × (room 1 ranks two_of_a_rank (pos 3) 5000 ≡ told 0 0 6144)
    × (room 1 ranks two_of_a_rank (pos 64) 130 ≡ told 0 0 524160)
    × (room 1 ranks one_and_the_rest (pos 64) 130 ≡ told 0 0 16640)
    × (room 1 ranks two_of_a_rank (pos 65) 8 ≡ told 9 0 0)
    × (room 1 two_of_a_rank ranks (pos 3) 8 ≡ told 1 0 0)
    × (room 3 two_of_a_rank ranks (pos 3) 8 ≡ told 20 0 0)
unfolding room ranks two_of_a_rank one_and_the_rest
rooms_hold = (refl, refl, refl, refl, refl, refl, refl, refl)
