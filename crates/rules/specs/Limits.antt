-- Document 01, sections 2, 3 and 6, and document 02, No. 1: the limits, each in one place.
use Rattle.std.specs.Prelude.{ℕ, ◌^◌}

-- Words of a matcher, a pattern, a target.
abbrev pub matcher_words_limit : ℕ
matcher_words_limit = 64

abbrev pub pattern_words_limit : ℕ
pattern_words_limit = 256

abbrev pub target_words_limit : ℕ
target_words_limit = 1024

-- Lists, multisets and tuples of a matcher that stand one inside the other; collections and tuples of a target.
abbrev pub matcher_levels : ℕ
matcher_levels = 4

abbrev pub target_levels : ℕ
target_levels = 8

-- Elements of a collection; parts of a tuple, from the least width to the largest.
abbrev pub elements_limit : ℕ
elements_limit = 64

abbrev pub least_width : ℕ
least_width = 2

abbrev pub largest_width : ℕ
largest_width = 4

-- Variables of a pattern.
abbrev pub variables_limit : ℕ
variables_limit = 16

-- Review's cap, and the first count that is too big.
abbrev pub cap_limit : ℕ
cap_limit = 64

abbrev pub too_big : ℕ
too_big = 2 ^ 32
