-- Test 1 from a place on.
use Rattle.std.specs.Prelude.{ℕ, List, drop, ℤ, Result}
use Rattle.rules.specs.Reading.{matcher}
use Rattle.test_forms.specs.Ends.{end_of}

-- The matcher at an index, in which `left` lists, multisets or tuples may stand one inside the other.
unfoldable pub matcher_from : List ℤ → (left at : ℕ) → Result ℕ ℕ
unfolding end_of matcher
matcher_from s left at = end_of (matcher left at (drop at s))
