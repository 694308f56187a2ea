-- The numbers of the slots that the lines of a rule name.
use Rattle.std.specs.Prelude.{ℕ, ◌≤◌, ◌<◌, List, get_or}

-- Each of the first n lines names a slot below `used`; a variable's number is below it too.
pub record Numbered (arg : List ℕ) (n used : ℕ) : Type 0 where
  pub lines : (i : ℕ) → i < n → get_or arg i 0 < used
  pub variables : 16 ≤ used
  pub most : used ≤ 272
