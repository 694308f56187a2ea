-- In dialect 2 the states taken up are some of those in dialect 1, in their order; so its rows are some of dialect 1's rows, and a not holds alike in both.
use Rattle.std.specs.Prelude.{◌≤◌, ◌≡◌}
use Rattle.rules.specs.Services.{Matched}

-- ---- A rule that dialect 2 accepts.

-- Done too, with no more rows, steps and words.
pub record NoMore (x y : Matched) : Type 0 where
  pub done : x.answer ≡ 0
  pub rows : x.rows ≤ y.rows
  pub steps : x.steps ≤ y.steps
  pub words : x.words ≤ y.words
