-- What a test says of a fact: it is true exactly if the fact holds.
use Rattle.std.specs.Prelude.{◌≡◌, Bool, true}

pub record Decides (r : Bool) (P : Type 0) : Type 0 where
  pub sound : r ≡ true → P
  pub whole : P → r ≡ true
