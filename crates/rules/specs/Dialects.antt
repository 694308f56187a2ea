-- Document 02, No. 13: the two dialects of the rules.
use Rattle.std.specs.Prelude.{ℕ, zero, suc}
use Rattle.std.proofs.Math.Option.{Option, none, some}

-- At a cons under a multiset, dialect 1 takes every place, and dialect 2 "one state for each value that differs under the element matcher's equality, the
-- first place standing for it".
pub data Dialect : Type 0 where
  every_place first_places : Dialect

unfoldable pub dialect_of : ℕ → Option Dialect
dialect_of zero = none
dialect_of (suc zero) = some every_place
dialect_of (suc (suc zero)) = some first_places
dialect_of (suc (suc (suc n))) = none
