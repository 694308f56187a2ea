-- The figure is exact: on as many equal integers as the cap says, a chain of conses under multiset of integer takes up precisely so many states.
use Prim.Native.Nat.{ℕ, zero, suc}
use Rattle.std.specs.Prelude.{ℤ, pos}
use mathlib.Core.List.{List, [], ◌∷◌}
use Rattle.rules.specs.Forms.{Pattern, wildcard, variable, value, cons, Value, Values, empty, ◌▸◌}
use Rattle.promises.specs.Trace.{Taken, Met, taken}

-- "A chain of conses .., the first parts being variables, wildcards or tag 3 with 0 added, the end a variable or a wildcard."
pub data First : Pattern → Type 0 where
  wild : First wildcard
  named : {x : ℤ} → First (variable x)
  again : {x : ℤ} → First (value x (pos 0))

pub data End : Pattern → Type 0 where
  wild : End wildcard
  named : {x : ℤ} → End (variable x)

pub data Chain : Pattern → Type 0 where
  ends : {p : Pattern} → End p → Chain p
  link : {p q : Pattern} → First p → Chain q → Chain (cons p q)

-- So many equal values.
unfoldable pub copies : ℕ → Value → Values
copies zero v = empty
copies (suc n) v = v ▸ copies n v

-- ---- States that are all taken up, and how many they are.

pub data Passes : List Met → ℕ → Type 0 where
  none : Passes [] 0
  more : {t : Taken} {ms : List Met} {n : ℕ} → Passes ms n → Passes (taken t ∷ ms) (suc n)
