-- The values that the variables are bound to.
use Rattle.std.specs.Prelude.{ℕ, ◌<◌, ◌≤◌, ◌≡◌, Bool, true, false, List, map, length, get_or, take, drop, ℤ}
use Rattle.rules.specs.Origins.{Valueᵒ, Bindings}
use Rattle.rules.specs.Forms.{Value}
use Rattle.rules.specs.Rows.{Form, as_words, as_origins, told}
use Rattle.value_places.specs.Held.{held_at, Held}
use Rattle.value_places.specs.Origins.{origin_at}
use Rattle.value_rows.specs.declared.Binding.{Binding}

-- The value of a binding; the same with its origin; and the bindings of the first n variables. (A row does not tell a value's place in its collection.)
unfoldable pub holds : List ℤ → Binding → Value
unfolding held_at
holds s x = held_at s x.at x.marks

unfoldable pub origin_of : List ℤ → Binding → Valueᵒ
unfolding origin_at
origin_of s x = origin_at s x.at x.marks 0

unfoldable pub bound : List ℤ → List Binding → ℕ → Bindings
unfolding origin_of
bound s b n = map (origin_of s) (take n b)

-- Those from variable v on.
unfoldable pub bound_from : List ℤ → List Binding → ℕ → ℕ → Bindings
unfolding origin_of
bound_from s b v n = map (origin_of s) (drop v (take n b))

-- The form of a row, by whether it tells origins; and what it tells of the value held at an index by marks.
unfoldable pub form_by : Bool → Form
form_by true = as_origins
form_by false = as_words

unfoldable pub told_at : Form → List ℤ → (at m : ℕ) → List ℤ
unfolding told origin_at
told_at form s at m = told form (origin_at s at m 0)

abbrev pub nothing : Binding
nothing = record { at = 0; marks = 0 }

-- Each of the first n is a held value.
pub record Bound (s : List ℤ) (b : List Binding) (n : ℕ) : Type 0 where
  pub most : n ≤ 16
  pub long : length b ≡ 16
  pub are : (v : ℕ) → v < n → Held s (get_or b v nothing).at (get_or b v nothing).marks
