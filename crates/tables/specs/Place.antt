-- Where the values of a target stand as one list of numbers, and the sections of it.
use Rattle.std.specs.Prelude.{ℕ, ◌*◌, ◌≡◌, List, length, set, replicate}
use Rattle.tables.specs.Section.{section}

abbrev pub value_count : ℕ
value_count = 512

-- Where each value ends; where the places of its elements or parts begin in `places`; and these.
pub record Sections : Type 0 where
  pub ends : List ℕ
  pub bases : List ℕ
  pub places : List ℕ

abbrev pub sections : (ends bases places : List ℕ) → Sections
sections e b p = record { ends = e; bases = b; places = p }

unfoldable pub sections_of : List ℕ → Sections
unfolding section
sections_of t = sections (section value_count 0 t) (section value_count 1 t) (section value_count 2 t)

-- Each section has an entry for each value.
pub record Whole (x : Sections) : Type 0 where
  pub ends : length x.ends ≡ value_count
  pub bases : length x.bases ≡ value_count
  pub places : length x.places ≡ value_count

-- A number put in one section.
unfoldable pub put_end : ℕ → ℕ → Sections → Sections
put_end i v x = sections (set x.ends i v) x.bases x.places

unfoldable pub put_base : ℕ → ℕ → Sections → Sections
put_base i v x = sections x.ends (set x.bases i v) x.places

unfoldable pub put_place : ℕ → ℕ → Sections → Sections
put_place j v x = sections x.ends x.bases (set x.places j v)

-- Before a target is read.
abbrev pub no_places : List ℕ
no_places = replicate (3 * value_count) 0
