-- What marks hold of a value: an integer and a tuple whole, of a collection the elements marked, in target order.
use Rattle.std.specs.Prelude.{ℕ, zero, suc, ◌/◌, ◌%◌, pos}
use Rattle.rules.specs.Forms.{Value, int, collection, tupled, Values, empty, ◌▸◌}

-- Element k. (Past the end there is none.)
unfoldable pub nth : Values → ℕ → Value
nth empty k = int (pos 0)
nth (v ▸ vs) zero = v
nth (v ▸ vs) (suc k) = nth vs k

abbrev pub keep : ℕ → Value → Values → Values
keep zero v vs = vs
keep (suc d) v vs = v ▸ vs

-- The elements marked.
unfoldable pub marked : Values → ℕ → Values
marked empty m = empty
marked (v ▸ vs) m = keep (m % 2) v (marked vs (m / 2))

unfoldable pub held : Value → ℕ → Value
unfolding marked
held (int x) m = int x
held (collection vs) m = collection (marked vs m)
held (tupled vs) m = tupled vs
