-- What the call for the words of room gives back, and what the slice for the numbers holds then.
use Rattle.std.specs.Prelude.{ℕ, List, [], ◌∷◌, cond, length, ltb, ℤ}
use Rattle.room_rules.specs.Rooms.{Roomed, room}
use Rattle.host_numbers.specs.Numbers.{bytes_of, over}
use Rattle.host.specs.Border.{Called, called}

unfoldable pub room_numbers : Roomed → List ℕ
room_numbers r = r.answer ∷ r.place ∷ r.words ∷ []

unfoldable pub room_told : Roomed → List ℕ → Called
unfolding bytes_of over room_numbers
room_told r numbers = called r.answer [] (over (bytes_of (room_numbers r)) numbers)

unfoldable pub room_called : (form : ℕ) (ms ps : List ℤ) (cap : ℤ) (longest : ℕ) (numbers : List ℕ) → Called
unfolding room room_told
room_called form ms ps cap longest numbers = cond (ltb (length numbers) 24) (called 24 [] numbers) (room_told (room form ms ps cap longest) numbers)
