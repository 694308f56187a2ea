-- Document 01, section 1: the border to C. The answer's numbers go to a lent slice, eight bytes each, low byte first, its further bytes untouched.
use Rattle.std.specs.Prelude.{ℕ, List, [], ◌∷◌, cond, length, ltb, ℤ}
use Rattle.host_numbers.specs.Numbers.{bytes_of, over}
use Rattle.rules.specs.Services.{Matched, match, match_picked, Reviewed, review, review_picked}

-- ---- What a call gives back, and what the room and the slice for the numbers hold then.

pub record Called : Type 0 where
  pub answer : ℕ
  pub room : List ℤ
  pub numbers : List ℕ

abbrev pub called : ℕ → List ℤ → List ℕ → Called
called a room numbers = record { answer = a; room = room; numbers = numbers }

unfoldable pub match_numbers : Matched → List ℕ
match_numbers m = m.answer ∷ m.place ∷ m.rows ∷ m.steps ∷ m.words ∷ m.cause ∷ []

unfoldable pub review_numbers : Reviewed → List ℕ
review_numbers r = r.answer ∷ r.place ∷ r.count ∷ []

unfoldable pub match_told : Matched → List ℕ → Called
unfolding bytes_of over match_numbers
match_told m numbers = called m.answer m.room (over (bytes_of (match_numbers m)) numbers)

-- 24 short, "before all others: the slice for the numbers is too short for them; nothing is written anywhere".
unfoldable pub match_called : (ms ps ts : List ℤ) (budget : ℕ) (room : List ℤ) (numbers : List ℕ) → Called
unfolding match match_told
match_called ms ps ts budget room numbers = cond (ltb (length numbers) 48) (called 24 room numbers) (match_told (match ms ps ts budget room) numbers)

unfoldable pub match_with_called : (form dialect : ℕ) (ms ps ts : List ℤ) (budget : ℕ) (room : List ℤ) (numbers : List ℕ) → Called
unfolding match_picked match_told
match_with_called form dialect ms ps ts budget room numbers = cond (ltb (length numbers) 48) (called 24 room numbers) (match_told (match_picked form dialect ms ps ts budget room) numbers)

unfoldable pub review_told : Reviewed → List ℕ → Called
unfolding bytes_of over review_numbers
review_told r numbers = called r.answer [] (over (bytes_of (review_numbers r)) numbers)

-- (Review has no room.)
unfoldable pub review_called : (ms ps : List ℤ) (most : ℤ) (numbers : List ℕ) → Called
unfolding review review_told
review_called ms ps most numbers = cond (ltb (length numbers) 24) (called 24 [] numbers) (review_told (review ms ps most) numbers)

unfoldable pub review_with_called : (dialect : ℕ) (ms ps : List ℤ) (most : ℤ) (numbers : List ℕ) → Called
unfolding review_picked review_told
review_with_called dialect ms ps most numbers = cond (ltb (length numbers) 24) (called 24 [] numbers) (review_told (review_picked dialect ms ps most) numbers)
