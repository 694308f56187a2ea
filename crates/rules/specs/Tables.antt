-- The form of the tables of cases (Worked and its companions, Refusals): a question to a service, the numbers it answers, and the words it leaves in the room.
use Rattle.std.specs.Prelude.{ℕ, zero, suc, ◌-◌, List, [], ◌∷◌, ◌++◌, map, length, replicate, ℤ, pos, negsuc}
use Rattle.rules.specs.Services.{Matched, match, match_with, Reviewed, review}

-- Match: matcher, pattern, target, budget and the room's size, in form 1 or told the form; review: matcher, pattern and cap.
pub data Question : Type 0 where
  matching : (matcher pattern target : List ℤ) (budget room : ℕ) → Question
  matching_with : (form : ℕ) (matcher pattern target : List ℤ) (budget room : ℕ) → Question
  reviewing : (matcher pattern : List ℤ) (cap : ℤ) → Question

-- A line of a table.
infix 80 ◌⇒◌writing◌
pub data Case : Type 0 where
  ◌⇒◌writing◌ : Question → List ℕ → List ℤ → Case

pub record Outcome : Type 0 where
  pub numbers : List ℕ
  pub room : List ℤ

-- The room holds the word 77 everywhere before the call.
unfoldable pub held : ℕ → List ℤ
held n = replicate n (pos 77)

unfoldable pub of_match : Matched → Outcome
of_match r = record { numbers = r.answer ∷ r.place ∷ r.rows ∷ r.steps ∷ r.words ∷ r.cause ∷ []; room = r.room }

unfoldable pub of_review : Reviewed → Outcome
of_review r = record { numbers = r.answer ∷ r.place ∷ r.count ∷ []; room = [] }

unfoldable pub answered : Question → Outcome
unfolding match match_with review of_match of_review held
answered (matching m p t b n) = of_match (match m p t b (held n))
answered (matching_with f m p t b n) = of_match (match_with f m p t b (held n))
answered (reviewing m p cap) = of_review (review m p cap)

-- The words written from the start of the room, and after them what it held.
unfoldable pub after : List ℤ → Question → List ℤ
unfolding held
after ws (matching m p t b n) = ws ++ held (n - length ws)
after ws (matching_with f m p t b n) = ws ++ held (n - length ws)
after ws (reviewing m p cap) = []

unfoldable pub computed : Case → Outcome
unfolding answered
computed (q ⇒ ns writing ws) = answered q

unfoldable pub stated : Case → Outcome
unfolding after
stated (q ⇒ ns writing ws) = record { numbers = ns; room = after ws q }

-- ---- Words as document 01 prints them.

-- Words that are not negative; -n.
abbrev pub nums : List ℕ → List ℤ
nums ns = map pos ns

abbrev pub minus : ℕ → ℤ
minus zero = pos 0
minus (suc n) = negsuc n

-- The target {x y ..}: a collection of integers.
abbrev pub ints : List ℤ → List ℤ
ints [] = []
ints (x ∷ xs) = pos 0 ∷ x ∷ ints xs

abbrev pub braces : List ℤ → List ℤ
braces xs = pos 1 ∷ pos (length xs) ∷ ints xs
