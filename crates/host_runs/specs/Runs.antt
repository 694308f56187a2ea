-- Document 02, No. 8, at the border to C: what a call on a lent run gives back, and what the run, the room and the slice for the numbers hold then.
use Rattle.std.specs.Prelude.{ℕ, ◌≤◌, ◌<◌, ◌≡◌, List, [], ◌∷◌, length, ℤ}
use Rattle.host_numbers.specs.Numbers.{bytes_of, over}
use Rattle.service_runs.specs.Kept.{Advances}
use Rattle.service_runs.specs.Opens.{Opens}
use Rattle.service_runs.specs.declared.run.Run.{Run}
use Rattle.service_runs.specs.declared.run.Told.{Told}
use Rattle.service_runs.specs.declared.opening.Start.{Start}
use Rattle.host_runs.specs.declared.Called.{Called}

-- The run that a call leaves, and the answer that it gives back.
abbrev pub both : Run → ℕ → Called
both r a = record { run = r; answer = a }

-- ---- An opening: answer, place and cause, in 24 bytes.

unfoldable pub start_numbers : Start → List ℕ
start_numbers s = s.answer ∷ s.place ∷ s.cause ∷ []

pub record Starts (form dialect : ℕ) (ms ps ts : List ℤ) (size : ℕ) (numbers : List ℕ) (o : Called) (numbers' : List ℕ) : Type 0 where
  pub start : Start
  pub opens : Opens form dialect ms ps ts size start
  pub is : o ≡ both start.run start.answer
  pub written : numbers' ≡ over (bytes_of (start_numbers start)) numbers

-- "24, before all others: the slice for the numbers is too short for them; nothing is written anywhere": the run stays, too.
pub record OpenCalls (r : Run) (form dialect : ℕ) (ms ps ts : List ℤ) (size : ℕ) (numbers : List ℕ) (o : Called) (numbers' : List ℕ) : Type 0 where
  pub short : length numbers < 24 → (o ≡ both r 24) × (numbers' ≡ numbers)
  pub starts : 24 ≤ length numbers → Starts form dialect ms ps ts size numbers o numbers'

-- ---- An advance: the six numbers, in 48 bytes.

unfoldable pub told_numbers : Told → List ℕ
told_numbers t = t.answer ∷ t.place ∷ t.rows ∷ t.steps ∷ t.words ∷ t.cause ∷ []

pub record Goes (r : Run) (n : ℕ) (room : List ℤ) (numbers : List ℕ) (o : Called) (room' : List ℤ) (numbers' : List ℕ) : Type 0 where
  pub told : Told
  pub advances : Advances r n room (record { run = o.run; told = told }) room'
  pub answer : o.answer ≡ told.answer
  pub written : numbers' ≡ over (bytes_of (told_numbers told)) numbers

pub record AdvanceCalls (r : Run) (n : ℕ) (room : List ℤ) (numbers : List ℕ) (o : Called) (room' : List ℤ) (numbers' : List ℕ) : Type 0 where
  pub short : length numbers < 48 → (o ≡ both r 24) × (room' ≡ room) × (numbers' ≡ numbers)
  pub goes : 48 ≤ length numbers → Goes r n room numbers o room' numbers'
