-- The border's contracts leave nothing open: any two results that they allow agree, in the answer, every word of the room and every byte of the numbers.
use Rattle.std.specs.Prelude.{◌≡◌, List, [], ℕ, ℤ}
use Rattle.std.proofs.Common.{sym, ◌∙◌, ap}
use Rattle.host.specs.Border.{Called, called, match_called, match_with_called, review_called, review_with_called}
use Rattle.host.specs.Rooms.{room_called}
use Rattle.host_rounds.specs.Rounds.{rounds_called}

same_call : (a b : ℕ) (x y : List ℤ) (m n : List ℕ) (c : Called) → called a x m ≡ c → called b y n ≡ c → (a ≡ b) × (x ≡ y) × (m ≡ n)
same_call a b x y m n c p q =
    let e = p ∙ sym q in (ap (λ (z : Called). z.answer) e, ap (λ (z : Called). z.room) e, ap (λ (z : Called). z.numbers) e)

pub match_called_once : (ms ps ts : List ℤ) (budget : ℕ) (room : List ℤ) (numbers : List ℕ) (a b : ℕ) (x y : List ℤ) (m n : List ℕ)
    → called a x m ≡ match_called ms ps ts budget room numbers → called b y n ≡ match_called ms ps ts budget room numbers → (a ≡ b) × (x ≡ y) × (m ≡ n)
match_called_once ms ps ts budget room numbers a b x y m n = same_call a b x y m n (match_called ms ps ts budget room numbers)

pub match_with_called_once : (form dialect : ℕ) (ms ps ts : List ℤ) (budget : ℕ) (room : List ℤ) (numbers : List ℕ) (a b : ℕ) (x y : List ℤ) (m n : List ℕ)
    → called a x m ≡ match_with_called form dialect ms ps ts budget room numbers → called b y n ≡ match_with_called form dialect ms ps ts budget room numbers
    → (a ≡ b) × (x ≡ y) × (m ≡ n)
match_with_called_once form dialect ms ps ts budget room numbers a b x y m n = same_call a b x y m n (match_with_called form dialect ms ps ts budget room numbers)

-- What is left in the lent table is no part of it: docs/EXCEPTIONS.md.
pub rounds_called_once : (form dialect : ℕ) (ms ps ts : List ℤ) (budget words : ℕ) (room : List ℤ) (numbers : List ℕ) (a b : ℕ) (x y : List ℤ) (m n : List ℕ)
    → called a x m ≡ rounds_called form dialect ms ps ts budget words room numbers → called b y n ≡ rounds_called form dialect ms ps ts budget words room numbers
    → (a ≡ b) × (x ≡ y) × (m ≡ n)
rounds_called_once form dialect ms ps ts budget words room numbers a b x y m n = same_call a b x y m n (rounds_called form dialect ms ps ts budget words room numbers)

pub review_called_once : (ms ps : List ℤ) (cap : ℤ) (numbers : List ℕ) (a b : ℕ) (m n : List ℕ)
    → called a [] m ≡ review_called ms ps cap numbers → called b [] n ≡ review_called ms ps cap numbers → (a ≡ b) × (m ≡ n)
review_called_once ms ps cap numbers a b m n p q = let r = same_call a b [] [] m n (review_called ms ps cap numbers) p q in (r.0, r.2)

pub review_with_called_once : (dialect : ℕ) (ms ps : List ℤ) (cap : ℤ) (numbers : List ℕ) (a b : ℕ) (m n : List ℕ)
    → called a [] m ≡ review_with_called dialect ms ps cap numbers → called b [] n ≡ review_with_called dialect ms ps cap numbers → (a ≡ b) × (m ≡ n)
review_with_called_once dialect ms ps cap numbers a b m n p q =
    let r = same_call a b [] [] m n (review_with_called dialect ms ps cap numbers) p q in (r.0, r.2)

pub room_called_once : (form : ℕ) (ms ps : List ℤ) (cap : ℤ) (longest : ℕ) (numbers : List ℕ) (a b : ℕ) (m n : List ℕ)
    → called a [] m ≡ room_called form ms ps cap longest numbers → called b [] n ≡ room_called form ms ps cap longest numbers → (a ≡ b) × (m ≡ n)
room_called_once form ms ps cap longest numbers a b m n p q = let r = same_call a b [] [] m n (room_called form ms ps cap longest numbers) p q in (r.0, r.2)
