-- Document 01, section 9: what the trial program's input asks of match.
use Rattle.std.specs.Prelude.{ℕ, ◌-◌, ◌^◌, List, [], ◌∷◌, length, leb, ℤ, Option, Some, None}
use Rattle.text_number.specs.Decimal.{newline, space, ◌then◌, given, number, split}
use Rattle.text_number.specs.Word.{word, at_most}

-- ---- Lines 1 to 3.

unfoldable pub every : {A B : Type 0} → (A → Option B) → List A → Option (List B)
unfolding ◌then◌
every f [] = Some []
every f (a ∷ as') = f a then λ b. every f as' then λ bs. Some (b ∷ bs)

-- "Parted by single spaces; a line may be empty".
unfoldable pub pieces : List ℕ → List (List ℕ)
unfolding split
pieces [] = []
pieces (b ∷ bs) = split space (b ∷ bs)

-- "Holds at most 2,000 numbers".
unfoldable pub words_of : List ℕ → Option (List ℤ)
unfolding ◌then◌ given every word pieces
words_of line = every word (pieces line) then λ ws. given (leb (length ws) 2000) (Some ws)

-- ---- Line 4.

pub record Limits : Type 0 where
  pub budget : ℕ
  pub room : ℕ

-- "The budget and the room (0 to 4,096), exactly these two".
unfoldable pub limits : List (List ℕ) → Option Limits
unfolding ◌then◌ number at_most
limits [] = None
limits (a ∷ []) = None
limits (a ∷ b ∷ []) =
    number a then at_most (2 ^ 32 - 1) then λ budget.
    number b then at_most 4096 then λ room.
    Some (record { budget = budget; room = room })
limits (a ∷ b ∷ c ∷ ps) = None

-- ---- The input.

pub record Lines : Type 0 where
  pub one : List ℕ
  pub two : List ℕ
  pub three : List ℕ
  pub four : List ℕ

-- "Four lines, each ended by a newline": nothing stands behind the fourth newline.
unfoldable pub lines : List (List ℕ) → Option Lines
lines [] = None
lines (a ∷ []) = None
lines (a ∷ b ∷ []) = None
lines (a ∷ b ∷ c ∷ []) = None
lines (a ∷ b ∷ c ∷ d ∷ []) = None
lines (a ∷ b ∷ c ∷ d ∷ [] ∷ []) = Some (record { one = a; two = b; three = c; four = d })
lines (a ∷ b ∷ c ∷ d ∷ [] ∷ (e ∷ ls)) = None
lines (a ∷ b ∷ c ∷ d ∷ (x ∷ xs) ∷ ls) = None

-- "It reads at most 32,768 bytes".
unfoldable pub lines_of : List ℕ → Option Lines
unfolding given split lines
lines_of bytes = given (leb (length bytes) 32768) (lines (split newline bytes))

pub record Question : Type 0 where
  pub matcher : List ℤ
  pub pattern : List ℤ
  pub target : List ℤ
  pub limits : Limits

-- "Lines 1 to 3 are matcher, pattern, target, line 4 the budget and the room".
unfoldable pub question : Lines → Option Question
unfolding ◌then◌ words_of limits pieces
question ls =
    words_of ls.one then λ m.
    words_of ls.two then λ p.
    words_of ls.three then λ t.
    limits (pieces ls.four) then λ l.
    Some (record { matcher = m; pattern = p; target = t; limits = l })

unfoldable pub asked : List ℕ → Option Question
unfolding ◌then◌ lines_of question
asked bytes = lines_of bytes then question
