-- Document 01, section 9: numbers read from decimal text. A text is a list of bytes.
use Rattle.std.specs.Prelude.{ℕ, ◌+◌, ◌-◌, ◌*◌, Bool, true, false, cond, ◌&&◌, List, [], ◌∷◌, length, leb, eqb, ℤ, pos, neg_ℤ, Option, Some, None}
use Rattle.std.specs.List.{slice_split}

abbrev pub newline : ℕ
newline = 10

abbrev pub space : ℕ
space = 32

abbrev pub minus : ℕ
minus = 45

-- What is not there stays so.
infixl 20 ◌then◌
unfoldable pub ◌then◌ : {A B : Type 0} → Option A → (A → Option B) → Option B
None then k = None
Some a then k = k a

unfoldable pub given : {A : Type 0} → Bool → Option A → Option A
given true o = o
given false o = None

-- The byte of a digit: 0 is 48.
unfoldable pub is_digit : ℕ → Bool
is_digit b = leb 48 b && leb b 57

-- The number that digits write behind those of n.
unfoldable pub digits : (n : ℕ) → List ℕ → Option ℕ
unfolding given is_digit
digits n [] = Some n
digits n (b ∷ bs) = given (is_digit b) (digits (n * 10 + (b - 48)) bs)

-- "1 to 10 digits".
unfoldable pub natural : List ℕ → Option ℕ
unfolding given digits
natural bs = given (leb 1 (length bs) && leb (length bs) 10) (digits 0 bs)

-- "Optional minus, 1 to 10 digits".
unfoldable pub number : List ℕ → Option ℤ
unfolding ◌then◌ natural
number [] = None
number (b ∷ bs) = cond (eqb b minus) (natural bs then λ n. Some (neg_ℤ (pos n))) (natural (b ∷ bs) then λ n. Some (pos n))

-- What stands between the bytes c: one piece more than there are such bytes.
unfoldable pub split : ℕ → List ℕ → List (List ℕ)
split c = slice_split (λ b. eqb b c)
