-- Document 01, section 4, Row, and document 02, No. 9: the words of a row, in the form that the caller picks.
use Rattle.std.specs.Prelude.{ℕ, zero, suc, ◌-◌, ◌/◌, ◌%◌, ◌^◌, true, false, List, [], ◌∷◌, ◌++◌, ltb, ℤ, pos, negsuc}
use Rattle.std.proofs.Math.Option.{Option, none, some}
use Rattle.rules.specs.Forms.{words}
use Rattle.rules.specs.Origins.{Valueᵒ, Bindings, plain, origin, marks}

-- "The caller picks form 1 or 2."
pub data Form : Type 0 where
  as_words as_origins : Form

unfoldable pub form_of : ℕ → Option Form
form_of zero = none
form_of (suc zero) = some as_words
form_of (suc (suc zero)) = some as_origins
form_of (suc (suc (suc n))) = none

-- 32 bits as a word: the highest is the sign.
unfoldable pub bits : ℕ → ℤ
bits n = elim (ltb n (2 ^ 31)) [ true ↦ pos n | false ↦ negsuc (2 ^ 32 - suc n) ]

-- Form 1: the value "in target form, elements in target order". Form 2: "that index and then the element marks as two words' bits, .. low half first".
unfoldable pub told : Form → Valueᵒ → List ℤ
unfolding words plain origin marks bits
told as_words v = words (plain v)
told as_origins v = pos (origin v).at ∷ bits (marks v % 2 ^ 32) ∷ bits (marks v / 2 ^ 32) ∷ []

-- "Row. The values of variables 0, 1, .. in number order."
unfoldable pub row : Form → Bindings → List ℤ
unfolding told
row f [] = []
row f (v ∷ e) = told f v ++ row f e
