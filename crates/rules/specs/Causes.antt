-- Document 02, No. 6: what is wrong with the words of a target, beside the place that Reading tells.
use Rattle.std.specs.Prelude.{ℕ, zero, suc, true, false, List, [], ◌∷◌, length, leb, ℤ}
use Rattle.std.proofs.Math.Option.{Option, none, some}
use Rattle.rules.specs.Limits.{target_words_limit, target_levels}
use Rattle.rules.specs.Reading.{entry, width, at_most64}

-- "1 over length, 2 unknown tag, 3 count out of range, 4 too deep, 5 cut short, 6 left over; with No. 1, 7 for a tuple's width."
pub data Cause : Type 0 where
  over_length unknown_tag bad_count too_deep cut_short left_over bad_width : Cause

unfoldable pub cause_number : Cause → ℕ
cause_number over_length = 1
cause_number unknown_tag = 2
cause_number bad_count = 3
cause_number too_deep = 4
cause_number cut_short = 5
cause_number left_over = 6
cause_number bad_width = 7

-- What a look from the left finds: nothing wrong so far, and the words after it; or the cause of the first fault.
pub data Look : Type 0 where
  well : (rest : List ℤ) → Look
  wrong : Cause → Look

-- The first fault ends the look.
infixl 20 ◌thence◌
unfoldable pub ◌thence◌ : Look → (List ℤ → Look) → Look
well ws thence k = k ws
wrong c thence k = wrong c

-- n values, one after the other.
unfoldable pub in_turn : (List ℤ → Look) → ℕ → List ℤ → Look
unfolding ◌thence◌
in_turn value zero ws = well ws
in_turn value (suc n) ws = value ws thence λ us. in_turn value n us

-- One word: where none stands the words are cut short; one that is not known is wrong for the cause c.
unfoldable pub see : {A : Type 0} → Cause → (ℤ → Option A) → (A → List ℤ → Look) → List ℤ → Look
see c f k [] = wrong cut_short
see c f k (w ∷ ws) = elim (f w) [ none ↦ wrong c | some a ↦ k a ws ]

-- The tags 0, 1 and 2.
pub data Kind : Type 0 where
  integer collection tuple : Kind

unfoldable pub kinds : List Kind
kinds = integer ∷ collection ∷ tuple ∷ []

-- After the tag 0, an integer: any word.
unfoldable pub any_word : List ℤ → Look
any_word [] = wrong cut_short
any_word (w ∷ ws) = well ws

-- After a tag, where no level is left: a collection or a tuple is too deep, whatever follows it.
unfoldable pub innermost : Kind → List ℤ → Look
unfolding any_word
innermost integer ws = any_word ws
innermost collection ws = wrong too_deep
innermost tuple ws = wrong too_deep

-- And where one is left: a count or a width, and then so many values.
unfoldable pub opened : (value : List ℤ → Look) → Kind → List ℤ → Look
unfolding any_word see in_turn at_most64 width
opened value integer ws = any_word ws
opened value collection ws = see bad_count at_most64 (in_turn value) ws
opened value tuple ws = see bad_width width (in_turn value) ws

-- A value in which no more than `depth` collections or tuples stand one inside the other. A word that is no tag is an unknown one at every depth.
unfoldable pub value : (depth : ℕ) → List ℤ → Look
unfolding see entry kinds innermost opened
value zero ws = see unknown_tag (entry kinds) innermost ws
value (suc depth) ws = see unknown_tag (entry kinds) (opened λ us. value depth us) ws

-- One value and no more: a word after it is left over, whatever it is.
unfoldable pub told : Look → ℕ
unfolding cause_number
told (well []) = 0
told (well (w ∷ ws)) = cause_number left_over
told (wrong c) = cause_number c

-- 0 where the words are one whole target. "When two causes stand at one word the lower number is given": so it is where the words are over length,
-- "before any other look"; at every other word at most one cause stands.
unfoldable pub cause_of : List ℤ → ℕ
unfolding cause_number value told
cause_of ts = elim (leb (length ts) target_words_limit) [ true ↦ told (value target_levels ts) | false ↦ cause_number over_length ]
