-- Document 01, section 9: what the trial program prints, as a function of its input.
use Rattle.std.specs.Prelude.{ℕ, true, List, [], ◌∷◌, ◌++◌, take, replicate, ℤ, pos, Option, Some, None}
use Rattle.rules.specs.Reading.{Verdict, ok, fault, ◌then◌, read_pattern}
use Rattle.rules.specs.Variables.{variables}
use Rattle.rules.specs.Services.{Matched, match}
use Rattle.text_ask.specs.Question.{Question, asked}
use Rattle.text_print.specs.Decimal.{line_of}
use Rattle.text_print.specs.Rows.{cut_rows, empty_rows, lines}
use Rattle.text_print.specs.Meaning.{unreadable}

unfoldable pub or_zero : Verdict ℕ → ℕ
or_zero (ok n) = n
or_zero (fault i) = 0

-- How many variables a pattern has: a row has so many values. (No row is found where the words are not one whole pattern with its variables in order.)
unfoldable pub variables_of : List ℤ → ℕ
unfolding ◌then◌ read_pattern variables or_zero
variables_of ps = or_zero (read_pattern ps then λ p. variables p true 0 0)

-- "The five numbers (answer, place, rows, steps, words written)", and with No. 6 the cause as a sixth.
unfoldable pub first_line : Matched → List ℕ
unfolding line_of
first_line m = line_of (pos m.answer ∷ pos m.place ∷ pos m.rows ∷ pos m.steps ∷ pos m.words ∷ pos m.cause ∷ [])

-- "And then each row on its own line". (Answers 1 to 6 have no rows.)
unfoldable pub report : (values : ℕ) → Matched → List ℕ
unfolding first_line cut_rows lines
report values m = first_line m ++ lines (cut_rows values m.rows (take m.words m.room))

-- What the room holds before is not printed.
unfoldable pub matched : Question → Matched
unfolding match
matched q = match q.matcher q.pattern q.target q.limits.budget (replicate q.limits.room (pos 0))

unfoldable pub answer_to : Option Question → List ℕ
unfolding report variables_of matched
answer_to None = unreadable
answer_to (Some q) = report (variables_of q.pattern) (matched q)

unfoldable pub printed : List ℕ → List ℕ
unfolding asked answer_to
printed bytes = answer_to (asked bytes)

-- How many empty lines stand at the end of it, as rows of no words: there may be more of them than bytes in any memory, so that they are counted.
unfoldable pub empty_report : (values : ℕ) → Matched → ℕ
unfolding empty_rows
empty_report values m = empty_rows values m.rows (take m.words m.room)

unfoldable pub empty_to : Option Question → ℕ
unfolding empty_report variables_of matched
empty_to None = 0
empty_to (Some q) = empty_report (variables_of q.pattern) (matched q)

unfoldable pub empty_lines : List ℕ → ℕ
unfolding asked empty_to
empty_lines bytes = empty_to (asked bytes)
