-- What the four lines ask is asked.
use Rattle.text_number.specs.Decimal.{◌then◌}
use Rattle.text_ask.specs.Question.{asked, question}
use Rattle.text_ask.specs.Meaning.{these, of_lines, of_line, of_bounds, of_asked}
use Rattle.text_ask.proofs.question.read_input.Goals as goal

pub returns-in_err-lines : goal.returns-in_err-lines
unfolding asked ◌then◌ of_lines of_asked
returns-in_err-lines c = rw (c.from_residual.ensures, ← c.in_err-lines.ensures)

pub returns-in_err-matcher : goal.returns-in_err-matcher
unfolding asked question ◌then◌ these of_lines of_line of_bounds of_asked
returns-in_err-matcher c = rw (c.from_residual-in_err-matcher.ensures, ← c.in_ok-lines.ensures, ← c.in_err-matcher.ensures.words)

pub returns-in_err-pattern : goal.returns-in_err-pattern
unfolding asked question ◌then◌ these of_lines of_line of_bounds of_asked
returns-in_err-pattern c = rw (c.from_residual-in_err-pattern.ensures, ← c.in_ok-lines.ensures, ← c.in_ok-matcher.ensures.words, ← c.in_err-pattern.ensures.words)

pub returns-in_err-target : goal.returns-in_err-target
unfolding asked question ◌then◌ these of_lines of_line of_bounds of_asked
returns-in_err-target c = rw (c.from_residual-in_err-target.ensures, ← c.in_ok-lines.ensures, ← c.in_ok-matcher.ensures.words, ← c.in_ok-pattern.ensures.words, ← c.in_err-target.ensures.words)

pub returns-in_err-bounds : goal.returns-in_err-bounds
unfolding asked question ◌then◌ these of_lines of_line of_bounds of_asked
returns-in_err-bounds c = rw (c.from_residual-in_err-bounds.ensures, ← c.in_ok-lines.ensures, ← c.in_ok-matcher.ensures.words, ← c.in_ok-pattern.ensures.words, ← c.in_ok-target.ensures.words, ← c.in_err-bounds.ensures)

pub returns : goal.returns
unfolding asked question ◌then◌ these of_lines of_line of_bounds of_asked
returns c = rw (← c.in_ok-lines.ensures, ← c.in_ok-matcher.ensures.words, ← c.in_ok-pattern.ensures.words, ← c.in_ok-target.ensures.words, ← c.in_ok-bounds.ensures)
