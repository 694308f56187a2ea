-- One line where nothing is asked, else the answer to the question.
use Rattle.std.proofs.Common.{refl, arith}
use Rattle.text_ask.specs.Meaning.{of_asked}
use Rattle.text.specs.Meaning.{Answer}
use Rattle.text.proofs.Answering.{zeros_taken, not_read, was_read}
use Rattle.text.proofs.answer.Goals as goal

pub returns-then-out-lt-TEXT_BYTES : goal.returns-then-out-lt-TEXT_BYTES
unfolding Answer
returns-then-out-lt-TEXT_BYTES c = (c.if-out-lt-TEXT_BYTES.true, refl)

pub returns-in_default : goal.returns-in_default
unfolding of_asked
returns-in_default c = not_read _ _ _ _ (omega arith) c.in_default.ensures c.put_unreadable.ensures.lines_value c.put_unreadable.ensures.text

pub returns : goal.returns
unfolding of_asked
returns c =
    let a = c.in-Some.asked in
    was_read _ _ _ _ (omega arith) _ _ _ _ _ _ c.in-Some.ensures (zeros_taken a.room 4096 a.room_in_bounds) c.answered.ensures.lines_value c.answered.ensures.text
