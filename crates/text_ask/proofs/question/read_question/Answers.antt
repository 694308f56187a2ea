-- The bytes that were read ask what is told.
use Rattle.text_ask.specs.Meaning.{AsksOf}
use Rattle.text_ask.proofs.question.read_question.Goals as goal

pub returns : goal.returns
unfolding AsksOf
returns g c = (_, c.read_full-n.ensures.bytes, c.read_input.ensures)
