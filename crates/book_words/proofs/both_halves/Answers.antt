use Rattle.book_words.proofs.Reading.{halves_is}
use Rattle.book_words.proofs.both_halves.Goals as goal

pub returns : goal.returns
returns c = halves_is _ _ _ c.from_le_bytes.ensures
