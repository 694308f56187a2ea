use Rattle.book_words.proofs.Reading.{word_is}
use Rattle.book_words.proofs.word_at.Goals as goal

pub returns : goal.returns
returns c = word_is _ _ _ c.from_le_bytes.ensures
