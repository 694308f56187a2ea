use Rattle.book_words.proofs.Reading.{check_is}
use Rattle.book_words.proofs.is_checked.Goals as goal

pub returns : goal.returns
returns c = check_is _ _ _ c.due.ensures c.both_halves.ensures
