use borrow.Author.Rules.{rules}
use Rattle.book_words.proofs.Writing.{put_sets}
use Rattle.book.proofs.lent.put_block.Goals as goal

pub returns : goal.returns
returns c = put_sets _ _ _ _ _ c.copy_from_slice.ensures.after (search rules) (search rules)
