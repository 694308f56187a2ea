use Rattle.std.proofs.Common.{◌∙◌}
use Rattle.book_words.proofs.Writing.{word_put}
use Rattle.book_words.proofs.put_word.Goals as goal

pub returns : goal.returns
returns c = word_put _ _ _ _ c.requires c.ranges.w (c.copy_from_slice.ensures.after ∙ c.to_le_bytes.ensures)
