use Rattle.std.proofs.Common.{◌∙◌}
use Rattle.book_words.proofs.Writing.{halves_put}
use Rattle.book_words.proofs.put_halves.Goals as goal

pub returns : goal.returns
returns c = halves_put _ _ _ _ c.requires c.ranges.x (c.copy_from_slice.ensures.after ∙ c.to_le_bytes.ensures)
