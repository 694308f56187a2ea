use Rattle.book_words.proofs.Writing.{zeros_put}
use Rattle.book_words.proofs.put_zeros.Goals as goal

pub returns : goal.returns
returns c = zeros_put _ _ _ _ c.requires (c.fill.ensures.after (λ y e. e))
