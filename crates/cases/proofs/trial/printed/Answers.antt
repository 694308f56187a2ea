-- The text that the library gives stands in the slice.
use Rattle.text.specs.Meaning.{Answer}
use Rattle.cases.proofs.trial.printed.Goals as goal

pub pad-requires : goal.pad-requires
unfolding Answer
pad-requires c = c.in-Some.ensures.2.within
