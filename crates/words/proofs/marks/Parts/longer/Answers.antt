use Rattle.words.proofs.marks.Asked.{longer_rules}
use Rattle.words.proofs.marks.Parts.longer.Goals as goal

pub returns : goal.returns
returns c = search longer_rules
