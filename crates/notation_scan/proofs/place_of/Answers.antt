use borrow.Author.Tests.{tests}
use Rattle.std.proofs.Common.{rules}
use Rattle.std.proofs.lemmas.Iterator.{YieldsList-from_slice}
use Rattle.std.proofs.lemmas.Iterator.Search.{position_from_yields_List}
use Rattle.notation_rules.specs.Letters.{same_word, spell_mark}
use Rattle.notation_scan.proofs.Laws.{same_is}
use Rattle.notation_scan.proofs.place_of.Goals as goal

pub returns : goal.returns
unfolding spell_mark
returns c = position_from_yields_List (λ x. same_word x.now c.args.w.now) _ _ c.position.result c.position.ensures.ran (YieldsList-from_slice _ c.iter.ensures.rest) (λ x b q k. search (same_is, rules, tests))
