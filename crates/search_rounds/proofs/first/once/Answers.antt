use Rattle.value_firsts.proofs.Freshly.{fresh_zero}
use Rattle.search_rounds.proofs.Heads.{once_is, own_rules}
use Rattle.search_rounds.proofs.first.once.Goals as goal

pub advance-requires : goal.advance-requires
advance-requires c = search (own_rules, fresh_zero)

pub returns : goal.returns
returns c = once_is _ _ _ _ c.advance.ensures
