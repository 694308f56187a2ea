-- `value_firsts::is_seen` meets its contract: a fresh place has none before it.
use borrow.Author.Rules.{rules}
use Rattle.value_firsts.proofs.Freshly.{seen_fresh}
use Rattle.value_firsts.proofs.is_seen.Goals as goal

pub returns-then-without-fresh : goal.returns-then-without-fresh
returns-then-without-fresh c = search (seen_fresh, rules)
