use Rattle.value_rows.proofs.Row.{entry_rules}
use Rattle.value_rows.proofs.put_entry.Goals as goal

pub put_origin-requires : goal.put_origin-requires
put_origin-requires c = record { index = search entry_rules; room = search entry_rules }

pub returns-then-origins : goal.returns-then-origins
returns-then-origins c = (search entry_rules, search entry_rules)

pub put_value-requires : goal.put_value-requires
put_value-requires c = record { placed = search entry_rules; held = search entry_rules; room = search entry_rules }

pub returns : goal.returns
returns c = (search entry_rules, search entry_rules)
