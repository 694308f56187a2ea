-- `service_runs::run::advanced` meets its contract: 19, a refusal, an end, or an advance from the states that it holds.
use Rattle.service_runs.specs.Kept.{told, changed}
use Rattle.service_runs.proofs.Lending.{adv_unsound, adv_went, advance_rules}
use Rattle.service_runs.proofs.run.advanced.Goals as goal

pub returns-then-run-ne0 : goal.returns-then-run-ne0
unfolding told changed
returns-then-run-ne0 c = search advance_rules

pub returns-then-x-ne-STANDS : goal.returns-then-x-ne-STANDS
unfolding told changed
returns-then-x-ne-STANDS c = search advance_rules

pub returns-in-Some : goal.returns-in-Some
unfolding told changed
returns-in-Some c = adv_went _ _ _ _ c.if-room-run.true c.if-run-ne0.false c.if-x-ne-STANDS.false _ _ _ c.on_words-found.ensures _ c.in-Some.is c.told_of-t-in-Some.ensures

pub returns-in_default : goal.returns-in_default
unfolding told changed
returns-in_default c = adv_unsound _ _ _ _ c.if-room-run.true c.if-run-ne0.false c.if-x-ne-STANDS.false _ _ _ c.on_words-found.ensures c.in_default.is c.unlike-t.ensures

pub returns-else-room-run : goal.returns-else-room-run
unfolding told changed
returns-else-room-run c = search advance_rules
