-- `search_seek::seek` meets its contract: at the loop's head the choices so far are passed over.
use mir.Syntax.{w32}
use mir.Val.{SFits}
use mir.Facts.{to_z-of_z}
use borrow.Author.Rules.{rules}
use Rattle.search_seek.specs.Passed.{stays}
use Rattle.search_seek.proofs.Laws.{passed_by_lem, seek_rules}
use Rattle.search_seek.proofs.seek.Goals as goal

pub loop-more-init : goal.loop-more-init
loop-more-init c = (stays, search seek_rules, search seek_rules, search seek_rules, search seek_rules)

pub returns-then-found : goal.returns-then-found
returns-then-found c = let k : SFits w32 c.args.c = search rules in (passed_by_lem (to_z-of_z k) c.loop-more.invariant.0, c.loop-more.invariant.4)

pub returns-then-budget-steps : goal.returns-then-budget-steps
returns-then-budget-steps c = let k : SFits w32 c.args.c = search rules in (passed_by_lem (to_z-of_z k) c.loop-more.invariant.0, c.loop-more.invariant.4)

pub returns : goal.returns
returns c = let k : SFits w32 c.args.c = search rules in (passed_by_lem (to_z-of_z k) c.loop-more.invariant.0, c.loop-more.invariant.4)

pub element-e-requires : goal.element-e-requires
element-e-requires c = record { placed = search seek_rules; tag = search seek_rules; element = search seek_rules }

pub is_sum-found-requires : goal.is_sum-found-requires
is_sum-found-requires c = record { number_a = search seek_rules; number_b = search seek_rules }
