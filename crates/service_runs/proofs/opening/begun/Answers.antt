-- `service_runs::opening::begun` meets its contract: the words are copied.
use native.Mathlib.Omega.{arith}
use Rattle.services.proofs.Matches.{matcher_few, pattern_few, ready_target, ready_some}
use Rattle.service_runs.proofs.First.{target_few, begun_rules}
use Rattle.service_runs.proofs.opening.begun.Goals as goal

pub open-first-requires : goal.open-first-requires
open-first-requires c = ready_some _ _ _ c.requires

pub invariant_of-units : goal.invariant_of-units
invariant_of-units c = record { target = ready_target _ _ _ c.requires }

pub kept-matchers-requires : goal.kept-matchers-requires
kept-matchers-requires c = (omega arith, matcher_few _ _ _ c.requires)

pub kept-patterns-requires : goal.kept-patterns-requires
kept-patterns-requires c = (omega arith, pattern_few _ _ _ c.requires)

pub kept-targets-requires : goal.kept-targets-requires
kept-targets-requires c = (omega arith, target_few _ _ _ c.requires)

pub returns : goal.returns
returns c = search begun_rules
