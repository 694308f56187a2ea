-- `service_runs::going::carry_on` meets its contract: the rule is compiled again, and the lines are those that the run was left with.
use borrow.Author.Rules.{rules}
use Rattle.value_firsts.proofs.Freshly.{fresh_zero}
use Rattle.services.proofs.Matches.{ready_target, ready_fine, matcher_few, pattern_few}
use Rattle.service_runs.proofs.Steady.{lines_close, slots_numbered, carry_picked}
use Rattle.service_runs.proofs.going.carry_on.Goals as goal

pub invariant_of-matcher : goal.invariant_of-matcher
invariant_of-matcher c = record { brief = matcher_few _ _ _ c.requires.admitted.ready }

pub invariant_of-pattern : goal.invariant_of-pattern
invariant_of-pattern c = record { short = pattern_few _ _ _ c.requires.admitted.ready }

pub try_on-requires : goal.try_on-requires
try_on-requires c = record {
  target = ready_target _ _ _ c.requires.admitted.ready;
  fine = ready_fine _ _ _ _ _ _ _ _ c.requires.admitted.ready c.no_lines-lines.ensures c.compile-vars.ensures.value c.compile-vars.ensures.lines;
  numbered = slots_numbered _ _ _ _ _ _ c.requires.admitted.ready c.no_lines-lines.ensures c.compile-vars.ensures.value c.compile-vars.ensures.lines _ (search rules);
  closes = lines_close _ _ _ _ _ _ c.requires.admitted.ready c.no_lines-lines.ensures c.compile-vars.ensures.value c.compile-vars.ensures.lines;
  stands = c.requires.stands;
  fresh = fresh_zero _ _ _ _;
}

pub returns : goal.returns
returns c = carry_picked _ _ _ _ _ _ c.requires.admitted.ready c.no_lines-lines.ensures c.compile-vars.ensures.value c.compile-vars.ensures.lines _ _ _ c.tells_origins.ensures c.takes_firsts.ensures
    _ _ _ _ _ _ _ _ _ c.budget_of.ensures c.try_on.ensures.tries c.try_on.ensures.still
