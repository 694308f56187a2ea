-- `service_rounds::carry_out` meets its contract: the run by rounds of the compiled rule tells what match by rounds is.
use borrow.Author.Rules.{rules}
use Rattle.search.specs.Run.{matched}
use Rattle.services.specs.Matches.{told, reported}
use Rattle.services.proofs.Matches.{matcher_few, pattern_few}
use Rattle.service_rounds.proofs.Matches.{ready_ruled, picked_rounds}
use Rattle.service_rounds.proofs.carry_out.Goals as goal

pub invariant_of-matcher : goal.invariant_of-matcher
invariant_of-matcher c = record { brief = matcher_few _ _ _ c.requires.ready }

pub invariant_of-pattern : goal.invariant_of-pattern
invariant_of-pattern c = record { short = pattern_few _ _ _ c.requires.ready }

pub search_rounds-requires : goal.search_rounds-requires
search_rounds-requires c = record {
  ruled = ready_ruled _ _ _ _ _ _ _ _ c.requires.ready c.no_lines-lines.ensures c.compile-vars.ensures.value c.compile-vars.ensures.lines;
  budget_fits = search rules;
}

pub returns : goal.returns
unfolding told reported matched
returns c = picked_rounds _ _ _ _ _ _ _ _ c.requires.ready c.no_lines-lines.ensures c.compile-vars.ensures.value c.compile-vars.ensures.lines _ _ c.takes_firsts.ensures c.tells_origins.ensures
    c.requires.rule_is_in _ _ _ _ _ c.from.ensures c.search_rounds.ensures
