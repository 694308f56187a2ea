-- `services::matching::carry_out` meets its contract: the search of the compiled rule tells what match is.
use Rattle.search.specs.Run.{matched}
use Rattle.services.specs.Matches.{told, reported}
use Rattle.services.proofs.Matches.{matcher_few, pattern_few, ready_target, ready_some, ready_fine, ready_picked}
use Rattle.services.proofs.matching.carry_out.Goals as goal

pub invariant_of-matcher : goal.invariant_of-matcher
invariant_of-matcher c = record { brief = matcher_few _ _ _ c.requires.ready }

pub invariant_of-pattern : goal.invariant_of-pattern
invariant_of-pattern c = record { short = pattern_few _ _ _ c.requires.ready }

pub invariant_of-units : goal.invariant_of-units
invariant_of-units c = record { target = ready_target _ _ _ c.requires.ready }

pub search-requires : goal.search-requires
search-requires c = record {
  some_words = ready_some _ _ _ c.requires.ready;
  fine = ready_fine _ _ _ _ _ _ _ _ c.requires.ready c.no_lines-lines.ensures c.compile-vars.ensures.value c.compile-vars.ensures.lines;
}

pub returns : goal.returns
unfolding told reported matched
returns c = ready_picked _ _ _ _ _ _ _ _ c.requires.ready c.no_lines-lines.ensures c.compile-vars.ensures.value c.compile-vars.ensures.lines _ _ c.takes_firsts.ensures c.tells_origins.ensures
    c.requires.rule_is_in _ _ _ _ c.from.ensures c.search.ensures
