use native.Mathlib.Omega.{arith}
use Rattle.round_sweep.proofs.Turns.{follow_spent, follow_full, follow_none, follow_framed, follow_framing, follow_some}
use Rattle.round_sweep.proofs.turn.follow.Goals as goal

pub returns-then-t : goal.returns-then-t
returns-then-t c = follow_spent _ c.if-t.true c.stop.ensures

pub returns-then-x-eq-FULL : goal.returns-then-x-eq-FULL
returns-then-x-eq-FULL c = follow_full _ c.if-t.false c.if-x-eq-FULL.true c.stop-then-x-eq-FULL.ensures

pub returns-then-x-eq-ENDED : goal.returns-then-x-eq-ENDED
returns-then-x-eq-ENDED c = follow_none c.if-t.false c.if-x-eq-ENDED.true

pub keep-requires : goal.keep-requires
keep-requires c = record { framed = follow_framed c.if-t.false c.if-x-eq-FULL.false c.if-x-eq-ENDED.false c.requires; few_variables = c.requires.course.ruled.fine.few; table_long = c.requires.mid.place }

pub choices_left-more-requires : goal.choices_left-more-requires
choices_left-more-requires c = follow_framing c.if-t.false c.if-x-eq-FULL.false c.if-x-eq-ENDED.false c.requires

pub overflow_add-result : goal.overflow_add-result
overflow_add-result c = let a = c.requires.mid.early in let b = c.requires.index in omega arith

pub overflow_add-result-2 : goal.overflow_add-result-2
overflow_add-result-2 c = let a = c.requires.mid.few in let b = c.requires.index in let d = c.requires.small in let f = c.choices_left-more.ensures.few in omega arith

pub returns : goal.returns
returns c = follow_some c.if-t.false c.if-x-eq-FULL.false c.if-x-eq-ENDED.false _ _ c.keep.ensures c.choices_left-more.ensures.value c.choices_left-more.ensures.few
