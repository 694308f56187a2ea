-- `test_fit::walk` meets its contract: the loop's invariant is that what is left to read decides.
use mathlib.Core.Path.{refl, sym, ◌∙◌}
use Rattle.std.proofs.lemmas.Result.{err_from_is_err_and}
use Rattle.test_forms.proofs.table.Laws.{told_row, told_none}
use Rattle.test_fit.proofs.Steps.{ret_long, starts, ret_end, going_skip, ret_spare, ret_misfit, bound_most, under_most, lengths, follow_room, going_follow}
use Rattle.test_fit.proofs.walk.Goals as goal

pub returns-then-ps-gt-PATTERN_WORDS : goal.returns-then-ps-gt-PATTERN_WORDS
returns-then-ps-gt-PATTERN_WORDS c = ret_long _ _ _ c.if-ps-gt-PATTERN_WORDS.true

pub loop-at-init : goal.loop-at-init
loop-at-init c = starts _ _ _ _ c.new-w.ensures

pub loop-at-preserved-then-w-gt0 : goal.loop-at-preserved-then-w-gt0
loop-at-preserved-then-w-gt0 c = going_skip _ _ _ _ _ c.loop-at.invariant c.loop-at-test.true c.if-w-gt0.true

pub returns-in_err-i : goal.returns-in_err-i
returns-in_err-i c =
    let p = err_from_is_err_and c.from_residual.result c.from_residual.ensures.1 in
    let q = told_none _ _ _ c.ok_or.ensures.value _ c.in_err-i.was in
    rw (p.1, p.2, q.1)
    (ret_spare _ _ _ _ _ c.loop-at.invariant c.if-ps-gt-PATTERN_WORDS.false c.loop-at-test.true c.if-w-gt0.false (sym c.pop.ensures.top ∙ q.0))

pub shared_ref_as_front-here_in : goal.shared_ref_as_front-here_in
shared_ref_as_front-here_in c = bound_most _ _ _ _ _ c.loop-at.invariant c.if-ps-gt-PATTERN_WORDS.false c.loop-at-test.true _ c.pop.ensures.rest

pub here_in-requires : goal.here_in-requires
here_in-requires c = record {
  within = c.loop-at-test.true;
  few = under_most _ _ _ _ _ c.loop-at.invariant c.if-ps-gt-PATTERN_WORDS.false c.loop-at-test.true _ c.pop.ensures.rest;
}

pub returns-in_err-asks : goal.returns-in_err-asks
returns-in_err-asks c =
    let p = err_from_is_err_and c.from_residual-in_err-asks.result c.from_residual-in_err-asks.ensures.1 in
    let q = told_none _ _ _ c.ok_or-in-loop-at.ensures.value _ c.in_err-asks.was in
    let t = told_row _ _ _ c.ok_or.ensures.value _ c.in_ok-i.was _ refl in
    rw (p.1, p.2, q.1)
    (ret_misfit _ _ _ _ _ c.loop-at.invariant c.if-ps-gt-PATTERN_WORDS.false c.loop-at-test.true c.if-w-gt0.false _ (sym c.pop.ensures.top ∙ t)
    _ c.pop.ensures.rest _ c.here_in.ensures q.0)

pub follow-requires-clause-room : goal.follow-requires-clause-room
follow-requires-clause-room c =
    let t = told_row _ _ _ c.ok_or.ensures.value _ c.in_ok-i.was _ refl in
    let a = told_row _ _ _ c.ok_or-in-loop-at.ensures.value _ c.in_ok-asks.was _ refl in
    follow_room _ _ _ _ _ c.loop-at.invariant c.if-ps-gt-PATTERN_WORDS.false c.loop-at-test.true c.if-w-gt0.false _ (sym c.pop.ensures.top ∙ t)
    _ c.pop.ensures.rest _ c.here_in.ensures _ a

pub follow-requires-clause-lengths : goal.follow-requires-clause-lengths
follow-requires-clause-lengths c = lengths _ _ _ _ _ c.loop-at.invariant c.if-ps-gt-PATTERN_WORDS.false c.loop-at-test.true _ c.pop.ensures.rest

pub loop-at-preserved : goal.loop-at-preserved
loop-at-preserved c =
    let t = told_row _ _ _ c.ok_or.ensures.value _ c.in_ok-i.was _ refl in
    let a = told_row _ _ _ c.ok_or-in-loop-at.ensures.value _ c.in_ok-asks.was _ refl in
    going_follow _ _ _ _ _ c.loop-at.invariant c.if-ps-gt-PATTERN_WORDS.false c.loop-at-test.true c.if-w-gt0.false _ (sym c.pop.ensures.top ∙ t)
    _ c.pop.ensures.rest _ c.here_in.ensures _ a _ c.follow.ensures

pub returns : goal.returns
returns c = ret_end _ _ _ _ _ c.loop-at.invariant c.if-ps-gt-PATTERN_WORDS.false c.loop-at-test.false
