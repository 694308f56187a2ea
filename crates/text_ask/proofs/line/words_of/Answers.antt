-- The pieces between the spaces come one by one.
use Rattle.std.proofs.Common.{sym, ◌∙◌, refl, rules, arith}
use borrow.Author.Tests.{tests, eqb-true, eqb-false}
use Rattle.std.proofs.lemmas.Iterator.Consumers.{YieldsList-at, YieldsList-turn, YieldsList-end}
use Rattle.std.proofs.lemmas.List.{length_push}
use Rattle.text_ask.proofs.Pieces.{pieces}
use Rattle.text_ask.proofs.line.Laws.{empty_line, none_read, not_a_word, too_many, one_more, line_read}
use Rattle.text_ask.proofs.line.words_of.Goals as goal

pub returns-then-is_empty : goal.returns-then-is_empty
returns-then-is_empty c = empty_line _ _ (eqb-true _ 0 (sym c.if-is_empty.ensures))

pub loop-piece-init : goal.loop-piece-init
loop-piece-init c = record { counted = refl; reading = record { all = none_read _; few = omega arith } }

pub returns-in_err-number : goal.returns-in_err-number
returns-in_err-number c =
    let all = YieldsList-at c.into_iter-piece-iterator.ensures.into_iter_gives (pieces c.split-piece-items.ensures.runs 32 _ c.split-piece-items.ensures.rest c.split-piece-items.ensures.done c.split-piece-items.ensures.closure (λ x b q k. search (rules, tests))) in
    let turn = rw (← c.loop-piece.invariant.counted) at (YieldsList-turn all c.loop-piece.yielded _ c.loop-piece.yielded_by _ _ _ c.in-Some.is c.next.ensures.steps) in
    rw c.from_residual.ensures (not_a_word _ _ _ (omega arith) (eqb-false _ 0 (sym c.if-is_empty.ensures)) c.loop-piece.invariant.reading _ turn c.in_err-number.ensures)

pub returns-then-count-eq-LINE_WORDS : goal.returns-then-count-eq-LINE_WORDS
returns-then-count-eq-LINE_WORDS c =
    let all = YieldsList-at c.into_iter-piece-iterator.ensures.into_iter_gives (pieces c.split-piece-items.ensures.runs 32 _ c.split-piece-items.ensures.rest c.split-piece-items.ensures.done c.split-piece-items.ensures.closure (λ x b q k. search (rules, tests))) in
    let turn = rw (← c.loop-piece.invariant.counted) at (YieldsList-turn all c.loop-piece.yielded _ c.loop-piece.yielded_by _ _ _ c.in-Some.is c.next.ensures.steps) in
    too_many _ _ _ (omega arith) (eqb-false _ 0 (sym c.if-is_empty.ensures)) c.loop-piece.invariant.reading _ turn _ c.in_ok-number.ensures c.if-count-eq-LINE_WORDS.true

pub loop-piece-preserved : goal.loop-piece-preserved
loop-piece-preserved c =
    let all = YieldsList-at c.into_iter-piece-iterator.ensures.into_iter_gives (pieces c.split-piece-items.ensures.runs 32 _ c.split-piece-items.ensures.rest c.split-piece-items.ensures.done c.split-piece-items.ensures.closure (λ x b q k. search (rules, tests))) in
    let turn = rw (← c.loop-piece.invariant.counted) at (YieldsList-turn all c.loop-piece.yielded _ c.loop-piece.yielded_by _ _ _ c.in-Some.is c.next.ensures.steps) in
    record {
      counted = omega (arith, length_push c.loop-piece.yielded c.in-Some.piece);
      reading = one_more _ _ _ (omega arith) (eqb-false _ 0 (sym c.if-is_empty.ensures)) c.loop-piece.invariant.reading _ turn _ c.in_ok-number.ensures c.if-count-eq-LINE_WORDS.false;
    }

pub returns : goal.returns
returns c =
    let all = YieldsList-at c.into_iter-piece-iterator.ensures.into_iter_gives (pieces c.split-piece-items.ensures.runs 32 _ c.split-piece-items.ensures.rest c.split-piece-items.ensures.done c.split-piece-items.ensures.closure (λ x b q k. search (rules, tests))) in
    let end = YieldsList-end all c.loop-piece.yielded _ c.loop-piece.yielded_by _ _ c.in-None.is c.next.ensures.steps in
    line_read _ _ _ (omega arith) (eqb-false _ 0 (sym c.if-is_empty.ensures)) c.loop-piece.invariant.reading (c.loop-piece.invariant.counted ∙ end.1)
