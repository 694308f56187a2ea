-- The pieces between the newlines come one by one.
use Rattle.std.proofs.Common.{sym, ap, inl, inr, rules, arith, length}
use borrow.Author.Tests.{tests}
use Rattle.text_ask.specs.Meaning.{of_lines, these}
use Rattle.text_ask.proofs.Pieces.{pieces, taken, ended, none_left, some_left}
use Rattle.text_ask.proofs.question.Laws.{too_long, too_few, four_lines, a_fifth}
use Rattle.text_ask.proofs.question.lines_of.Goals as goal
use Rattle.text_ask.proofs.question.lines_of.Goals.{else-is_empty-via-then-is_empty+else-is_none, else-is_empty-via-else-is_empty}

pub returns-then-input-gt-INPUT_BYTES : goal.returns-then-input-gt-INPUT_BYTES
unfolding of_lines
returns-then-input-gt-INPUT_BYTES c = too_long _ c.if-input-gt-INPUT_BYTES.true

pub returns-in_err-next-2 : goal.returns-in_err-next-2
unfolding of_lines
returns-in_err-next-2 c =
    let all = pieces c.split-pieces.ensures.runs 10 _ c.split-pieces.ensures.rest c.split-pieces.ensures.done c.split-pieces.ensures.closure (λ x b q k. search (rules, tests)) in
    let one = taken all _ _ _ c.in_ok-next.was c.next.ensures.steps in
    let none = ended one.on _ _ c.in_err-next-2.was c.next-2.ensures.steps in
    rw c.from_residual-in_err-next-2.ensures (too_few _ (omega arith) (omega (arith, ap length one.is, ap length none)))

pub returns-in_err-next-3 : goal.returns-in_err-next-3
unfolding of_lines
returns-in_err-next-3 c =
    let all = pieces c.split-pieces.ensures.runs 10 _ c.split-pieces.ensures.rest c.split-pieces.ensures.done c.split-pieces.ensures.closure (λ x b q k. search (rules, tests)) in
    let one = taken all _ _ _ c.in_ok-next.was c.next.ensures.steps in
    let two = taken one.on _ _ _ c.in_ok-next-2.was c.next-2.ensures.steps in
    let none = ended two.on _ _ c.in_err-next-3.was c.next-3.ensures.steps in
    rw c.from_residual-in_err-next-3.ensures (too_few _ (omega arith) (omega (arith, ap length one.is, ap length two.is, ap length none)))

pub returns-in_err-next-4 : goal.returns-in_err-next-4
unfolding of_lines
returns-in_err-next-4 c =
    let all = pieces c.split-pieces.ensures.runs 10 _ c.split-pieces.ensures.rest c.split-pieces.ensures.done c.split-pieces.ensures.closure (λ x b q k. search (rules, tests)) in
    let one = taken all _ _ _ c.in_ok-next.was c.next.ensures.steps in
    let two = taken one.on _ _ _ c.in_ok-next-2.was c.next-2.ensures.steps in
    let three = taken two.on _ _ _ c.in_ok-next-3.was c.next-3.ensures.steps in
    let none = ended three.on _ _ c.in_err-next-4.was c.next-4.ensures.steps in
    rw c.from_residual-in_err-next-4.ensures (too_few _ (omega arith) (omega (arith, ap length one.is, ap length two.is, ap length three.is, ap length none)))

pub returns-in_err-next-5 : goal.returns-in_err-next-5
unfolding of_lines
returns-in_err-next-5 c =
    let all = pieces c.split-pieces.ensures.runs 10 _ c.split-pieces.ensures.rest c.split-pieces.ensures.done c.split-pieces.ensures.closure (λ x b q k. search (rules, tests)) in
    let one = taken all _ _ _ c.in_ok-next.was c.next.ensures.steps in
    let two = taken one.on _ _ _ c.in_ok-next-2.was c.next-2.ensures.steps in
    let three = taken two.on _ _ _ c.in_ok-next-3.was c.next-3.ensures.steps in
    let four = taken three.on _ _ _ c.in_ok-next-4.was c.next-4.ensures.steps in
    let none = ended four.on _ _ c.in_err-next-5.was c.next-5.ensures.steps in
    rw c.from_residual-in_err-next-5.ensures (too_few _ (omega arith) (omega (arith, ap length one.is, ap length two.is, ap length three.is, ap length four.is, ap length none)))

pub returns-then-is_none : goal.returns-then-is_none
unfolding of_lines these
returns-then-is_none c =
    let all = pieces c.split-pieces.ensures.runs 10 _ c.split-pieces.ensures.rest c.split-pieces.ensures.done c.split-pieces.ensures.closure (λ x b q k. search (rules, tests)) in
    let one = taken all _ _ _ c.in_ok-next.was c.next.ensures.steps in
    let two = taken one.on _ _ _ c.in_ok-next-2.was c.next-2.ensures.steps in
    let three = taken two.on _ _ _ c.in_ok-next-3.was c.next-3.ensures.steps in
    let four = taken three.on _ _ _ c.in_ok-next-4.was c.next-4.ensures.steps in
    let five = taken four.on _ _ _ c.in_ok-next-5.was c.next-5.ensures.steps in
    four_lines _ (omega arith) one.is two.is three.is four.is five.is (sym c.if-is_empty.ensures) (none_left five.on _ _ c.if-is_none.ensures c.next-then-is_empty.ensures.steps)

pub returns-else-is_empty : goal.returns-else-is_empty
unfolding of_lines
returns-else-is_empty c =
    let all = pieces c.split-pieces.ensures.runs 10 _ c.split-pieces.ensures.rest c.split-pieces.ensures.done c.split-pieces.ensures.closure (λ x b q k. search (rules, tests)) in
    let one = taken all _ _ _ c.in_ok-next.was c.next.ensures.steps in
    let two = taken one.on _ _ _ c.in_ok-next-2.was c.next-2.ensures.steps in
    let three = taken two.on _ _ _ c.in_ok-next-3.was c.next-3.ensures.steps in
    let four = taken three.on _ _ _ c.in_ok-next-4.was c.next-4.ensures.steps in
    let five = taken four.on _ _ _ c.in_ok-next-5.was c.next-5.ensures.steps in
    a_fifth _ (omega arith) one.is two.is three.is four.is five.is (elim c.else-is_empty.branch [ else-is_empty-via-then-is_empty+else-is_none w ↦ inr (some_left five.on _ _ w.if-is_none.ensures w.next-then-is_empty.ensures.steps) | else-is_empty-via-else-is_empty w ↦ inl (sym w.if-is_empty.ensures) ])
