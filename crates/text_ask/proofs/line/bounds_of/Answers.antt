-- The pieces between the spaces come one by one: two numbers, and no third.
use Rattle.std.proofs.Common.{sym, rules, arith}
use borrow.Author.Tests.{tests}
use Rattle.text_ask.specs.Meaning.{of_bounds}
use Rattle.text_ask.proofs.Pieces.{pieces, taken, ended, none_left, some_left}
use Rattle.text_ask.proofs.line.Laws.{one_number, third_number, no_budget, no_room, budget_room, most_of}
use Rattle.text_ask.proofs.line.bounds_of.Goals as goal

pub returns-in_err-room : goal.returns-in_err-room
unfolding of_bounds
returns-in_err-room c =
    let all = pieces c.split-pieces.ensures.runs 32 _ c.split-pieces.ensures.rest c.split-pieces.ensures.done c.split-pieces.ensures.closure (λ x b q k. search (rules, tests)) in
    let one = taken all _ _ _ c.in_ok-budget.was c.next.ensures.steps in
    let none = ended one.on _ _ c.in_err-room.was c.next-2.ensures.steps in
    rw c.from_residual-in_err-room.ensures (one_number _ one.is none)

pub returns-then-is_some : goal.returns-then-is_some
unfolding of_bounds
returns-then-is_some c =
    let all = pieces c.split-pieces.ensures.runs 32 _ c.split-pieces.ensures.rest c.split-pieces.ensures.done c.split-pieces.ensures.closure (λ x b q k. search (rules, tests)) in
    let one = taken all _ _ _ c.in_ok-budget.was c.next.ensures.steps in
    let two = taken one.on _ _ _ c.in_ok-room.was c.next-2.ensures.steps in
    third_number _ one.is two.is (some_left two.on _ _ (sym c.if-is_some.ensures) c.next-3.ensures.steps)

pub returns-in_err-up_to : goal.returns-in_err-up_to
unfolding of_bounds
returns-in_err-up_to c =
    let all = pieces c.split-pieces.ensures.runs 32 _ c.split-pieces.ensures.rest c.split-pieces.ensures.done c.split-pieces.ensures.closure (λ x b q k. search (rules, tests)) in
    let one = taken all _ _ _ c.in_ok-budget.was c.next.ensures.steps in
    let two = taken one.on _ _ _ c.in_ok-room.was c.next-2.ensures.steps in
    let none = none_left two.on _ _ (sym c.if-is_some.ensures) c.next-3.ensures.steps in
    rw c.from_residual-in_err-up_to.ensures (no_budget _ one.is two.is none c.in_err-up_to.ensures)

pub overflow_cast-result : goal.overflow_cast-result
overflow_cast-result c = let most = most_of _ _ _ c.in_ok-up_to.ensures in record { fits = omega arith }

pub returns-in_err-up_to-2 : goal.returns-in_err-up_to-2
unfolding of_bounds
returns-in_err-up_to-2 c =
    let all = pieces c.split-pieces.ensures.runs 32 _ c.split-pieces.ensures.rest c.split-pieces.ensures.done c.split-pieces.ensures.closure (λ x b q k. search (rules, tests)) in
    let one = taken all _ _ _ c.in_ok-budget.was c.next.ensures.steps in
    let two = taken one.on _ _ _ c.in_ok-room.was c.next-2.ensures.steps in
    let none = none_left two.on _ _ (sym c.if-is_some.ensures) c.next-3.ensures.steps in
    rw c.from_residual-in_err-up_to-2.ensures (no_room _ one.is two.is none _ c.in_ok-up_to.ensures c.in_err-up_to-2.ensures)

pub invariant_of-result : goal.invariant_of-result
invariant_of-result c = record { room_in_bounds = most_of _ _ _ c.in_ok-up_to-2.ensures }

pub returns : goal.returns
unfolding of_bounds
returns c =
    let all = pieces c.split-pieces.ensures.runs 32 _ c.split-pieces.ensures.rest c.split-pieces.ensures.done c.split-pieces.ensures.closure (λ x b q k. search (rules, tests)) in
    let one = taken all _ _ _ c.in_ok-budget.was c.next.ensures.steps in
    let two = taken one.on _ _ _ c.in_ok-room.was c.next-2.ensures.steps in
    let none = none_left two.on _ _ (sym c.if-is_some.ensures) c.next-3.ensures.steps in
    budget_room _ one.is two.is none _ _ c.in_ok-up_to.ensures c.in_ok-up_to-2.ensures
