-- `search::taking::take_end` meets its contract: at the loop's head what is left of the row is still to be written.
use mathlib.Core.Path.{refl, sym, ap, ◌∙◌}
use native.Mathlib.Omega.{arith}
use borrow.Author.Tests.{ltb-true, ltb-false}
use lib.ListN.{length}
use Rattle.value_rows.proofs.Row.{row_held, row_16, row_mul, row_room, row_turn, row_turn_size, row_out, row_out_size, row_start_size, row_start_room}
use Rattle.value_rows.proofs.Room.{length_put}
use Rattle.search.proofs.Laws.{fits_short, end_full, end_wrote}
use Rattle.search.proofs.taking.take_end.Goals as goal

pub overflow_sub-room : goal.overflow_sub-room
overflow_sub-room c = c.requires.rows.words

pub is_short-requires : goal.is_short-requires
is_short-requires c = record { given = c.requires.given; bound = c.requires.rows.bound; some_words = c.requires.some_words }

pub filled-requires : goal.filled-requires
filled-requires c = c.requires.rows.steps

pub returns-then-is_short : goal.returns-then-is_short
returns-then-is_short c = end_full _ _ _ _ _ _ _ _ (ltb-true _ _ (sym c.is_short.ensures ∙ c.if-is_short.true)) c.filled.ensures refl

pub loop-v-init : goal.loop-v-init
loop-v-init c = let w = c.requires.rows.words in
    (refl, fits_short _ _ _ w _ c.is_short.ensures c.if-is_short.false, row_start_size _ _ _ _ _, row_start_room _ _ _ _ _ _)

pub offset_bounds-b-v : goal.offset_bounds-b-v
offset_bounds-b-v c = row_mul _ _ _ _ c.requires.rows.bound c.loop-v-test.true

pub bounds-b-v : goal.bounds-b-v
bounds-b-v c = row_16 _ _ _ _ c.requires.rows.bound c.loop-v-test.true

pub put_entry-e-requires : goal.put_entry-e-requires
put_entry-e-requires c = let i = c.loop-v.invariant in
    let h = c.loop-v-test.true in record { placed = c.requires.given.placed; held = row_held _ _ _ _ c.requires.rows.bound h; room = row_room _ _ _ _ c.requires.rows.bound h _ _ _ _ i.2 i.1 }

pub loop-v-preserved : goal.loop-v-preserved
loop-v-preserved c = let k = c.requires.rows.bound in
    let i = c.loop-v.invariant in
    let h = c.loop-v-test.true in
    let l = ap length c.put_entry-e.ensures.1 ∙ length_put _ _ _ in (
      l ∙ i.0,
      omega (arith, l, i.1),
      row_turn_size _ _ _ _ k h _ _ _ _ i.2 c.put_entry-e.ensures.0,
      row_turn _ _ _ _ k h _ _ _ _ _ _ i.3 c.put_entry-e.ensures.0 c.put_entry-e.ensures.1,
    )

pub wrote-requires : goal.wrote-requires
wrote-requires c = let k = c.requires.rows in record { steps_fit = k.steps; rows_fit = k.rows }

pub shape_of-room : goal.shape_of-room
shape_of-room c = c.loop-v.invariant.0

pub returns : goal.returns
returns c = let k = c.requires.rows.bound in
    let i = c.loop-v.invariant in
    end_wrote _ _ _ _ _ _ _ _ _ (ltb-false _ _ (sym c.is_short.ensures ∙ c.if-is_short.false)) c.wrote.ensures
    (row_out_size _ _ _ _ _ _ _ k i.2 c.loop-v-test.false) (row_out _ _ _ _ _ _ _ _ k i.3 c.loop-v-test.false)
