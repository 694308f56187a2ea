-- `search_leaf::told::put_row` meets its contract: what is left of the row is still to be written.
use Prim.Native.Nat.{◌+◌, ◌≤◌}
use mathlib.Core.Path.{refl, ap, ◌∙◌}
use native.Mathlib.Omega.{arith}
use borrow.Author.Rules.{rules}
use mathlib.Core.List.{List}
use lib.ListN.{length, get_or}
use lib.IntN.{ℤ, pos}
use mir.Syntax.{w32}
use mir.Val.{SFits}
use mir.Facts.{to_z-of_z}
use Rattle.value_places.specs.Held.{put}
use Rattle.value_rows.proofs.Room.{length_put}
use Rattle.search_leaf.proofs.Words.{row_begins, row_room, row_turn, row_turn_size, row_out, row_out_size}
use Rattle.search_leaf.proofs.told.put_row.Goals as goal

-- src/told.rt:110:5
pub loop-v-init : goal.loop-v-init
loop-v-init c = (refl, ap (λ (l : List ℤ). c.args.from + length l) (row_begins _ _ _), ap (put _ _) (row_begins _ _ _))

-- src/told.rt:111:20
pub offset_bounds-told-v : goal.offset_bounds-told-v
offset_bounds-told-v c = let l = c.requires.0 in let h = c.loop-v-test.true in record { fits = omega arith }

-- src/told.rt:111:20
pub bounds-told-v : goal.bounds-told-v
bounds-told-v c = let l = c.requires.0 in let h = c.loop-v-test.true in omega arith

-- src/told.rt:112:9
pub put_word-e-requires : goal.put_word-e-requires
put_word-e-requires c = let i = c.loop-v.invariant in
    let l : c.args.shape.vars ≤ length c.args.told.now = omega (arith, c.requires.0, c.requires.1) in
    let k : SFits w32 (get_or c.args.told.now c.loop-v.v (pos 0)) = search rules in
    row_room _ _ _ l _ c.loop-v-test.true _ (to_z-of_z k) _ _ _ i.1 (omega (arith, c.requires.2, i.0))

-- src/told.rt:110:5
pub loop-v-preserved : goal.loop-v-preserved
loop-v-preserved c = let i = c.loop-v.invariant in
    let h = c.loop-v-test.true in
    let l : c.args.shape.vars ≤ length c.args.told.now = omega (arith, c.requires.0, c.requires.1) in
    let k : SFits w32 (get_or c.args.told.now c.loop-v.v (pos 0)) = search rules in
    (ap length c.put_word-e.ensures.1 ∙ length_put _ _ _ ∙ i.0, row_turn_size _ _ _ l _ h _ (to_z-of_z k) _ _ _ i.1 c.put_word-e.ensures.0, row_turn _ _ _ l _ h _ (to_z-of_z k) _ _ _ _ _ i.2 c.put_word-e.ensures.0 c.put_word-e.ensures.1)

-- src/told.rt:104:1
pub shape_of-room : goal.shape_of-room
shape_of-room c = c.loop-v.invariant.0

-- src/told.rt:104:1
pub returns : goal.returns
returns c = let i = c.loop-v.invariant in let l : c.args.shape.vars ≤ length c.args.told.now = omega (arith, c.requires.0, c.requires.1) in (row_out_size _ _ _ l _ c.loop-v-test.false _ _ i.1, row_out _ _ _ l _ c.loop-v-test.false _ _ _ i.2)
