use mathlib.Core.Path.{refl, ◌∙◌}
use mathlib.Core.Logic.{inl, inr}
use mir.Facts.{to_z-of_z}
use Rattle.search_leaf.specs.Leaf.{tallied}
use Rattle.search_leaf.proofs.Words.{tells_by}
use Rattle.search_leaf.proofs.Laws.{told_at_lem, by_not, take_part, take_counts, take_var, take_bound, took_is, none_is}
use borrow.Author.Rules.{rules}
use mir.Syntax.{w32}
use Rattle.search_leaf.proofs.take.Goals as goal
use Rattle.search_leaf.proofs.take.Goals.{then-o-eq-SUM, else-o-eq-SUM}

pub op_at-o-requires : goal.op_at-o-requires
op_at-o-requires c = c.requires.takes.place

pub arg_at-v-requires : goal.arg_at-v-requires
arg_at-v-requires c = c.requires.takes.place

pub told_of-told-requires : goal.told_of-told-requires
told_of-told-requires c = let h = c.requires.takes in record { bound = take_bound _ _ _ _ _ _ _ _ _ _ _ h; variable = (take_var _ _ _ _ _ _ _ _ _ _ _ h _ c.arg_at-v.ensures, refl) }

pub returns-then-not-told : goal.returns-then-not-told
returns-then-not-told c = inl (none_is _ _ _ _ _ _ _ _ _ _ _ _ c.arg_at-v.ensures c.told_of-told.ensures.value refl refl)

pub con_at-requires : goal.con_at-requires
con_at-requires c = record { line = c.requires.takes.place; constant = c.requires.takes.constant }

pub take_sums-t-requires : goal.take_sums-t-requires
take_sums-t-requires c = let h = c.requires.takes in
    let y = c.told_of-told.ensures.value in record { placed = c.requires.placed; parts = take_part _ _ _ _ _ _ _ _ c.frame_at-f.ensures _ _ _ _ c.op_at-o.ensures c.arg_at-v.ensures (to_z-of_z {w = w32} (search rules) ∙ c.con_at.ensures) y _ _ _ _ h; counts = take_counts _ _ _ _ _ _ _ _ c.frame_at-f.ensures _ _ _ _ c.op_at-o.ensures c.arg_at-v.ensures c.con_at.ensures y _ _ _ _ h; leaf = (c.if-o-eq-SUM.true, h.few, (c.told_of-told.ensures.tells (by_not _ c.if-not-told.false)).long) }

pub take_all-r-requires : goal.take_all-r-requires
take_all-r-requires c = let h = c.requires.takes in
    let y = c.told_of-told.ensures.value in record { placed = c.requires.placed; parts = take_part _ _ _ _ _ _ _ _ c.frame_at-f.ensures _ _ _ _ c.op_at-o.ensures c.arg_at-v.ensures (to_z-of_z {w = w32} (search rules) ∙ c.con_at.ensures) y _ _ _ _ h; counts = take_counts _ _ _ _ _ _ _ _ c.frame_at-f.ensures _ _ _ _ c.op_at-o.ensures c.arg_at-v.ensures c.con_at.ensures y _ _ _ _ h; leaf = (c.if-o-eq-SUM.false, h.few, (c.told_of-told.ensures.tells (by_not _ c.if-not-told.false)).long) }

pub put_left-requires : goal.put_left-requires
put_left-requires c = record { slotted = c.requires.slotted; alone = c.requires.alone }

pub shape_of-room : goal.shape_of-room
shape_of-room c = c.if-o-eq-SUM.auto.room

pub returns : goal.returns
unfolding tallied
returns c = let t = c.told_of-told.ensures.tells (by_not _ c.if-not-told.false) in
    inr (took_is _ _ _ _ _ _ _ _ c.frame_at-f.ensures _ _ _ _ c.op_at-o.ensures c.arg_at-v.ensures (to_z-of_z {w = w32} (search rules) ∙ c.con_at.ensures) c.told_of-told.ensures.value _ _ _ _ _ _ _ _ _ _
    (tells_by _ _ _ _ _ _ _ c.but_of.ensures t)
    (elim c.if-o-eq-SUM.branch [
      | then-o-eq-SUM w ↦ told_at_lem _ _ _ _ _ _ _ _ _ _ _ _ _ _ w.t-is w.last-is w.room-is w.take_sums-t.ensures
      | else-o-eq-SUM w ↦ told_at_lem _ _ _ _ _ _ _ _ _ _ _ _ _ _ w.t-is w.last-is w.room-is w.take_all-r.ensures
    ])
    c.put_left.ensures)
