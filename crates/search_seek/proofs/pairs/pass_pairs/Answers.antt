use native.Mathlib.Omega.{arith}
use Rattle.search_seek.proofs.Laws.{frame_held, frame_some}
use Rattle.search_seek.proofs.Passing.{pairs_tag, pairs_count, kept_slotted, over_none, over_some}
use Rattle.search_seek.proofs.pairs.pass_pairs.Goals as goal

pub seek_pairs-r-requires : goal.seek_pairs-r-requires
seek_pairs-r-requires c = let h = c.requires.seeks_pairs in record { placed = c.requires.placed; integers = h.integers; held = frame_held _ _ _ _ c.frame_at-f.ensures h.held; counted = (frame_some c.args.units.words.now _ _ _ c.frame_at-f.ensures h.choice, h.steps) }

pub returns-then-r-eq0 : goal.returns-then-r-eq0
returns-then-r-eq0 c = over_none _ _ _ _ _ _ _ c.frame_at-f.ensures _ _ _ c.seek_pairs-r.ensures.0 c.seek_pairs-r.ensures.1 c.if-r-eq0.true

pub keep-requires : goal.keep-requires
keep-requires c = let h = c.requires.seeks_pairs in
    let p = c.seek_pairs-r.ensures.0 in
    let i = frame_held _ _ _ _ c.frame_at-f.ensures h.held in
    let j = frame_some c.args.units.words.now _ _ _ c.frame_at-f.ensures h.choice in
    let z = c.if-r-eq0.false in record { placed = c.requires.placed; tag = pairs_tag _ _ _ _ _ c.args.units.target i j _ _ _ p z; parts_wide = (pairs_count _ _ _ _ _ c.args.units.target i j _ _ _ p z, omega arith, omega arith); parts = c.requires.alone.1 }

pub put_left-requires : goal.put_left-requires
put_left-requires c = record { slotted = kept_slotted _ _ _ _ _ _ _ c.requires.slotted c.keep.ensures; alone = c.requires.alone.0 }

pub returns : goal.returns
returns c = over_some _ _ _ _ _ _ _ c.frame_at-f.ensures _ _ _ c.seek_pairs-r.ensures.0 c.seek_pairs-r.ensures.1 _ _ c.if-r-eq0.false c.keep.ensures c.put_left.ensures
