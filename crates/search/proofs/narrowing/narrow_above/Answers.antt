use Rattle.search.proofs.Narrows.{lower_le, replaced_none, replaced_put, above_left, above_held, above_within, above_fits}
use Rattle.search.proofs.Freshened.{fresh_known}
use Rattle.search.proofs.narrowing.narrow_above.Goals as goal

pub returns-then-mt-i : goal.returns-then-mt-i
returns-then-mt-i c = replaced_none _ _ _ _ _ _ _ _ c.mat_at-i.ensures c.if-mt-i.true

pub firsts_above-c-requires : goal.firsts_above-c-requires
firsts_above-c-requires c = record { placed = c.requires.given.placed; held = above_held _ _ _ _ _ _ _ _ c.requires.above _ c.mat_at-i.ensures c.if-mt-i.false _ c.frame_at-f.ensures; lower = c.requires.above.lower; fresh = fresh_known _ _ _ _ _ _ c.requires.fresh c.fresh_at.ensures }

pub overflow_sub-span : goal.overflow_sub-span
overflow_sub-span c = lower_le c.requires.above.lower

pub overflow_sub-f : goal.overflow_sub-f
overflow_sub-f c = above_within _ _ _ _ _ _ _ _ c.requires.above _ c.mat_at-i.ensures c.if-mt-i.false _
    c.frame_at-f.ensures

pub overflow_add-f : goal.overflow_add-f
overflow_add-f c = above_fits _ _ _ _ _ _ _ _ c.requires.above _ c.mat_at-i.ensures c.if-mt-i.false _
    c.frame_at-f.ensures _ c.firsts_above-c.ensures

pub returns : goal.returns
returns c = let a = c.requires.above in
    replaced_put _ _ _ _ _ _ _ _ c.mat_at-i.ensures c.if-mt-i.false _ c.frame_at-f.ensures _ c.firsts_above-c.ensures _ c.put_left.ensures
    (above_left _ _ _ _ _ _ _ _ a _ c.mat_at-i.ensures c.if-mt-i.false)
