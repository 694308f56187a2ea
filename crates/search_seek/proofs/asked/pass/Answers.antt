use Rattle.search_seek.proofs.Lines.{wanted_one, wanted_two, seeks_pairs, over_pairs}
use Rattle.search_seek.proofs.asked.pass.Goals as goal

pub pass_over-requires : goal.pass_over-requires
pass_over-requires c = let h = c.requires.seeking in record { placed = c.requires.placed; seeks = h.seeks; slotted = h.slotted; alone = h.alone }

pub returns-then-a : goal.returns-then-a
returns-then-a c = record { integers = λ e. c.pass_over.ensures; pairs = λ n. absurd (n c.if-a.true) }

pub sum_at-first-requires : goal.sum_at-first-requires
sum_at-first-requires c = let h = c.requires.seeking in record { line = h.first.0; constant = h.first.1 }

pub pass_pairs-requires : goal.pass_pairs-requires
pass_pairs-requires c = let h = c.requires.seeking in
    let w = wanted_one _ _ _ _ _ c.sum_at-first.ensures c.if-a-2.true in record { placed = c.requires.placed; seeks_pairs = seeks_pairs _ _ _ _ _ _ _ _ _ h _ w; slotted = h.slotted; alone = (h.alone, h.parts c.if-a.false) }

pub returns-then-a-2 : goal.returns-then-a-2
returns-then-a-2 c = record { integers = λ e. absurd (c.if-a.false e); pairs = λ n. over_pairs (wanted_one _ _ _ _ _ c.sum_at-first.ensures c.if-a-2.true) c.pass_pairs.ensures }

pub sum_at-second-requires : goal.sum_at-second-requires
sum_at-second-requires c = let h = c.requires.seeking in record { line = h.second.0; constant = h.second.1 }

pub pass_pairs-requires-2 : goal.pass_pairs-requires-2
pass_pairs-requires-2 c = let h = c.requires.seeking in
    let w = wanted_two _ _ _ _ _ c.sum_at-first.ensures _ c.sum_at-second.ensures c.if-a-2.false in record { placed = c.requires.placed; seeks_pairs = seeks_pairs _ _ _ _ _ _ _ _ _ h _ w; slotted = h.slotted; alone = (h.alone, h.parts c.if-a.false) }

pub returns : goal.returns
returns c = record { integers = λ e. absurd (c.if-a.false e); pairs = λ n. over_pairs (wanted_two _ _ _ _ _ c.sum_at-first.ensures _ c.sum_at-second.ensures c.if-a-2.false) c.pass_pairs-2.ensures }
