use Rattle.search_rounds.proofs.Laws.{list_there, list_top, list_slotted, list_alone, list_named, list_picks, list_framed, remained, own_rules}
use Rattle.search_rounds.proofs.remainder.remain.Goals as goal

pub take_out-b-requires : goal.take_out-b-requires
take_out-b-requires c = let L = c.requires.listed in record { few_variables = L.ruled.fine.few; table_long = list_there L }

pub head_of-y-requires : goal.head_of-y-requires
head_of-y-requires c = list_there c.requires.listed

pub overflow_sub-y : goal.overflow_sub-y
overflow_sub-y c = list_top c.requires.listed c.take_out-b.ensures c.head_of-y.ensures

pub reopen-requires : goal.reopen-requires
reopen-requires c = let L = c.requires.listed in record { slotted = list_slotted L c.take_out-b.ensures c.head_of-y.ensures; alone = list_alone L c.take_out-b.ensures c.head_of-y.ensures; table_long = list_there L }

pub settle-z-requires : goal.settle-z-requires
settle-z-requires c = let g = c.requires.given in
    let L = c.requires.listed in record { placed = g.placed; named = list_named L c.take_out-b.ensures c.head_of-y.ensures c.reopen.new.slots c.reopen.ensures; picks_if = list_picks L c.take_out-b.ensures c.head_of-y.ensures c.reopen.new.slots c.reopen.ensures }

pub keep-requires : goal.keep-requires
keep-requires c = let L = c.requires.listed in record { framed = list_framed L c.take_out-b.ensures c.head_of-y.ensures c.reopen.new.slots c.reopen.ensures c.settle-z.result c.settle-z.new.slots c.settle-z.ensures; few_variables = L.ruled.fine.few; table_long = L.there }

pub returns : goal.returns
returns c = remained c.requires.listed c.take_out-b.ensures c.head_of-y.ensures c.reopen.new.slots c.reopen.ensures c.settle-z.result c.settle-z.new.slots c.settle-z.ensures c.keep.ensures
