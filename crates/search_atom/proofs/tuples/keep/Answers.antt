use Rattle.search_atom.proofs.Laws.{third_slot, parts_three, keep_rules}
use Rattle.search_atom.proofs.tuples.keep.Goals as goal

pub put_part-requires-3 : goal.put_part-requires-3
put_part-requires-3 c = record { placed = search keep_rules; part = (search keep_rules, search keep_rules); slotted = third_slot _ _ _ _ c.requires.parts _ _ c.put_part.ensures c.if-n-lt3.false _ _ c.put_part-2.ensures; alone = search keep_rules }

pub returns : goal.returns
returns c = let n = c.requires.parts_wide in
    parts_three _ _ _ _ _ _ n.1 c.put_part.ensures _ c.if-n-lt2.false c.put_part-2.ensures _ c.if-n-lt3.false n.2 c.put_part-3.ensures

pub put_part-requires-2 : goal.put_part-requires-2
put_part-requires-2 c = record { placed = search keep_rules; part = (search keep_rules, search keep_rules); slotted = search keep_rules; alone = search keep_rules }
