use native.Mathlib.Omega.{arith}
use borrow.Author.Rules.{rules}
use Rattle.value_rows.proofs.Room.{two_out, two_in}
use Rattle.value_rows.proofs.Halves.{three_out, three_in, three_last, three_first}
use Rattle.search_leaf.proofs.Words.{entry_three, entry_two, entry_three_end, entry_two_end, entry_three_put, entry_two_put, three_words, two_words}
use Rattle.search_leaf.proofs.told.put_word.Goals as goal

-- src/told.rt:93:9
pub bounds-room-from : goal.bounds-room-from
bounds-room-from c = search (three_in, three_last, three_first, two_in, three_out, two_out, entry_three, entry_two, entry_three_end, entry_two_end, entry_three_put, entry_two_put, rules)

-- src/told.rt:94:9
pub slice_set_of-room : goal.slice_set_of-room
slice_set_of-room c = search (three_in, three_last, three_first, two_in, three_out, two_out, entry_three, entry_two, entry_three_end, entry_two_end, entry_three_put, entry_two_put, rules)

-- src/told.rt:95:9
pub slice_set_of-room-then-origins : goal.slice_set_of-room-then-origins
slice_set_of-room-then-origins c = search (three_in, three_last, three_first, two_in, three_out, two_out, entry_three, entry_two, entry_three_end, entry_two_end, entry_three_put, entry_two_put, rules)

-- src/told.rt:96:9
pub returns-then-origins : goal.returns-then-origins
returns-then-origins c = (entry_three_end _ _ _ c.if-origins.true, entry_three_put _ _ _ _ _ c.if-origins.true (three_words _ _ _ (search rules)))

-- src/told.rt:98:5
pub slice_set_of-room-2 : goal.slice_set_of-room-2
slice_set_of-room-2 c = let h = entry_two _ _ _ _ c.if-origins.false c.requires in omega (arith, h)

-- src/told.rt:99:5
pub bounds-room-from-2 : goal.bounds-room-from-2
bounds-room-from-2 c = search (three_in, three_last, three_first, two_in, three_out, two_out, entry_three, entry_two, entry_three_end, entry_two_end, entry_three_put, entry_two_put, rules)

-- src/told.rt:88:1
pub returns : goal.returns
returns c = (entry_two_end _ _ _ c.if-origins.false, entry_two_put _ _ _ _ _ c.if-origins.false (two_words _ _ _ (search rules)))
