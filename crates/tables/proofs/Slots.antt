-- What the leaves on the slots are to show. Assumes nothing.
use borrow.Author.Rules.{rules}
use Rattle.tables.specs.SlotLaws.{at_is, whole_is, left_is, low_is, back_is, held_is, frame_is, left_put, back_put, held_put, side_put, frame_put}

pub ruleset slot_rules = (at_is, whole_is, left_is, low_is, back_is, held_is, frame_is, left_put, back_put, held_put, side_put, frame_put, rules)
