use borrow.Author.Rules.{rules}
use Rattle.search_leaf.proofs.Ends.{frame_rules, leafs_none, leafs_are, tested_place}
use Rattle.search_leaf.proofs.lines.leaf_at.Goals as goal

-- src/lines.rt:90:9
pub returns-then-live-ne-CHOOSES : goal.returns-then-live-ne-CHOOSES
returns-then-live-ne-CHOOSES c = leafs_none _ _ _

-- src/lines.rt:94:9
pub returns-then-top-eq0 : goal.returns-then-top-eq0
returns-then-top-eq0 c = leafs_none _ _ _

-- src/lines.rt:96:9
pub op_at-o-requires : goal.op_at-o-requires
op_at-o-requires c = search frame_rules

-- src/lines.rt:98:9
pub returns-then-o-ne-MULTISET_CONS : goal.returns-then-o-ne-MULTISET_CONS
returns-then-o-ne-MULTISET_CONS c = leafs_none _ _ _

-- src/lines.rt:100:9
pub frame_at-f-requires : goal.frame_at-f-requires
frame_at-f-requires c = search frame_rules

-- src/lines.rt:103:9
pub returns-then-not-many : goal.returns-then-not-many
returns-then-not-many c = leafs_none _ _ _

-- src/lines.rt:105:9
pub tested_at-i-requires : goal.tested_at-i-requires
tested_at-i-requires c = record { line = search frame_rules; ends = search frame_rules }

-- src/lines.rt:107:9
pub returns-then-i-eq0 : goal.returns-then-i-eq0
returns-then-i-eq0 c = leafs_none _ _ _

-- src/lines.rt:109:9
pub is_last-last-requires : goal.is_last-last-requires
is_last-last-requires c = record { line = tested_place _ _ _ c.tested_at-i.ensures c.if-i-eq0.false; ends = search frame_rules }

-- src/lines.rt:111:9
pub returns-then-last : goal.returns-then-last
returns-then-last c h = let a = c.tested_at-i.ensures h in let b = c.is_last-last.ensures c.if-last.true in search (leafs_are, a, b, rules)

-- src/lines.rt:84:1
pub returns : goal.returns
returns c = leafs_none _ _ _
