-- `search_leaf::take_all` meets its contract: at the loop's head the choices so far are taken up.
use Prim.Native.Nat.{◌≤◌}
use mathlib.Core.Path.{◌≡◌, refl, sym, ◌∙◌}
use native.Mathlib.Omega.{arith}
use borrow.Author.Rules.{rules}
use lib.ListN.{length}
use mir.Facts.{to_z-of_z}
use Rattle.value_places.specs.Places.{element_at}
use Rattle.value_places.proofs.Elements.{tag_small}
use Rattle.value_places.proofs.Filling.{find_in, find_fits, find_is, find_half}
use Rattle.value_places.proofs.Held.{next_in}
use Rattle.search_leaf.specs.Leaf.{bound_to}
use Rattle.search_leaf.proofs.Words.{row_size, set_long, same_long}
use Rattle.search_leaf.proofs.Laws.{going_start, going_less, lowest_word, lowest_tag, going_any, going_binds, going_out, no_test}
use mir.Syntax.{w32}
use Rattle.search_leaf.proofs.take_all.Goals as goal
use Rattle.search_leaf.proofs.take_all.Goals.{then-part-eq-BIND+else-tag-ne0, else-part-eq-BIND}

-- Where the lowest choice stands.
found_at : (c : goal.After-number_at-arg-1) → c.place_at-e.result ≡ element_at c.args.units.words.now c.args.part.at c.lowest-k.result
found_at c = let i = c.loop-next.invariant in find_is _ _ _ _ _ _ c.args.units.target c.requires.placed i.held.tag (next_in _ _ _ _ c.args.units.target i.held c.lowest-k.ensures i.some) c.base_at-base.ensures refl _ c.place_at-e.ensures

-- src/lib.rt:149:9
pub row_words-size-requires : goal.row_words-size-requires
row_words-size-requires c = c.requires.leaf.1

-- src/lib.rt:150:9
pub base_at-base-requires : goal.base_at-base-requires
base_at-base-requires c = find_half _ _ c.args.units.target c.requires.parts.held.tag

-- src/lib.rt:156:9
pub rest-next-requires : goal.rest-next-requires
rest-next-requires c = c.requires.parts.choice

-- src/lib.rt:157:5
pub loop-next-init : goal.loop-next-init
loop-next-init c = going_start _ _ _ _ _ _ _ _ c.requires.parts c.requires.counts c.requires.leaf.2 _ c.rest-next.ensures

-- src/lib.rt:158:12
pub overflow_sub-budget : goal.overflow_sub-budget
overflow_sub-budget c = c.loop-next.invariant.counts.steps

-- src/lib.rt:159:13
pub shape_of-room-then-budget-steps-lt5 : goal.shape_of-room-then-budget-steps-lt5
shape_of-room-then-budget-steps-lt5 c = c.loop-next.invariant.long

-- src/lib.rt:159:13
pub returns-then-budget-steps-lt5 : goal.returns-then-budget-steps-lt5
returns-then-budget-steps-lt5 c = going_out _ _ _ _ _ _ _ _ _ _ _ _ _ _ _ c.loop-next.invariant c.taken_of.ensures.0 c.taken_of.ensures.1

-- src/lib.rt:161:12
pub overflow_sub-room : goal.overflow_sub-room
overflow_sub-room c = c.loop-next.invariant.counts.words

-- src/lib.rt:162:13
pub shape_of-room-then-room-words : goal.shape_of-room-then-room-words
shape_of-room-then-room-words c = c.loop-next.invariant.long

-- src/lib.rt:162:13
pub returns-then-room-words : goal.returns-then-room-words
returns-then-room-words c = going_out _ _ _ _ _ _ _ _ _ _ _ _ _ _ _ c.loop-next.invariant c.taken_of-then-room-words.ensures.0 c.taken_of-then-room-words.ensures.1

-- src/lib.rt:166:38
pub overflow_add-base : goal.overflow_add-base
overflow_add-base c = let i = c.loop-next.invariant in find_fits _ _ _ _ _ _ c.args.units.target c.requires.placed i.held.tag (next_in _ _ _ _ c.args.units.target i.held c.lowest-k.ensures i.some) c.base_at-base.ensures refl

-- src/lib.rt:166:17
pub place_at-e-requires : goal.place_at-e-requires
place_at-e-requires c = let i = c.loop-next.invariant in find_in _ _ _ _ _ _ c.args.units.target c.requires.placed i.held.tag (next_in _ _ _ _ c.args.units.target i.held c.lowest-k.ensures i.some) c.base_at-base.ensures refl

-- src/lib.rt:167:17
pub number_at-tag-requires : goal.number_at-tag-requires
number_at-tag-requires c = tag_small _ _ c.args.units.target (lowest_tag _ _ _ _ _ _ _ _ _ _ _ _ _ c.loop-next.invariant c.loop-next-test.true c.args.units.target _ _ c.lowest-k.ensures (found_at c))

-- src/lib.rt:169:17
pub shape_of-room-then-tag-ne0 : goal.shape_of-room-then-tag-ne0
shape_of-room-then-tag-ne0 c = c.loop-next.invariant.long

-- src/lib.rt:169:17
pub returns-then-tag-ne0 : goal.returns-then-tag-ne0
returns-then-tag-ne0 c = going_out _ _ _ _ _ _ _ _ _ _ _ _ _ _ _ c.loop-next.invariant c.taken_of-then-tag-ne0.ensures.0 c.taken_of-then-tag-ne0.ensures.1

-- src/lib.rt:172:23
pub word_of-requires : goal.word_of-requires
word_of-requires c = let w = lowest_word _ _ _ _ _ _ _ _ _ _ _ _ _ c.loop-next.invariant c.loop-next-test.true c.args.units.target _ _ c.lowest-k.ensures (found_at c.before.before.before) in (omega (arith, w, c.args.units.target.short), w)

-- src/lib.rt:172:13
pub offset_bounds-told-v : goal.offset_bounds-told-v
offset_bounds-told-v c = let l = c.requires.parts.var in record { fits = omega arith }

-- src/lib.rt:172:13
pub bounds-told-v : goal.bounds-told-v
bounds-told-v c = c.requires.parts.var

-- src/lib.rt:175:9
pub put_row-words-requires : goal.put_row-words-requires
put_row-words-requires c = let i = c.loop-next.invariant in
    let few = c.requires.leaf.1 in
    let f = c.if-room-words.false in
    let long : length c.if-part-eq-BIND.told ≡ 16 = elim c.if-part-eq-BIND.branch [
      | then-part-eq-BIND+else-tag-ne0 w ↦ set_long c.loop-next.told c.if-part-eq-BIND.told c.args.part.var _ w.told-is i.words
      | else-part-eq-BIND w ↦ same_long c.loop-next.told c.if-part-eq-BIND.told w.told-is i.words
    ] in
    let l : c.args.shape.vars ≤ length c.if-part-eq-BIND.told = omega (arith, few, long) in
    (few, long, omega (arith, i.counts.words, f, c.row_words-size.ensures, row_size c.args.shape.origins c.if-part-eq-BIND.told c.args.shape.vars l))

-- src/lib.rt:176:9
pub overflow_add-rows : goal.overflow_add-rows
overflow_add-rows c = let i = c.loop-next.invariant in let k = c.if-budget-steps-lt5.false in record { fits = omega (arith, i.counts.steps, i.counts.rows, k) }

-- src/lib.rt:177:9
pub overflow_add-steps : goal.overflow_add-steps
overflow_add-steps c = let i = c.loop-next.invariant in let k = c.if-budget-steps-lt5.false in record { fits = omega (arith, i.counts.steps, k) }

-- src/lib.rt:179:9
pub rest-next-requires-in-loop-next : goal.rest-next-requires-in-loop-next
rest-next-requires-in-loop-next c = c.loop-next-test.true

-- src/lib.rt:157:5
pub loop-next-smaller : goal.loop-next-smaller
loop-next-smaller c = going_less _ _ _ _ _ _ _ _ _ _ _ _ _ c.loop-next.invariant c.loop-next-test.true c.args.units.target

-- src/lib.rt:157:5
pub loop-next-preserved : goal.loop-next-preserved
unfolding bound_to
loop-next-preserved c = let i = c.loop-next.invariant in
    let h = c.loop-next-test.true in
    let b = c.if-budget-steps-lt5.false in
    elim c.if-part-eq-BIND.branch [
      | then-part-eq-BIND+else-tag-ne0 w ↦
          let e : w.place_at-e.result ≡ element_at c.args.units.words.now c.args.part.at w.lowest-k.result = find_is _ _ _ _ _ _ c.args.units.target c.requires.placed i.held.tag (next_in _ _ _ _ c.args.units.target i.held w.lowest-k.ensures i.some) c.base_at-base.ensures refl _ w.place_at-e.ensures in
          going_binds _ _ _ _ _ _ _ _ _ _ _ _ _ i h c.args.units.target _ _ w.lowest-k.ensures e
          w.if-part-eq-BIND.true (sym w.number_at-tag.ensures ∙ w.if-tag-ne0.false) _ _ _ (to_z-of_z {w = w32} (search rules) ∙ w.word_of.ensures) w.told-is w.last-is b _ c.rest-next-in-loop-next.ensures _ c.row_words-size.ensures c.requires.leaf.1 c.if-room-words.false
          _ _ c.put_row-words.ensures.0 c.put_row-words.ensures.1
      | else-part-eq-BIND w ↦ going_any _ _ _ _ _ _ _ _ _ _ _ _ _ i h c.args.units.target (no_test _ _ _ c.requires.parts c.requires.leaf.0 w.if-part-eq-BIND.false) _ _ w.told-is w.last-is b _ c.rest-next-in-loop-next.ensures _ c.row_words-size.ensures
          c.requires.leaf.1 c.if-room-words.false _ _ c.put_row-words.ensures.0 c.put_row-words.ensures.1
    ]

-- src/lib.rt:136:1
pub shape_of-room : goal.shape_of-room
shape_of-room c = c.loop-next.invariant.long

-- src/lib.rt:136:1
pub returns : goal.returns
returns c = going_out _ _ _ _ _ _ _ _ _ _ _ _ _ _ _ c.loop-next.invariant c.taken_of-2.ensures.0 c.taken_of-2.ensures.1
