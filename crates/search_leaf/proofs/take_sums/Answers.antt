-- `search_leaf::take_sums` meets its contract: at the loop's head the choices so far are taken up.
use Prim.Native.Nat.{◌+◌, ◌-◌, ◌≤◌, ◌<◌}
use mathlib.Core.Path.{◌≡◌, refl}
use native.Mathlib.Omega.{arith}
use borrow.Author.Rules.{rules}
use lib.ListN.{length}
use Rattle.value_places.specs.Places.{element_at}
use Rattle.value_places.proofs.Filling.{find_in, find_fits, find_is, find_half}
use Rattle.value_places.proofs.Held.{next_in}
use Rattle.search_leaf.proofs.Words.{row_size}
use Rattle.search_leaf.proofs.Laws.{going_start, going_told, going_less, lowest_word, going_fails, going_sums, going_at, going_out}
use Rattle.search_leaf.proofs.take_sums.Goals as goal
use Rattle.search_leaf.proofs.take_sums.Goals.{then-found+else-room-words, else-found}

-- Where the lowest choice stands, and that its number is there.
found_at : (c : goal.After-place_at-e) → c.place_at-e.result ≡ element_at c.args.units.words.now c.args.part.at c.lowest-k.result
found_at c = let i = c.loop-more.invariant in find_is _ _ _ _ _ _ c.args.units.target c.requires.placed i.held.tag (next_in _ _ _ _ c.args.units.target i.held c.lowest-k.ensures i.some) c.base_at-base.ensures refl _ c.place_at-e.ensures

in_words : (c : goal.After-place_at-e) → c.place_at-e.result + 1 < length c.args.units.words.now
in_words c = lowest_word _ _ _ _ _ _ _ _ _ _ _ _ _ c.loop-more.invariant c.loop-more-test.true c.args.units.target _ _ c.lowest-k.ensures (found_at c)

-- src/lib.rt:85:9
pub returns-then-budget-lt4 : goal.returns-then-budget-lt4
returns-then-budget-lt4 c = going_told _ _ _ _ _ _ _ _ _ _ _ _ _ (going_start _ _ _ _ _ _ _ _ c.requires.parts c.requires.counts c.requires.leaf.2 _ refl)

-- src/lib.rt:88:9
pub row_words-size-requires : goal.row_words-size-requires
row_words-size-requires c = c.requires.leaf.1

-- src/lib.rt:89:9
pub base_at-base-requires : goal.base_at-base-requires
base_at-base-requires c = find_half _ _ c.args.units.target c.requires.parts.held.tag

-- src/lib.rt:91:18
pub bounds-units-g : goal.bounds-units-g
bounds-units-g c = c.requires.parts.number

-- src/lib.rt:96:9
pub rest-more-requires : goal.rest-more-requires
rest-more-requires c = c.requires.parts.choice

-- src/lib.rt:97:5
pub loop-more-init : goal.loop-more-init
loop-more-init c = going_start _ _ _ _ _ _ _ _ c.requires.parts c.requires.counts c.requires.leaf.2 _ c.rest-more.ensures

-- src/lib.rt:99:13
pub shape_of-room-then-end-steps : goal.shape_of-room-then-end-steps
shape_of-room-then-end-steps c = c.loop-more.invariant.long

-- src/lib.rt:99:13
pub returns-then-end-steps : goal.returns-then-end-steps
returns-then-end-steps c = going_out _ _ _ _ _ _ _ _ _ _ _ _ _ _ _ c.loop-more.invariant c.tally_of.ensures refl

-- src/lib.rt:102:34
pub overflow_add-base : goal.overflow_add-base
overflow_add-base c = let i = c.loop-more.invariant in find_fits _ _ _ _ _ _ c.args.units.target c.requires.placed i.held.tag (next_in _ _ _ _ c.args.units.target i.held c.lowest-k.ensures i.some) c.base_at-base.ensures refl

-- src/lib.rt:102:13
pub place_at-e-requires : goal.place_at-e-requires
place_at-e-requires c = let i = c.loop-more.invariant in find_in _ _ _ _ _ _ c.args.units.target c.requires.placed i.held.tag (next_in _ _ _ _ c.args.units.target i.held c.lowest-k.ensures i.some) c.base_at-base.ensures refl

-- src/lib.rt:103:51
pub overflow_add-e : goal.overflow_add-e
overflow_add-e c = let l = in_words c in search rules

-- src/lib.rt:103:49
pub offset_bounds-units-e : goal.offset_bounds-units-e
offset_bounds-units-e c = let l = in_words c in search rules

-- src/lib.rt:103:49
pub bounds-units-e : goal.bounds-units-e
bounds-units-e c = in_words c

-- src/lib.rt:105:16
pub overflow_sub-room : goal.overflow_sub-room
overflow_sub-room c = c.loop-more.invariant.counts.words

-- src/lib.rt:106:17
pub shape_of-room-then-room-words : goal.shape_of-room-then-room-words
shape_of-room-then-room-words c = c.loop-more.invariant.long

-- src/lib.rt:106:17
pub returns-then-room-words : goal.returns-then-room-words
returns-then-room-words c = going_out _ _ _ _ _ _ _ _ _ _ _ _ _ _ _ c.loop-more.invariant c.tally_of-then-room-words.ensures refl

-- src/lib.rt:108:13
pub put_row-words-requires : goal.put_row-words-requires
put_row-words-requires c = let i = c.loop-more.invariant in
    let f = c.if-room-words.false in
    let l : c.args.shape.vars ≤ length c.args.told.now = omega (arith, c.requires.leaf.1, c.requires.leaf.2) in
    (c.requires.leaf.1, c.requires.leaf.2, omega (arith, i.counts.words, f, c.row_words-size.ensures, row_size c.args.shape.origins c.args.told.now c.args.shape.vars l))

-- src/lib.rt:109:13
pub overflow_add-rows : goal.overflow_add-rows
overflow_add-rows c = let i = c.loop-more.invariant in let k = c.if-end-steps.false in record { fits = omega (arith, i.counts.steps, i.counts.rows, k) }

-- src/lib.rt:110:13
pub overflow_add-steps : goal.overflow_add-steps
overflow_add-steps c = let k = c.if-end-steps.false in let l = c.if-budget-lt4.false in record { fits = omega (arith, k, l) }

-- src/lib.rt:112:13
pub overflow_add-steps-else-found : goal.overflow_add-steps-else-found
overflow_add-steps-else-found c = let k = c.if-end-steps.false in let l = c.if-budget-lt4.false in record { fits = omega (arith, k, l) }

-- src/lib.rt:115:9
pub rest-more-requires-in-loop-more : goal.rest-more-requires-in-loop-more
rest-more-requires-in-loop-more c = c.loop-more-test.true

-- src/lib.rt:97:5
pub loop-more-smaller : goal.loop-more-smaller
loop-more-smaller c = going_less _ _ _ _ _ _ _ _ _ _ _ _ _ c.loop-more.invariant c.loop-more-test.true c.args.units.target

-- src/lib.rt:97:5
pub loop-more-preserved : goal.loop-more-preserved
loop-more-preserved c = let i = c.loop-more.invariant in
    let h = c.loop-more-test.true in
    let few = c.if-end-steps.false in
    let enough = c.if-budget-lt4.false in
    let b : 4 ≤ c.args.budget - c.loop-more.steps = omega (arith, few, enough) in
    let e : c.place_at-e.result ≡ element_at c.args.units.words.now c.args.part.at c.lowest-k.result = find_is _ _ _ _ _ _ c.args.units.target c.requires.placed i.held.tag (next_in _ _ _ _ c.args.units.target i.held c.lowest-k.ensures i.some) c.base_at-base.ensures refl _ c.place_at-e.ensures in
    elim c.if-found.branch [
      | then-found+else-room-words w ↦ going_at _ _ _ _ _ _ _ _ _ _ _ _ _ _ _ _ _ _ _ _ w.steps-is w.rows-is w.words-is w.room-is
          (going_sums _ _ _ _ _ _ _ _ _ _ _ _ _ i h c.args.units.target _ _ c.lowest-k.ensures e _ (search rules) _ (search rules) _ (search rules) _ c.is_total-found.ensures c.requires.leaf.0 b _ c.rest-more-in-loop-more.ensures w.if-found.true
          _ c.row_words-size.ensures c.requires.leaf.1 w.if-room-words.false _ _ w.put_row-words.ensures.0 w.put_row-words.ensures.1)
      | else-found w ↦ going_at _ _ _ _ _ _ _ _ _ _ _ _ _ _ _ _ _ _ _ _ w.steps-is w.rows-is w.words-is w.room-is
          (going_fails _ _ _ _ _ _ _ _ _ _ _ _ _ i h c.args.units.target _ _ c.lowest-k.ensures e _ (search rules) _ (search rules) _ (search rules) _ c.is_total-found.ensures c.requires.leaf.0 b _ c.rest-more-in-loop-more.ensures w.if-found.false)
    ]

-- src/lib.rt:71:1
pub shape_of-room : goal.shape_of-room
shape_of-room c = c.loop-more.invariant.long

-- src/lib.rt:71:1
pub returns : goal.returns
returns c = going_out _ _ _ _ _ _ _ _ _ _ _ _ _ _ _ c.loop-more.invariant c.tally_of-2.ensures refl
