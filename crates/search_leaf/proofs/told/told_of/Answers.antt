-- `search_leaf::told::told_of` meets its contract: the words of the variables so far are told.
use mathlib.Core.Path.{refl, sym, ◌∙◌}
use native.Mathlib.Omega.{arith}
use borrow.Author.Rules.{rules}
use mir.Facts.{to_z-of_z}
use Rattle.value_places.proofs.Elements.{second, tag_small}
use Rattle.value_rows.proofs.Row.{held_1024}
use Rattle.search_leaf.proofs.Words.{tells_none, tells_all, tells_but, tells_next}
use Rattle.search_leaf.proofs.Ends.{no_answer}
use mir.Syntax.{w32}
use Rattle.search_leaf.proofs.told.told_of.Goals as goal
use Rattle.search_leaf.proofs.told.told_of.Goals.{then-v-but+else-tag-ne0, else-v-but}

-- src/told.rt:62:17
pub offset_bounds-b-var : goal.offset_bounds-b-var
offset_bounds-b-var c = let l = c.requires.variable.0 in record { fits = omega arith }

-- src/told.rt:62:17
pub bounds-b-var : goal.bounds-b-var
bounds-b-var c = c.requires.variable.0

-- src/told.rt:64:5
pub loop-v-init : goal.loop-v-init
loop-v-init c = tells_none _ _ _ _ _ c.requires.variable.1

-- src/told.rt:66:21
pub offset_bounds-b-v : goal.offset_bounds-b-v
offset_bounds-b-v c = let h = c.loop-v-test.true in let l = c.requires.bound.most in record { fits = omega arith }

-- src/told.rt:66:21
pub bounds-b-v : goal.bounds-b-v
bounds-b-v c = let h = c.loop-v-test.true in let l = c.requires.bound.most in omega arith

-- src/told.rt:68:17
pub number_at-tag-requires : goal.number_at-tag-requires
number_at-tag-requires c = tag_small _ _ c.args.units.target (c.requires.bound.are _ c.loop-v-test.true).tag

-- src/told.rt:70:17
pub returns-then-tag-ne0 : goal.returns-then-tag-ne0
returns-then-tag-ne0 c = record { value = refl; tells = no_answer }

-- src/told.rt:75:24
pub word_of-requires : goal.word_of-requires
word_of-requires c = let w = c.requires.bound.are _ c.loop-v-test.true in (held_1024 _ _ _ c.args.units.target w, second _ _ c.args.units.target w.tag)

-- src/told.rt:75:13
pub offset_bounds-words-v : goal.offset_bounds-words-v
offset_bounds-words-v c = let h = c.loop-v-test.true in let l = c.requires.bound.most in record { fits = omega arith }

-- src/told.rt:75:13
pub bounds-words-v : goal.bounds-words-v
bounds-words-v c = let h = c.loop-v-test.true in let l = c.requires.bound.most in omega arith

-- src/told.rt:64:5
pub loop-v-preserved : goal.loop-v-preserved
loop-v-preserved c = let h = c.loop-v-test.true in
    let l = c.requires.bound.most in
    let i = c.loop-v.invariant in elim c.if-v-but.branch [
      | then-v-but+else-tag-ne0 w ↦ tells_next _ _ _ _ _ _ i _ (omega arith) (sym w.number_at-tag.ensures ∙ w.if-tag-ne0.false) (to_z-of_z {w = w32} (search rules) ∙ w.word_of.ensures) _ w.words-is
      | else-v-but w ↦ tells_but _ _ _ _ _ _ i w.if-v-but.false _ w.words-is
    ]

-- src/told.rt:51:1
pub returns : goal.returns
returns c = record { value = refl; tells = λ e. tells_all _ _ _ _ _ _ c.loop-v.invariant _ c.loop-v.auto.v-end c.loop-v-test.false }
