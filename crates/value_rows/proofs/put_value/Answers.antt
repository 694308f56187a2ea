use borrow.Author.Rules.{sfits_of}
use mir.Facts.{to_z-of_z}
use mir.Syntax.{w32}
use Rattle.std.proofs.Common.{◌∙◌}
use Rattle.value_rows.proofs.Row.{put_collection, put_collection_end, put_collection_room, put_rules}
use Rattle.value_rows.proofs.put_value.Goals as goal

pub put_left-requires : goal.put_left-requires
put_left-requires c = record { placed = search put_rules; held = search put_rules; room = put_collection_room c.args.units.words.now c.args.at c.args.m c.args.from _ c.args.units.target c.requires.held c.number_at-tag.ensures c.if-tag-ne1.false _ _ _ _ c.put_words-elements.ensures.behind c.put_words-elements.ensures.written c.requires.room }

pub returns : goal.returns
returns c =
    let s = c.args.units.words.now in
    let g = c.args.units.target in
    let h = c.requires.held in
    let e = c.number_at-tag.ensures in
    let z = c.if-tag-ne1.false in
    let o = c.put_words-elements.ensures.behind in (
      put_collection_end s c.args.at c.args.m c.args.from _ g h e z _ _ o c.put_left.ensures.0,
      put_collection s c.args.at c.args.m c.args.from _ g h e z _ _ _ _ _ (to_z-of_z {w = w32} (sfits_of c.count_word-n.type_inv) ∙ c.count_word-n.ensures) o
          c.put_words-elements.ensures.written c.put_left.ensures.1,
    )

pub put_whole-requires : goal.put_whole-requires
put_whole-requires c = search put_rules

pub returns-then-tag-ne1 : goal.returns-then-tag-ne1
returns-then-tag-ne1 c = search put_rules

pub put_words-elements-requires : goal.put_words-elements-requires
put_words-elements-requires c = search put_rules
