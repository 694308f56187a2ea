use borrow.Author.Rules.{sfits_of}
use mir.Facts.{to_z-of_z}
use mir.Syntax.{w32}
use Rattle.value_rows.proofs.Row.{integer_end, integer_words, put_whole_rules}
use Rattle.value_rows.proofs.put_whole.Goals as goal

pub returns-then-tag-eq0 : goal.returns-then-tag-eq0
returns-then-tag-eq0 c =
    let s = c.args.units.words.now in
    let g = c.args.units.target in
    let t = c.requires.tag in
    let e = c.number_at-tag.ensures in
    let z = c.if-tag-eq0.true in (
      integer_end s c.args.at c.args.from _ g t e z _ c.put_words.ensures.behind,
      integer_words s c.args.at c.args.from _ g t e z _ _ _ (to_z-of_z {w = w32} (sfits_of c.x-1.given)) c.put_words.ensures.written,
    )

pub put_words-requires : goal.put_words-requires
put_words-requires c = search put_whole_rules

pub returns : goal.returns
returns c = search put_whole_rules
