use Rattle.notation_step.proofs.Laws.{append_is}
use Rattle.notation_step.proofs.Turn.append.Goals as goal

pub returns-clause-appended : goal.returns-clause-appended
returns-clause-appended c =
    append_is _ _ c.args.self.now.stand c.args.a.0 c.args.value _ _ _ _ _ _ _ _ _ _ _ _ _ _ _ _
    c.tag-tag.ensures c.numeral-numeral.ensures c.too_large.ensures c.if-too_large.false c.word_of.ensures c.zero.ensures c.waits.ensures
    c.put_some-tagged.ensures.put c.put_some-numbered.ensures.put c.put_some-len.ensures.put c.push-top.ensures c.next_place.ensures c.start_of.ensures
