use Rattle.std.proofs.Common.{◌∙◌, arith}
use Rattle.notation_print.specs.Pens.{page_of}
use Rattle.notation_print.proofs.Laws.{written_next, written_all}
use Rattle.notation_print.proofs.Pen.letters.Goals as goal

pub loop-c-preserved : goal.loop-c-preserved
loop-c-preserved c =
    let w = c.letter.ensures in
    let i = c.loop-c.invariant in
    record {
      same_page = w.0 ∙ i.same_page;
      same_last = w.1 ∙ i.same_last;
      written = written_next (page_of c.loop-c.self) (page_of c.letter.new.self) _ c.args.cs.now c.loop-c.c-index i.written (omega arith) w.2;
    }

pub returns : goal.returns
returns c =
    let i = c.loop-c.invariant in
    (i.same_page, i.same_last, written_all (page_of c.loop-c.self) _ c.args.cs.now c.loop-c.c-index i.written (omega arith))
