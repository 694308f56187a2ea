-- `notation_write::write`, which calls itself, meets its contract. The depth falls at each call.
use Rattle.std.proofs.Common.{◌≡◌, suc, ◌-◌, ◌+◌, ◌∙◌, arith}
use Rattle.notation_print.specs.Pens.{sheet_of}
use Rattle.notation_write.proofs.Laws.{parts_next, parts_next_end, parts_none, written_drawn}
use Rattle.notation_write.proofs.«+write».Goals as goal

pub loop-preserved : goal.loop-preserved
loop-preserved t c =
    let l = c.loop in
    let node = c.node_of-node.result.now in
    let n = c.count-end.result in
    let w = c.write-next.ensures in
    let one : n - l.counter ≡ suc (n - (l.counter + 1)) = omega arith in
    record {
      same_page = w.drawn.0 ∙ c.put_token.ensures.0 ∙ l.invariant.same_page;
      drawn = parts_next c.args.ws.now (c.args.depth - 1) node.others node.between (n - l.counter) l.next l.part l.between (n - (l.counter + 1)) c.write-next.result _ (sheet_of l.pen)
          (sheet_of c.put_token.new.pen) (sheet_of c.write-next.new.pen) one l.invariant.drawn w.end c.put_token.ensures.1 w.drawn.1;
      ends = parts_next_end c.args.ws.now (c.args.depth - 1) node.others node.between (n - l.counter) l.next l.part l.between (n - (l.counter + 1)) c.write-next.result _ one l.invariant.ends w.end;
    }

pub returns-clause-drawn : goal.returns-clause-drawn
returns-clause-drawn t c =
    let l = c.loop in
    let node = c.node_of-node.result.now in
    let n = c.count-end.result in
    let none : n - l.counter ≡ 0 = omega arith in
    let deep : c.args.depth ≡ suc (c.args.depth - 1) = omega (arith, c.if-depth-eq0.false) in
    let parts = parts_none c.args.ws.now (c.args.depth - 1) node.others node.between (n - l.counter) l.next l.part l.between _ (sheet_of l.pen) none l.invariant.drawn in (
      c.put_back.ensures.0 ∙ l.invariant.same_page ∙ c.put_front.ensures.0,
      written_drawn c.args.ws.now c.args.depth (c.args.depth - 1) c.args.at c.args.what n c.head.result c.ahead-next.result c.tag_at.result node deep c.tag_at.ensures c.node_of-node.ensures
          c.count-end.ensures c.head.ensures.value c.ahead-next.ensures (sheet_of c.args.pen.now) (sheet_of c.put_front.new.pen) (sheet_of l.pen) (sheet_of c.put_back.new.pen)
          c.put_front.ensures.1 parts c.put_back.ensures.1,
    )
