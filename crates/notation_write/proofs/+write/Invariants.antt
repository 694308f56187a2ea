use Rattle.std.proofs.Common.{◌≡◌, ◌-◌}
use Rattle.notation_print.specs.Pens.{sheet_of, Stays}
use Rattle.notation_write.specs.Written.{draws, parts, written}
use Rattle.notation_write.proofs.«+write».Given as goal

abbrev pub decreases-write : goal.decreases-write
decreases-write l = l.depth

abbrev pub invariant-loop : goal.invariant-loop
invariant-loop l = record {
  same_page : Stays l.initial.pen l.pen;
  drawn : draws (sheet_of l.pen) (parts (written l.ws (l.depth - 1)) l.node.others l.node.between (l.end - l.counter) l.next l.part l.between).inks
      ≡ draws (sheet_of l.initial.pen) (parts (written l.ws (l.depth - 1)) l.node.others l.node.between l.end l.initial.next l.initial.part l.initial.between).inks;
  ends : (parts (written l.ws (l.depth - 1)) l.node.others l.node.between (l.end - l.counter) l.next l.part l.between).end
      ≡ (parts (written l.ws (l.depth - 1)) l.node.others l.node.between l.end l.initial.next l.initial.part l.initial.between).end;
}
