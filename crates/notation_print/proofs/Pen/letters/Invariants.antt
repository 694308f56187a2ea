use Rattle.std.proofs.Common.{◌≡◌, drop}
use Rattle.notation_print.specs.Pages.{letters}
use Rattle.notation_print.specs.Pens.{page_of, Stays}
use Rattle.notation_print.proofs.Pen.letters.Given as goal

abbrev pub invariant-loop-c : goal.invariant-loop-c
invariant-loop-c l = record {
  same_page : Stays l.fn.self l.self;
  same_last : l.self.last ≡ l.fn.self.last;
  written : letters (page_of l.self) (drop l.c-index l.cs) ≡ letters (page_of l.fn.self) l.cs;
}
