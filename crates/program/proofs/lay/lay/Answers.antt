use mathlib.Core.Path.{refl, sym, subst}
use Rattle.tables.specs.Line.{columns_of}
use Rattle.program_rules.specs.Lines.{get_d_same}
use Rattle.program_rules.specs.Stack.{Stack}
use Rattle.program.specs.Pass.{cursor}
use Rattle.program.proofs.Turns.{Passing, start, lines_low, end_low, end_returns}
use Rattle.program.proofs.lay.lay.Goals as goal

pub loop-c-init : goal.loop-c-init
loop-c-init c = let t = columns_of c.args.lines.now in
    subst (λ (w : Stack). Passing c.args.m.words.now c.args.p.words.now t w.under w.slots w.behind (cursor 0 0 w.depth 0) t) (sym c.none-parts.ensures)
    (start _ _ _ _ _ _ refl refl refl (λ j. get_d_same 257 j 0) (λ j. get_d_same 257 j 0))

pub lay_next-c-requires-clause-low : goal.lay_next-c-requires-clause-low
lay_next-c-requires-clause-low c = lines_low c.loop-c.invariant c.args.p.short

pub put-requires : goal.put-requires
put-requires c = end_low c.loop-c.invariant c.args.p.short c.loop-c-test.false

pub returns : goal.returns
returns c = let r = end_returns c.loop-c.invariant c.args.p.short c.loop-c-test.false _ c.put.ensures in record { last = r.0; lines = r.1 }
